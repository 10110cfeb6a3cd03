-- Stacks fit after each thing that a frame does.
use Rattle.std.proofs.Common.{◌≡◌, ◌≢◌, ℕ, true, List, Some, refl, ap, sym, ◌∙◌, arith, inl, inr}
use Rattle.std.proofs.lemmas.Bool.{eq-eqb, ne_eqb}
use Rattle.machine_defs.specs.declared.values.Owner.{Owner}
use Rattle.machine_defs.specs.declared.entry.Entry.{Entry}
use Rattle.machine_defs.specs.declared.entry.Entry.TheVariants as entry
use Rattle.machine_defs.specs.declared.frame.Answer.TheVariants as answer
use Rattle.rl_defs.specs.declared.load.LoadRows.{LoadRows}
use Rattle.machine_defs.specs.State.{State, Object, stack, frames_of}
use Rattle.rl_defs.specs.Rows.{row}
use Rattle.machine_defs.specs.Loans.{object_of, sweep as sweep_state}
use Rattle.machine_defs.specs.Calling.{is_undone}
use Rattle.machine_defs.specs.State.{instance_load}
use Rattle.machine_defs.specs.Seen.{types_of}
use Rattle.machine_defs.specs.ObjectRows.{Does, FrameMakes, Takes, Unhangs}
use Rattle.machine_defs.specs.Steps.{Row as RowOf}
use Rattle.machine_laws.specs.LedgerOf.{ledger_of}
use Rattle.machine_laws.specs.LedgerSound.{Owned, Placed}
use Rattle.machine_laws.specs.Shape.{Laid}
use Rattle.machine_laws.specs.Fitting.{StackFits, Fitting}
use Rattle.machine_laws.proofs.Seats.{IsIn}
use Rattle.machine_laws.proofs.Types.{Unchanged, AnyHow, structs_same, stays_sweep}
use Rattle.machine_laws.proofs.FrameRows.{actor}
use Rattle.machine_laws.proofs.OwnDoing.{IsDone}
use Rattle.machine_laws.proofs.FrameSteps.{loads_same, went_answer, new_load, new_answer, new_unlent, one_unlent, take_load, take_answer, take_unlent, unhang_load, unhang_answer, unhang_seat, types_with}
use Rattle.machine_laws.proofs.Unlent.{hung_unlent}
use Rattle.machine_laws.proofs.Moves.{IsNew}
use Rattle.machine_laws.proofs.LaidRows.{laid_row}
use Rattle.machine_laws.proofs.StaysRows.{stays_swept, new_stays}
use Rattle.machine_laws.proofs.Agreeing.{other_fits}
use Rattle.machine_laws.proofs.DoingFits.{doing_fits}
use Rattle.machine_laws.proofs.Parts.{struct_or_none}
use Rattle.rl_defs.specs.Valid.{Valid, AreValidTables}

module _ (L : LoadRows) (s : State) (e : Entry) (made : State) (plans : Valid L) (tables : AreValidTables L.tables) (laid : Laid L s) (owned : Owned L (ledger_of L s)) (placed : Placed L (ledger_of L s)) (fits : Fitting L s) (r : RowOf L s e made) (owned' : Owned L (ledger_of L (sweep_state made))) where
  abbrev z : State
  z = sweep_state made

  -- where no object is made, what is there is of its struct still
  pub types_kept : (IsNew e → ⊥) → (o : ℕ) → IsIn z o → (types_of L z).struct_of o ≡ (types_of L s).struct_of o
  types_kept old o there = structs_same L AnyHow s z o (stays_swept L s e made laid old r) there

  -- stacks that stay fit on
  pub still_fits : made.stacks ≡ s.stacks → (u : ℕ) → StackFits L z (stack z u)
  still_fits same u =
      let here : stack z u ≡ stack s u = ap (λ st. frames_of (row st u)) same in
      other_fits L s e made laid owned placed r owned' u here (fits.bodies u)

  module _ (t : ℕ) (ready : is_undone (row s.threads t) ≡ true) where
    -- after an action that is answered by `Went`
    pub went_fits : {i : ℕ} {act : _} {change : State → State} (d : Does L s t i act answer.Went change made) → IsDone act answer.Went → (IsNew e → ⊥) → ((m : State) → instance_load (change m) ≡ instance_load m) → ((m : State) → (change m).stacks ≡ m.stacks) → (u : ℕ) → StackFits L z (stack z u)
    went_fits {change = change} d done old loads stacks =
        let load' = loads_same L s made t plans tables laid owned fits ready change d loads in
        doing_fits L s e made plans tables laid owned placed fits r owned' t ready d done load' stacks (went_answer L s made t plans tables laid owned fits ready d done load') (λ o some. absurd (omega (arith, some))) (λ at regs is o there. types_kept old o there)

    pub take_fits : (i o : ℕ) (slot : List ℕ) (p : Takes L s t i slot o made) → (IsNew e → ⊥) → (u : ℕ) → StackFits L z (stack z u)
    take_fits i o slot p old =
        doing_fits L s e made plans tables laid owned placed fits r owned' t ready p.does tt (take_load L s made t plans tables laid owned fits ready i o slot p) (λ m. refl) (take_answer L s made t plans tables laid owned fits ready i o slot p)
        (one_unlent (actor laid ready p.does).lent o (take_unlent L s made t plans tables laid owned fits ready i o slot p)) (λ at regs is q there. types_kept old q there)

    pub unhang_fits : (o k v : ℕ) (h : Unhangs L s t o k v made) → (IsNew e → ⊥) → (u : ℕ) → StackFits L z (stack z u)
    unhang_fits o k v h old =
        doing_fits L s e made plans tables laid owned placed fits r owned' t ready h.does tt (unhang_load L s made t plans tables laid owned fits ready o k v h) (λ m. refl) (unhang_answer L s made t plans tables laid owned fits ready o k v h)
        (one_unlent (actor laid ready h.does).lent v (hung_unlent L s laid owned t (actor laid ready h.does) (Rattle.machine_laws.proofs.FrameRows.doing laid ready h.does).on_top v o k (unhang_seat L s made t plans tables laid owned fits ready o k v h))) (λ at regs is q there. types_kept old q there)

-- after a `new` of a frame
module _ (L : LoadRows) (s : State) (t : ℕ) (w : Owner) (o ty : ℕ) (values : List ℕ) (made : State) (plans : Valid L) (tables : AreValidTables L.tables) (laid : Laid L s) (owned : Owned L (ledger_of L s)) (placed : Placed L (ledger_of L s)) (fits : Fitting L s) (r : RowOf L s (entry.New t w o ty values) made)
    (owned' : Owned L (ledger_of L (sweep_state made))) (ready : is_undone (row s.threads t) ≡ true) where
  -- the new object is of its struct
  new_types : (q : ℕ) → IsIn (sweep_state made) q → (types_of L (sweep_state made)).struct_of q ≡ (types_with L s o ty).struct_of q
  new_types q there =
      let swept = stays_sweep Unchanged (λ x. refl) L made (laid_row L s (entry.New t w o ty values) made laid r) q there.0 there.1 in
      let in_made : object_of made q ≡ Some there.0 = swept.here ∙ ap (λ x. Some x) swept.alike in
      let behind : (types_of L (sweep_state made)).struct_of q ≡ there.0.ty = ap (struct_or_none L) there.1 in
      behind ∙ elim (new_stays L s t w o ty values made r q there.0 in_made) [
        | inl old ↦
            let lt = (Rattle.machine_laws.proofs.Objects.found_below 0 s.next_object q s.objects there.0 laid.objects old).1 in
            let apart : q ≢ o = λ e. omega (arith, lt, e, r.number) in
            rw (ne_eqb q o apart) (sym (ap (struct_or_none L) old))
        | inr new ↦ let is : q ≡ o = new.0 ∙ sym r.number in rw (eq-eqb q o is) (ap (λ (x : Object). x.ty) new.1)
      ]

  pub new_fits : (m : FrameMakes L s t w o ty values made) → (u : ℕ) → StackFits L (sweep_state made) (stack (sweep_state made) u)
  new_fits m =
      doing_fits L s (entry.New t w o ty values) made plans tables laid owned placed fits r owned' t ready m.does tt (new_load L s made t plans tables laid owned fits ready w o ty values r.number m) (λ n. refl)
      (new_answer L s made t plans tables laid owned fits ready w o ty values r.number m)
      (one_unlent (actor laid ready m.does).lent o (new_unlent L s made t plans tables laid owned fits ready w o ty values r.number m))
      (λ at regs is q there. new_types q there)
