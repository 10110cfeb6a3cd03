-- Frames that a step leaves agree on what they have: the state after a step, and the frames that stand in it as before.
use Rattle.std.proofs.Common.{◌≡◌, ℕ, ◌+◌, ◌<◌, ◌≤◌, true, List, [], ◌∷◌, ◌++◌, length, Some, refl, ap, sym, subst, ◌∙◌, arith, inl, inr, append_assoc, ◌≢◌}
use Rattle.std.proofs.lemmas.Bool.{cases_eq}
use Rattle.machine_defs.specs.declared.entry.Entry.{Entry}
use Rattle.machine_defs.specs.declared.entry.Entry.TheVariants as entry
use Rattle.rl_defs.specs.declared.load.LoadRows.{LoadRows}
use Rattle.rl_defs.specs.Domains.{load_of_target}
use Rattle.machine_defs.specs.State.{State, StackFrame, is_live, stack}
use Rattle.rl_defs.specs.Rows.{row}
use Rattle.machine_defs.specs.Loans.{object_of, sweep as sweep_state}
use Rattle.machine_defs.specs.Arguments.{lent_of}
use Rattle.machine_defs.specs.State.{instance_load}
use Rattle.machine_defs.specs.Seen.{types_of}
use Rattle.machine_defs.specs.Steps.{Row as RowOf}
use Rattle.machine_defs.specs.Frames.{with_body}
use Rattle.machine_laws.specs.Ledger.{LedgerFrame}
use Rattle.machine_laws.specs.LedgerOf.{frame_entry, entries_of, ledger_of}
use Rattle.machine_laws.specs.LedgerSound.{Owned, Placed, Grounded}
use Rattle.machine_laws.specs.Shape.{Laid}
use Rattle.machine_laws.specs.Fitting.{StackFits}
use Rattle.machine_laws.proofs.Objects.{found_below}
use Rattle.machine_laws.proofs.Seats.{IsIn}
use Rattle.machine_laws.proofs.Sweeps.{laid_sweep}
use Rattle.machine_laws.proofs.Tops.{bottom, entries}
use Rattle.machine_laws.proofs.Types.{AnyHow, Unchanged, structs_same, stays_sweep}
use Rattle.machine_laws.proofs.Retyping.{Agrees, body_kept, above_same}
use Rattle.machine_laws.proofs.Present.{present, stack_within}
use Rattle.machine_laws.proofs.StackFits.{AllAgree, BelowFits, agree_each, stack_kept}
use Rattle.machine_laws.proofs.LaidRows.{laid_row}
use Rattle.machine_laws.proofs.StaysRows.{stays_swept, new_stays, instances_row}
use Rattle.machine_laws.proofs.Parts.{struct_or_none}

-- what is grounded of a frame above the client's own
pub record Stands (L : LoadRows) (s : State) (f : StackFrame) : Type 0 where
  pub some : 0 < f.instance
  pub opened : f.instance ≤ length s.instances
  pub load : instance_load s f.instance ≡ load_of_target L f.target
  pub lent : f.lent ≡ lent_of f.args

grounded_rest : (L : LoadRows) (loads : ℕ → ℕ) (ni nc t : ℕ) (fs : List StackFrame) (rest : List LedgerFrame) → (rest ≡ [] → ⊥) → Grounded L loads ni nc t (entries_of fs rest) → Grounded L loads ni nc t rest
grounded_rest L loads ni nc t [] rest some g = g
grounded_rest L loads ni nc t (f ∷ fs) [] some g = absurd (some refl)
grounded_rest L loads ni nc t (f ∷ fs) (r ∷ rest) some g = (grounded_rest L loads ni nc t fs (frame_entry f ∷ (r ∷ rest)) (λ e. cc) g).4

pub stands : (L : LoadRows) (s : State) → Laid L s → Owned L (ledger_of L s) → Placed L (ledger_of L s) → (t : ℕ) (below above : List StackFrame) (f : StackFrame) → stack s t ≡ below ++ f ∷ above → Stands L s f
stands L s laid owned placed t below above f here =
    let w = stack_within L s laid owned t below above f here in
    let g : Grounded L (instance_load s) (length s.instances + 1) s.next_call t (entries t (below ++ f ∷ above) (row s.threads t)) = subst (λ fs. Grounded L (instance_load s) (length s.instances + 1) s.next_call t (entries t fs (row s.threads t))) here (placed.grounded t w.0 w.1) in
    go below (bottom t (row s.threads t)) [] g
  where
    go : (below : List StackFrame) (r : LedgerFrame) (rest : List LedgerFrame) → Grounded L (instance_load s) (length s.instances + 1) s.next_call t (entries_of (below ++ f ∷ above) (r ∷ rest)) → Stands L s f
    go [] r rest g =
        let one = grounded_rest L (instance_load s) (length s.instances + 1) s.next_call t above (frame_entry f ∷ (r ∷ rest)) (λ e. cc) g in
        let i = one.0 in
        let same : f.instance ≡ i.0 = (let e = i.1 in cc) in
        record {
          some = (let e = i.2 in omega (arith, same, e));
          opened = (let e = i.3 in omega (arith, same, e));
          load = ap (instance_load s) same ∙ i.4;
          lent = one.1;
        }
    go (h ∷ below) r rest g = go below (frame_entry h) (r ∷ rest) g

module _ (L : LoadRows) (s : State) (e : Entry) (made : State) (laid : Laid L s) (owned : Owned L (ledger_of L s)) (placed : Placed L (ledger_of L s)) (r : RowOf L s e made) (owned' : Owned L (ledger_of L (sweep_state made))) where
  abbrev pub z : State
  z = sweep_state made

  pub laid_z : Laid L z
  laid_z = laid_sweep L made (laid_row L s e made laid r)

  -- what was there and is there is of the same struct
  pub types_old : (o : ℕ) → IsIn s o → IsIn z o → (types_of L z).struct_of o ≡ (types_of L s).struct_of o
  types_old o before behind = by_entry e r
    where
      by_entry : (e' : Entry) → RowOf L s e' made → (types_of L z).struct_of o ≡ (types_of L s).struct_of o
      by_entry (entry.New t w p ty values) r' =
          let swept = stays_sweep Unchanged (λ x. refl) L made (laid_row L s (entry.New t w p ty values) made laid r') o behind.0 behind.1 in
          let in_made : object_of made o ≡ Some behind.0 = swept.here ∙ ap (λ x. Some x) swept.alike in
          elim (new_stays L s t w p ty values made r' o behind.0 in_made) [
            | inl old ↦ ap (struct_or_none L) behind.1 ∙ sym (ap (struct_or_none L) old)
            | inr new ↦ absurd (let b = found_below 0 s.next_object o s.objects before.0 laid.objects before.1 in omega (arith, b.1, new.0))
          ]
      by_entry (entry.Free p) r' = absurd r'
      by_entry other r' = structs_same L AnyHow s z o (stays_swept L s other made laid (λ n. n) r') behind

  -- a frame that stands in both, and lives
  pub agrees : (t u : ℕ) (below above below' above' : List StackFrame) (f : StackFrame) → stack s t ≡ below ++ f ∷ above → stack z u ≡ below' ++ f ∷ above' → is_live z f.instance ≡ true → (is_live s f.instance ≡ true) × Agrees L s z f
  agrees t u below above below' above' f before behind lives =
      let same = instances_row L s e made r in
      let st = stands L s laid owned placed t below above f before in
      let lived = same.lives f.instance st.opened lives in (
        lived,
        record {
          structs = λ o some. types_old o (present L s laid owned t o below above f before lived some) (present L z laid_z owned' u o below' above' f behind lives some);
          load = same.loads f.instance st.opened;
          words = same.words f.instance st.opened;
        },
      )

  -- a stack that stays
  pub same_agree : (t : ℕ) → stack z t ≡ stack s t → AllAgree L s z (stack s t)
  same_agree t same = agree_each L s z (stack s t) (λ below above f is lives. agrees t t below above below above f is (same ∙ is) lives)

  -- so its frames fit on
  pub other_fits : (t : ℕ) → stack z t ≡ stack s t → StackFits L s (stack s t) → StackFits L z (stack z t)
  other_fits t same fits = subst (StackFits L z) (sym same) (stack_kept L s z (stack s t) (same_agree t same) fits)

  -- frames below a top that changes
  pub below_kept : (t : ℕ) (f : StackFrame) (below rest rest' : List StackFrame) → stack s t ≡ below ++ f ∷ rest → stack z t ≡ below ++ rest' → StackFits L s (below ++ f ∷ rest) → BelowFits L z below f
  below_kept t f below rest rest' before behind fits = go [] below refl fits
    where
      here : (front tail : List StackFrame) (g : StackFrame) (more : List StackFrame) → below ≡ front ++ g ∷ tail → (front ++ g ∷ tail) ++ more ≡ front ++ g ∷ (tail ++ more)
      here front tail g more is = append_assoc front (g ∷ tail) more

      go : (front tail : List StackFrame) → below ≡ front ++ tail → StackFits L s (tail ++ f ∷ rest) → BelowFits L z tail f
      go front [] is fits' h more target method args top' = top'
      go front (g ∷ []) is fits' h more target method args top' = (
        λ lives. (
            let a = agrees t t front (f ∷ rest) front rest' g (before ∙ ap (λ l. l ++ f ∷ rest) is ∙ append_assoc front (g ∷ []) (f ∷ rest)) (behind ∙ ap (λ l. l ++ rest') is ∙ append_assoc front (g ∷ []) rest') lives in
            above_same L z g f h rest g.body target method args (body_kept L s z g a.1 (f ∷ rest) g.body refl (fits'.0 a.0)) more),
        top',
      )
      go front (g ∷ (g' ∷ tail)) is fits' h more target method args top' = (
        λ lives. (
            let a = agrees t t front ((g' ∷ tail) ++ f ∷ rest) front ((g' ∷ tail) ++ rest') g (before ∙ ap (λ l. l ++ f ∷ rest) is ∙ append_assoc front (g ∷ (g' ∷ tail)) (f ∷ rest)) (behind ∙ ap (λ l. l ++ rest') is ∙ append_assoc front (g ∷ (g' ∷ tail)) rest') lives in
            above_same L z g g' g' (tail ++ f ∷ rest) g.body refl refl refl (body_kept L s z g a.1 (g' ∷ (tail ++ f ∷ rest)) g.body refl (fits'.0 a.0)) (tail ++ h ∷ more)),
        go (front ++ g ∷ []) (g' ∷ tail) (is ∙ sym (append_assoc front (g ∷ []) (g' ∷ tail))) fits'.1 h more target method args top',
      )

  -- a frame of which only the body changed, and what begins above it
  pub changed_fits : (t : ℕ) (f after : StackFrame) (below rest rest' : List StackFrame) → stack s t ≡ below ++ f ∷ rest → stack z t ≡ below ++ after ∷ rest' → after ≡ with_body f after.body → StackFits L s (stack s t) → StackFits L z (after ∷ rest') → StackFits L z (stack z t)
  changed_fits t f after below rest rest' before behind same fits top' =
      let kept = below_kept t f below rest (after ∷ rest') before behind (subst (StackFits L s) before fits) in
      subst (StackFits L z) (sym behind) (kept after rest' (ap (λ (g : StackFrame). g.target) same) (ap (λ (g : StackFrame). g.method) same) (ap (λ (g : StackFrame). g.args) same) top')

  -- all stacks fit where one does and the others stay
  pub all_fit : (t : ℕ) → StackFits L z (stack z t) → ((u : ℕ) → u ≢ t → stack z u ≡ stack s u) → ((u : ℕ) → StackFits L s (stack s u)) → (u : ℕ) → StackFits L z (stack z u)
  all_fit t here there fits u = elim (cases_eq u t) [
    | inl is ↦ subst (λ n. StackFits L z (stack z n)) (sym is) here
    | inr ne ↦ other_fits u (there u ne) (fits u)
  ]
