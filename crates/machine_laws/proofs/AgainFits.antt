-- Stacks fit after a call that is issued again.
use Rattle.std.specs.Option.{option_map_or}
use Rattle.std.proofs.Common.{◌≡◌, ◌≢◌, ℕ, ◌<◌, ◌≤◌, true, false, ◌&&◌, List, [], ◌∷◌, ◌++◌, length, Some, refl, ap, ap₂, sym, subst, ◌∙◌, arith}
use Rattle.std.proofs.lemmas.Bool.{and_parts}
use Rattle.machine_defs.specs.declared.values.Arg.{Arg}
use Rattle.machine_defs.specs.declared.values.Arg.TheVariants as arg
use Rattle.rl_defs.specs.declared.tables.Kind.{Kind}
use Rattle.machine_defs.specs.declared.entry.Entry.{Entry}
use Rattle.machine_defs.specs.declared.entry.Entry.TheVariants as entry
use Rattle.rl_defs.specs.declared.load.LoadRows.{LoadRows}
use Rattle.rl_defs.specs.Domains.{load_of_target, method_of}
use Rattle.rl_defs.specs.Registers.{Typing}
use Rattle.machine_defs.specs.State.{State, StackFrame, is_live, current, stack, frames_of}
use Rattle.rl_defs.specs.Rows.{row}
use Rattle.machine_defs.specs.Loans.{count, sweep as sweep_state}
use Rattle.machine_defs.specs.Calling.{is_undone}
use Rattle.machine_defs.specs.Arguments.{moved_of}
use Rattle.machine_defs.specs.State.{instance_load}
use Rattle.machine_defs.specs.NativeFits.{args_suit}
use Rattle.machine_defs.specs.Seen.{types_of}
use Rattle.rl_defs.specs.Rows.{is_target}
use Rattle.machine_defs.specs.Frames.{below_top}
use Rattle.machine_defs.specs.Calling.{is_shadow, is_idempotent}
use Rattle.machine_defs.specs.CallRows.{IssuesAgain}
use Rattle.machine_defs.specs.Sound.{arg_stands, args_stand}
use Rattle.rl_defs.proofs.ValidFacts.{method_kept, moves_none}
use Rattle.machine_laws.specs.LedgerOf.{ledger_of}
use Rattle.machine_laws.specs.LedgerSound.{Owned, Placed}
use Rattle.machine_laws.specs.Shape.{Laid}
use Rattle.machine_laws.specs.Fitting.{BodyFits, StackFits, Fitting}
use Rattle.machine_laws.proofs.Rows.{row_set_same, row_set_other}
use Rattle.machine_laws.proofs.Stacks.{top_splits}
use Rattle.machine_laws.proofs.CallingRows.{current_same}
use Rattle.machine_laws.proofs.LaidRows.{laid_row}
use Rattle.machine_laws.proofs.Agreeing.{below_kept, laid_z, all_fit}
use Rattle.machine_laws.proofs.DoneFits.{types_kept}
use Rattle.machine_laws.proofs.BegunFits.{begun_fits}
use Rattle.machine_laws.proofs.EndSteps.{moves_nothing, top_call, ready_within}
use Rattle.machine_laws.proofs.Parts.{load_of_instance}
use Rattle.rl_defs.specs.Valid.{Valid, AreValidTables}

-- arguments of which none was moved suit as they did
pub stands_suits : (types : Typing) (kinds : List Kind) (args : List Arg) → moved_of args ≡ [] → args_stand types kinds args ≡ true → args_suit types kinds args ≡ true
stands_suits types [] [] none stand = refl
stands_suits types (k ∷ kinds) (arg.Num n ∷ args) none stand = let parts = and_parts (arg_stands types k (arg.Num n)) (args_stand types kinds args) stand in ap₂ (λ a b. a && b) parts.0 (stands_suits types kinds args none parts.1)
stands_suits types (k ∷ kinds) (arg.Lent o ∷ args) none stand = let parts = and_parts (arg_stands types k (arg.Lent o)) (args_stand types kinds args) stand in ap₂ (λ a b. a && b) parts.0 (stands_suits types kinds args none parts.1)
stands_suits types (k ∷ kinds) (arg.Cap x ∷ args) none stand = let parts = and_parts (arg_stands types k (arg.Cap x)) (args_stand types kinds args) stand in ap₂ (λ a b. a && b) parts.0 (stands_suits types kinds args none parts.1)
stands_suits types (k ∷ kinds) (arg.Moved o ∷ args) none stand = absurd cc
stands_suits types [] (a ∷ args) none stand = absurd cc
stands_suits types (k ∷ kinds) [] none stand = absurd cc

module _ (L : LoadRows) (s : State) (plans : Valid L) (tables : AreValidTables L.tables) (laid : Laid L s) (owned : Owned L (ledger_of L s)) (placed : Placed L (ledger_of L s)) (fits : Fitting L s) (t c x i : ℕ) (made : State)
    (ready : is_undone (row s.threads t) ≡ true) (r : IssuesAgain L s t c x i made) (owned' : Owned L (ledger_of L (sweep_state made))) where
  abbrev z : State
  z = sweep_state made

  abbrev entry' : Entry
  entry' = entry.Again t c x i

  abbrev dead : StackFrame
  dead = r.dead

  abbrev begun : StackFrame
  begun = r.frame

  abbrev below : List StackFrame
  below = below_top (stack s t)

  within : (0 < t) × (t ≤ length s.stacks)
  within = ready_within L s t laid ready

  here : stack made t ≡ below ++ begun ∷ []
  here = ap (λ (v : State). stack v t) r.becomes ∙ ap frames_of (row_set_same s.stacks t (below ++ begun ∷ []) within.0 within.1)

  there : (u : ℕ) → u ≢ t → stack made u ≡ stack s u
  there u ne = ap (λ (v : State). stack v u) r.becomes ∙ ap frames_of (row_set_other s.stacks t u (below ++ begun ∷ []) within.0 ne)

  begun_here : is_live z begun.instance ≡ true → BodyFits L z begun [] begun.body
  begun_here =
      let call = top_call L s plans tables laid owned fits t dead r.of.on_top in
      let target : is_target L x ≡ true = subst (λ n. is_target L n ≡ true) (sym r.through) call.target in
      let row' : method_of L x dead.method ≡ Some call.method = subst (λ n. method_of L n dead.method ≡ Some call.method) (sym r.through) call.row in
      let parts = and_parts (is_shadow L dead.target) (is_idempotent L dead.target dead.method) r.reissuable in
      let idem : call.method.idempotent ≡ true = subst (λ m. option_map_or (λ method. method.idempotent) m false ≡ true) call.row parts.1 in
      let none = moves_nothing (types_of L s) call.method.params dead.args (moves_none L.tables call.method (method_kept L plans dead.target dead.method call.method call.row) idem) call.args in
      let instances' : made.instances ≡ s.instances = ap (λ (v : State). v.instances) r.becomes in
      let stands' : instance_load s (current L s x) ≡ load_of_target L x = ap (instance_load s) (sym (current_same L s x target)) ∙ (placed.current_of x).1 in
      let load' : instance_load made i ≡ load_of_target L x = ap (λ is'. load_of_instance (row is' i)) instances' ∙ ap (instance_load s) r.into ∙ stands' in
      begun_fits L made plans (laid_row L s entry' made laid r) (laid_z L s entry' made laid owned placed r owned') owned' t c x i dead.method dead.args begun below (types_of L s) call.method r.begins here target row'
      (stands_suits (types_of L s) call.method.params dead.args none call.args)
      (λ o in_z. types_kept L s entry' made plans tables laid owned placed fits r owned' (λ n. n) o in_z) (λ y. refl)
      (λ o moved lent. absurd (let e : count o (moved_of dead.args) ≡ 0 = ap (count o) none in omega (arith, e, moved))) load'

  pub again_fits : (u : ℕ) → StackFits L z (stack z u)
  again_fits =
      let split = top_splits (stack s t) dead r.of.on_top in
      let below' = below_kept L s entry' made laid owned placed r owned' t dead below [] (begun ∷ []) split here (subst (StackFits L s) split (fits.bodies t)) in
      let same = r.begins.is in
      all_fit L s entry' made laid owned placed r owned' t
      (subst (StackFits L z) (sym here) (below' begun [] (ap (λ (h : StackFrame). h.target) same ∙ r.through) (ap (λ (h : StackFrame). h.method) same) (ap (λ (h : StackFrame). h.args) same) (begun_here, tt)))
      there fits.bodies
