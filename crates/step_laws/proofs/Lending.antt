-- How often an object is lent at most.
use Rattle.std.proofs.Common.{◌≡◌, ℕ, suc, ◌*◌, ◌≤◌, ◌==◌, Bool, true, List, [], ◌∷◌, ◌++◌, length, Some, slice_get, refl, ap, arith, inl, inr}
use Rattle.std.proofs.lemmas.Bool.{cases_Bool, and_parts}
use Rattle.rl_defs.specs.declared.load.LoadRows.{LoadRows}
use Rattle.rl_defs.specs.declared.tables.Kind.{Kind}
use Rattle.rl_defs.specs.Valid.{Valid}
use Rattle.rl_defs.proofs.ValidFacts.{method_small}
use Rattle.machine_defs.specs.declared.values.Arg.{Arg}
use Rattle.machine_defs.specs.declared.values.Arg.TheVariants as arg
use Rattle.machine_defs.specs.State.{State, StackFrame, stack, frames_of}
use Rattle.machine_defs.specs.Arguments.{lent_of}
use Rattle.machine_defs.specs.Loans.{count, lent_in, lent_in_all, freed, sweep}
use Rattle.machine_defs.specs.NativeFits.{each_fits}
use Rattle.machine_defs.specs.Runs.{GoesOn, entries_of_turn}
use Rattle.machine_defs.specs.Steps.{Turn, Step}
use Rattle.machine_laws.specs.Fitting.{CallFits, CallsFit}
use Rattle.machine_laws.proofs.EachRun.{holds_run}
use Rattle.machine_laws.proofs.Laws.{states_are_sound}
use Rattle.step_laws.specs.StepLaws.{RunsLendFew, RowsLendFew}

-- a list has a number as often as it has items, at most
count_within : (o : ℕ) (xs : List ℕ) → count o xs ≤ length xs
count_within o [] = omega arith
count_within o (x ∷ xs) = let r = count_within o xs in elim (cases_Bool (x == o)) [
  | inl is ↦ rw is (omega (arith, r))
  | inr is ↦ rw is (omega (arith, r))
]

lent_within : (args : List Arg) → length (lent_of args) ≤ length args
lent_within [] = omega arith
lent_within (arg.Lent o ∷ args) = let r = lent_within args in omega (arith, r)
lent_within (arg.Moved o ∷ args) = let r = lent_within args in omega (arith, r)
lent_within (arg.Num n ∷ args) = let r = lent_within args in omega (arith, r)
lent_within (arg.Cap x ∷ args) = let r = lent_within args in omega (arith, r)

fits_each : {A : Type 0} (fits : Kind → A → Bool) (kinds : List Kind) (items : List A) → each_fits fits kinds items ≡ true → length items ≡ length kinds
fits_each fits [] [] is = refl
fits_each fits [] (a ∷ items) is = absurd cc
fits_each fits (k ∷ kinds) [] is = absurd cc
fits_each fits (k ∷ kinds) (a ∷ items) is = ap suc (fits_each fits kinds items (and_parts (fits k a) (each_fits fits kinds items) is).1)

module _ (L : LoadRows) (valid : Valid L) (s : State) (o : ℕ) where
  -- a call has 8 arguments at most
  by_frame : (f : StackFrame) → CallFits L s f → count o f.lent ≤ 8
  by_frame f fits =
      let few = (method_small L valid f.target f.method fits.method fits.row).params in
      let as_many = fits_each _ fits.method.params f.args fits.args in
      let lent : length f.lent ≡ length (lent_of f.args) = ap length fits.lent in
      let within = lent_within f.args in
      let counted = count_within o f.lent in
      omega (arith, few, as_many, lent, within, counted)

  by_stack : (fs : List StackFrame) → CallsFit L s fs → lent_in o fs ≤ 8 * length fs
  by_stack [] fits = omega arith
  by_stack (f ∷ fs) fits = let here = by_frame f fits.0 in let above = by_stack fs fits.1 in omega (arith, here, above)

by_stacks : (o : ℕ) (stacks : List (List StackFrame)) → ((k : ℕ) (fs : List StackFrame) → slice_get stacks k ≡ Some fs → lent_in o fs ≤ 248) → lent_in_all o stacks ≤ 248 * length stacks
by_stacks o [] each = omega arith
by_stacks o (fs ∷ stacks) each = let here = each 0 fs refl in let others = by_stacks o stacks (λ k gs is. each (suc k) gs is) in omega (arith, here, others)

pub runs_lend_few : RunsLendFew
runs_lend_few L H s valid run o =
    let fits = (holds_run L valid valid.tables H s run).fits in
    let sound = states_are_sound L H s valid run in
    let all' = by_stacks o s.stacks (λ k fs is. (
    let here : stack s (suc k) ≡ fs = ap frames_of is in
    let lent = by_stack L valid s o (stack s (suc k)) (fits.calls (suc k)) in
    let high = sound.laid.heights (suc k) in
    let same : lent_in o (stack s (suc k)) ≡ lent_in o fs = ap (lent_in o) here in
    omega (arith, lent, high, same))) in
    let stacks = sound.laid.stacks in
    let clients = valid.few_clients in
    omega (arith, all', stacks, clients)

pub rows_lend_few : RowsLendFew
rows_lend_few L H s made e valid run enabled row o =
    let turn : Turn = record { entry = e; frees = freed made } in
    let step : Step L s turn (sweep made) = record { made = made; enabled = enabled; makes = row; frees = refl; swept = refl } in
    runs_lend_few L (H ++ entries_of_turn turn) (sweep made) valid (GoesOn turn run step refl) o
