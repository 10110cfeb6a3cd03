use Rattle.std.proofs.Common.{◌≡◌, ℕ, length, Some}
use Rattle.std.specs.Prelude.{slice_get}
use Rattle.exchangeable_types.specs.declared.walk.State.{State}
use Rattle.exchangeable_types.specs.declared.walk.State.TheVariants.{New}
use Rattle.exchangeable_types.proofs.walk.all_new.Given as goal

abbrev pub invariant-states : goal.invariant-states
invariant-states l = record {
  count : length l.states.items ≡ l.counter;
  new : (s : ℕ) (x : State) → slice_get l.states.items s ≡ Some x → x ≡ New;
}
