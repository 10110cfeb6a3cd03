use Rattle.std.proofs.Common.{◌≡◌, ℕ, true, length, Some}
use Rattle.std.specs.Prelude.{slice_get}
use Rattle.exchangeable_types.proofs.rows.none_seen.Given as goal

abbrev pub invariant-structs : goal.invariant-structs
invariant-structs l = record {
  count : length l.seen.items ≡ l.counter;
  none : (s : ℕ) → slice_get l.seen.items s ≡ Some true → ⊥;
}
