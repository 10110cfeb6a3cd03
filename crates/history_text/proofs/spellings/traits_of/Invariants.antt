use Rattle.std.proofs.Common.{◌≡◌, length}
use Rattle.history_text.specs.Spelled.{AreTraits}
use Rattle.history_text.proofs.spellings.traits_of.Given as goal

-- the traits of the loads so far
abbrev pub invariant-loads : goal.invariant-loads
invariant-loads l = record {
  count : length l.traits.items ≡ l.load;
  found : AreTraits l.rows l.traits.items;
}
