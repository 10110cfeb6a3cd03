use Rattle.std.proofs.Common.{◌≡◌, ℕ, ◌<◌, ◌||◌, false, length, drop, get_or}
use Rattle.bundle_names.specs.PlanNames.{is_loaded}
use Rattle.bundle_names.proofs.known.loaded_domains.Given as goal

abbrev pub invariant-loads : goal.invariant-loads
invariant-loads l = (length l.marks.items ≡ l.count) × ((number : ℕ) → number < l.count → (get_or l.marks.items number false || is_loaded (drop l.name-index l.loaded) l.domains number) ≡ is_loaded l.loaded l.domains number)
