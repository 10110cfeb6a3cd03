-- The traits of a load's loads, found once.
use Rattle.std.specs.Prelude.{◌≡◌, ℕ, ◌<◌, List, length, Option, None}
use Rattle.std.specs.List.{slice_index_or}
use Rattle.std.specs.Option.{option_copied}
use denote.Ref.{Bor}
use Rattle.rl_defs.specs.declared.load.LoadRows.{LoadRows}
use Rattle.rl_defs.specs.declared.tables.TraitRow.{TraitRow}
use Rattle.rl_defs.specs.Domains.{trait_named, trait_name, lines_of_load}

-- the trait of a load's domain
abbrev pub trait_of : LoadRows → ℕ → Option TraitRow
trait_of L k = trait_named L.tables (trait_name (lines_of_load L k))

-- the traits of the first loads, by their numbers
abbrev pub AreTraits : LoadRows → List (Option (Bor TraitRow)) → Type 0
AreTraits L traits = (k : ℕ) → k < length traits → option_copied (slice_index_or traits k None) ≡ trait_of L k
