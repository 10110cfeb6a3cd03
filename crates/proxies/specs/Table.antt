-- What is found once for each load and target.
use Rattle.std.specs.Prelude.{ℕ, ◌+◌, List, map, length, Bool}
use Rattle.std.specs.List.{range_with_len, position_or_len}
use Rattle.rl_defs.specs.declared.load.LoadRows.{LoadRows}
use Rattle.rl_defs.specs.Domains.{is_serial, load_of_target, lines_of_load, trait_name}
use Rattle.rl_defs.specs.Words.{same_bytes}

-- what a target stands for: its load, and the place of its trait in the tables
pub record Found : Type 0 where
  pub load : ℕ
  pub has : ℕ

-- whether each load is serial, and what each target stands for
pub record Table : Type 0 where
  pub serial : List Bool
  pub targets : List Found

-- the place of the trait of a load's domain
abbrev pub trait_of_load : LoadRows → ℕ → ℕ
trait_of_load L k = position_or_len (λ row. same_bytes row.name (trait_name (lines_of_load L k))) L.tables.traits

abbrev pub found_at : LoadRows → ℕ → Found
found_at L x = record { load = load_of_target L x; has = trait_of_load L (load_of_target L x) }

-- the table of a load's proxies
abbrev pub proxies_of : LoadRows → Table
proxies_of L = record {
  serial = map (is_serial L) (range_with_len 1 (length L.loads));
  targets = map (found_at L) (range_with_len 1 (length L.loads + length L.shadows));
}
