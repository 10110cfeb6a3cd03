-- How large the tables of an interface part may be.
use Rattle.std.specs.Prelude.{◌<◌, ◌≤◌, ◌^◌, length, All}
use Rattle.rl_defs.specs.declared.tables.MethodRow.{MethodRow}
use Rattle.rl_defs.specs.declared.tables.TraitRow.{TraitRow}
use Rattle.rl_defs.specs.declared.tables.StructRow.{StructRow}
use Rattle.rl_defs.specs.declared.tables.Tables.{Tables}

-- the rows are as many, and as large, as the rows of an interface part may be
pub record IsMethodSmall (m : MethodRow) : Type 0 where
  pub params : length m.params ≤ 8
  pub results : length m.results ≤ 4

pub record IsTraitSmall (t : TraitRow) : Type 0 where
  pub few : length t.methods < 2 ^ 32
  pub methods : All IsMethodSmall t.methods

abbrev pub IsStructSmall : StructRow → Type 0
IsStructSmall s = length s.flat ≤ 512

pub record AreTablesSmall (tables : Tables) : Type 0 where
  pub few_structs : length tables.structs < 2 ^ 32
  pub few_traits : length tables.traits < 2 ^ 32
  pub structs : All IsStructSmall tables.structs
  pub traits : All IsTraitSmall tables.traits
