-- How large the rows of tables are, where the tables are small.
use Rattle.std.proofs.Common.{◌≡◌, refl, subst, ℕ, ◌≤◌, List, length, Option, Some, None, slice_get, arith}
use Rattle.std.specs.List.{All}
use Rattle.std.proofs.lemmas.Option.{slice_get_within, get_or_from_slice_get}
use Rattle.rl_defs.specs.declared.tables.StructRow.{StructRow}
use Rattle.rl_defs.specs.declared.tables.MethodRow.{MethodRow}
use Rattle.rl_defs.specs.declared.tables.TraitRow.{TraitRow}
use Rattle.rl_defs.specs.declared.tables.Tables.{Tables}
use Rattle.rl_defs.specs.CodeNames.{cells_of, flat_of, methods_of, rows_of}
use Rattle.rl_defs.specs.TableSizes.{AreTablesSmall, IsMethodSmall, IsTraitSmall, IsStructSmall}

pub all_at : {X : Type 0} (P : X → Type 0) (xs : List X) (i : ℕ) (x : X) → All P xs → slice_get xs i ≡ Some x → P x
all_at P xs i x all here = subst P (get_or_from_slice_get xs i x x here) (all i x (slice_get_within xs i x here))

small_in : (traits : Option TraitRow) (t : ℕ) (m : ℕ) (row : MethodRow) → ((x : TraitRow) → traits ≡ Some x → IsTraitSmall x) → slice_get (rows_of traits) m ≡ Some row → IsMethodSmall row
small_in None t m row all here = absurd (cc)
small_in (Some x) t m row all here = all_at IsMethodSmall x.methods m row (all x refl).methods here

-- a method of a trait has few parameters and results
pub small_method : (tables : Tables) (t m : ℕ) (row : MethodRow) → AreTablesSmall tables → slice_get (methods_of tables t) m ≡ Some row → IsMethodSmall row
small_method tables t m row small here = small_in (slice_get tables.traits t) t m row (λ x e. all_at IsTraitSmall tables.traits t x small.traits e) here

few_cells : (s : Option StructRow) → ((x : StructRow) → s ≡ Some x → length x.flat ≤ 512) → length (flat_of s) ≤ 512
few_cells None all = omega arith
few_cells (Some x) all = all x refl

-- a struct has few cells
pub small_struct : (tables : Tables) (s : ℕ) → AreTablesSmall tables → length (cells_of tables s) ≤ 512
small_struct tables s small = few_cells (slice_get tables.structs s) (λ x e. all_at IsStructSmall tables.structs s x small.structs e)
