-- The load of a shadow is one of the loads.
use Rattle.std.proofs.Common.{◌≡◌, ℕ, suc, ◌<◌, inl, inr, List, length, Some, refl, ap, arith}
use Rattle.rl_defs.specs.declared.bundle.Bundle.{Bundle}
use Rattle.rl_defs.specs.declared.tables.Tables.{Tables}
use Rattle.rl_defs.specs.declared.load.ShadowRow.{ShadowRow}
use Rattle.rl_defs.specs.Interfaces.{place_of}
use Rattle.rl_defs.specs.BundleNames.{load_names}
use Rattle.rl_defs.specs.NameRules.{load_used}
use Rattle.rl_defs.specs.LoadOf.{load_of, load_number, counted}
use Rattle.rl_defs.proofs.Lists.{in_list}
use Rattle.rl_defs.proofs.ValidFacts.{Shadowed}
use Rattle.valid_loads.proofs.Names.{declared_by, place_there}
use Rattle.valid_loads.proofs.Rules.{Kept, declared}
use Rattle.valid_loads.proofs.Rows.{load_count, shadow_at, shadow_line}

-- the load that a line names has a number
pub number_there : (b : Bundle) (name : List ℕ) (p : ℕ) → place_of name (load_names b) ≡ Some p → load_number b name ≡ suc p
number_there b name p e = ap counted e

pub number_within : (b : Bundle) (name : List ℕ) (p : ℕ) → place_of name (load_names b) ≡ Some p → p < length (load_names b)
number_within b name p e = in_list (load_names b) p name (place_there name (load_names b) p e)

pub shadowed : (tables : Tables) (b : Bundle) → Kept tables b → Shadowed (load_of tables b)
shadowed tables b h k x e =
    let t = shadow_at b k x e in
    let line = shadow_line b k t.0 t.1 in
    let p = declared_by b.plan.lines load_used (load_names b) (λ n u. declared tables b h n (inr (inr (inr (inr (inl u)))))) line.place _ line.here 0 t.0.load refl in
    let number = number_there b t.0.load p.0 p.1 in
    let few = number_within b t.0.load p.0 p.1 in
    let same : load_number b t.0.load ≡ x.load = ap (λ (r : ShadowRow). r.load) t.2 in
    (omega (arith, number, same), omega (arith, number, same, few, load_count b))
