-- The struct of an object and the trait of a target, as the checker has them and as a frame sees them.
use Rattle.std.proofs.Common.{◌≡◌, refl, sym, ap, ℕ, true, List, Option, Some}
use Rattle.std.proofs.lemmas.Bool.{eqb-true}
use Rattle.rl_defs.specs.declared.values.Value.{Value}
use Rattle.rl_defs.specs.declared.values.Value.TheVariants as value
use Rattle.rl_defs.specs.declared.code.RegKind.{RegKind}
use Rattle.rl_defs.specs.declared.code.RegKind.TheVariants as held
use Rattle.rl_defs.specs.declared.tables.Tables.{Tables}
use Rattle.rl_defs.specs.CodeKinds.{Object, Owned, Target, method_called, object_struct, trait_of_kind}
use Rattle.rl_defs.specs.CodeNames.{method_named}
use Rattle.rl_defs.specs.CodeRules.{meets}
use Rattle.rl_defs.specs.Registers.{Typing, fits_kind}
use Rattle.machine_defs.specs.Instructions.{object, target}

-- the struct of an object in a register
pub object_is : (types : Typing) (k : RegKind) (v : Option Value) → meets Object k ≡ true → fits_kind types k v ≡ true → object_struct k ≡ Some (types.struct_of (object v))
object_is types (held.Own s) (Some (value.Obj o)) m f = ap (λ n. Some n) (sym (eqb-true (types.struct_of o) s f))
object_is types (held.Lent s) (Some (value.Obj o)) m f = ap (λ n. Some n) (sym (eqb-true (types.struct_of o) s f))
object_is types k v m f = absurd (cc)

pub owned_object : (k : RegKind) → meets Owned k ≡ true → meets Object k ≡ true
owned_object (held.Own s) m = refl
owned_object k m = absurd (cc)

-- the trait of a target in a register
pub target_is : (types : Typing) (k : RegKind) (v : Option Value) → meets Target k ≡ true → fits_kind types k v ≡ true → types.trait_of (target v) ≡ trait_of_kind k
target_is types (held.Cap t) (Some (value.Cap x)) m f = eqb-true (types.trait_of x) t f
target_is types k v m f = absurd (cc)

-- the method that is called is one of that trait
pub called_is_named : (tables : Tables) (k : RegKind) (name : List ℕ) → meets Target k ≡ true → method_called tables k name ≡ method_named tables (trait_of_kind k) name
called_is_named tables (held.Cap t) name m = refl
called_is_named tables k name m = absurd (cc)
