-- What the lines of an interface part give and use.
use Rattle.std.specs.Prelude.{ℕ, ◌-◌, ◌^◌, ◌<◌, Bool, false, not, ◌||◌, List, [], ◌∷◌, ◌++◌, Some, None, is_some, map, take}
use Rattle.std.specs.List.{list_any}
use Rattle.rl_defs.specs.declared.idl.IdlLine.{IdlLine}
use Rattle.rl_defs.specs.declared.idl.IdlLine.TheVariants as form
use Rattle.rl_defs.specs.declared.idl.Base.{Base}
use Rattle.rl_defs.specs.declared.idl.Base.TheVariants as base
use Rattle.rl_defs.specs.Interfaces.{Lines, place_of, result_types}
use Rattle.bundle_names.specs.declared.roles.Role.{Role}
use Rattle.bundle_names.specs.declared.roles.Role.TheVariants as role
use Rattle.bundle_names.specs.declared.interface_lines.InterfaceScopes.{InterfaceScopes}
use Rattle.bundle_names.specs.Scopes.{names_in, behind, behind_all, repeats}

-- structs and traits share one scope
abbrev pub declared_role : IdlLine → Role
declared_role (form.Struct name) = role.Gives name
declared_role (form.Trait name) = role.Gives name
declared_role _ = role.Passes

abbrev pub field_role : IdlLine → Role
field_role (form.Struct name) = role.Opens
field_role (form.Field name ty) = role.Gives name
field_role _ = role.Ends

abbrev pub method_role : IdlLine → Role
method_role (form.Trait name) = role.Opens
method_role (form.Method name params result) = role.Gives name
method_role form.Idempotent = role.Passes
method_role _ = role.Ends

-- a name stands among those before it, or before the list
abbrev pub is_twice : List (List ℕ) → List (List ℕ) → Bool
is_twice names [] = false
is_twice names (x ∷ xs) = is_some (place_of x names) || is_twice (names ++ x ∷ []) xs

abbrev pub repeats_param : IdlLine → Bool
repeats_param (form.Method name params result) = is_twice [] (map (λ p. p.name) params)
repeats_param _ = false

-- what the lines so far have given
abbrev pub given_behind : IdlLine → InterfaceScopes → InterfaceScopes
given_behind line g = record { declared = behind (declared_role line) g.declared; fields = behind (field_role line) g.fields; methods = behind (method_role line) g.methods }

abbrev pub given_at : Lines → ℕ → InterfaceScopes
given_at lines k = record { declared = behind_all declared_role (Some []) (take k lines); fields = behind_all field_role None (take k lines); methods = behind_all method_role None (take k lines) }

pub record HasRoom (g : InterfaceScopes) : Type 0 where
  pub declared : names_in g.declared < 2 ^ 32 - 1
  pub fields : names_in g.fields < 2 ^ 32 - 1
  pub methods : names_in g.methods < 2 ^ 32 - 1

abbrev pub is_repeated : IdlLine → InterfaceScopes → Bool
is_repeated line g = repeats (declared_role line) g.declared || (repeats (field_role line) g.fields || (repeats (method_role line) g.methods || repeats_param line))

abbrev pub is_unknown : List (List ℕ) → List (List ℕ) → Base → Bool
is_unknown structs traits (base.Struct name) = not (is_some (place_of name structs))
is_unknown structs traits (base.RRef name) = not (is_some (place_of name structs))
is_unknown structs traits (base.LentRRef name) = not (is_some (place_of name structs))
is_unknown structs traits (base.Dyn name) = not (is_some (place_of name traits))
is_unknown structs traits _ = false

-- the line has a type that names what nothing declares
abbrev pub has_unknown : List (List ℕ) → List (List ℕ) → IdlLine → Bool
has_unknown structs traits (form.Field name ty) = is_unknown structs traits ty.base
has_unknown structs traits (form.Method name params result) = list_any (λ p. is_unknown structs traits p.ty.base) params || list_any (λ t. is_unknown structs traits t.base) (result_types result)
has_unknown structs traits _ = false
