-- What a look-up of names says, name by name.
use Rattle.std.specs.Prelude.{◌≡◌, ℕ, ◌+◌, List, [], ◌∷◌, length, map, Option, Some, None, is_some, if◌then◌else◌, nat_eq, slice_get}
use Rattle.std.specs.Cmp.Lexicographic.{pointwise}
use Rattle.rl_defs.specs.declared.code.DomainLine.{DomainLine}
use Rattle.rl_defs.specs.declared.code.DomainLine.TheVariants as line
use Rattle.rl_defs.specs.declared.tables.Tables.{Tables}
use Rattle.rl_defs.specs.Interfaces.{place_of}
use Rattle.rl_defs.specs.Domains.{Lines}
use Rattle.rl_defs.specs.CodeNames.{Declared, rows_of, methods_of}
use Rattle.rl_defs.specs.declared.tables.TraitRow.{TraitRow}
use Rattle.rl_defs.specs.TableSizes.{AreTablesSmall}

abbrev pub or_else : Option ℕ → Option ℕ → Option ℕ
or_else first other = if is_some first then first else other

-- a look-up of names after one more name was noted, where it wasn't there before
abbrev pub noted : (List ℕ → Option ℕ) → List ℕ → ℕ → List ℕ → Option ℕ
noted look name number q = if is_some (look q) then look q else (if pointwise nat_eq name q then Some number else None)

-- a place among things of which the first has this number
abbrev pub counted_from : ℕ → Option ℕ → Option ℕ
counted_from count None = None
counted_from count (Some k) = Some (count + k)

-- what a look-up says of the names so far, and else the place of the name among those that follow
abbrev pub found : (List ℕ → Option ℕ) → ℕ → List (List ℕ) → List ℕ → Option ℕ
found look count names q = or_else (look q) (counted_from count (place_of q names))

-- the look-up in a table, where there is a table
abbrev pub look_in : {M : Type 0} → (M → List ℕ → Option ℕ) → Option M → List ℕ → Option ℕ
look_in look None q = None
look_in look (Some m) q = look m q

abbrev pub declared_names : List Declared → List (List ℕ)
declared_names declared = map (λ d. d.name) declared

-- Look-ups of what a domain declares: the place of each name, and the number of the struct or trait at each place.
pub record AreDeclared (look : List ℕ → Option ℕ) (types : List ℕ) (number_of : List ℕ → ℕ) (declared : List Declared) : Type 0 where
  pub places : (q : List ℕ) → look q ≡ place_of q (declared_names declared)
  pub numbers : types ≡ map (λ d. number_of d.ty) declared

-- where the body of a function begins: behind its first line
abbrev pub body_behind : List ℕ → DomainLine → ℕ → Option ℕ → Option ℕ
body_behind q (line.Function name) place further = if pointwise nat_eq name q then Some (place + 1) else further
body_behind q _ place further = further

-- where the body of the function of this name begins, among lines of which the first is at this place
abbrev pub body_from : List ℕ → Lines → ℕ → Option ℕ
body_from q [] place = None
body_from q (l ∷ ls) place = body_behind q l.form place (body_from q ls (place + 1))

-- There is a table for each trait, which gives the numbers of its methods.
pub record AreLooks {M : Type 0} (look : M → List ℕ → Option ℕ) (all : List M) (traits : List TraitRow) : Type 0 where
  pub long : length all ≡ length traits
  pub each : (t : ℕ) (q : List ℕ) → look_in look (slice_get all t) q ≡ place_of q (map (λ m. m.name) (rows_of (slice_get traits t)))

-- Look-ups of the structs, the traits and the methods of tables: each gives the number. No struct and no trait has an empty name.
pub record AreLookUps (tables : Tables) (of_struct of_trait : List ℕ → Option ℕ) (of_method : ℕ → List ℕ → Option ℕ) : Type 0 where
  pub small : AreTablesSmall tables
  pub structs : (q : List ℕ) → of_struct q ≡ place_of q (map (λ s. s.name) tables.structs)
  pub traits : (q : List ℕ) → of_trait q ≡ place_of q (map (λ t. t.name) tables.traits)
  pub methods : (t : ℕ) (q : List ℕ) → of_method t q ≡ place_of q (map (λ m. m.name) (methods_of tables t))
  pub no_struct : place_of [] (map (λ s. s.name) tables.structs) ≡ None
  pub no_trait : place_of [] (map (λ t. t.name) tables.traits) ≡ None
