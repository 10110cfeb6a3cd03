-- The tables of a valid load: no method lends its result.
use Rattle.std.proofs.Common.{◌≡◌, ℕ, suc, Bool, true, not, List, [], ◌∷◌, Option, Some, None, slice_get, refl}
use Rattle.std.specs.List.{list_all}
use Rattle.rl_defs.specs.declared.tables.Kind.{Kind}
use Rattle.rl_defs.specs.declared.tables.Kind.TheVariants as kind
use Rattle.rl_defs.specs.declared.tables.MethodRow.{MethodRow}
use Rattle.rl_defs.specs.declared.tables.Tables.{Tables}
use Rattle.rl_defs.specs.CodeNames.{method_number, method_named, methods_of, row_at, results_of}
use Rattle.rl_defs.specs.Valid.{AreValidTables}
use Rattle.rl_defs.proofs.ValidFacts.{method_at, lends_none}
use Rattle.machine_laws.specs.Registers.{is_lent_kind}

abbrev is_plain : Kind → Bool
is_plain k = not (is_lent_kind k)

plain_all : (kinds : List Kind) → ((p s : ℕ) → slice_get kinds p ≡ Some (kind.Lent s) → ⊥) → list_all is_plain kinds ≡ true
plain_all [] none = refl
plain_all (kind.Num w ∷ kinds) none = plain_all kinds (λ p s e. none (suc p) s e)
plain_all (kind.Own s ∷ kinds) none = plain_all kinds (λ p s e. none (suc p) s e)
plain_all (kind.Cap t ∷ kinds) none = plain_all kinds (λ p s e. none (suc p) s e)
plain_all (kind.Lent s ∷ kinds) none = absurd (none 0 s refl)

-- no method lends its result
pub results_plain : (tables : Tables) → AreValidTables tables → (t : ℕ) (name : List ℕ) → list_all is_plain (results_of (method_named tables t name)) ≡ true
results_plain tables v t name = by (method_number tables t name) where
  at : (m : ℕ) (o : Option MethodRow) → slice_get (methods_of tables t) m ≡ o → list_all is_plain (results_of o) ≡ true
  at m None e = refl
  at m (Some r) e = plain_all r.results (lends_none tables r (method_at tables v t m r e))

  by : (o : Option ℕ) → list_all is_plain (results_of (row_at (methods_of tables t) o)) ≡ true
  by None = refl
  by (Some m) = at m (slice_get (methods_of tables t) m) refl
