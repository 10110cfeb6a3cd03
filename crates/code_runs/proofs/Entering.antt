-- Methods by their names, and the arguments that they are given.
use Rattle.std.proofs.Common.{◌≡◌, refl, sym, ◌∙◌, ap, subst, ℕ, zero, suc, ◌<◌, ◌^◌, Bool, true, false, cond, List, [], ◌∷◌, length, map, Option, Some, None, slice_get, arith, nat_eq}
use Rattle.std.specs.Option.{option_map}
use Rattle.std.specs.Cmp.Lexicographic.{pointwise}
use Rattle.std.proofs.lemmas.Slice.Eq.{slice_eq-Decides}
use Rattle.std.proofs.lemmas.Bool.Decides.{Decides-eqb}
use Rattle.std.proofs.lemmas.List.{length-map}
use Rattle.machine_defs.specs.declared.values.Arg.{Arg}
use Rattle.rl_defs.specs.declared.tables.MethodRow.{MethodRow}
use Rattle.rl_defs.specs.declared.tables.TraitRow.{TraitRow}
use Rattle.rl_defs.specs.declared.tables.Tables.{Tables}
use Rattle.rl_defs.specs.DomainValue.{Domain}
use Rattle.rl_defs.specs.Interfaces.{place_of}
use Rattle.rl_defs.specs.CodeNames.{rows_of, methods_of, method_number, method_named, row_at, domain_trait}
use Rattle.rl_defs.specs.Registers.{Typing}
use Rattle.rl_defs.specs.TableSizes.{AreTablesSmall}
use Rattle.machine_defs.specs.CodeFits.{are_values}
use Rattle.machine_defs.specs.CodeLaws.{FitsArguments}
use Rattle.machine_defs.specs.Arguments.{value_of}
use Rattle.machine_defs.proofs.CodeSafe.{place_below}
use Rattle.rl_defs.proofs.TableSizes.{all_at}
use Rattle.rl_defs.specs.TableSizes.{IsTraitSmall}
use Rattle.code_runs.specs.Entered.{are_given, method_for}
use Rattle.rl_defs.proofs.NamePlaces.{same_name, place_there}

get_map : (rows : List MethodRow) (k : ℕ) (row : MethodRow) → slice_get rows k ≡ Some row → slice_get (map (λ m. m.name) rows) k ≡ Some row.name
get_map [] k row e = absurd cc
get_map (x ∷ rows) zero row e = let same : x ≡ row = cc in ap (λ (m : MethodRow). Some m.name) same
get_map (x ∷ rows) (suc k) row e = get_map rows k row e

pub place_lt : (name : List ℕ) (rows : List MethodRow) (k : ℕ) → place_of name (map (λ m. m.name) rows) ≡ Some k → k < length rows
place_lt name rows k e =
    let lt = place_below name (map (λ m. m.name) rows) k e in
    let count = length-map rows (λ (m : MethodRow). m.name) in
    omega arith

few_rows : (traits : List TraitRow) (t : ℕ) (x : Option TraitRow) → slice_get traits t ≡ x → ((y : TraitRow) → slice_get traits t ≡ Some y → length y.methods < 2 ^ 32) → length (rows_of x) < 2 ^ 32
few_rows traits t None e few = omega arith
few_rows traits t (Some y) e few = few y e

few_methods : (tables : Tables) (t : ℕ) → AreTablesSmall tables → length (methods_of tables t) < 2 ^ 32
few_methods tables t small = few_rows tables.traits t (slice_get tables.traits t) refl (λ y e. (all_at IsTraitSmall tables.traits t y small.traits e).few)

-- a method's number is one
pub place_fits : (tables : Tables) (t : ℕ) (name : List ℕ) (rows : List MethodRow) (k : ℕ) → AreTablesSmall tables → rows ≡ methods_of tables t → place_of name (map (λ m. m.name) rows) ≡ Some k → k < 2 ^ 32
place_fits tables t name rows k small is e =
    let lt = place_lt name rows k e in
    let count = ap length is in
    let few = few_methods tables t small in
    omega arith

pub arguments_fit : (types : Typing) (d : Domain) (name : List ℕ) (of k : ℕ) (rows : List MethodRow) (row : MethodRow) (args : List Arg) → of ≡ domain_trait d → rows ≡ methods_of d.tables of → place_of name (map (λ m. m.name) rows) ≡ Some k → slice_get rows k ≡ Some row → are_values types row.params (map value_of args) ≡ true → FitsArguments types d k args
arguments_fit types d name of k rows row args trait is place here values =
    let all = is ∙ ap (λ t. methods_of d.tables t) trait in
    let there = sym (get_map rows k row here) ∙ place_there name (map (λ m. m.name) rows) k place in
    let called : row.name ≡ name = cc in
    record {
      method = row;
      named = ap (λ n. place_of n (map (λ m. m.name) (methods_of d.tables (domain_trait d)))) called ∙ (sym (ap (λ (xs : List MethodRow). place_of name (map (λ m. m.name) xs)) all) ∙ place);
      row = sym (ap (λ (xs : List MethodRow). slice_get xs k) all) ∙ here;
      values = values;
    }

number_is : (d : Domain) (name : List ℕ) (of : ℕ) (rows : List MethodRow) (found : Option ℕ) → of ≡ domain_trait d → rows ≡ methods_of d.tables of → place_of name (map (λ m. m.name) rows) ≡ found → method_number d.tables (domain_trait d) name ≡ found
number_is d name of rows found trait is place = sym (ap (λ (xs : List MethodRow). place_of name (map (λ m. m.name) xs)) (is ∙ ap (λ t. methods_of d.tables t) trait)) ∙ place

no_number : (b : Bool) (found : Option ℕ) → found ≡ None → None ≡ cond b found None
no_number true found e = sym e
no_number false found e = refl

-- the domain has no such method
pub no_method : (types : Typing) (d : Domain) (name : List ℕ) (of : ℕ) (rows : List MethodRow) (args : List Arg) → of ≡ domain_trait d → rows ≡ methods_of d.tables of → place_of name (map (λ m. m.name) rows) ≡ None → None ≡ method_for types d name args
no_method types d name of rows args trait is place =
    no_number (are_given types (method_named d.tables (domain_trait d) name) args) (method_number d.tables (domain_trait d) name) (number_is d name of rows None trait is place)

-- it has one, and the arguments are of its parameters or not
pub method_is : (types : Typing) (d : Domain) (name : List ℕ) (of k : ℕ) (rows : List MethodRow) (row : MethodRow) (args : List Arg) (b : Bool) → of ≡ domain_trait d → rows ≡ methods_of d.tables of → place_of name (map (λ m. m.name) rows) ≡ Some k → slice_get rows k ≡ Some row → are_values types row.params (map value_of args) ≡ b → cond b (Some k) None ≡ method_for types d name args
method_is types d name of k rows row args b trait is place here values =
    let number = number_is d name of rows (Some k) trait is place in
    let named = ap (λ n. row_at (methods_of d.tables (domain_trait d)) n) number ∙ (sym (ap (λ (xs : List MethodRow). slice_get xs k) (is ∙ ap (λ t. methods_of d.tables t) trait)) ∙ here) in
    sym (ap (λ c. cond c (method_number d.tables (domain_trait d) name) None) (ap (λ m. are_given types m args) named ∙ values) ∙ ap (λ n. cond b n None) number)
