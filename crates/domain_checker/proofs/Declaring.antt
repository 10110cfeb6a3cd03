-- What a domain declares, line by line.
use Rattle.std.proofs.Common.{◌≡◌, ℕ, ◌+◌, ◌≤◌, List, [], ◌∷◌, ◌++◌, length, Option, Some, None, refl, sym, ap, subst, ◌∙◌, arith, map, length-append, append_assoc}
use Rattle.std.specs.Prelude.{slice_get, unwrap_or}
use Rattle.std.specs.Option.{option_map}
use Rattle.std.proofs.lemmas.List.{append-nil}
use Rattle.std.proofs.lemmas.Option.{slice_get-map}
use Rattle.rl_defs.specs.declared.code.DomainLine.{DomainLine}
use Rattle.rl_defs.specs.declared.code.DomainLine.TheVariants as line
use Rattle.rl_defs.specs.CodeNames.{Declared, type_of, slot_of_form, import_of_form}
use Rattle.domain_checker.specs.Numbering.{noted, declared_names, AreDeclared}
use Rattle.domain_checker.proofs.Naming.{Finds, finds_none, finds_more, finds_all}

-- What is kept as declarations are read: those in `rest` are to come.
pub record Declares (look : List ℕ → Option ℕ) (types : List ℕ) (number_of : List ℕ → ℕ) (rest all : List Declared) (at : ℕ) : Type 0 where
  pub places : Finds look (length types) (declared_names rest) (declared_names all)
  pub numbers : types ++ map (λ d. number_of d.ty) rest ≡ map (λ d. number_of d.ty) all
  pub few : length types ≤ at

pub declares_none : (look : List ℕ → Option ℕ) (types : List ℕ) (number_of : List ℕ → ℕ) (all : List Declared) → ((q : List ℕ) → look q ≡ None) → types ≡ [] → Declares look types number_of all all 0
declares_none look types number_of all none is = subst (λ ts. Declares look ts number_of all all 0) (sym is) (record { places = finds_none look (declared_names all) none; numbers = refl; few = omega arith })

-- one declaration more
pub declares_more : (old new : List ℕ → Option ℕ) (before types : List ℕ) (number_of : List ℕ → ℕ) (name ty : List ℕ) (number : ℕ) (rest next all : List Declared) (at : ℕ) → rest ≡ record { name = name; ty = ty } ∷ next → Declares old before number_of rest all at → ((q : List ℕ) → new q ≡ noted old name (length before) q) → types ≡ before ++ number ∷ [] → number ≡ number_of ty → Declares new types number_of next all (at + 1)
declares_more old new before types number_of name ty number rest next all at is h look more same =
    let one : length types ≡ length before + 1 = ap length more ∙ length-append before (number ∷ []) in
    record {
      places = subst (λ n. Finds new n (declared_names next) (declared_names all)) (sym one) (finds_more old new (length before) name (declared_names next) (declared_names all) (subst (λ ds. Finds old (length before) (declared_names ds) (declared_names all)) is h.places) look);
      numbers = ap (λ ts. ts ++ map (λ (d : Declared). number_of d.ty) next) more ∙ append_assoc before (number ∷ []) (map (λ (d : Declared). number_of d.ty) next) ∙ ap (λ n. before ++ n ∷ map (λ (d : Declared). number_of d.ty) next) same ∙ ap (λ ds. before ++ map (λ (d : Declared). number_of d.ty) ds) (sym is) ∙ h.numbers;
      few = omega (arith, h.few, one);
    }

-- a line that declares nothing
pub declares_same : (look : List ℕ → Option ℕ) (types : List ℕ) (number_of : List ℕ → ℕ) (rest next all : List Declared) (at : ℕ) → rest ≡ next → Declares look types number_of rest all at → Declares look types number_of next all (at + 1)
declares_same look types number_of rest next all at is h = subst (λ ds. Declares look types number_of ds all (at + 1)) is (record { places = h.places; numbers = h.numbers; few = omega (arith, h.few) })

pub declares_all : (look : List ℕ → Option ℕ) (types : List ℕ) (number_of : List ℕ → ℕ) (rest all : List Declared) (at : ℕ) → rest ≡ [] → Declares look types number_of rest all at → AreDeclared look types number_of all
declares_all look types number_of rest all at is h = record {
  places = finds_all look (length types) (declared_names all) (subst (λ ds. Finds look (length types) (declared_names ds) (declared_names all)) is h.places);
  numbers = sym (append-nil types) ∙ ap (λ ds. types ++ map (λ (d : Declared). number_of d.ty) ds) (sym is) ∙ h.numbers;
}

-- a line that is no slot, or no import, declares none
pub no_slot : (form : DomainLine) (others : List Declared) → ((name ty : List ℕ) → form ≡ line.Slot name ty → ⊥) → slot_of_form form others ≡ others
no_slot (line.Domain name has) others h = refl
no_slot (line.Words n) others h = refl
no_slot (line.Slot name ty) others h = absurd (h name ty refl)
no_slot (line.Import name has) others h = refl
no_slot (line.Native body) others h = refl
no_slot (line.Function name) others h = refl
no_slot (line.Head label items) others h = refl
no_slot (line.Code i) others h = refl
no_slot line.Close others h = refl

pub no_import : (form : DomainLine) (others : List Declared) → ((name has : List ℕ) → form ≡ line.Import name has → ⊥) → import_of_form form others ≡ others
no_import (line.Domain name has) others h = refl
no_import (line.Words n) others h = refl
no_import (line.Slot name ty) others h = refl
no_import (line.Import name has) others h = absurd (h name has refl)
no_import (line.Native body) others h = refl
no_import (line.Function name) others h = refl
no_import (line.Head label items) others h = refl
no_import (line.Code i) others h = refl
no_import line.Close others h = refl

-- the struct or trait at a place
pub type_number : (number_of : List ℕ → ℕ) (types : List ℕ) (declared : List Declared) (k : ℕ) → types ≡ map (λ d. number_of d.ty) declared → unwrap_or (slice_get types k) (number_of []) ≡ number_of (type_of (slice_get declared k))
type_number number_of types declared k is = ap (λ ts. unwrap_or (slice_get ts k) (number_of [])) is ∙ ap (λ o. unwrap_or o (number_of [])) (slice_get-map (λ (d : Declared). number_of d.ty) declared k) ∙ of (slice_get declared k) where
  of : (o : Option Declared) → unwrap_or (option_map (λ (d : Declared). number_of d.ty) o) (number_of []) ≡ number_of (type_of o)
  of None = refl
  of (Some d) = refl
