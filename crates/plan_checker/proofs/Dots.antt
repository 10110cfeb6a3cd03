-- What a `bind` line binds, as a pair of names and as the names parted by a dot.
use Rattle.std.proofs.Common.{◌≡◌, ℕ, suc, Bool, true, false, not, ◌&&◌, cond, nat_eq, List, [], ◌∷◌, ◌++◌, Option, Some, None, refl, sym, ap, subst, ◌∙◌, eqb-true}
use Rattle.std.specs.Prelude.{slice_get, is_none, is_some, IsTrue}
use Rattle.std.specs.List.{flat_map, list_all}
use Rattle.std.specs.Option.{option_map}
use Rattle.std.specs.Cmp.Lexicographic.{pointwise}
use Rattle.std.proofs.lemmas.Bool.{false_from_ne_true}
use Rattle.rl_defs.specs.declared.bundle.Numbered.{Numbered}
use Rattle.rl_defs.specs.declared.bundle.PlanLine.{PlanLine}
use Rattle.rl_defs.specs.declared.bundle.PlanLine.TheVariants as plan
use Rattle.rl_defs.specs.Words.{is_word, starts_word, is_word_byte, is_name, is_reserved, same_bytes}
use Rattle.rl_defs.specs.Interfaces.{place_of}
use Rattle.rl_defs.specs.BundleNames.{given_by, names_of, bind_given}
use Rattle.rl_defs.specs.LoadOf.{bound_in}
use Rattle.plan_checker.specs.Lookups.{PlanLines, bound_at}

-- no byte is a dot
abbrev pub NoDot : List ℕ → Type 0
NoDot [] = Unit {0}
NoDot (c ∷ cs) = (c ≡ 46 → ⊥) × NoDot cs

both : (a b : Bool) → (a && b) ≡ true → (a ≡ true) × (b ≡ true)
both true true e = (refl, refl)
both true false e = absurd cc
both false b e = absurd cc

dot_is_none : is_word_byte 46 ≡ true → ⊥
dot_is_none e = absurd cc

words_no_dot : (cs : List ℕ) → list_all is_word_byte cs ≡ true → NoDot cs
words_no_dot [] e = tt
words_no_dot (c ∷ cs) e = let parts = both (is_word_byte c) (list_all is_word_byte cs) e in (λ is. dot_is_none (subst (λ (n : ℕ). is_word_byte n ≡ true) is parts.0), words_no_dot cs parts.1)

pub name_no_dot : (name : List ℕ) → IsTrue (is_name name) → NoDot name
name_no_dot name h = words_no_dot name (both (starts_word name && Rattle.std.specs.Prelude.nat_le (Rattle.std.specs.Prelude.length name) 24) (list_all is_word_byte name) (both (is_word name) (not (is_reserved name)) h).0).1

and_three : (a b c : Bool) → (a && (b && c)) ≡ ((a && b) && c)
and_three true b c = refl
and_three false b c = refl

-- names without dots are the same on both sides of a dot exactly where the whole is
pub parts_same : (load import q r : List ℕ) → NoDot load → NoDot q → pointwise nat_eq (load ++ 46 ∷ import) (q ++ 46 ∷ r) ≡ (same_bytes load q && same_bytes import r)
parts_same [] import [] r l k = refl
parts_same [] import (d ∷ q) r l k = ap (λ (b : Bool). b && pointwise nat_eq import (q ++ 46 ∷ r)) (false_from_ne_true (nat_eq 46 d) (λ e. k.0 (sym (eqb-true 46 d e))))
parts_same (c ∷ load) import [] r l k = ap (λ (b : Bool). b && pointwise nat_eq (load ++ 46 ∷ import) r) (false_from_ne_true (nat_eq c 46) (λ e. l.0 (eqb-true c 46 e)))
parts_same (c ∷ load) import (d ∷ q) r l k = ap (λ (b : Bool). nat_eq c d && b) (parts_same load import q r l.1 k.1) ∙ and_three (nat_eq c d) (same_bytes load q) (same_bytes import r)

-- The loads of the `bind` lines have no dots.
pub record NoDots (lines : PlanLines) : Type 0 where
  pub each : (k n : ℕ) (load import target : List ℕ) → slice_get lines k ≡ Some (record { line = n; form = plan.Bind load import target }) → NoDot load

none_more : (p s : Bool) (target : List ℕ) (place : Option ℕ) (bound : List (List ℕ)) → p ≡ s → is_none place ≡ is_none (slice_get bound 0) → is_none (cond p (Some 0) (option_map (λ (i : ℕ). suc i) place)) ≡ is_none (slice_get (cond s (target ∷ []) [] ++ bound) 0)
none_more true true target place bound e h = refl
none_more false false target None bound e h = h
none_more false false target (Some k) bound e h = h
none_more true false target place bound e h = absurd cc
none_more false true target place bound e h = absurd cc

bound_step : (form : PlanLine) (n : ℕ) (ls : PlanLines) (q r : List ℕ) → ((load import target : List ℕ) → form ≡ plan.Bind load import target → NoDot load) → NoDot q → is_none (place_of (q ++ 46 ∷ r) (names_of (given_by bind_given ls))) ≡ is_none (bound_at ls q r) → is_none (place_of (q ++ 46 ∷ r) (names_of (given_by bind_given (record { line = n; form = form } ∷ ls)))) ≡ is_none (bound_at (record { line = n; form = form } ∷ ls) q r)
bound_step (plan.Bind load import target) n ls q r dots k e = none_more (pointwise nat_eq (load ++ 46 ∷ import) (q ++ 46 ∷ r)) (same_bytes load q && same_bytes import r) target (place_of (q ++ 46 ∷ r) (names_of (given_by bind_given ls))) (flat_map (λ (l : Numbered PlanLine). bound_in q r l.form) ls) (parts_same load import q r (dots load import target refl) k) e
bound_step (plan.Load name domain) n ls q r dots k e = e
bound_step (plan.Shadow name load restarts) n ls q r dots k e = e
bound_step (plan.Device load blocks) n ls q r dots k e = e
bound_step (plan.Serial load) n ls q r dots k e = e
bound_step (plan.Fuel m) n ls q r dots k e = e
bound_step (plan.Order clients) n ls q r dots k e = e

-- an import is bound by a pair exactly where it is by the names parted by a dot
pub bound_same : (lines : PlanLines) (q r : List ℕ) → NoDots lines → NoDot q → is_none (place_of (q ++ 46 ∷ r) (names_of (given_by bind_given lines))) ≡ is_none (bound_at lines q r)
bound_same [] q r h k = refl
bound_same (l ∷ ls) q r h k = bound_step l.form l.line ls q r (λ load import target e. h.each 0 l.line load import target (ap (λ (f : PlanLine). Some (record { line = l.line; form = f })) e)) k (bound_same ls q r (record { each = λ j n load import target e. h.each (suc j) n load import target e }) k)
