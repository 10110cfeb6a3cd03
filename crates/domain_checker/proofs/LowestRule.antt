-- The lowest rule that a line breaks.
use Rattle.std.proofs.Common.{◌≡◌, ℕ, ◌≤◌, Bool, true, false, not, ◌&&◌, ◌||◌, ◌==◌, List, [], ◌∷◌, Option, Some, refl, sym, subst, ap, arith, cond, eq-eqb, eqb-true}
use Rattle.std.specs.List.{list_any}
use Rattle.rl_defs.specs.declared.code.DomainLine.{DomainLine}
use Rattle.rl_defs.specs.DomainValue.{Domain}
use Rattle.rl_defs.specs.CodeKinds.{kinds_at}
use Rattle.rl_defs.specs.CodeRules.{Sentence, breaks}
use Rattle.domain_checker.specs.Lowest.{lowest, from_30, IsLowest}

-- no rule is lower than one before it, from this one on
abbrev Rise : ℕ → List Sentence → Type 0
Rise k [] = Unit {0}
Rise k (s ∷ more) = (k ≤ s.0) × Rise s.0 more

abbrev broken_in : List Sentence → ℕ → Bool
broken_in all rule = list_any (λ s. not s.1 && (s.0 == rule)) all

above_at : (kept : Bool) (rule k r : ℕ) (rest : Bool) → k ≤ rule → (rest ≡ true → rule ≤ r) → ((not kept && (rule == r)) || rest) ≡ true → k ≤ r
above_at true rule k r rest le more h = omega (arith, le, more h)
above_at false rule k r rest le more h = by_test (rule == r) refl h where
  by_test : (same : Bool) → (rule == r) ≡ same → (same || rest) ≡ true → k ≤ r
  by_test true e t = omega (arith, le, eqb-true rule r e)
  by_test false e t = omega (arith, le, more t)

above : (k : ℕ) (all : List Sentence) (r : ℕ) → Rise k all → broken_in all r ≡ true → k ≤ r
above k [] r rise b = absurd cc
above k (s ∷ more) r rise b = above_at s.1 s.0 k r (broken_in more r) rise.0 (λ h. above s.0 more r rise.1 h) b

lowest_at : (kept : Bool) (rule : ℕ) (more : List Sentence) → IsLowest (broken_in more) (lowest more) → Rise rule more → IsLowest (λ r. (not kept && (rule == r)) || broken_in more r) (cond kept (lowest more) (Some rule))
lowest_at true rule more h rise = h
lowest_at false rule more h rise = (ap (λ b. b || broken_in more rule) (eq-eqb rule rule refl), λ r e. above_at false rule rule r (broken_in more r) (omega arith) (λ f. above rule more r rise f) e)

lowest_of : (k : ℕ) (all : List Sentence) → Rise k all → IsLowest (broken_in all) (lowest all)
lowest_of k [] rise = λ r. refl
lowest_of k (s ∷ more) rise = lowest_at s.1 s.0 more (lowest_of s.0 more rise.1) rise.1

-- the sentences of a line are in the order of the rules
pub lowest_rule : (d : Domain) (n : ℕ) (form : DomainLine) (rule : Option ℕ) → rule ≡ lowest (from_30 d n (kinds_at d n) form) → IsLowest (breaks d n form) rule
lowest_rule d n form rule is =
    subst (IsLowest (breaks d n form)) (sym is) (lowest_of 30 (from_30 d n (kinds_at d n) form)
    (omega arith, (omega arith, (omega arith, (omega arith, (omega arith, (omega arith, (omega arith, (omega arith, (omega arith, (omega arith, (omega arith, (omega arith, (omega arith, (omega arith, (omega arith, (omega arith, (omega arith, (omega arith, tt)))))))))))))))))))
