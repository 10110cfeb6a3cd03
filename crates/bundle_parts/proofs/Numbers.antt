-- Numbers of lines that rise.
use Rattle.std.proofs.Common.{◌≡◌, ℕ, zero, suc, ◌+◌, ◌≤◌, inl, inr, true, false, Bool, List, [], ◌∷◌, ◌++◌, length, Some, refl, sym, ap, subst, arith}
use Rattle.std.specs.Prelude.{slice_get}
use Rattle.rl_defs.specs.declared.bundle.Numbered.{Numbered}
use Rattle.rl_defs.specs.declared.code.DomainLine.{DomainLine}
use Rattle.rl_defs.specs.Domains.{Lines}
use Rattle.rl_defs.specs.Parts.{Grammar, StandFor, numbered}
use Rattle.rl_defs.specs.DomainParts.{begins_domain, rest_of_domain, domains_of}
use Rattle.rl_defs.specs.BundleOrder.{numbers_of, Rise}
use Rattle.bundle_parts.specs.Cuts.{Ascends}
use Rattle.bundle_parts.specs.Parts.{numbers_of_domains}

pub from_lower : (from less upto : ℕ) (numbers : List ℕ) → less ≤ from → Ascends from numbers upto → Ascends less numbers upto
from_lower from less upto [] le h = omega (arith, le, h)
from_lower from less upto (n ∷ more) le h = (omega (arith, le, h.0), h.1)

pub one_behind : (a b c : ℕ) (xs ys : List ℕ) → Ascends a xs b → Ascends b ys c → Ascends a (xs ++ ys) c
one_behind a b c [] ys h g = from_lower b a c ys h g
one_behind a b c (n ∷ more) ys h g = (h.0, one_behind (n + 1) b c more ys h.1 g)

pub no_more_than : (from upto : ℕ) (numbers : List ℕ) → Ascends from numbers upto → from + length numbers ≤ upto
no_more_than from upto [] h = omega (arith, h)
no_more_than from upto (n ∷ more) h = omega (arith, h.0, no_more_than (n + 1) upto more h.1)

above : (from upto : ℕ) (numbers : List ℕ) (k x : ℕ) → Ascends from numbers upto → slice_get numbers k ≡ Some x → from ≤ x
above from upto [] k x h e = absurd cc
above from upto (n ∷ more) zero x h e = let same : n ≡ x = cc in omega (arith, h.0, same)
above from upto (n ∷ more) (suc k) x h e = omega (arith, h.0, above (n + 1) upto more k x h.1 e)

pub ascends_rise : (from upto : ℕ) (numbers : List ℕ) → Ascends from numbers upto → Rise numbers
ascends_rise from upto [] h j k x y lt e g = absurd cc
ascends_rise from upto (n ∷ more) h zero zero x y lt e g = absurd (omega (arith, lt))
ascends_rise from upto (n ∷ more) h zero (suc k) x y lt e g = let same : n ≡ x = cc in omega (arith, above (n + 1) upto more k y h.1 g, same)
ascends_rise from upto (n ∷ more) h (suc j) zero x y lt e g = absurd (omega (arith, lt))
ascends_rise from upto (n ∷ more) h (suc j) (suc k) x y lt e g = ascends_rise (n + 1) upto more h.1 j k x y (omega (arith, lt)) e g

-- the lines that texts stand for are numbered upwards
pub part_ascends : {Form Block : Type 0} (G : Grammar Form Block) (first : ℕ) (texts : List (List ℕ)) (lines : List (Numbered Form)) → StandFor G first texts lines → Ascends first (numbers_of lines) (first + length texts)
part_ascends {Form} G first [] lines h = subst (λ (xs : List (Numbered Form)). Ascends first (numbers_of xs) (first + 0)) (sym h) (omega arith)
part_ascends {Form} G first (text ∷ texts) lines (inl h) =
    let same : first + 1 + length texts ≡ first + length (text ∷ texts) = omega arith in
    let later : Ascends (first + 1) (numbers_of lines) (first + length (text ∷ texts)) = subst (Ascends (first + 1) (numbers_of lines)) same (part_ascends G (first + 1) texts lines h.1) in
    from_lower (first + 1) first (first + length (text ∷ texts)) (numbers_of lines) (omega arith) later
part_ascends {Form} G first (text ∷ texts) lines (inr (form, more, is, f, h)) =
    let same : first + 1 + length texts ≡ first + length (text ∷ texts) = omega arith in
    let later : Ascends (first + 1) (numbers_of more) (first + length (text ∷ texts)) = subst (Ascends (first + 1) (numbers_of more)) same (part_ascends G (first + 1) texts more h) in
    let whole : Ascends first (numbers_of (numbered first form ∷ more)) (first + length (text ∷ texts)) = (omega arith, later) in
    subst (λ (xs : List (Numbered Form)). Ascends first (numbers_of xs) (first + length (text ∷ texts))) (sym is) whole

-- ---- the numbers of domains

-- the rest of a domain and the domains behind it are all lines
rest_step : (l : Numbered DomainLine) (ls : Lines) (b : Bool) → begins_domain l.form ≡ b → numbers_of (rest_of_domain ls) ++ numbers_of_domains (domains_of ls) ≡ numbers_of ls → numbers_of (rest_of_domain (l ∷ ls)) ++ numbers_of_domains (domains_of (l ∷ ls)) ≡ numbers_of (l ∷ ls)
rest_step l ls true e more = rw e (ap (λ (xs : List ℕ). l.line ∷ xs) more)
rest_step l ls false e more = rw e (ap (λ (xs : List ℕ). l.line ∷ xs) more)

rest_and_domains : (ls : Lines) → numbers_of (rest_of_domain ls) ++ numbers_of_domains (domains_of ls) ≡ numbers_of ls
rest_and_domains [] = refl
rest_and_domains (l ∷ ls) = rest_step l ls (begins_domain l.form) refl (rest_and_domains ls)

domains_step : (from upto : ℕ) (l : Numbered DomainLine) (ls : Lines) (b : Bool) → begins_domain l.form ≡ b → Ascends from (numbers_of (l ∷ ls)) upto → Ascends (l.line + 1) (numbers_of_domains (domains_of ls)) upto → Ascends from (numbers_of_domains (domains_of (l ∷ ls))) upto
domains_step from upto l ls true e h later = rw e (h.0, subst (λ (ns : List ℕ). Ascends (l.line + 1) ns upto) (sym (rest_and_domains ls)) h.1)
domains_step from upto l ls false e h later = rw e (from_lower (l.line + 1) from upto (numbers_of_domains (domains_of ls)) (omega (arith, h.0)) later)

-- domains are numbered upwards where their lines are
pub domains_ascend : (from upto : ℕ) (ls : Lines) → Ascends from (numbers_of ls) upto → Ascends from (numbers_of_domains (domains_of ls)) upto
domains_ascend from upto [] h = h
domains_ascend from upto (l ∷ ls) h = domains_step from upto l ls (begins_domain l.form) refl h (domains_ascend (l.line + 1) upto ls h.1)
