-- The domains of a part that no rule refuses: each has the lines of one domain, in order, numbered upwards.
use Rattle.std.proofs.Common.{◌≡◌, ℕ, zero, suc, ◌+◌, ◌<◌, ◌≤◌, ◌⊎◌, inl, inr, Bool, true, false, List, [], ◌∷◌, length, Option, Some, refl, sym, ap, subst, ◌∙◌, arith}
use Rattle.std.specs.Prelude.{slice_get, fold, All, if◌then◌else◌}
use Rattle.std.proofs.lemmas.List.Elements.{All-nil, All-cons}
use Rattle.rl_defs.specs.declared.bundle.Numbered.{Numbered}
use Rattle.rl_defs.specs.declared.code.DomainLine.{DomainLine}
use Rattle.rl_defs.specs.declared.code.DomainLine.TheVariants as line
use Rattle.rl_defs.specs.declared.code.DomainText.{DomainText}
use Rattle.rl_defs.specs.Domains.{Lines}
use Rattle.rl_defs.specs.Parts.{StandFor, numbered, next_open, block_behind, forms_of}
use Rattle.rl_defs.specs.DomainParts.{DomainBlock, Outside, Declares, BehindFunction, InFunction, BehindEnd, next_block, domain_part, begins_domain, rest_of_domain, domains_of}
use Rattle.rl_defs.specs.DomainParts.{LinesRise}
use Rattle.domain_code.specs.Laws.{StandsAlone, EachStandsAlone}
use Rattle.domain_code.proofs.DomainLaws.{domain_forms}
use Rattle.domain_code.proofs.OrderLaws.{next_is, nowhere_ordered}

-- ---- the numbers of the lines

from_head : (first : ℕ) (form : DomainLine) (more : Lines) (k : ℕ) (x : Numbered DomainLine) → ((i : ℕ) (y : Numbered DomainLine) → slice_get more i ≡ Some y → first + 1 ≤ y.line) → slice_get (numbered first form ∷ more) k ≡ Some x → first ≤ x.line
from_head first form more zero x above e = let same : numbered first form ≡ x = cc in omega (arith, ap (λ (y : Numbered DomainLine). y.line) same)
from_head first form more (suc k) x above e = omega (arith, above k x e)

-- no line's number is below the first text's
from_first : (first : ℕ) (texts : List (List ℕ)) (lines : Lines) (k : ℕ) (x : Numbered DomainLine) → StandFor domain_part first texts lines → slice_get lines k ≡ Some x → first ≤ x.line
from_first first [] lines k x h e = let none = sym (ap (λ (xs : Lines). slice_get xs k) h) ∙ e in absurd cc
from_first first (t ∷ texts) lines k x (inl h) e = omega (arith, from_first (first + 1) texts lines k x h.1 e)
from_first first (t ∷ texts) lines k x (inr (form, more, is, f, h)) e = from_head first form more k x (λ i y g. from_first (first + 1) texts more i y h g) (subst (λ (xs : Lines). slice_get xs k ≡ Some x) is e)

rises_behind : (l : Numbered DomainLine) (more : Lines) → ((k : ℕ) (x : Numbered DomainLine) → slice_get more k ≡ Some x → l.line < x.line) → LinesRise more → LinesRise (l ∷ more)
rises_behind l more above rises zero zero x y lt e g = absurd (omega (arith, lt))
rises_behind l more above rises zero (suc k) x y lt e g = let same : l ≡ x = cc in omega (arith, above k y g, ap (λ (z : Numbered DomainLine). z.line) same)
rises_behind l more above rises (suc j) zero x y lt e g = absurd (omega (arith, lt))
rises_behind l more above rises (suc j) (suc k) x y lt e g = rises j k x y (omega (arith, lt)) e g

part_rises : (first : ℕ) (texts : List (List ℕ)) (lines : Lines) → StandFor domain_part first texts lines → LinesRise lines
part_rises first [] lines h = subst LinesRise (sym h) (λ j k x y lt e g. absurd cc)
part_rises first (t ∷ texts) lines (inl h) = part_rises (first + 1) texts lines h.1
part_rises first (t ∷ texts) lines (inr (form, more, is, f, h)) =
    subst LinesRise (sym is) (rises_behind (numbered first form) more (λ k x e. omega (arith, from_first (first + 1) texts more k x h e)) (part_rises (first + 1) texts more h))

part_is_short : (first : ℕ) (texts : List (List ℕ)) (lines : Lines) → StandFor domain_part first texts lines → length lines ≤ length texts
part_is_short first [] lines h = omega (arith, ap (λ (xs : Lines). length xs) h)
part_is_short first (t ∷ texts) lines (inl h) = omega (arith, part_is_short (first + 1) texts lines h.1)
part_is_short first (t ∷ texts) lines (inr (form, more, is, f, h)) = omega (arith, part_is_short (first + 1) texts more h, ap (λ (xs : Lines). length xs) is)

-- ---- the lines of one domain

outside_or_not : (block : DomainBlock) → (block ≡ Outside) ⊎ (block ≡ Outside → ⊥)
outside_or_not Outside = inl refl
outside_or_not (Declares words slots native) = inr (λ e. cc)
outside_or_not BehindFunction = inr (λ e. cc)
outside_or_not InFunction = inr (λ e. cc)
outside_or_not BehindEnd = inr (λ e. cc)

-- a domain begins outside of any other
begins_outside : (block next : DomainBlock) (form : DomainLine) → begins_domain form ≡ true → next_block block form ≡ Some next → block ≡ Outside
begins_outside Outside next form begins allowed = refl
begins_outside (Declares words slots native) next (line.Domain name has) begins allowed = absurd cc
begins_outside BehindFunction next (line.Domain name has) begins allowed = absurd cc
begins_outside InFunction next (line.Domain name has) begins allowed = absurd cc
begins_outside BehindEnd next (line.Domain name has) begins allowed = absurd cc
begins_outside block next form begins allowed = absurd cc

-- the block behind these lines, from this one on
abbrev behind : DomainBlock → Lines → Option DomainBlock
behind block lines = fold (next_open domain_part) (Some block) (forms_of lines)

-- the lines up to the next domain lead outside
rest_at : (l : Numbered DomainLine) (ls : Lines) (block next : DomainBlock) (begins : Bool) → begins_domain l.form ≡ begins → next_block block l.form ≡ Some next → behind next (rest_of_domain ls) ≡ Some Outside → behind block (rest_of_domain (l ∷ ls)) ≡ Some Outside
rest_at l ls block next true begins allowed rest = rw begins (ap (λ (b : DomainBlock). Some b) (begins_outside block next l.form begins allowed))
rest_at l ls block next false begins allowed rest = rw begins (ap (λ (o : Option DomainBlock). fold (next_open domain_part) o (forms_of (rest_of_domain ls))) allowed ∙ rest)

rest_closed : (ls : Lines) (block : DomainBlock) → behind block ls ≡ Some Outside → behind block (rest_of_domain ls) ≡ Some Outside
rest_closed [] block closed = closed
rest_closed (l ∷ ls) block closed =
    let n = next_is domain_part block l.form (forms_of ls) (next_block block l.form) Outside refl closed in
    rest_at l ls block n.0 (begins_domain l.form) refl n.1 (rest_closed ls n.0 n.2)

rest_again_at : (l : Numbered DomainLine) (ls : Lines) (begins : Bool) → begins_domain l.form ≡ begins → rest_of_domain (rest_of_domain ls) ≡ rest_of_domain ls → rest_of_domain (rest_of_domain (l ∷ ls)) ≡ rest_of_domain (l ∷ ls)
rest_again_at l ls true begins rest = rw begins refl
rest_again_at l ls false begins rest = rw (begins, begins) (ap (λ (xs : Lines). l ∷ xs) rest)

rest_again : (ls : Lines) → rest_of_domain (rest_of_domain ls) ≡ rest_of_domain ls
rest_again [] = refl
rest_again (l ∷ ls) = rest_again_at l ls (begins_domain l.form) refl (rest_again ls)

rest_get_at : (l : Numbered DomainLine) (ls : Lines) (begins : Bool) (k : ℕ) (x : Numbered DomainLine) → begins_domain l.form ≡ begins → ((i : ℕ) → slice_get (rest_of_domain ls) i ≡ Some x → slice_get ls i ≡ Some x) → slice_get (if begins then [] else l ∷ rest_of_domain ls) k ≡ Some x → slice_get (l ∷ ls) k ≡ Some x
rest_get_at l ls true k x begins more e = absurd cc
rest_get_at l ls false zero x begins more e = e
rest_get_at l ls false (suc k) x begins more e = more k e

-- they are the first of the lines
rest_get : (ls : Lines) (k : ℕ) (x : Numbered DomainLine) → slice_get (rest_of_domain ls) k ≡ Some x → slice_get ls k ≡ Some x
rest_get [] k x e = e
rest_get (l ∷ ls) k x e = rest_get_at l ls (begins_domain l.form) k x refl (λ i h. rest_get ls i x h) e

rest_short_at : (l : Numbered DomainLine) (ls : Lines) (begins : Bool) → length (rest_of_domain ls) ≤ length ls → length (if begins then [] else l ∷ rest_of_domain ls) ≤ length (l ∷ ls)
rest_short_at l ls true rest = omega arith
rest_short_at l ls false rest = omega (arith, rest)

rest_short : (ls : Lines) → length (rest_of_domain ls) ≤ length ls
rest_short [] = omega arith
rest_short (l ∷ ls) = rest_short_at l ls (begins_domain l.form) (rest_short ls)

rises_later : (l : Numbered DomainLine) (ls : Lines) → LinesRise (l ∷ ls) → LinesRise ls
rises_later l ls rises j k x y lt e g = rises (suc j) (suc k) x y (omega (arith, lt)) e g

rises_rest : (l : Numbered DomainLine) (ls : Lines) → LinesRise (l ∷ ls) → LinesRise (l ∷ rest_of_domain ls)
rises_rest l ls rises =
    rises_behind l (rest_of_domain ls) (λ k x e. rises zero (suc k) l x (omega arith) refl (rest_get ls k x e))
    (λ j k x y lt e g. rises (suc j) (suc k) x y (omega (arith, lt)) (rest_get ls j x e) (rest_get ls k y g))

-- ---- the domains

one_alone : (most : ℕ) (l : Numbered DomainLine) (ls : Lines) (block next : DomainBlock) → begins_domain l.form ≡ true → next_block block l.form ≡ Some next → behind next ls ≡ Some Outside → LinesRise (l ∷ ls) → length (l ∷ ls) ≤ most → StandsAlone most (record { lines = l ∷ rest_of_domain ls })
one_alone most l ls block next begins allowed closed rises few =
    let outside = begins_outside block next l.form begins allowed in
    let first : next_block Outside l.form ≡ Some next = subst (λ (b : DomainBlock). next_block b l.form ≡ Some next) outside allowed in
    record {
      ordered = (begins, rest_again ls, ap (λ (o : Option DomainBlock). fold (next_open domain_part) o (forms_of (rest_of_domain ls))) first ∙ rest_closed ls next closed);
      rises = rises_rest l ls rises;
      short = omega (arith, few, rest_short ls);
    }

all_at : (most : ℕ) (l : Numbered DomainLine) (ls : Lines) (block next : DomainBlock) (begins : Bool) → begins_domain l.form ≡ begins → next_block block l.form ≡ Some next → behind next ls ≡ Some Outside → LinesRise (l ∷ ls) → length (l ∷ ls) ≤ most → All (StandsAlone most) (domains_of ls) → All (StandsAlone most) (domains_of (l ∷ ls))
all_at most l ls block next true begins allowed closed rises few more =
    rw begins (All-cons (StandsAlone most) (record { lines = l ∷ rest_of_domain ls }) (domains_of ls) (one_alone most l ls block next begins allowed closed rises few) more)
all_at most l ls block next false begins allowed closed rises few more = rw begins more

all_alone : (most : ℕ) (lines : Lines) (block : DomainBlock) → behind block lines ≡ Some Outside → LinesRise lines → length lines ≤ most → All (StandsAlone most) (domains_of lines)
all_alone most [] block closed rises few = All-nil (StandsAlone most)
all_alone most (l ∷ ls) block closed rises few =
    let n = next_is domain_part block l.form (forms_of ls) (next_block block l.form) Outside refl closed in
    all_at most l ls block n.0 (begins_domain l.form) refl n.1 n.2 rises few (all_alone most ls n.0 n.2 (rises_later l ls rises) (omega (arith, few)))

pub each_alone : EachStandsAlone
each_alone first texts domains none are =
    let closed : block_behind domain_part (forms_of are.lines) ≡ Some Outside = nowhere_ordered domain_part domain_forms outside_or_not first texts are.lines are.stand none in
    subst (λ (ds : List DomainText). All (StandsAlone (length texts)) ds) (sym are.cut) (all_alone (length texts) are.lines Outside closed (part_rises first texts are.lines are.stand) (part_is_short first texts are.lines are.stand))
