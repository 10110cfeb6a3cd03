-- What was right of a pool of registers stays so as the pool grows.
use Rattle.std.proofs.Common.{◌≡◌, ap, sym, subst, ◌∙◌, ℕ, ◌+◌, ◌-◌, ◌≤◌, List, ◌++◌, length, take, drop, slice_range, arith, length-append, append_assoc}
use Rattle.std.proofs.lemmas.List.{take-append-le, drop-append-le, length-drop}
use Rattle.rl_defs.specs.declared.code.Register.{Register}
use Rattle.rl_defs.specs.declared.checked.Way.{Way}
use Rattle.rl_defs.specs.declared.checked.LineRow.{LineRow}
use Rattle.rl_defs.specs.DomainValue.{Domain}
use Rattle.rl_defs.specs.LineRows.{LeadsHere, LeadsToLabel}
use Rattle.rl_defs.specs.Checked.{IsWithin, emptied_on, IsRow}
use Rattle.domain_checker.specs.Heads.{Grows}

pub grows_twice : (a b : ℕ) (old between new : List Register) → Grows a old between → Grows b between new → Grows (a + b) old new
grows_twice a b old between new first second = record {
  added = first.added ++ second.added;
  behind = second.behind ∙ (ap (λ xs. xs ++ second.added) first.behind ∙ append_assoc old first.added second.added);
  few = omega (arith, first.few, second.few, length-append first.added second.added);
}

pub within_grown : (most : ℕ) (old new : List Register) (way : Way) → Grows most old new → IsWithin old way → IsWithin new way
within_grown most old new way grows within = record {
  ordered = within.ordered;
  inside = omega (arith, within.inside, ap length grows.behind, length-append old grows.added);
}

front_range : (xs ys : List Register) (from to : ℕ) → from ≤ to → to ≤ length xs → slice_range (xs ++ ys) from to ≡ slice_range xs from to
front_range xs ys from to ordered inside =
    ap (take (to - from)) (drop-append-le from xs ys (omega arith))
    ∙ take-append-le (to - from) (drop from xs) ys (omega (arith, length-drop from xs))

pub emptied_grown : (most : ℕ) (old new : List Register) (way : Way) → Grows most old new → IsWithin old way → emptied_on new way ≡ emptied_on old way
emptied_grown most old new way grows within =
    ap (λ xs. emptied_on xs way) grows.behind ∙ front_range old grows.added way.from way.to within.ordered within.inside

-- a row that is right stays so
pub row_grown : (d : Domain) (most : ℕ) (old new : List Register) (n : ℕ) (row : LineRow) → Grows most old new → IsRow d old n row → IsRow d new n row
row_grown d most old new n row grows is = record {
  here_within = within_grown most old new row.here grows is.here_within;
  jump_within = within_grown most old new row.jump grows is.jump_within;
  here = subst (LeadsHere d n row.here.line) (sym (emptied_grown most old new row.here grows is.here_within)) is.here;
  names = is.names;
  jump = λ k i at. subst (LeadsToLabel d n i row.jump.line) (sym (emptied_grown most old new row.jump grows is.jump_within)) (is.jump k i at);
}
