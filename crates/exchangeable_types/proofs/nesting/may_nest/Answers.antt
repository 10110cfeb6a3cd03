use Rattle.std.proofs.Common.{◌≡◌, ◌<◌, [], List, ℕ, Bool, true, false, Some, length, arith, sym, ap, subst, ◌∙◌, get_or}
use Rattle.std.specs.Prelude.{slice_set}
use Rattle.std.proofs.lemmas.Grind.{common_steps}
use Rattle.std.proofs.lemmas.Option.{slice_get-get_or}
use Rattle.exchangeable_types.specs.Nesting.{Passing, IsPass}
use Rattle.exchangeable_types.proofs.Nests.{first_passed}
use Rattle.exchangeable_types.proofs.nesting.may_nest.Goals as goal

pub returns-then-as_slice-first : goal.returns-then-as_slice-first
returns-then-as_slice-first c =
    let lt : c.args.first < length c.args.passed.now.items = omega (arith, c.requires.below, c.requires.passing.count) in
    record {
      searching = c.requires.searching;
      passing = c.requires.passing;
      here = slice_get-get_or c.args.passed.now.items c.args.first false lt ∙ ap (λ (b : Bool). Some b) (ap (λ (xs : List Bool). get_or xs c.args.first false) (sym c.as_slice.ensures.value) ∙ c.if-as_slice-first.true);
    }

pub scan-requires-clause-passing : goal.scan-requires-clause-passing
scan-requires-clause-passing c =
    let lt : c.args.first < length c.args.passed.now.items = omega (arith, c.requires.below, c.requires.passing.count) in
    (first_passed c.args.part.now.lines.now c.args.passed.now.items c.new-waiting.result.items c.args.first c.requires.passing lt (slice_get-get_or c.args.passed.now.items c.args.first false lt ∙ ap (λ (b : Bool). Some b) (ap (λ (xs : List Bool). get_or xs c.args.first false) (sym c.as_slice.ensures.value) ∙ c.if-as_slice-first.false)) c.new-waiting.ensures.items).0

pub search-init : goal.search-init
search-init c =
    let lt : c.args.first < length c.args.passed.now.items = omega (arith, c.requires.below, c.requires.passing.count) in
    let marked = first_passed c.args.part.now.lines.now c.args.passed.now.items c.new-waiting.result.items c.args.first c.requires.passing lt (slice_get-get_or c.args.passed.now.items c.args.first false lt ∙ ap (λ (b : Bool). Some b) (ap (λ (xs : List Bool). get_or xs c.args.first false) (sym c.as_slice.ensures.value) ∙ c.if-as_slice-first.false)) c.new-waiting.ensures.items in
    let scanned = subst (λ (b : Bool). IsPass c.args.part.now.lines.now c.scan.new.seen.items (slice_set c.args.passed.now.items c.args.first true) c.scan.new.passed.items c.new-waiting.result.items c.scan.new.waiting.items b) c.if-branch.false c.in_ok-scan.ensures in
    record { searching = scanned.0; passing = scanned.1.passing; here = scanned.1.stays c.args.first marked.1 }

pub search-preserved : goal.search-preserved
search-preserved c =
    let scanned = subst (λ (b : Bool). IsPass c.args.part.now.lines.now c.scan-in-Some.new.seen.items c.search.passed.items c.scan-in-Some.new.passed.items c.pop.new.self.items c.scan-in-Some.new.waiting.items b) c.if-branch-2.false c.in_ok-scan-2.ensures in
    record { searching = scanned.0; passing = scanned.1.passing; here = scanned.1.stays c.args.first c.search.invariant.here }

pub returns : goal.returns
returns c =
    let empty : c.search.waiting.items ≡ [] = grind (arith, common_steps) in
    record {
      searching = c.search.invariant.searching;
      passing = subst (λ (xs : List ℕ). Passing c.args.part.now.lines.now c.search.passed.items xs) empty c.search.invariant.passing;
      here = c.search.invariant.here;
    }
