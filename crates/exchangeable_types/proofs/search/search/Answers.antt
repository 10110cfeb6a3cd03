use Rattle.std.proofs.Common.{◌≡◌, [], List, ℕ, Bool, arith, subst}
use Rattle.std.proofs.lemmas.Grind.{common_steps}
use Rattle.exchangeable_types.specs.Search.{Searching, AllLead, Marks, IsScan}
use Rattle.exchangeable_types.proofs.Searches.{search_begins, search_found, search_ends}
use Rattle.exchangeable_types.proofs.search.search.Goals as goal

pub search-init : goal.search-init
search-init c =
    let marks = subst (λ (xs : List ℕ). Marks c.args.seen.now.items c.mark.new.seen.items xs c.mark.new.waiting.items c.args.first) c.new-waiting.ensures.items c.in_ok-mark.ensures in
    let begins = search_begins c.args.part.now.lines.now c.args.seen.now.items c.mark.new.seen.items c.mark.new.waiting.items c.args.first c.requires.searching (omega (arith, c.requires.below, c.requires.searching.count)) marks in
    record { searching = begins.0; leads = begins.1; here = marks.here }

pub returns-then-branch : goal.returns-then-branch
returns-then-branch c =
    let found = subst (λ (b : Bool). IsScan c.args.part.now.lines.now c.search.seen.items c.scan.new.seen.items c.pop.new.self.items c.scan.new.waiting.items c.in-Some.number b) c.if-branch.true c.in_ok-scan.ensures in
    search_found c.args.part.now.lines.now c.pop.new.self.items c.args.first c.in-Some.number (subst (λ (xs : List ℕ). AllLead c.args.part.now.lines.now xs c.args.first) c.in-Some.ensures.items c.search.invariant.leads) found

pub search-preserved : goal.search-preserved
search-preserved c =
    let scanned = subst (λ (b : Bool). IsScan c.args.part.now.lines.now c.search.seen.items c.scan.new.seen.items c.pop.new.self.items c.scan.new.waiting.items c.in-Some.number b) c.if-branch.false c.in_ok-scan.ensures in
    record {
      searching = scanned.searching;
      leads = scanned.leads c.args.first (subst (λ (xs : List ℕ). AllLead c.args.part.now.lines.now xs c.args.first) c.in-Some.ensures.items c.search.invariant.leads);
      here = scanned.stays c.args.first c.search.invariant.here;
    }

pub returns : goal.returns
returns c =
    let empty : c.search.waiting.items ≡ [] = grind (arith, common_steps) in
    let searching = subst (λ (xs : List ℕ). Searching c.args.part.now.lines.now c.search.seen.items xs) empty c.search.invariant.searching in
    (searching, search_ends c.args.part.now.lines.now c.search.seen.items c.args.first searching c.search.invariant.here)
