use Rattle.std.proofs.Common.{◌≡◌, ℕ, ◌+◌, Some, None, length, refl, sym, ap, subst, ◌∙◌, arith}
use Rattle.std.specs.Prelude.{slice_get}
use Rattle.std.proofs.lemmas.Option.{slice_get_read}
use Rattle.rl_defs.specs.DomainValue.{Domain}
use Rattle.rl_defs.specs.Domains.{Lines}
use Rattle.rl_defs.specs.CodeRules.{FailsCode}
use Rattle.rl_defs.proofs.FirstRefusal.{refuses}
use Rattle.domain_checker.specs.declared.rows.Kept.{Kept}
use Rattle.domain_checker.specs.Keeping.{AreRows}
use Rattle.domain_checker.proofs.Scanning.{none_first, rows_first, none_more, none_all, found_first, line_there, rows_there, rows_here, lowest_there}
use Rattle.domain_checker.proofs.scan.scan.Goals as goal

pub lines-init : goal.lines-init
lines-init c = record {
  at = c.first-here.ensures.place;
  of = c.first-here.ensures.scope;
  none = none_first c.args.scope.now;
  rows = rows_first c.args.scope.now c.new.result.items c.in_ok-rows.rows.items c.in_ok-rows.ensures.items;
}

pub keep-requires-clause-lines : goal.keep-requires-clause-lines
keep-requires-clause-lines c = c.requires.lines ∙ ap (λ (d : Domain). d.lines) (sym c.lines.invariant.of)

pub keep-requires-clause-here : goal.keep-requires-clause-here
keep-requires-clause-here c =
    let there : slice_get c.lines-lines.result.now c.lines.place ≡ Some c.index-lines-place.result = slice_get_read c.lines-lines.result.now (length c.lines-lines.result.now) c.lines.place c.index-lines-place.result refl c.lines-test.true c.index-lines-place.is in
    let here : slice_get c.args.scope.now.lines c.lines.place ≡ Some c.index-lines-place.result = subst (λ (ls : Lines). slice_get ls c.lines.place ≡ Some c.index-lines-place.result) c.lines-lines.ensures.value there in
    line_there c.args.scope.now c.lines.here.scope.now c.lines.here.place c.lines.place c.index-lines-place.result c.lines.invariant.of c.lines.invariant.at here

pub keep-requires-clause-rows : goal.keep-requires-clause-rows
keep-requires-clause-rows c = rows_there c.args.scope.now c.lines.here.scope.now c.lines.kept.emptied.items c.lines.kept.rows.items c.lines.here.place c.lines.place c.lines.invariant.of c.lines.invariant.at c.lines.invariant.rows

pub next-requires : goal.next-requires
next-requires c =
    let there : slice_get c.lines-lines.result.now c.lines.place ≡ Some c.index-lines-place.result = slice_get_read c.lines-lines.result.now (length c.lines-lines.result.now) c.lines.place c.index-lines-place.result refl c.lines-test.true c.index-lines-place.is in
    let here : slice_get c.args.scope.now.lines c.lines.place ≡ Some c.index-lines-place.result = subst (λ (ls : Lines). slice_get ls c.lines.place ≡ Some c.index-lines-place.result) c.lines-lines.ensures.value there in
    line_there c.args.scope.now c.lines.here.scope.now c.lines.here.place c.lines.place c.index-lines-place.result c.lines.invariant.of c.lines.invariant.at here

pub lines-preserved : goal.lines-preserved
lines-preserved c =
    let there : slice_get c.lines-lines.result.now c.lines.place ≡ Some c.index-lines-place.result = slice_get_read c.lines-lines.result.now (length c.lines-lines.result.now) c.lines.place c.index-lines-place.result refl c.lines-test.true c.index-lines-place.is in
    let here : slice_get c.args.scope.now.lines c.lines.place ≡ Some c.index-lines-place.result = subst (λ (ls : Lines). slice_get ls c.lines.place ≡ Some c.index-lines-place.result) c.lines-lines.ensures.value there in
    record {
      at = c.in_ok-next.ensures.place ∙ ap (λ (k : ℕ). k + 1) c.lines.invariant.at;
      of = c.in_ok-next.ensures.scope ∙ c.lines.invariant.of;
      none = none_more c.args.scope.now c.lines.place c.index-lines-place.result c.lines.invariant.none here (lowest_there c.args.scope.now c.lines.here.scope.now c.lines.here.place c.lines.place c.index-lines-place.result.form c.rule_of.result None c.lines.invariant.of c.lines.invariant.at c.in_default.is c.rule_of.ensures);
      rows = rows_here c.args.scope.now c.lines.here.scope.now c.keep.new.kept.emptied.items c.keep.new.kept.rows.items c.lines.here.place c.lines.place c.lines.invariant.of c.lines.invariant.at c.in_ok-keep.ensures;
    }

pub returns : goal.returns
returns c =
    let same : c.lines.place ≡ length c.args.scope.now.lines = omega (arith, ap length c.lines-lines.ensures.value, c.lines.auto.place-end) in
    (none_all c.args.scope.now c.lines.place (omega (arith, same)) c.lines.invariant.none, subst (λ (k : ℕ). AreRows c.args.scope.now c.lines.kept.emptied.items c.lines.kept.rows.items k) same c.lines.invariant.rows)

pub returns-in-Some : goal.returns-in-Some
returns-in-Some c =
    let there : slice_get c.lines-lines.result.now c.lines.place ≡ Some c.index-lines-place.result = slice_get_read c.lines-lines.result.now (length c.lines-lines.result.now) c.lines.place c.index-lines-place.result refl c.lines-test.true c.index-lines-place.is in
    let here : slice_get c.args.scope.now.lines c.lines.place ≡ Some c.index-lines-place.result = subst (λ (ls : Lines). slice_get ls c.lines.place ≡ Some c.index-lines-place.result) c.lines-lines.ensures.value there in
    refuses {X = Kept} (FailsCode c.args.scope.now) (λ (kept : Kept). AreRows c.args.scope.now kept.emptied.items kept.rows.items (length c.args.scope.now.lines)) c.refused.result c.index-lines-place.result.line c.in-Some.rule c.refused.ensures
    (found_first c.args.scope.now c.lines.place c.in-Some.rule c.index-lines-place.result c.requires.rises c.lines.invariant.none here (lowest_there c.args.scope.now c.lines.here.scope.now c.lines.here.place c.lines.place c.index-lines-place.result.form c.rule_of.result (Some c.in-Some.rule) c.lines.invariant.of c.lines.invariant.at c.in-Some.is c.rule_of.ensures))
