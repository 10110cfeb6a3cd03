use Rattle.std.proofs.Common.{◌≡◌, ◌+◌, length, drop, refl, ap, ◌∙◌, Some, nat_eq, slice_get}
use Rattle.std.specs.Cmp.Lexicographic.{pointwise}
use Rattle.std.proofs.lemmas.Option.{slice_get_read}
use Rattle.indexmap.specs.IndexMap.{get}
use Rattle.rl_defs.specs.declared.code.DomainLine.{DomainLine}
use Rattle.rl_defs.specs.CodeNames.{imports, trait_number, import_of_form}
use Rattle.rl_defs.proofs.Places.{drop_at}
use Rattle.domain_checker.proofs.Declaring.{declares_more, declares_same, no_import}
use Rattle.domain_checker.proofs.declared.imports_of.Goals as goal
use Rattle.domain_checker.proofs.declared.imports_of.Goals.{in-Import+in_ok-declare, in_default}

pub lines-preserved : goal.lines-preserved
lines-preserved c =
    let here : slice_get c.args.lines.now c.lines.line-index ≡ Some c.line-item.result = slice_get_read c.args.lines.now (length c.args.lines.now) c.lines.line-index c.line-item.result refl c.lines-test.true c.line-item.is in
    let next = imports (drop (c.lines.line-index + 1) c.args.lines.now) in
    let rest : imports (drop c.lines.line-index c.args.lines.now) ≡ import_of_form c.line-item.result.form next = ap imports (drop_at c.args.lines.now c.lines.line-index c.line-item.result here) in
    elim c.match-line.branch [
      | in-Import+in_ok-declare w ↦ rw w.declared-is (declares_more (get (pointwise nat_eq) c.lines.declared.places) (get (pointwise nat_eq) w.declare.new.declared.places) c.lines.declared.types w.declare.new.declared.types (trait_number c.args.tables.now) w.in-Import.name w.in-Import.has w.trait_number.result (imports (drop c.lines.line-index c.args.lines.now)) next (imports c.args.lines.now) c.lines.line-index (rest ∙ ap (λ (f : DomainLine). import_of_form f next) w.in-Import.is) c.lines.invariant (λ q. w.in_ok-declare.ensures.places q) w.in_ok-declare.ensures.types w.trait_number.ensures)
      | in_default w ↦ rw w.declared-is (declares_same (get (pointwise nat_eq) c.lines.declared.places) c.lines.declared.types (trait_number c.args.tables.now) (imports (drop c.lines.line-index c.args.lines.now)) next (imports c.args.lines.now) c.lines.line-index (rest ∙ no_import c.line-item.result.form next (λ name ty e. w.in_default.not-Import name ty e)) c.lines.invariant)
    ]
