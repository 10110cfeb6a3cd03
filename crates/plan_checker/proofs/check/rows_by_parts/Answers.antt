use Rattle.std.proofs.Common.{subst}
use Rattle.std.proofs.lemmas.Result.{err_from_is_err_and}
use Rattle.rl_defs.specs.declared.bundle.Bundle.{Bundle}
use Rattle.rl_defs.specs.Refusals.{Nowhere}
use Rattle.plan_checker.specs.Parts.{FailsParts}
use Rattle.plan_checker.specs.Rows.{AreRowsOf, bundle_with}
use Rattle.plan_checker.proofs.Composing.{within, parts_refuse}
use Rattle.plan_checker.proofs.check.rows_by_parts.Goals as goal

pub rows_of-requires-clause-within : goal.rows_of-requires-clause-within
rows_of-requires-clause-within c = within c.args.domains.now c.in_ok-tables.tables c.args.clients.now c.in_ok-check_parts.ensures.0

pub returns-in_err-check_parts : goal.returns-in_err-check_parts
returns-in_err-check_parts c =
    let p = err_from_is_err_and c.from_residual-in_err-check_parts.result c.from_residual-in_err-check_parts.ensures.1 in
    rw (p.1, p.2) (parts_refuse c.args.domains.now c.args.lines.now c.args.clients.now c.in_ok-tables.tables c.in_err-check_parts.field-0.0 c.in_ok-tables.ensures.value c.in_ok-tables.ensures.names c.in_err-check_parts.ensures)

pub returns-in_err-rows_of : goal.returns-in_err-rows_of
returns-in_err-rows_of c = let p = err_from_is_err_and c.from_residual-in_err-rows_of.result c.from_residual-in_err-rows_of.ensures.1 in rw (p.1, p.2) tt

pub returns : goal.returns
returns c =
    let same = c.in_ok-tables.ensures.value in
    (c.in_ok-tables.ensures.names, subst (λ (b : Bundle). Nowhere (FailsParts c.args.domains.now b c.args.clients.now)) same c.in_ok-check_parts.ensures.0, subst (λ (b : Bundle). AreRowsOf (bundle_with b c.args.clients.now) c.in_ok-rows_of.field-0) same c.in_ok-rows_of.ensures)
