use Rattle.std.proofs.Common.{◌<◌, length, sym, ap, subst, ◌∙◌, arith}
use Rattle.std.specs.Prelude.{IfSome}
use Rattle.rl_defs.specs.declared.code.DomainLine.{DomainLine}
use Rattle.rl_defs.specs.Domains.{Lines}
use Rattle.rl_defs.specs.CodeKinds.{at_label}
use Rattle.rl_defs.specs.CodeNames.{place_of_label}
use Rattle.rl_defs.specs.CodeNames.{label_of_form}
use Rattle.rl_defs.specs.LineRows.{Leads}
use Rattle.rl_defs.specs.declared.checked.LineRow.{LineRow}
use Rattle.rl_defs.specs.Checked.{IsRow, emptied_on}
use Rattle.domain_checker.proofs.RowLaws.{row_code, row_other, grows_more}
use Rattle.domain_checker.proofs.Plain.{row_plain}
use Rattle.domain_checker.proofs.rows.row_of.Goals as goal

pub jump_way-requires-clause-label : goal.jump_way-requires-clause-label
jump_way-requires-clause-label c = subst (λ (ls : Lines). IfSome c.target-to.result (λ p. p < length ls)) (sym c.requires.lines) c.target-to.ensures.within

pub returns-in_ok-jump-in-Code-clause-row : goal.returns-in_ok-jump-in-Code-clause-row
returns-in_ok-jump-in-Code-clause-row c =
    row_code c.args.here.now.scope.now c.args.here.now.place c.args.line.now c.in-Code.instr c.args.here.now.kinds c.way.new.pool.items c.jump_way.new.emptied.items c.number_named.result c.type_named.result c.unwrap_or.result c.in_ok-way.way c.in_ok-jump-in-Code.jump c.target-to.result c.requires.here c.in-Code.is c.args.here.now.known.kinds_are c.in_ok-way.ensures.within
    (subst (λ (ls : Lines). Leads (record { lines = ls; tables = c.args.here.now.scope.now.tables }) c.args.here.now.kinds c.args.here.now.place c.in_ok-way.way.line (emptied_on c.way.new.pool.items c.in_ok-way.way)) c.requires.lines (c.in_ok-way.ensures.leads c.args.here.now.scope.now.tables))
    c.in_ok-jump-in-Code.ensures.grows c.in_ok-jump-in-Code.ensures.within
    (λ p e. subst (λ (ls : Lines). Leads (record { lines = ls; tables = c.args.here.now.scope.now.tables }) (at_label c.args.here.now.kinds c.in-Code.instr) p c.in_ok-jump-in-Code.jump.line (emptied_on c.jump_way.new.emptied.items c.in_ok-jump-in-Code.jump)) c.requires.lines (c.in_ok-jump-in-Code.ensures.leads c.args.here.now.scope.now.tables p e))
    (c.target-to.ensures.value ∙ ap (λ (f : DomainLine). place_of_label c.args.here.now.scope.now c.args.here.now.place (label_of_form f)) c.in-Code.is) c.number_named.ensures c.type_named.ensures c.unwrap_or.ensures

pub returns-then-is_plain : goal.returns-then-is_plain
returns-then-is_plain c = record {
  row = subst (λ (row : LineRow). IsRow c.args.here.now.scope.now c.way.new.pool.items c.args.here.now.place row) (sym c.bare_row.ensures) (row_plain c.args.here.now.scope.now c.args.here.now.place c.args.line.now c.args.here.now.kinds c.way.new.pool.items c.in_ok-way.way c.requires.here (sym c.is_plain.ensures ∙ c.if-is_plain.true) c.args.here.now.known.kinds_are c.in_ok-way.ensures.within (subst (λ (ls : Lines). Leads (record { lines = ls; tables = c.args.here.now.scope.now.tables }) c.args.here.now.kinds c.args.here.now.place c.in_ok-way.way.line (emptied_on c.way.new.pool.items c.in_ok-way.way)) c.requires.lines (c.in_ok-way.ensures.leads c.args.here.now.scope.now.tables)));
  grows = grows_more 32 64 c.args.emptied.now.items c.way.new.pool.items (omega arith) c.in_ok-way.ensures.grows;
}

pub returns-in_default : goal.returns-in_default
returns-in_default c = record {
  row = subst (λ (row : LineRow). IsRow c.args.here.now.scope.now c.way.new.pool.items c.args.here.now.place row) (sym c.bare_row-in_default.ensures) (row_other c.args.here.now.scope.now c.args.here.now.place c.args.line.now c.args.here.now.kinds c.way.new.pool.items c.in_ok-way.way c.requires.here (λ i e. c.in_default.not-Code i e) c.args.here.now.known.kinds_are c.in_ok-way.ensures.within (subst (λ (ls : Lines). Leads (record { lines = ls; tables = c.args.here.now.scope.now.tables }) c.args.here.now.kinds c.args.here.now.place c.in_ok-way.way.line (emptied_on c.way.new.pool.items c.in_ok-way.way)) c.requires.lines (c.in_ok-way.ensures.leads c.args.here.now.scope.now.tables)));
  grows = grows_more 32 64 c.args.emptied.now.items c.way.new.pool.items (omega arith) c.in_ok-way.ensures.grows;
}
