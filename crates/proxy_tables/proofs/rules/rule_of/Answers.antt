use Rattle.std.proofs.Common.{Bool, List, sym, ap, ◌∙◌, subst}
use Rattle.std.specs.List.{list_any}
use Rattle.rl_defs.specs.declared.idl.TypeText.{TypeText}
use Rattle.rl_defs.specs.Interfaces.{param_types, result_types}
use Rattle.rl_defs.specs.TypeRules.{is_lent}
use Rattle.proxy_tables.specs.Rules.{IsMovedAgain, IsExceeding}
use Rattle.proxy_tables.proofs.Moving.{Passes, lowest_count, lowest_none}
use Rattle.proxy_tables.proofs.rules.rule_of.Goals as goal

pub returns-then-branch : goal.returns-then-branch
returns-then-branch c =
    let passes : Passes c.args.part.now.lines.now c.args.marked c.args.params.now c.args.outcome.now = record {
      rpc = sym c.is_rpc.ensures ∙ c.if-not-is_rpc.false;
      lent = ap (list_any (λ ty. is_lent ty.base)) (sym c.result_types.ensures) ∙ sym c.lends.ensures ∙ c.if-lends.false;
      again = subst (λ (b : Bool). IsMovedAgain c.args.part.now.lines.now c.args.marked (param_types c.args.params.now) b) c.if-moves_again.false c.moves_again.ensures;
    } in
    let answer = subst (λ (ts : List TypeText). IsExceeding c.args.part.now.lines.now (param_types c.args.params.now) ts c.in_ok-exceeds.field-0) c.result_types-2.ensures c.in_ok-exceeds.ensures in
    lowest_count c.args.part.now.lines.now c.args.marked c.args.params.now c.args.outcome.now passes (subst (λ (b : Bool). IsExceeding c.args.part.now.lines.now (param_types c.args.params.now) (result_types c.args.outcome.now) b) c.if-branch.true answer)

pub returns : goal.returns
returns c =
    let passes : Passes c.args.part.now.lines.now c.args.marked c.args.params.now c.args.outcome.now = record {
      rpc = sym c.is_rpc.ensures ∙ c.if-not-is_rpc.false;
      lent = ap (list_any (λ ty. is_lent ty.base)) (sym c.result_types.ensures) ∙ sym c.lends.ensures ∙ c.if-lends.false;
      again = subst (λ (b : Bool). IsMovedAgain c.args.part.now.lines.now c.args.marked (param_types c.args.params.now) b) c.if-moves_again.false c.moves_again.ensures;
    } in
    let answer = subst (λ (ts : List TypeText). IsExceeding c.args.part.now.lines.now (param_types c.args.params.now) ts c.in_ok-exceeds.field-0) c.result_types-2.ensures c.in_ok-exceeds.ensures in
    lowest_none c.args.part.now.lines.now c.args.marked c.args.params.now c.args.outcome.now passes (subst (λ (b : Bool). IsExceeding c.args.part.now.lines.now (param_types c.args.params.now) (result_types c.args.outcome.now) b) c.if-branch.false answer)
