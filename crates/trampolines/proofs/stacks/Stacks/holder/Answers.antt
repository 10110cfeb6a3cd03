use Rattle.std.proofs.Common.{◌≡◌, ◌∙◌, ◌⊎◌, inl, inr, ◌+◌, ℕ, false, Some, ap, sym, arith}
use Rattle.std.specs.List.{list_any}
use Rattle.trampolines.specs.Words.{is_in}
use Rattle.trampolines.specs.Laid.{Laid}
use Rattle.trampolines.proofs.Holding.{no_others, holds_least, passed_on, nobody_on}
use Rattle.trampolines.proofs.stacks.Stacks.holder.Goals.{else-client-but-via-then-client-but+else-is_in, else-client-but-via-else-client-but}
use Rattle.trampolines.proofs.stacks.Stacks.holder.Goals as goal

pub returns-then-not-is_entered-clause-some : goal.returns-then-not-is_entered-clause-some
returns-then-not-is_entered-clause-some g c =
    let none : list_any (is_in c.args.i) c.args.self.now.frames ≡ false = sym c.is_entered.ensures ∙ c.if-not-is_entered.true in
    sym (no_others c.args.i c.args.but 1 c.args.self.now.frames none)

pub returns-then-is_in-clause-least : goal.returns-then-is_in-clause-least
returns-then-is_in-clause-least g c = λ t e.
    holds_least c.as_slice-stack-items.result.now c.args.self.now.frames c.args.i c.args.but c.stacks.client c.stacks.stack-index c.stack-item.result
    (c.as_slice-stack-items.ensures.value ∙ ap (λ (v : Laid g.row.N.Denot). v.frames) c.self.view_is) c.stacks.invariant.number c.stacks-test.true
    c.stacks.invariant.nobody c.if-client-but.true (sym c.is_in.ensures ∙ c.if-is_in.true) c.stack-item.is t e

pub stacks-preserved : goal.stacks-preserved
stacks-preserved g c =
    let here : (c.stacks.client + 1 ≡ c.args.but) ⊎ (is_in c.args.i c.stack-item.result ≡ false) = elim c.else-client-but.branch [
      | else-client-but-via-then-client-but+else-is_in w ↦ inr (sym w.is_in.ensures ∙ w.if-is_in.false)
      | else-client-but-via-else-client-but w ↦ inl w.if-client-but.false
    ] in
    record {
      number = omega arith;
      passed = passed_on c.as_slice-stack-items.result.now c.args.i c.args.but (c.stacks.client + 1) c.stacks.stack-index c.stack-item.result
          c.stacks-test.true c.stack-item.is here c.stacks.invariant.passed;
      nobody = nobody_on c.as_slice-stack-items.result.now c.args.i c.args.but (c.stacks.client + 1) c.stacks.stack-index c.stack-item.result
          (omega arith) c.stacks-test.true c.stack-item.is here c.stacks.invariant.nobody;
    }
