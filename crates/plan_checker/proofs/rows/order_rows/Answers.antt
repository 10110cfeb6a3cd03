use Rattle.std.proofs.Common.{◌≡◌, ℕ, List, [], ◌++◌, map, Some, length, refl, sym, ap, ◌∙◌, arith, slice_get}
use Rattle.std.specs.List.{flat_map}
use Rattle.std.proofs.lemmas.Option.{slice_get_read}
use Rattle.rl_defs.specs.declared.bundle.Numbered.{Numbered}
use Rattle.rl_defs.specs.declared.bundle.PlanLine.{PlanLine}
use Rattle.rl_defs.specs.LoadOf.{number_in}
use Rattle.plan_checker.specs.Rows.{order_with}
use Rattle.plan_checker.proofs.Forms.{no_order}
use Rattle.plan_checker.proofs.Gathering.{gather_first, gather_more, gather_none, gather_all}
use Rattle.plan_checker.proofs.Steps.{flat_step}
use Rattle.plan_checker.proofs.rows.order_rows.Goals as goal
use Rattle.plan_checker.proofs.rows.order_rows.Goals.{in-Order+in_ok-put_clients, in_default}

pub lines-init : goal.lines-init
lines-init c = gather_first (flat_map (λ (x : Numbered PlanLine). order_with c.args.clients.now x.form)) c.args.lines.now c.new-order.result c.new-order.ensures

pub lines-preserved : goal.lines-preserved
lines-preserved c =
    let here : slice_get c.args.lines.now c.lines.line-index ≡ Some c.line-item.result = slice_get_read c.args.lines.now (length c.args.lines.now) c.lines.line-index c.line-item.result refl c.lines-test.true c.line-item.is in
    elim c.match-line.branch [
      | in-Order+in_ok-put_clients w ↦ rw w.order-is (gather_more (flat_map (λ (x : Numbered PlanLine). order_with c.args.clients.now x.form)) c.args.lines.now c.lines.line-index c.line-item.result (order_with c.args.clients.now c.line-item.result.form) c.lines.order w.put_clients.new.order c.lines.invariant here (λ rest. refl) (w.in_ok-put_clients.ensures ∙ ap (λ (ns : List (List ℕ)). c.lines.order ++ map (λ (name : List ℕ). number_in name c.args.clients.now) ns) w.as_slice.ensures ∙ ap (λ (xs : List ℕ). c.lines.order ++ xs) (sym (ap (order_with c.args.clients.now) w.in-Order.is))))
      | in_default w ↦ rw w.order-is (gather_none (flat_map (λ (x : Numbered PlanLine). order_with c.args.clients.now x.form)) c.args.lines.now c.lines.line-index c.line-item.result c.lines.order c.lines.invariant here (flat_step (λ (x : Numbered PlanLine). order_with c.args.clients.now x.form) c.line-item.result [] (no_order c.line-item.result.form c.args.clients.now (λ clients e. w.in_default.not-Order clients e))))
    ]

pub returns : goal.returns
returns c = gather_all (flat_map (λ (x : Numbered PlanLine). order_with c.args.clients.now x.form)) c.args.lines.now c.lines.line-index c.lines.order c.lines.invariant (omega arith) refl
