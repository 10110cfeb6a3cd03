use Rattle.std.proofs.Common.{◌≡◌, ℕ, [], ◌∷◌, Some, length, refl, sym, ap, ◌∙◌, arith, slice_get}
use Rattle.std.specs.List.{flat_map}
use Rattle.std.proofs.lemmas.Option.{slice_get_read}
use Rattle.rl_defs.specs.declared.bundle.Numbered.{Numbered}
use Rattle.rl_defs.specs.declared.bundle.PlanLine.{PlanLine}
use Rattle.rl_defs.specs.LoadOf.{shadows_in}
use Rattle.plan_checker.proofs.Forms.{no_shadow}
use Rattle.plan_checker.proofs.Gathering.{gather_first, gather_more, gather_none, gather_all}
use Rattle.plan_checker.proofs.Steps.{flat_step}
use Rattle.plan_checker.proofs.rows.shadow_rows.Goals as goal
use Rattle.plan_checker.proofs.rows.shadow_rows.Goals.{in-Shadow+in_ok-push, in_default}

pub lines-init : goal.lines-init
lines-init c = gather_first (flat_map (λ (x : Numbered PlanLine). shadows_in c.args.tables.now x.form)) c.args.lines.now c.new-rows.result c.new-rows.ensures

pub lines-preserved : goal.lines-preserved
lines-preserved c =
    let here : slice_get c.args.lines.now c.lines.line-index ≡ Some c.line-item.result = slice_get_read c.args.lines.now (length c.args.lines.now) c.lines.line-index c.line-item.result refl c.lines-test.true c.line-item.is in
    elim c.match-line.branch [
      | in-Shadow+in_ok-push w ↦ rw w.rows-is (gather_more (flat_map (λ (x : Numbered PlanLine). shadows_in c.args.tables.now x.form)) c.args.lines.now c.lines.line-index c.line-item.result (record { name = w.in-Shadow.name; load = w.load_number.result; restarts = w.in-Shadow.restarts } ∷ []) c.lines.rows w.push.new.self c.lines.invariant here (flat_step (λ (x : Numbered PlanLine). shadows_in c.args.tables.now x.form) c.line-item.result (record { name = w.in-Shadow.name; load = w.load_number.result; restarts = w.in-Shadow.restarts } ∷ []) (ap (shadows_in c.args.tables.now) w.in-Shadow.is ∙ ap (λ (n : ℕ). record { name = w.in-Shadow.name; load = n; restarts = w.in-Shadow.restarts } ∷ []) (sym w.load_number.ensures))) w.in_ok-push.ensures.ok)
      | in_default w ↦ rw w.rows-is (gather_none (flat_map (λ (x : Numbered PlanLine). shadows_in c.args.tables.now x.form)) c.args.lines.now c.lines.line-index c.line-item.result c.lines.rows c.lines.invariant here (flat_step (λ (x : Numbered PlanLine). shadows_in c.args.tables.now x.form) c.line-item.result [] ((no_shadow c.line-item.result.form (λ name load restarts e. w.in_default.not-Shadow name load restarts e)).row c.args.tables.now)))
    ]

pub returns : goal.returns
returns c = gather_all (flat_map (λ (x : Numbered PlanLine). shadows_in c.args.tables.now x.form)) c.args.lines.now c.lines.line-index c.lines.rows c.lines.invariant (omega arith) refl
