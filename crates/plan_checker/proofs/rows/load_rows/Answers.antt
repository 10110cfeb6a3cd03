use Rattle.std.proofs.Common.{◌≡◌, [], ◌∷◌, Some, length, refl, sym, ap, subst, ◌∙◌, arith, slice_get}
use Rattle.std.specs.List.{flat_map}
use Rattle.std.proofs.lemmas.Option.{slice_get_read}
use Rattle.rl_defs.specs.declared.bundle.Numbered.{Numbered}
use Rattle.rl_defs.specs.declared.bundle.PlanLine.{PlanLine}
use Rattle.rl_defs.specs.LoadOf.{loads_in}
use Rattle.plan_checker.proofs.Forms.{no_load}
use Rattle.plan_checker.proofs.Gathering.{gather_first, gather_more, gather_none, gather_all}
use Rattle.plan_checker.proofs.Steps.{flat_step}
use Rattle.plan_checker.specs.Lookups.{PlanLines}
use Rattle.plan_checker.proofs.Keeping.{loads_loaded, loaded_by}
use Rattle.plan_checker.proofs.rows.load_rows.Goals as goal
use Rattle.plan_checker.proofs.rows.load_rows.Goals.{in-Load+in_ok-row+in_ok-push, in_default}

pub lines-init : goal.lines-init
lines-init c = gather_first (flat_map (λ (x : Numbered PlanLine). loads_in c.args.tables.now x.form)) c.args.lines.now c.new-rows.result c.new-rows.ensures

pub load_row-requires : goal.load_row-requires
load_row-requires c =
    let here : slice_get c.args.lines.now c.lines.line-index ≡ Some c.line-item.result = slice_get_read c.args.lines.now (length c.args.lines.now) c.lines.line-index c.line-item.result refl c.lines-test.true c.line-item.is in
    loaded_by c.args.tables.now c.line-item.result.form c.in-Load.name c.in-Load.domain (loads_loaded c.args.tables.now c.lines.line-index c.line-item.result (subst (λ (ls : PlanLines). slice_get ls c.lines.line-index ≡ Some c.line-item.result) c.requires here)) c.in-Load.is

pub lines-preserved : goal.lines-preserved
lines-preserved c =
    let here : slice_get c.args.lines.now c.lines.line-index ≡ Some c.line-item.result = slice_get_read c.args.lines.now (length c.args.lines.now) c.lines.line-index c.line-item.result refl c.lines-test.true c.line-item.is in
    elim c.match-line.branch [
      | in-Load+in_ok-row+in_ok-push w ↦ rw w.rows-is (gather_more (flat_map (λ (x : Numbered PlanLine). loads_in c.args.tables.now x.form)) c.args.lines.now c.lines.line-index c.line-item.result (w.in_ok-row.row ∷ []) c.lines.rows w.push.new.self c.lines.invariant here (flat_step (λ (x : Numbered PlanLine). loads_in c.args.tables.now x.form) c.line-item.result (w.in_ok-row.row ∷ []) (ap (loads_in c.args.tables.now) w.in-Load.is ∙ sym w.in_ok-row.ensures)) w.in_ok-push.ensures.ok)
      | in_default w ↦ rw w.rows-is (gather_none (flat_map (λ (x : Numbered PlanLine). loads_in c.args.tables.now x.form)) c.args.lines.now c.lines.line-index c.line-item.result c.lines.rows c.lines.invariant here (flat_step (λ (x : Numbered PlanLine). loads_in c.args.tables.now x.form) c.line-item.result [] ((no_load c.line-item.result.form (λ name domain e. w.in_default.not-Load name domain e)).row c.args.tables.now)))
    ]

pub returns : goal.returns
returns c = gather_all (flat_map (λ (x : Numbered PlanLine). loads_in c.args.tables.now x.form)) c.args.lines.now c.lines.line-index c.lines.rows c.lines.invariant (omega arith) refl
