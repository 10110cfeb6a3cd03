use Rattle.std.proofs.Common.{◌≡◌, ℕ, [], ◌∷◌, Some, length, refl, sym, ap, ◌∙◌, arith, slice_get}
use Rattle.std.specs.List.{flat_map}
use Rattle.std.proofs.lemmas.Option.{slice_get_read}
use Rattle.rl_defs.specs.declared.bundle.Numbered.{Numbered}
use Rattle.rl_defs.specs.declared.bundle.PlanLine.{PlanLine}
use Rattle.rl_defs.specs.LoadOf.{device_in, blocks_in}
use Rattle.plan_checker.proofs.Forms.{no_device}
use Rattle.plan_checker.proofs.Gathering.{gather_first, gather_none, first_found, first_missing}
use Rattle.plan_checker.proofs.Steps.{flat_step}
use Rattle.plan_checker.proofs.rows.device_of.Goals as goal

pub lines-init : goal.lines-init
lines-init c = record {
  loads = gather_first (flat_map (λ (x : Numbered PlanLine). device_in c.args.tables.now x.form)) c.args.lines.now [] refl;
  blocks = gather_first (flat_map (λ (x : Numbered PlanLine). blocks_in x.form)) c.args.lines.now [] refl;
}

pub lines-preserved : goal.lines-preserved
lines-preserved c =
    let here : slice_get c.args.lines.now c.lines.line-index ≡ Some c.line-item.result = slice_get_read c.args.lines.now (length c.args.lines.now) c.lines.line-index c.line-item.result refl c.lines-test.true c.line-item.is in
    let none = no_device c.line-item.result.form (λ load blocks e. c.in_default.not-Device load blocks e) in
    record {
      loads = gather_none (flat_map (λ (x : Numbered PlanLine). device_in c.args.tables.now x.form)) c.args.lines.now c.lines.line-index c.line-item.result [] c.lines.invariant.loads here (flat_step (λ (x : Numbered PlanLine). device_in c.args.tables.now x.form) c.line-item.result [] (none.load c.args.tables.now));
      blocks = gather_none (flat_map (λ (x : Numbered PlanLine). blocks_in x.form)) c.args.lines.now c.lines.line-index c.line-item.result [] c.lines.invariant.blocks here (flat_step (λ (x : Numbered PlanLine). blocks_in x.form) c.line-item.result [] none.blocks);
    }

pub returns-in-Device : goal.returns-in-Device
returns-in-Device c =
    let here : slice_get c.args.lines.now c.lines.line-index ≡ Some c.line-item.result = slice_get_read c.args.lines.now (length c.args.lines.now) c.lines.line-index c.line-item.result refl c.lines-test.true c.line-item.is in
    record {
      load = first_found (flat_map (λ (x : Numbered PlanLine). device_in c.args.tables.now x.form)) c.args.lines.now c.lines.line-index c.line-item.result c.load_number.result 0 c.lines.invariant.loads here (flat_step (λ (x : Numbered PlanLine). device_in c.args.tables.now x.form) c.line-item.result (c.load_number.result ∷ []) (ap (device_in c.args.tables.now) c.in-Device.is ∙ ap (λ (n : ℕ). n ∷ []) (sym c.load_number.ensures)));
      blocks = first_found (flat_map (λ (x : Numbered PlanLine). blocks_in x.form)) c.args.lines.now c.lines.line-index c.line-item.result c.in-Device.blocks 0 c.lines.invariant.blocks here (flat_step (λ (x : Numbered PlanLine). blocks_in x.form) c.line-item.result (c.in-Device.blocks ∷ []) (ap blocks_in c.in-Device.is));
    }

pub returns : goal.returns
returns c = record {
  load = first_missing (flat_map (λ (x : Numbered PlanLine). device_in c.args.tables.now x.form)) c.args.lines.now c.lines.line-index 0 c.lines.invariant.loads (omega arith) refl;
  blocks = first_missing (flat_map (λ (x : Numbered PlanLine). blocks_in x.form)) c.args.lines.now c.lines.line-index 0 c.lines.invariant.blocks (omega arith) refl;
}
