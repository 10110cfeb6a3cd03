use Rattle.std.proofs.Common.{ℕ, List, ap, ◌∙◌}
use Rattle.std.specs.List.{flat_map, slice_index_or}
use Rattle.rl_defs.specs.declared.bundle.Bundle.{Bundle}
use Rattle.rl_defs.specs.declared.bundle.Numbered.{Numbered}
use Rattle.rl_defs.specs.declared.bundle.PlanLine.{PlanLine}
use Rattle.rl_defs.specs.LoadOf.{loads_in, shadows_in, fuel_in, device_in, blocks_in}
use Rattle.plan_checker.specs.Lookups.{PlanLines}
use Rattle.plan_checker.specs.Rows.{order_with}
use Rattle.plan_checker.proofs.Forms.{orders_same}
use Rattle.plan_checker.proofs.rows.rows_of.Goals as goal

pub returns : goal.returns
returns c =
    let whole : Bundle = record { idl = c.args.tables.now.idl; domains = c.args.tables.now.domains; plan = c.args.tables.now.plan; clients = record { lines = c.args.clients.now } } in
    record {
      loads_are = c.in_ok-loads.ensures ∙ ap (flat_map (λ (l : Numbered PlanLine). loads_in c.args.tables.now l.form)) c.lines-lines.ensures;
      shadows_are = c.in_ok-shadows.ensures ∙ ap (flat_map (λ (l : Numbered PlanLine). shadows_in c.args.tables.now l.form)) c.lines-lines.ensures;
      order_is = c.in_ok-order.ensures ∙ ap (λ (ns : List (List ℕ)). flat_map (λ (l : Numbered PlanLine). order_with ns l.form) c.lines-lines.result.now) c.in_ok-names.ensures.names ∙ ap (flat_map (λ (l : Numbered PlanLine). order_with (Rattle.rl_defs.specs.BundleNames.client_names whole) l.form)) c.lines-lines.ensures ∙ orders_same whole whole.plan.lines;
      fuel_is = c.fuel_of.ensures ∙ ap (λ (ls : PlanLines). slice_index_or (flat_map (λ (l : Numbered PlanLine). fuel_in l.form) ls) 0 10000) c.lines-lines.ensures;
      device_is = c.device_of-device.ensures.load ∙ ap (λ (ls : PlanLines). slice_index_or (flat_map (λ (l : Numbered PlanLine). device_in c.args.tables.now l.form) ls) 0 0) c.lines-lines.ensures;
      blocks_are = c.device_of-device.ensures.blocks ∙ ap (λ (ls : PlanLines). slice_index_or (flat_map (λ (l : Numbered PlanLine). blocks_in l.form) ls) 0 0) c.lines-lines.ensures;
    }
