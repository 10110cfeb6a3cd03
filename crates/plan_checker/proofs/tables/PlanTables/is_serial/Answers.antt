use Rattle.std.proofs.Common.{ap, ◌∙◌}
use Rattle.std.specs.Prelude.{is_some}
use Rattle.plan_checker.proofs.Tabling.{serial_found}
use Rattle.plan_checker.proofs.tables.PlanTables.is_serial.Goals as goal

pub returns : goal.returns
returns c = c.is_some.ensures ∙ ap is_some c.place.ensures ∙ serial_found _ c.args.self.now c.self.inside.serial c.args.load.now c.self.view_is c.self.invariant.serial_are
