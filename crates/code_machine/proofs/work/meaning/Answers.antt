use Rattle.code_machine.proofs.Naming.{at_line, means, has_comes, cap_comes}
use Rattle.code_machine.proofs.work.meaning.Goals as goal

pub returns-in-Has : goal.returns-in-Has
returns-in-Has g c live =
    means c.args.domain.now c.args.place (g.V.View.sight c.args.view.now) live c.args.registers.now c.has.new.registers c.has.result c.args.instr.now _ c.in-Has.is
    (has_comes _ _ (g.V.View.sight c.args.view.now) c.args.registers.now c.has.new.registers c.has.result _ _ _ _ _
    (at_line c.args.domain.now c.args.place c.args.instr.now _ _ _ _ c.requires.here c.row.ensures c.in-Has.is) c.has.ensures)

pub returns-in-Cap : goal.returns-in-Cap
returns-in-Cap g c live =
    means c.args.domain.now c.args.place (g.V.View.sight c.args.view.now) live c.args.registers.now c.cap.new.registers c.cap.result c.args.instr.now _ c.in-Cap.is
    (cap_comes _ _ (g.V.View.sight c.args.view.now) c.args.registers.now c.cap.new.registers c.cap.result _ _ _ _ _
    (at_line c.args.domain.now c.args.place c.args.instr.now _ _ _ _ c.requires.here c.row-in-Cap.ensures c.in-Cap.is) c.cap.ensures)
