use Rattle.std.proofs.Common.{◌≡◌, subst, refl}
use Rattle.machine_defs.specs.Objects.{number_cell}
use Rattle.machine_steps.specs.Sights.{Looked, seen_by_frame}
use Rattle.machine_steps.proofs.view.FrameViewView.cell.Goals as goal

pub returns : goal.returns
returns c =
    subst (λ (v : Looked). c.number_cell.result ≡ number_cell v.load (seen_by_frame v.instances v.rows) c.args.object c.args.at) c.self.view_is
    (c.number_cell.ensures (seen_by_frame c.self.inside.instances.now c.self.inside.heap.now.rows) refl)
