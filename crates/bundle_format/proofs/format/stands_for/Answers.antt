use Rattle.std.proofs.Common.{subst}
use Rattle.rl_defs.specs.declared.bundle.Bundle.{Bundle}
use Rattle.bundle_format.specs.Formatted.{Stands}
use Rattle.bundle_format.proofs.Fares.{one, refused_never}
use Rattle.bundle_format.proofs.format.stands_for.Goals as goal

pub returns-in-Ok : goal.returns-in-Ok
returns-in-Ok c =
    let text = c.args.text.now in
    let reads = c.in-Ok.ensures.reads in (
      λ yes. subst (λ (b : Bundle). Stands text b) (c.alike.ensures.0 yes) (record { bundle = reads.1; keeps = reads.0 }),
      λ s. c.alike.ensures.1 (one text c.in-Ok.read c.args.bundle.now reads.1 s),
    )

pub returns-in-Err-Refused : goal.returns-in-Err-Refused
returns-in-Err-Refused c = (λ no. absurd cc, λ s. absurd (refused_never c.args.text.now c.args.bundle.now _ _ (rw c.in-Err-Refused.field-0-is at c.in-Err-Refused.ensures.reads) s))
