use Rattle.std.proofs.Common.{◌≡◌, true, IfOk, ap, subst}
use Rattle.rl_defs.specs.declared.load.LoadRows.{LoadRows}
use Rattle.machine_steps.specs.Kept.{Kept}
use Rattle.redleaf_app.specs.Replies.{TellsRunOf}
use Rattle.redleaf_app.proofs.Natives.{some_native}
use Rattle.redleaf_app.proofs.run.run_load.Goals as goal

pub returns-then-not-builds : goal.returns-then-not-builds
returns-then-not-builds c =
    let native = some_native c.args.load (λ alone. let built : c.builds.result ≡ true = c.builds.ensures.1 alone in let no = c.if-not-builds.true in cc) in
    record { number = native.0; native = native.1; is = c.in_ok-refusal_text.ensures }

pub returns : goal.returns
returns c = subst (λ (L : LoadRows). IfOk c.run_to_end.result (λ reply. TellsRunOf L reply)) (ap (λ (w : Kept). w.load) c.in_ok-world.ensures) c.run_to_end.ensures
