use Rattle.std.proofs.Common.{◌-◌, ◌∙◌, refl, sym, length, ap}
use Rattle.std.specs.Option.{option_copied}
use Rattle.domain_checker.proofs.Runs.{run_kept, run_missing}
use Rattle.domain_checker.proofs.ways.Ways.run.Goals as goal

pub returns-in-Some : goal.returns-in-Some
returns-in-Some c =
    let lines = c.args.self.now.lines.now in
    run_kept lines c.args.self.now.runs c.args.place (length lines - 1 - c.args.place) c.in-Some.run'.now c.args.self.now.kept refl c.requires (sym c.get.ensures ∙ ap option_copied c.in-Some.is)

pub returns-in-None : goal.returns-in-None
returns-in-None c =
    let lines = c.args.self.now.lines.now in
    run_missing lines c.args.self.now.runs c.args.place (length lines - 1 - c.args.place) c.args.self.now.kept refl c.requires (sym c.get.ensures ∙ ap option_copied c.in-None.is)
