use Rattle.std.proofs.Common.{sym, ◌∙◌, ap}
use Rattle.std.specs.Option.{option_copied}
use Rattle.proxies.specs.Table.{Found}
use Rattle.proxies.proofs.Found.{load_holds}
use Rattle.proxies.proofs.table.Proxies.load_of.Goals as goal

pub returns-in-Some : goal.returns-in-Some
returns-in-Some c =
    ap (λ (f : Found). f.load) c.found-in-Some.view_is
    ∙ load_holds c.args.load.now c.args.self.now c.args.target c.in-Some.found.now c.requires (sym c.found.ensures ∙ ap option_copied c.in-Some.is)
