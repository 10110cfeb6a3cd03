use Rattle.std.proofs.Common.{sym, ◌∙◌, ap, slice_get}
use Rattle.std.specs.Option.{option_copied}
use Rattle.rl_defs.specs.declared.load.LoadRows.{LoadRows}
use Rattle.rl_defs.specs.declared.tables.Tables.{Tables}
use Rattle.rl_defs.specs.Domains.{method_of, method_in}
use Rattle.proxies.specs.Table.{Found}
use Rattle.proxies.proofs.Found.{method_holds}
use Rattle.proxies.proofs.table.Proxies.method.Goals as goal

pub returns-in-Some : goal.returns-in-Some
returns-in-Some c =
    let tables = c.get.ensures ∙ ap (λ (l : LoadRows). l.tables) c.rows-rows.ensures.value in
    let place = ap (λ (f : Found). f.has) c.found-in-Some.view_is in
    c.method_in.ensures
    ∙ (ap (λ row. method_in row c.args.method) (c.get-in-Some.ensures ∙ (ap (λ (t : Tables). slice_get t.traits c.found-in-Some.inside.has) tables ∙ ap (λ i. slice_get c.args.load.now.tables.traits i) place))
    ∙ method_holds c.args.load.now c.args.self.now c.args.target c.args.method c.in-Some.found.now c.requires (sym c.found.ensures ∙ ap option_copied c.in-Some.is))

pub returns-in-None : goal.returns-in-None
returns-in-None c = c.method_row.ensures ∙ ap (λ l. method_of l c.args.target c.args.method) c.rows-rows.ensures.value
