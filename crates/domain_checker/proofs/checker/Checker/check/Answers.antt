use Rattle.std.proofs.Common.{sym, ap, ◌∙◌}
use Rattle.rl_defs.specs.declared.tables.Tables.{Tables}
use Rattle.domain_checker.specs.Keeping.{domain}
use Rattle.domain_checker.proofs.Entering.{checked_whole, nowhere_in}
use Rattle.domain_checker.proofs.checker.Checker.check.Goals as goal

pub new-requires : goal.new-requires
new-requires c =
    let whole = c.in_ok-whole.ensures in
    checked_whole c.as_slice.result.now c.args.text.lines c.self.inside.tables c.in_ok-tables.tables c.in_ok-whole.whole.kept.rows.items c.in_ok-whole.whole.kept.emptied.items c.in_ok-whole.whole.entries.items c.as_slice.ensures (sym c.in_ok-tables.ensures.shared) c.requires.short c.share.ensures.small c.requires.ordered whole

pub returns : goal.returns
returns c =
    let whole = c.in_ok-whole.ensures in
    (nowhere_in c.as_slice.result.now c.args.text.lines c.self.inside.tables c.args.self.now c.as_slice.ensures c.self.view_is whole.0, c.new.ensures ∙ ap (λ (t : Tables). domain c.args.text.lines t) (c.in_ok-tables.ensures.shared ∙ c.self.view_is))
