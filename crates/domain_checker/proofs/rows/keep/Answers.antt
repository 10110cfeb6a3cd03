use Rattle.domain_checker.proofs.RowLaws.{rows_more}
use Rattle.domain_checker.proofs.rows.keep.Goals as goal

pub returns : goal.returns
returns c = rows_more c.args.here.now.scope.now 64 c.args.kept.now.emptied.items c.row_of.new.emptied.items c.args.kept.now.rows.items c.push.new.self.items c.args.here.now.place c.in_ok-row.row c.requires.rows c.in_ok-row.ensures.grows c.in_ok-row.ensures.row c.in_ok-push.ensures.items
