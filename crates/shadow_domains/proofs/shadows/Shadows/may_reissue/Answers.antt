use Rattle.std.proofs.Common.{arith}
use Rattle.shadow_domains.proofs.Reissues.{reissues, reissues_none}
use Rattle.shadow_domains.proofs.shadows.Shadows.may_reissue.Goals as goal

pub returns-in-Some : goal.returns-in-Some
returns-in-Some c = reissues c.args.load.now c.rows-rows.result.now c.args.target c.args.method _ c.rows-rows.ensures.value (omega arith)
    c.in-Some.ensures

pub returns-in-None : goal.returns-in-None
returns-in-None c = reissues_none c.args.load.now c.rows-rows.result.now c.args.target c.args.method c.rows-rows.ensures.value c.in-None.ensures
