use Rattle.std.proofs.Common.{◌≡◌, length, arith}
use Rattle.domain_checker.proofs.Emptying.{leads_there}
use Rattle.domain_checker.proofs.ways.Ways.way.Goals as goal

pub returns-clause-leads : goal.returns-clause-leads
returns-clause-leads c = λ tables.
    let lines = c.args.self.now.lines.now in
    let from_is : c.len-from.result ≡ length c.args.pool.now.items = omega (arith, c.args.pool.now.ok.0, c.len-from.ensures) in
    let to_is : c.len-2.result ≡ length c.put_unlisted.new.pool.items = omega (arith, c.put_unlisted.new.pool.ok.0, c.len-2.ensures) in
    leads_there lines tables c.args.kinds.now c.args.place c.run-run.result c.args.pool.now.items c.put_unlisted.new.pool.items c.len-from.result c.len-2.result c.run-run.ensures c.in_ok-put_unlisted.ensures from_is to_is
