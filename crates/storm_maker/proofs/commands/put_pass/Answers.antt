use Rattle.std.proofs.Common.{codes}
use Rattle.std.specs.Fmt.{decimal}
use Rattle.std.proofs.lemmas.Result.{on_ok_weaker}
use Rattle.storm_maker.proofs.Joined.{five}
use Rattle.storm_maker.proofs.commands.put_pass.Goals as goal

pub returns : goal.returns
returns c = on_ok_weaker c.put-3.result (five c.args.out.now.items (codes "    call a.p(v") (decimal c.args.j) (codes ") -> w") (decimal c.args.j) (codes "\n")
    c.put.new.out.items c.put_number.new.out.items c.put-2.new.out.items c.put_number-2.new.out.items c.put-3.new.out.items
    c.in_ok-put.ensures c.in_ok-put_number.ensures c.in_ok-put-2.ensures c.in_ok-put_number-2.ensures) c.put-3.ensures
