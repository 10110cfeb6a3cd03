use Rattle.std.proofs.lemmas.Result.{on_ok_weaker}
use Rattle.storm_maker.specs.Fixed.{line_text}
use Rattle.storm_maker.specs.StormText.{read_line, drop_line}
use Rattle.storm_maker.proofs.Joined.{two_lines}
use Rattle.storm_maker.proofs.commands.put_look.Goals as goal

pub returns : goal.returns
returns c = on_ok_weaker c.put_drop.result (two_lines c.args.out.now.items (line_text (read_line c.args.j c.args.k)) (line_text (drop_line c.args.j))
    c.put_read.new.out.items c.put_drop.new.out.items c.in_ok-put_read.ensures) c.put_drop.ensures
