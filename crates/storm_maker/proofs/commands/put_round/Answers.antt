use Rattle.std.proofs.lemmas.Result.{on_ok_weaker}
use Rattle.storm_maker.specs.Fixed.{line_text}
use Rattle.storm_maker.specs.StormText.{let_line, pass_line, drop_line}
use Rattle.storm_maker.proofs.Joined.{three_lines}
use Rattle.storm_maker.proofs.commands.put_round.Goals as goal

pub returns : goal.returns
returns c = on_ok_weaker c.put_drop.result (three_lines c.args.out.now.items (line_text (let_line c.args.j c.args.k)) (line_text (pass_line c.args.j)) (line_text (drop_line c.args.j))
    c.put_let.new.out.items c.put_pass.new.out.items c.put_drop.new.out.items c.in_ok-put_let.ensures c.in_ok-put_pass.ensures) c.put_drop.ensures
