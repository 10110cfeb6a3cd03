use Rattle.std.proofs.Common.{◌≡◌, ℕ, ◌%◌, List, ◌++◌, sym, ap, ◌∙◌, arith}
use Rattle.std.proofs.lemmas.Result.{on_ok_weaker}
use Rattle.storm_maker.specs.Fixed.{lines_text}
use Rattle.storm_maker.specs.StormText.{draw_lines}
use Rattle.storm_maker.proofs.Rows.{kill_row, round_row, size_row, look_row, spin_row}
use Rattle.storm_maker.proofs.commands.put_draw.Goals as goal

-- what was put are the lines of the row
these : (out new : List ℕ) (lines : List (List ℕ)) (j d : ℕ) → draw_lines j d ≡ lines → new ≡ out ++ lines_text lines → new ≡ out ++ lines_text (draw_lines j d)
these out new lines j d row e = e ∙ ap (λ ls. out ++ lines_text ls) (sym row)

pub returns-then-d-eq63 : goal.returns-then-d-eq63
returns-then-d-eq63 c = let j = c.args.j in let d = c.args.d in
    on_ok_weaker c.put.result (these c.args.out.now.items c.put.new.out.items _ j d (kill_row j d c.if-d-eq63.true)) c.put.ensures

pub returns-in-0 : goal.returns-in-0
returns-in-0 c = let j = c.args.j in let d = c.args.d in
    on_ok_weaker c.put_round.result (these c.args.out.now.items c.put_round.new.out.items _ j d (round_row j d c.if-d-eq63.false c.in-0.is)) c.put_round.ensures

pub returns-in-1 : goal.returns-in-1
returns-in-1 c = let j = c.args.j in let d = c.args.d in
    on_ok_weaker c.put-in-1.result (these c.args.out.now.items c.put-in-1.new.out.items _ j d (size_row j d c.if-d-eq63.false c.in-1.is)) c.put-in-1.ensures

pub returns-in-2 : goal.returns-in-2
returns-in-2 c = let j = c.args.j in let d = c.args.d in
    on_ok_weaker c.put_look.result (these c.args.out.now.items c.put_look.new.out.items _ j d (look_row j d c.if-d-eq63.false c.in-2.is)) c.put_look.ensures

pub returns-in_default : goal.returns-in_default
returns-in_default c = let j = c.args.j in let d = c.args.d in
    let other = c.in_default in
    let three : d % 4 ≡ 3 = grind (arith, other) in
    on_ok_weaker c.put-in_default.result (these c.args.out.now.items c.put-in_default.new.out.items _ j d (spin_row j d c.if-d-eq63.false three)) c.put-in_default.ensures
