use Rattle.std.proofs.Common.{◌≡◌, ℕ, ◌+◌, List, ◌++◌, ap, ◌∙◌}
use Rattle.storm_maker.specs.Draws.{next, after, drawn}
use Rattle.storm_maker.specs.Fixed.{lines_text}
use Rattle.storm_maker.specs.StormText.{draw_lines, commands_after}
use Rattle.storm_maker.proofs.Steps.{next_is, no_steps, no_draws, one_draw_more}
use Rattle.storm_maker.proofs.bundle.put_commands.Goals as goal

pub loop-before-init : goal.loop-before-init
loop-before-init c = record { last = no_steps c.args.draws.now.last; text = no_draws c.args.out.now.items c.args.draws.now.last }

pub loop-before-preserved : goal.loop-before-preserved
loop-before-preserved c =
    let x : ℕ = c.args.draws.now.last in
    let n : ℕ = c.loop-before.before in
    let last : c.draw-d.new.self.last ≡ after x (n + 1) = c.draw-d.ensures.next ∙ ap next c.loop-before.invariant.last ∙ next_is x n in
    let d : c.draw-d.result ≡ drawn (after x (n + 1)) = c.draw-d.ensures.drawn ∙ ap drawn last in
    record {
      last = last;
      text = c.in_ok-put_draw.ensures ∙ ap (λ (o : List ℕ). o ++ lines_text (draw_lines (n + 1) c.draw-d.result)) c.loop-before.invariant.text
          ∙ ap (λ (k : ℕ). (c.args.out.now.items ++ lines_text (commands_after x n)) ++ lines_text (draw_lines (n + 1) k)) d
          ∙ one_draw_more c.args.out.now.items x n;
    }
