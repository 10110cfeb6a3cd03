use Rattle.std.proofs.Common.{ℕ, ◌+◌, List, ◌++◌, ap, ◌∙◌}
use Rattle.storm_maker.specs.Draws.{after}
use Rattle.storm_maker.specs.Fixed.{lines_text}
use Rattle.storm_maker.specs.StormText.{client_lines, clients_lines}
use Rattle.storm_maker.proofs.Steps.{no_steps, next_begins, no_clients, one_client_more}
use Rattle.storm_maker.proofs.bundle.put_clients.Goals as goal

pub loop-before-init : goal.loop-before-init
loop-before-init c = record { last = c.from.ensures ∙ no_steps c.args.n; text = no_clients c.args.out.now.items c.args.n }

pub loop-before-preserved : goal.loop-before-preserved
loop-before-preserved c =
    let n : ℕ = c.args.n in
    let m : ℕ = c.loop-before.before in
    let out : List ℕ = c.args.out.now.items in
    record {
      last = c.in_ok-put_client.ensures.draws ∙ ap (λ (x : ℕ). after x 300) c.loop-before.invariant.last ∙ next_begins n m;
      text = c.in_ok-put_client.ensures.text ∙ ap (λ (o : List ℕ). o ++ lines_text (client_lines c.loop-before.draws.last (m + 1))) c.loop-before.invariant.text
          ∙ ap (λ (x : ℕ). (out ++ lines_text (clients_lines n m)) ++ lines_text (client_lines x (m + 1))) c.loop-before.invariant.last
          ∙ one_client_more out n m;
    }
