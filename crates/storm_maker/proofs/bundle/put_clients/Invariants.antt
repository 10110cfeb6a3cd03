use Rattle.std.proofs.Common.{◌≡◌, ◌++◌, ◌*◌}
use Rattle.storm_maker.specs.Draws.{after}
use Rattle.storm_maker.specs.Fixed.{lines_text}
use Rattle.storm_maker.specs.StormText.{clients_lines}
use Rattle.storm_maker.proofs.bundle.put_clients.Given as goal

abbrev pub invariant-loop-before : goal.invariant-loop-before
invariant-loop-before l = record {
  last : l.draws.last ≡ after l.n (300 * l.before);
  text : l.out.items ≡ l.fn.out.items ++ lines_text (clients_lines l.n l.before);
}
