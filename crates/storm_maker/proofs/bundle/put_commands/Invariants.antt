use Rattle.std.proofs.Common.{◌≡◌, ◌++◌}
use Rattle.storm_maker.specs.Draws.{after}
use Rattle.storm_maker.specs.Fixed.{lines_text}
use Rattle.storm_maker.specs.StormText.{commands_after}
use Rattle.storm_maker.proofs.bundle.put_commands.Given as goal

abbrev pub invariant-loop-before : goal.invariant-loop-before
invariant-loop-before l = record {
  last : l.draws.last ≡ after l.initial.draws.last l.before;
  text : l.out.items ≡ l.fn.out.items ++ lines_text (commands_after l.initial.draws.last l.before);
}
