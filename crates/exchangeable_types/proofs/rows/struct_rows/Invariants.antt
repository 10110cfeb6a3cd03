use Rattle.std.proofs.Common.{[]}
use Rattle.exchangeable_types.specs.Rows.{Rowing}
use Rattle.exchangeable_types.specs.Nesting.{Passing}
use Rattle.exchangeable_types.proofs.rows.struct_rows.Given as goal

abbrev pub invariant-structs : goal.invariant-structs
invariant-structs l = record {
  rowing : Rowing l.part.lines.now l.states.items l.seen.items l.rows l.number;
  passing : Passing l.part.lines.now l.passed.items [];
}
