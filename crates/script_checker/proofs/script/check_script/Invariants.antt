use Rattle.std.proofs.Common.{◌≡◌, ◌++◌, drop}
use Rattle.script_checker.specs.Known.{nothing}
use Rattle.script_checker.specs.Verdicts.{verdict, commands_behind}
use Rattle.script_checker.proofs.script.check_script.Given as goal

abbrev pub invariant-each : goal.invariant-each
invariant-each l = record {
  first : verdict l.scope.tables l.scope.bundle l.bindings (drop l.line-index l.script) ≡ verdict l.scope.tables l.scope.bundle nothing l.script;
  commands_more : l.commands ++ commands_behind l.scope.tables l.scope.bundle l.bindings (drop l.line-index l.script) ≡ commands_behind l.scope.tables l.scope.bundle nothing l.script;
}
