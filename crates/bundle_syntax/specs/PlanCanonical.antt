-- The canonical text of a plan.
use Rattle.std.specs.Prelude.{ℕ, List}
use Rattle.rl_defs.specs.declared.bundle.Numbered.{Numbered}
use Rattle.rl_defs.specs.declared.bundle.PlanLine.{PlanLine}
use Rattle.rl_defs.specs.BundleForms.{spell_plan}
use Rattle.bundle_syntax.specs.LinesCanonical.{write_lines}

-- no block is open round a line
abbrev pub depth_of : PlanLine → ℕ
depth_of form = 0

abbrev pub write_plan : List (Numbered PlanLine) → List ℕ
write_plan lines = write_lines depth_of spell_plan lines
