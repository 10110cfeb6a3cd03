-- The canonical text of clients.
use Rattle.std.specs.Prelude.{ℕ, List}
use Rattle.rl_defs.specs.declared.bundle.Numbered.{Numbered}
use Rattle.rl_defs.specs.declared.bundle.ClientLine.{ClientLine}
use Rattle.rl_defs.specs.declared.bundle.ClientLine.TheVariants as client
use Rattle.rl_defs.specs.BundleForms.{spell_client}
use Rattle.bundle_syntax.specs.LinesCanonical.{write_lines}

-- how many blocks are open round a line
abbrev pub depth_of : ClientLine → ℕ
depth_of (client.Client name) = 0
depth_of client.Close = 0
depth_of form = 1

abbrev pub write_clients : List (Numbered ClientLine) → List ℕ
write_clients lines = write_lines depth_of spell_client lines
