-- The first line of the scripts that a rule refuses, and what the lines stand for, line by line.
use Rattle.std.specs.Prelude.{◌≡◌, ℕ, not, if◌then◌else◌, List, [], ◌∷◌, ◌++◌, Option, Some, None, Result, Ok, Err}
use Rattle.rl_defs.specs.declared.Refusal.{Refusal}
use Rattle.rl_defs.specs.declared.LoadFault.{LoadFault}
use Rattle.rl_defs.specs.declared.LoadFault.TheVariants.{Refused, Memory}
use Rattle.rl_defs.specs.declared.bundle.ClientLine.{ClientLine}
use Rattle.rl_defs.specs.declared.bundle.ClientLine.TheVariants as client
use Rattle.rl_defs.specs.declared.load.Command.{Command}
use Rattle.rl_defs.specs.declared.load.ClientRow.{ClientRow}
use Rattle.rl_defs.specs.declared.tables.Tables.{Tables}
use Rattle.rl_defs.specs.declared.bundle.Bundle.{Bundle}
use Rattle.rl_defs.specs.BundleNames.{ClientLines, commands_at}
use Rattle.rl_defs.specs.ScriptRules.{keeps_kinds, keeps_owned}
use Rattle.rl_defs.specs.LoadOf.{commands_in}
use Rattle.script_checker.specs.Known.{Known, nothing, after}

-- the lower one of the rules 50 and 51 that a line breaks
abbrev pub broken : Tables → Bundle → Known → ClientLine → Option ℕ
broken tables b k form = if not (keeps_kinds tables b k.bound form) then Some 50 else if not (keeps_owned k.bound k.gone form) then Some 51 else None

abbrev pub refusal_at : ℕ → Option ℕ → Option Refusal
refusal_at line None = None
refusal_at line (Some rule) = Some (record { line = line; rule = rule })

abbrev pub first_of : Option Refusal → Option Refusal → Option Refusal
first_of None later = later
first_of (Some at) later = Some at

-- the first refusal among the lines of a script, behind what is known
abbrev pub verdict : Tables → Bundle → Known → ClientLines → Option Refusal
verdict tables b k [] = None
verdict tables b k (l ∷ ls) = first_of (refusal_at l.line (broken tables b k l.form)) (verdict tables b (after tables b k l.form) ls)

-- the commands that the lines of a script stand for, behind what is known
abbrev pub commands_behind : Tables → Bundle → Known → ClientLines → List Command
commands_behind tables b k [] = []
commands_behind tables b k (l ∷ ls) = commands_in tables b (after tables b k l.form).names l.form ++ commands_behind tables b (after tables b k l.form) ls

-- the same of all scripts
abbrev pub script_verdict : Tables → Bundle → ClientLine → ClientLines → Option Refusal → Option Refusal
script_verdict tables b (client.Client name) ls later = first_of (verdict tables b nothing (commands_at ls)) later
script_verdict tables b _ ls later = later

abbrev pub verdict_of : Tables → Bundle → ClientLines → Option Refusal
verdict_of tables b [] = None
verdict_of tables b (l ∷ ls) = script_verdict tables b l.form ls (verdict_of tables b ls)

abbrev pub row_before : Tables → Bundle → ClientLine → ClientLines → List ClientRow → List ClientRow
row_before tables b (client.Client name) ls later = record { name = name; commands = commands_behind tables b nothing (commands_at ls) } ∷ later
row_before tables b _ ls later = later

abbrev pub rows_of : Tables → Bundle → ClientLines → List ClientRow
rows_of tables b [] = []
rows_of tables b (l ∷ ls) = row_before tables b l.form ls (rows_of tables b ls)

-- What is answered: a value, where nothing is refused, or the first refusal. Want of memory is free.
abbrev pub Says : {X : Type 0} → Option Refusal → (X → Type 0) → Result X LoadFault → Type 0
Says first StandsFor (Ok x) = (first ≡ None) × StandsFor x
Says first StandsFor (Err (Refused at)) = first ≡ Some at
Says first StandsFor (Err Memory) = Unit {0}
