-- The lines of a report, from what is kept of a history.
use Rattle.std.specs.Prelude.{ℕ, ◌+◌, [], ◌∷◌, ◌++◌, List}
use Rattle.std.specs.List.{flat_map}
use Rattle.std.specs.Fmt.{decimal}
use Rattle.rl_defs.specs.declared.load.LoadRows.{LoadRows}
use Rattle.machine_defs.specs.declared.values.Owner.{Owner}
use Rattle.machine_defs.specs.declared.values.Owner.TheVariants as owner
use Rattle.machine_defs.specs.Texts.{line, word, object_text, owner_text, struct_name}
use Rattle.machine_defs.specs.Report.{account_line}
use Rattle.heap_report.specs.KeptAccounts.{Account, told}
use Rattle.heap_report.specs.KeptObjects.{owner_in}
use Rattle.heap_report.specs.declared.objects.ObjectRecord.{ObjectRecord}
use Rattle.heap_report.specs.declared.reading.Reading.{Reading}
use Rattle.heap_report.specs.declared.report.ObjectRow.{ObjectRow}

-- the line of an object that is left
abbrev pub left_line : LoadRows → List ObjectRecord → ObjectRow → List ℕ
left_line L rows x =
    line (object_text x.number ++ word (struct_name L x.ty) (word (owner_text (owner_in rows x.number)) (word (decimal x.loans) [])))

-- the lines of accounts, whose owners have the numbers from this one on
abbrev pub account_lines : (ℕ → Owner) → ℕ → List Account → List ℕ
account_lines of n [] = []
account_lines of n (a ∷ others) = account_line (of n) (told a) ++ account_lines of (n + 1) others

abbrev pub reading_text : LoadRows → Reading → List ObjectRow → List ℕ
reading_text L r left =
    flat_map (left_line L r.objects.rows.items) left
    ++ (account_lines owner.Client 1 r.accounts.clients.items ++ account_lines owner.Instance 1 r.accounts.instances.items)
