use Rattle.std.proofs.Common.{◌≡◌, ap, ◌∙◌}
use Rattle.history_text.specs.Acts as acts
use Rattle.history_text.proofs.LineLaws.{line_law, no_line}
use Rattle.history_text.proofs.reader.read_entry.Goals as goal

pub returns-in_default : goal.returns-in_default
returns-in_default c = no_line c.args.spellings.now c.args.line.now c.in_default.ensures

pub returns : goal.returns
returns c = line_law c.args.spellings.now c.rows.ensures.valid c.requires c.args.line.now c.in-Some.text.now c.in-Some.ensures c.in_ok-read.read (c.in_ok-read.ensures ∙ ap (acts.entry_in c.args.spellings.now) c.new.ensures)
