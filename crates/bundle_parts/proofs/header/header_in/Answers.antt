use Rattle.std.proofs.Common.{◌∙◌, sym, ap}
use Rattle.bundle_parts.specs.Headers.{begins_with_bracket}
use Rattle.bundle_parts.proofs.HeaderLaws.{no_bracket, other_no_header, skipped_no_header}
use Rattle.bundle_parts.proofs.header.header_in.Goals as goal

pub returns-then-not-begins_with_bracket : goal.returns-then-not-begins_with_bracket
returns-then-not-begins_with_bracket c = no_bracket _ (ap begins_with_bracket (sym c.text.ensures) ∙ sym c.begins_with_bracket.ensures ∙ c.if-not-begins_with_bracket.true)

pub returns-in-Ok-Blank : goal.returns-in-Ok-Blank
returns-in-Ok-Blank c = skipped_no_header _ (rw c.in-Ok-Blank.field-0-is at c.in-Ok-Blank.ensures)

pub returns-in-Ok-Other : goal.returns-in-Ok-Other
returns-in-Ok-Other c = (rw c.in-Ok-Other.field-0-is at c.in-Ok-Other.ensures).no_header

pub returns-in-Err-Refused : goal.returns-in-Err-Refused
returns-in-Err-Refused c = other_no_header _ (rw c.in-Err-Refused.field-0-is at c.in-Err-Refused.ensures).2
