use Rattle.std.proofs.Common.{◌≡◌, ◌≤◌, ◌++◌, map, take, length}
use Rattle.refusal_notes.specs.Notes.{shown_byte}
use Rattle.refusal_notes.proofs.note.put_bytes.Given as goal

-- the bytes so far are put
abbrev pub invariant-bytes : goal.invariant-bytes
invariant-bytes l = (l.byte-index ≤ length l.fn.bytes) × (l.out.items ≡ l.fn.out.items ++ map shown_byte (take l.byte-index l.fn.bytes))
