-- What is told of a refusal.
use Rattle.std.specs.Prelude.{◌≡◌, ℕ, zero, suc, ◌+◌, ◌-◌, ◌≤◌, ◌⊎◌, nat_le, nat_eq, ◌&&◌, if◌then◌else◌, List, [], ◌++◌, map, take, length, slice_get, replicate, Option, Some, None, codes}
use Rattle.std.specs.Fmt.{decimal}
use Rattle.rl_defs.specs.Lines.{lines_of}

-- a byte that a terminal shows as it is, a blank for a TAB, and `?` in place of any other
abbrev pub shown_byte : ℕ → ℕ
shown_byte b = if nat_eq b 9 then 32 else if nat_le 32 b && nat_le b 126 then b else 63

-- the front of a line, as it is shown
abbrev pub shown_text : List ℕ → List ℕ
shown_text text = map shown_byte (take 120 text)

-- the bytes of a line by its number, from 1, where the bytes of the bundle are at hand; the line
-- behind the last one has none
abbrev pub line_of : Option (List ℕ) → ℕ → Option (List ℕ)
line_of None n = None
line_of (Some bytes) zero = None
line_of (Some bytes) (suc n) = slice_get (lines_of bytes) n

-- a column points at a byte of the line, or right behind the last one; it is 1 where there is no
-- line
abbrev pub PointsInto : Option (List ℕ) → ℕ → Type 0
PointsInto None column = column ≡ 1
PointsInto (Some text) column = (1 ≤ column) × (column ≤ length text + 1)

-- the place of a refusal, as editors read it; nothing where no line is refused
abbrev pub place_text : ℕ → ℕ → List ℕ
place_text zero column = []
place_text (suc n) column = decimal (suc n) ++ (codes ":" ++ (decimal column ++ codes ": "))

-- a rule with a sentence that says what it refuses
abbrev pub rule_text : ℕ → List ℕ → List ℕ
rule_text rule says = codes "rule " ++ (decimal rule ++ (codes ": " ++ (says ++ codes "\n")))

-- marks under so many bytes from a column on
abbrev pub marks_text : ℕ → ℕ → List ℕ
marks_text column zero = []
marks_text column (suc w) = codes "    | " ++ (replicate (column - 1) 32 ++ (replicate (suc w) 94 ++ codes "\n"))

-- a line as it is shown
abbrev pub shown_line : List ℕ → List ℕ
shown_line text = codes "    | " ++ (shown_text text ++ codes "\n")

-- the refused line, if there is one, with marks under it
abbrev pub block_text : Option (List ℕ) → ℕ → ℕ → List ℕ
block_text None column width = []
block_text (Some text) column width = shown_line text ++ marks_text column width

-- another line, by its number and its bytes
abbrev pub other_text : ℕ → List ℕ → List ℕ
other_text n text = codes "line " ++ (decimal n ++ (codes ":\n" ++ shown_line text))

-- where the rule is explained
abbrev pub section_text : ℕ → List ℕ
section_text rule = codes "see docs/RULES.md#rule-" ++ (decimal rule ++ codes "\n")

-- Another line of the bundle is put behind a text, by its number, with the line's own bytes.
pub record PutsLine (bytes : Option (List ℕ)) (before after : List ℕ) : Type 0 where
  pub number : ℕ
  pub content : List ℕ
  pub there : line_of bytes number ≡ Some content
  pub is : after ≡ before ++ other_text number content

-- nothing was put behind a text, or another line of the bundle was
abbrev pub AddsOther : Option (List ℕ) → List ℕ → List ℕ → Type 0
AddsOther bytes before after = (after ≡ before) ⊎ PutsLine bytes before after

-- The text is the note of a refusal: its place, which points into the refused line; the rule; the
-- refused line, as the bundle has it; what was found and expected, which is free here; another line
-- of the bundle, or none; and where the rule is explained.
pub record IsNote (n rule : ℕ) (bytes : Option (List ℕ)) (text : List ℕ) : Type 0 where
  pub column : ℕ
  pub width : ℕ
  pub says : List ℕ
  pub hints : List ℕ
  pub named : List ℕ
  pub points : PointsInto (line_of bytes n) column
  pub other : AddsOther bytes (place_text n column ++ (rule_text rule says ++ (block_text (line_of bytes n) column width ++ hints))) named
  pub is : text ≡ named ++ section_text rule
