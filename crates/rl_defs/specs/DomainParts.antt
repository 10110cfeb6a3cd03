-- The domain part: the order of its lines, and the domains that they are.
use Rattle.std.specs.Prelude.{◌≡◌, ℕ, ◌||◌, [], ◌∷◌, ◌<◌, Bool, Option, Some, None, true, false, List, slice_get, if◌then◌else◌}
use Rattle.rl_defs.specs.declared.code.Instr.TheVariants as instr
use Rattle.rl_defs.specs.declared.code.DomainLine.TheVariants as line
use Rattle.rl_defs.specs.declared.code.Instr.{Instr}
use Rattle.rl_defs.specs.declared.code.DomainLine.{DomainLine}
use Rattle.rl_defs.specs.declared.code.DomainText.{DomainText}
use Rattle.rl_defs.specs.declared.bundle.Numbered.{Numbered}
use Rattle.rl_defs.specs.Parts.{Grammar, FailsPart, StandFor, block_behind, forms_of}
use Rattle.rl_defs.specs.DomainForms.{IsDomainLine}
use Rattle.rl_defs.specs.Refusals.{Failing}
use Rattle.rl_defs.specs.Domains.{Lines}

-- Where some lines of the domain part lead: outside any domain; among the lines that a domain declares words, slots, imports and a
-- native body with, of which it has some; behind a function; inside one; there directly behind a `jmp`, `ret` or `trap`.
pub data DomainBlock : Type 0 where
  Outside : DomainBlock
  Declares : (words slots native : Bool) → DomainBlock
  BehindFunction : DomainBlock
  InFunction : DomainBlock
  BehindEnd : DomainBlock

abbrev pub unless : Bool → DomainBlock → Option DomainBlock
unless barred next = if barred then None else Some next

-- control doesn't go on from this instruction to the next line
abbrev pub ends : Instr → Bool
ends (instr.Jmp label) = true
ends (instr.Ret results) = true
ends instr.Trap = true
ends _ = false

-- A domain is its head, then lines of words, slots, imports and a native body in any order, then functions, then a `}`. It has at
-- most one `words` line and one native body; beside a native body it has imports only. A function is its head, heads and
-- instructions, and a `}`; behind a `jmp`, `ret` or `trap` stands a head or the `}`. No other line may follow.
abbrev pub next_block : DomainBlock → DomainLine → Option DomainBlock
next_block Outside (line.Domain name has) = Some (Declares false false false)
next_block (Declares words slots native) (line.Words n) = unless (words || native) (Declares true slots native)
next_block (Declares words slots native) (line.Slot name ty) = unless native (Declares words true native)
next_block (Declares words slots native) (line.Import name has) = Some (Declares words slots native)
next_block (Declares words slots native) (line.Native body) = unless (words || (slots || native)) (Declares words slots true)
next_block (Declares words slots native) (line.Function name) = unless native InFunction
next_block (Declares words slots native) line.Close = Some Outside
next_block BehindFunction (line.Function name) = Some InFunction
next_block BehindFunction line.Close = Some Outside
next_block InFunction (line.Head label items) = Some InFunction
next_block InFunction (line.Code i) = Some (if ends i then BehindEnd else InFunction)
next_block InFunction line.Close = Some BehindFunction
next_block BehindEnd (line.Head label items) = Some InFunction
next_block BehindEnd line.Close = Some BehindFunction
next_block _ _ = None

abbrev pub domain_part : Grammar DomainLine DomainBlock
domain_part = record { is_line = IsDomainLine; next = next_block; outside = Outside }

-- what rules 1 and 2 refuse in a domain part
abbrev pub FailsDomains : ℕ → List (List ℕ) → Failing
FailsDomains first texts = FailsPart domain_part first texts

-- the line begins a domain
abbrev pub begins_domain : DomainLine → Bool
begins_domain (line.Domain name has) = true
begins_domain _ = false

-- the lines up to the next that begins a domain
abbrev pub rest_of_domain : Lines → Lines
rest_of_domain [] = []
rest_of_domain (l ∷ ls) = if begins_domain l.form then [] else l ∷ rest_of_domain ls

-- the domains of a part, each from its first line to before the next one's
abbrev pub domains_of : Lines → List DomainText
domains_of [] = []
domains_of (l ∷ ls) = if begins_domain l.form then record { lines = l ∷ rest_of_domain ls } ∷ domains_of ls else domains_of ls

-- Texts, the first of which is the line of this number, are a domain part with these domains.
pub record AreDomains (first : ℕ) (texts : List (List ℕ)) (domains : List DomainText) : Type 0 where
  pub lines : Lines
  pub stand : StandFor domain_part first texts lines
  pub cut : domains ≡ domains_of lines

-- the lines are those of one domain, in an order in which they may stand
abbrev pub IsOneDomain : Lines → Type 0
IsOneDomain [] = ⊥
IsOneDomain (l ∷ ls) = (begins_domain l.form ≡ true) × (rest_of_domain ls ≡ ls) × (block_behind domain_part (forms_of (l ∷ ls)) ≡ Some Outside)

-- the lines are numbered upwards
abbrev pub LinesRise : Lines → Type 0
LinesRise lines = (j k : ℕ) (x y : Numbered DomainLine) → j < k → slice_get lines j ≡ Some x → slice_get lines k ≡ Some y → x.line < y.line
