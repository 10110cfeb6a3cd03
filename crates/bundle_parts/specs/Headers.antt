-- What code finds of headers, by the tokens of a line.
use Rattle.std.specs.Prelude.{◌≡◌, ℕ, Bool, false, ◌==◌, List, ◌∷◌, Option, Some, None, Result, Ok, Err, if◌then◌else◌, codes, slice_get}
use Rattle.std.specs.List.{prefix_len}
use Rattle.std.specs.Cmp.Lexicographic.{pointwise}
use Rattle.rl_defs.specs.declared.LoadFault.{LoadFault}
use Rattle.rl_defs.specs.declared.LoadFault.TheVariants.{Refused, Memory}
use Rattle.rl_defs.specs.declared.lexeme.Mark.TheVariants as m
use Rattle.rl_defs.specs.Tokens.{Token, HasTokens, IsSkipped, is_blank}
use Rattle.rl_defs.specs.BundleParts as parts
use Rattle.rl_defs.specs.BundleParts.{IsHeader, IsAnyHeader}
use Rattle.rl_text.specs.Reading.{◌>>=◌, name_at, mark_at, end_at}
use Rattle.bundle_parts.specs.declared.header.Header.{Header}
use Rattle.bundle_parts.specs.declared.header.Header.TheVariants as h
use Rattle.bundle_parts.specs.declared.header.Sight.{Sight}
use Rattle.bundle_parts.specs.declared.header.Sight.TheVariants as sight

abbrev pub header_of : Header → parts.Header
header_of h.Interfaces = parts.Interfaces
header_of h.Domains = parts.Domains
header_of h.Plan = parts.ThePlan
header_of h.Clients = parts.TheClients

-- the header whose word this is
abbrev pub header_named : List ℕ → Option Header
header_named word =
    if pointwise ◌==◌ word (codes "idl") then Some h.Interfaces else
    (if pointwise ◌==◌ word (codes "domains") then Some h.Domains else
    (if pointwise ◌==◌ word (codes "plan") then Some h.Plan else
    (if pointwise ◌==◌ word (codes "clients") then Some h.Clients else None)))

-- the header that all tokens are
unfoldable pub header_at : List Token → Option Header
header_at ts = do
  a ← mark_at m.OpenBracket ts
  name ← name_at a
  b ← mark_at m.CloseBracket name.1
  c ← end_at b
  header_named name.0

-- the line has tokens, and is no header
pub record IsOther (text : List ℕ) : Type 0 where
  pub first : Token
  pub more : List Token
  pub tokens : HasTokens (first ∷ more) text
  pub no_header : IsAnyHeader text → ⊥

-- what a line of this number is, or rule 1 of its tokens
abbrev pub Sees : ℕ → List ℕ → Result Sight LoadFault → Type 0
Sees number text (Ok sight.Blank) = IsSkipped text
Sees number text (Ok (sight.Header header)) = IsHeader (header_of header) text
Sees number text (Ok sight.Other) = IsOther text
Sees number text (Err (Refused at)) = (at.line ≡ number) × (at.rule ≡ 1) × ((ts : List Token) → HasTokens ts text → ⊥)
Sees number text (Err Memory) = Unit {0}

-- the line is this header, or it is none
abbrev pub IsHeaderOrNone : List ℕ → Option Header → Type 0
IsHeaderOrNone text None = IsAnyHeader text → ⊥
IsHeaderOrNone text (Some header) = IsHeader (header_of header) text

abbrev pub is_bracket : Option ℕ → Bool
is_bracket None = false
is_bracket (Some byte) = byte == 91

-- the first byte that is no blank is a `[`
abbrev pub begins_with_bracket : List ℕ → Bool
begins_with_bracket text = is_bracket (slice_get text (prefix_len is_blank text))
