-- A bundle: its headers and parts, the order of their lines, and what rules 1 and 2 refuse in it.
use Rattle.std.specs.Prelude.{◌≡◌, ◌<◌, ◌≤◌, ℕ, suc, ◌⊎◌, List, [], ◌∷◌, Option, Some, None, length, slice_get, slice_range, codes}
use Rattle.rl_defs.specs.declared.bundle.PlanLine.{PlanLine}
use Rattle.rl_defs.specs.declared.bundle.ClientLine.{ClientLine}
use Rattle.rl_defs.specs.declared.bundle.ClientLine.TheVariants as client
use Rattle.rl_defs.specs.declared.bundle.Bundle.{Bundle}
use Rattle.rl_defs.specs.declared.lexeme.Mark.TheVariants as m
use Rattle.rl_defs.specs.Refusals.{Failing}
use Rattle.rl_defs.specs.Tokens.{Token, Name, Sign, HasTokens}
use Rattle.rl_defs.specs.Parts.{Grammar, FailsPart}
use Rattle.rl_defs.specs.Parts as parts
use Rattle.rl_defs.specs.IdlParts.{interface_part, FailsIdl}
use Rattle.rl_defs.specs.DomainParts.{FailsDomains, AreDomains}
use Rattle.rl_defs.specs.BundleForms.{IsPlanLine, IsClientLine}

-- the lines of the plan stand in any order
pub data PlanBlock : Type 0 where
  Anywhere : PlanBlock

abbrev pub plan_part : Grammar PlanLine PlanBlock
plan_part = record { is_line = IsPlanLine; next = λ block form. Some Anywhere; outside = Anywhere }

abbrev pub FailsPlan : ℕ → List (List ℕ) → Failing
FailsPlan first texts = FailsPart plan_part first texts

-- Which block of the clients is open behind some lines.
pub data ClientBlock : Type 0 where
  Outside : ClientBlock
  InClient : ClientBlock

-- A client is its head, commands and a `}`. No other line may follow.
abbrev pub next_client : ClientBlock → ClientLine → Option ClientBlock
next_client Outside (client.Client name) = Some InClient
next_client Outside _ = None
next_client InClient (client.Client name) = None
next_client InClient client.Close = Some Outside
next_client InClient _ = Some InClient

abbrev pub client_part : Grammar ClientLine ClientBlock
client_part = record { is_line = IsClientLine; next = next_client; outside = Outside }

abbrev pub FailsClients : ℕ → List (List ℕ) → Failing
FailsClients first texts = FailsPart client_part first texts

-- A part header.
pub data Header : Type 0 where
  Interfaces : Header
  Domains : Header
  ThePlan : Header
  TheClients : Header

abbrev pub header_word : Header → List ℕ
header_word Interfaces = codes "idl"
header_word Domains = codes "domains"
header_word ThePlan = codes "plan"
header_word TheClients = codes "clients"

-- the parts stand in this order
abbrev pub header_place : Header → ℕ
header_place Interfaces = 0
header_place Domains = 1
header_place ThePlan = 2
header_place TheClients = 3

-- the text is this header: its word in brackets
abbrev pub IsHeader : Header → List ℕ → Type 0
IsHeader h text = HasTokens (Sign m.OpenBracket ∷ Name (header_word h) ∷ Sign m.CloseBracket ∷ []) text

abbrev pub IsAnyHeader : List ℕ → Type 0
IsAnyHeader text = (h : Header) × IsHeader h text

-- the line of this number, from 1, has this text
pub record LineIs (texts : List (List ℕ)) (number : ℕ) (text : List ℕ) : Type 0 where
  pub place : ℕ
  pub number_of : number ≡ suc place
  pub here : slice_get texts place ≡ Some text

-- the line of this number is this header
pub record HeaderAt (texts : List (List ℕ)) (number : ℕ) (h : Header) : Type 0 where
  pub text : List ℕ
  pub line : LineIs texts number text
  pub is : IsHeader h text

-- A part: the lines behind its header, up to the next header or the end. The first of them has this number.
pub record IsPart (texts : List (List ℕ)) (h : Header) (first : ℕ) (inside : List (List ℕ)) : Type 0 where
  pub header : ℕ
  pub behind : first ≡ suc header
  pub begins : HeaderAt texts header h
  pub last : ℕ
  pub behind_header : header ≤ last
  pub lines : inside ≡ slice_range texts header last
  pub stops : (last ≡ length texts) ⊎ ((h : Header) × HeaderAt texts (suc last) h)
  pub bare : (place : ℕ) (text : List ℕ) → slice_get inside place ≡ Some text → IsAnyHeader text → ⊥

-- what rules 1 and 2 refuse in a part
abbrev pub FailsIn : Header → ℕ → List (List ℕ) → Failing
FailsIn Interfaces first texts = FailsIdl first texts
FailsIn Domains first texts = FailsDomains first texts
FailsIn ThePlan first texts = FailsPlan first texts
FailsIn TheClients first texts = FailsClients first texts

pub record FailsInPart (texts : List (List ℕ)) (number rule : ℕ) : Type 0 where
  pub header : Header
  pub first : ℕ
  pub inside : List (List ℕ)
  pub part : IsPart texts header first inside
  pub fails : FailsIn header first inside number rule

-- no header stands before the line of this number, nor is it one
pub record IsBeforeAll (texts : List (List ℕ)) (number : ℕ) (text : List ℕ) : Type 0 where
  pub line : LineIs texts number text
  pub before : (earlier : ℕ) (h : Header) → earlier ≤ number → HeaderAt texts earlier h → ⊥

-- rule 1, before the first header: the line breaks a sentence on lines and tokens
pub record IsBrokenBefore (texts : List (List ℕ)) (number : ℕ) : Type 0 where
  pub text : List ℕ
  pub before : IsBeforeAll texts number text
  pub broken : (ts : List Token) → HasTokens ts text → ⊥

-- rule 2, before the first header: the line has tokens
pub record StandsBefore (texts : List (List ℕ)) (number : ℕ) : Type 0 where
  pub text : List ℕ
  pub before : IsBeforeAll texts number text
  pub first : Token
  pub more : List Token
  pub tokens : HasTokens (first ∷ more) text

-- rule 2: a header stands behind itself, or behind one that it should stand before
pub record IsOutOfOrder (texts : List (List ℕ)) (number : ℕ) : Type 0 where
  pub header : Header
  pub here : HeaderAt texts number header
  pub earlier : ℕ
  pub other : Header
  pub there : HeaderAt texts earlier other
  pub before : earlier < number
  pub behind : header_place header ≤ header_place other

-- what rules 1 and 2 refuse in a bundle, by its lines
abbrev pub FailsForms : List (List ℕ) → Failing
FailsForms texts number rule =
    FailsInPart texts number rule
    ⊎ (((rule ≡ 1) × IsBrokenBefore texts number)
    ⊎ ((rule ≡ 2) × (StandsBefore texts number ⊎ IsOutOfOrder texts number)))

-- a part of the bundle is what its lines stand for, or it is missing and has none
abbrev pub IsMissing : List (List ℕ) → Header → Type 0
IsMissing texts h = (number : ℕ) → HeaderAt texts number h → ⊥

abbrev pub StandsIn : List (List ℕ) → Header → (ℕ → List (List ℕ) → Type 0) → Type 0 → Type 0
StandsIn texts h stands none =
    (IsMissing texts h × none)
    ⊎ ((first : ℕ) × (inside : List (List ℕ)) × IsPart texts h first inside × stands first inside)

-- The lines stand for this bundle.
pub record IsBundle (texts : List (List ℕ)) (b : Bundle) : Type 0 where
  pub idl : StandsIn texts Interfaces (λ first inside. parts.StandFor interface_part first inside b.idl.lines) (b.idl.lines ≡ [])
  pub domains : StandsIn texts Domains (λ first inside. AreDomains first inside b.domains) (b.domains ≡ [])
  pub plan : StandsIn texts ThePlan (λ first inside. parts.StandFor plan_part first inside b.plan.lines) (b.plan.lines ≡ [])
  pub clients : StandsIn texts TheClients (λ first inside. parts.StandFor client_part first inside b.clients.lines) (b.clients.lines ≡ [])
