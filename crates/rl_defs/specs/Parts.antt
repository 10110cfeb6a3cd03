-- A part of a bundle, whatever its line forms are: the order of its lines, and what rules 1 and 2 refuse in it.
use Rattle.std.specs.Prelude.{◌≡◌, ◌≢◌, ℕ, ◌+◌, ◌⊎◌, List, [], ◌∷◌, Option, Some, None, map, fold, slice_get, length, take}
use Rattle.std.specs.Option.{option_and_then}
use Rattle.rl_defs.specs.declared.bundle.Numbered.{Numbered}
use Rattle.rl_defs.specs.Refusals.{Failing}
use Rattle.rl_defs.specs.Tokens.{IsSkipped}

-- A part's grammar: which texts are lines of which form, and which form may stand where. What is open behind some lines is a block;
-- a form may stand there where it leads to another block.
pub record Grammar (Form Block : Type 0) : Type 1 where
  pub is_line : Form → List ℕ → Type 0
  pub next : Block → Form → Option Block
  pub outside : Block

abbrev pub next_open : {Form Block : Type 0} → Grammar Form Block → Option Block → Form → Option Block
next_open G block form = option_and_then (λ inside. G.next inside form) block

-- the block that is open behind lines, where each of them may stand where it stands
abbrev pub block_behind : {Form Block : Type 0} → Grammar Form Block → List Form → Option Block
block_behind G forms = fold (next_open G) (Some G.outside) forms

abbrev pub forms_of : {Form : Type 0} → List (Numbered Form) → List Form
forms_of lines = map (λ line. line.form) lines

abbrev pub numbered : {Form : Type 0} → ℕ → Form → Numbered Form
numbered number form = record { line = number; form = form }

-- Texts, the first of which is the line of this number, stand for these lines: a text without tokens for none.
abbrev pub StandFor : {Form Block : Type 0} → Grammar Form Block → ℕ → List (List ℕ) → List (Numbered Form) → Type 0
StandFor G number [] lines = lines ≡ []
StandFor {Form} G number (text ∷ texts) lines =
    (IsSkipped text × StandFor G (number + 1) texts lines)
    ⊎ ((form : Form) × (more : List (Numbered Form)) × (lines ≡ numbered number form ∷ more) × G.is_line form text × StandFor G (number + 1) texts more)

-- The line of this number has this text, and stands behind so many lines of the part.
pub record IsLineOf (first : ℕ) (texts : List (List ℕ)) (number behind : ℕ) (text : List ℕ) : Type 0 where
  pub place : number ≡ first + behind
  pub here : slice_get texts behind ≡ Some text

-- rule 1: A line that has tokens, or can have none, is no form.
pub record IsNoForm {Form Block : Type 0} (G : Grammar Form Block) (first : ℕ) (texts : List (List ℕ)) (number : ℕ) : Type 0 where
  pub behind : ℕ
  pub text : List ℕ
  pub line : IsLineOf first texts number behind text
  pub not_skipped : IsSkipped text → ⊥
  pub no_form : (form : Form) → G.is_line form text → ⊥

-- rule 2: A line may not stand behind the lines before it.
pub record IsMisplaced {Form Block : Type 0} (G : Grammar Form Block) (first : ℕ) (texts : List (List ℕ)) (number : ℕ) : Type 0 where
  pub behind : ℕ
  pub text : List ℕ
  pub line : IsLineOf first texts number behind text
  pub form : Form
  pub is : G.is_line form text
  pub before : List (Numbered Form)
  pub stand : StandFor G first (take behind texts) before
  pub block : Block
  pub open_block : block_behind G (forms_of before) ≡ Some block
  pub barred : G.next block form ≡ None

-- rule 2: A block is open behind the last line of the part; it is refused at the line behind that.
pub record IsLeftOpen {Form Block : Type 0} (G : Grammar Form Block) (first : ℕ) (texts : List (List ℕ)) (number : ℕ) : Type 0 where
  pub place : number ≡ first + length texts
  pub lines : List (Numbered Form)
  pub stand : StandFor G first texts lines
  pub block : Block
  pub open_block : block_behind G (forms_of lines) ≡ Some block
  pub inside : block ≢ G.outside

-- What rules 1 and 2 refuse in a part. Its lines are these texts, the first of which is the line of this number.
abbrev pub FailsPart : {Form Block : Type 0} → Grammar Form Block → ℕ → List (List ℕ) → Failing
FailsPart G first texts number rule =
    ((rule ≡ 1) × IsNoForm G first texts number)
    ⊎ ((rule ≡ 2) × (IsMisplaced G first texts number ⊎ IsLeftOpen G first texts number))

-- rule 1 of a line alone, which is to be a form
abbrev pub FailsLine : {Form : Type 0} → (Form → List ℕ → Type 0) → ℕ → List ℕ → Failing
FailsLine {Form} is_line number text line rule = (line ≡ number) × (rule ≡ 1) × ((form : Form) → is_line form text → ⊥)
