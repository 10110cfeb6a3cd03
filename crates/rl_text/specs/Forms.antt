-- What reading a line answers, whatever the forms of its part are, and what holds of these forms.
use Rattle.std.specs.Prelude.{◌≡◌, ℕ, List, [], Option, Some, None, Result, Ok, Err}
use Rattle.rl_defs.specs.declared.LoadFault.{LoadFault}
use Rattle.rl_defs.specs.declared.LoadFault.TheVariants.{Refused, Memory}
use Rattle.rl_defs.specs.declared.bundle.Numbered.{Numbered}
use Rattle.rl_defs.specs.Tokens.{Token, HasTokens, IsSkipped}
use Rattle.rl_defs.specs.Parts.{Grammar, StandFor}

-- rule 1 refuses the line, which has tokens or can have none, and is no form
pub record IsRefused {Form : Type 0} (is_line : Form → List ℕ → Type 0) (text : List ℕ) : Type 0 where
  pub not_skipped : IsSkipped text → ⊥
  pub no_form : (form : Form) → is_line form text → ⊥

-- no form where the line has no tokens, the form that it is, or rule 1
abbrev pub Reads : {Form : Type 0} → (Form → List ℕ → Type 0) → ℕ → List ℕ → Result (Option Form) LoadFault → Type 0
Reads is_line number text (Ok None) = IsSkipped text
Reads is_line number text (Ok (Some form)) = is_line form text
Reads is_line number text (Err (Refused at)) = (at.line ≡ number) × (at.rule ≡ 1) × IsRefused is_line text
Reads is_line number text (Err Memory) = Unit {0}

-- A form that a text is, found in the text's tokens.
pub record IsFound {Form : Type 0} (read : List ℕ → List Token → Option Form) (form : Form) (text : List ℕ) : Type 0 where
  pub tokens : List Token
  pub has : HasTokens tokens text
  pub found : read text tokens ≡ Some form

-- How the lines of a part are read: a text and its tokens give a form exactly where the text is a line of it, and no tokens give
-- none. A reading that needs the tokens alone leaves the text alone.
pub record IsReading {Form : Type 0} (is_line : Form → List ℕ → Type 0) (read : List ℕ → List Token → Option Form) : Type 0 where
  pub takes : (text : List ℕ) (ts : List Token) (form : Form) → HasTokens ts text → read text ts ≡ Some form → is_line form text
  pub finds : (text : List ℕ) (form : Form) → is_line form text → IsFound read form text
  pub nothing : (text : List ℕ) → read text [] ≡ None

-- a text is one form at most: no two forms share a spelling
abbrev pub OneForm : {Form : Type 0} → (Form → List ℕ → Type 0) → Type 0
OneForm {Form} is_line = (a b : Form) (text : List ℕ) → is_line a text → is_line b text → a ≡ b

-- a line without tokens is no form
abbrev pub SkippedIsNoForm : {Form : Type 0} → (Form → List ℕ → Type 0) → Type 0
SkippedIsNoForm {Form} is_line = (text : List ℕ) (form : Form) → IsSkipped text → is_line form text → ⊥

-- texts stand for one list of lines at most
abbrev pub OnePart : {Form Block : Type 0} → Grammar Form Block → Type 0
OnePart {Form} G = (first : ℕ) (texts : List (List ℕ)) (a b : List (Numbered Form)) → StandFor G first texts a → StandFor G first texts b → a ≡ b
