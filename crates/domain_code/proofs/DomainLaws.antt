-- The lines of the domain part: a text is one form at most, and reading its tokens finds it.
use Rattle.std.proofs.Common.{◌≡◌, ℕ, Bool, true, false, List, [], Option, None, Err, refl, sym, subst, ◌∙◌}
use Rattle.rl_defs.specs.declared.LoadFault.{LoadFault}
use Rattle.rl_defs.specs.declared.LoadFault.TheVariants.{Refused, Memory}
use Rattle.rl_defs.specs.declared.code.Instr.TheVariants as instr
use Rattle.rl_defs.specs.declared.code.DomainLine.{DomainLine}
use Rattle.rl_defs.specs.declared.code.DomainLine.TheVariants as line
use Rattle.rl_defs.specs.Tokens.{Token, HasTokens}
use Rattle.rl_defs.specs.DomainForms.{spell_line, HasDecimals, PlaceIsDecimal, IsDomainLine}
use Rattle.rl_defs.specs.DomainParts.{domain_part}
use Rattle.rl_text.specs.Reading.{name_at, key_at, mark_at}
use Rattle.rl_text.specs.Forms.{IsRefused, Reads, OneForm, SkippedIsNoForm}
use Rattle.rl_text.proofs.FormLaws as forms
use Rattle.rl_text.specs.Forms.{IsReading}
use Rattle.rl_text.proofs.PartRules.{AreForms}
use Rattle.domain_code.specs.Decimals.{names_place}
use Rattle.domain_code.specs.Forms.{line_at, form_at, word_line_at}
use Rattle.domain_code.proofs.FormTakes.{line_takes}
use Rattle.domain_code.proofs.FormAgain.{line_again}

-- the tokens of a line are those of the form, however its numbers are written
abbrev pub IsSpelled : DomainLine → List ℕ → Type 0
IsSpelled form text = HasTokens (spell_line form) text

abbrev pub read : List ℕ → List Token → Option DomainLine
read text ts = line_at ts

nothing : line_at [] ≡ None
unfolding line_at form_at word_line_at name_at key_at mark_at
nothing = refl

pub reading : IsReading IsSpelled read
reading = record {
  takes = λ text ts form h e. subst (λ (t : List Token). HasTokens t text) (line_takes ts form e) h;
  finds = λ text form f. record { tokens = spell_line form; has = f; found = line_again form };
  nothing = λ text. nothing;
}

pub one_form : OneForm IsDomainLine
one_form a b text f g = forms.one_form IsSpelled read reading a b text f.tokens g.tokens

pub skipped_no_form : SkippedIsNoForm IsDomainLine
skipped_no_form text form h f = forms.skipped_no_form IsSpelled read reading text form h f.tokens

pub domain_forms : AreForms domain_part
domain_forms = record { one = one_form; skipped = skipped_no_form }

-- ---- the place that a line names

-- a line that names no place is one however its numbers are written, and one that does where they are decimal
pub record PlaceRule (l : DomainLine) (text : List ℕ) (names : Bool) : Type 0 where
  pub free : names ≡ false → PlaceIsDecimal l text
  pub bound : names ≡ true → HasDecimals text → PlaceIsDecimal l text
  pub keeps : names ≡ true → PlaceIsDecimal l text → HasDecimals text

free_line : (l : DomainLine) (text : List ℕ) → PlaceIsDecimal l text → names_place l ≡ false → PlaceRule l text (names_place l)
free_line l text free none = record { free = λ e. free; bound = λ e h. free; keeps = λ e h. absurd (let f = sym none ∙ e in cc) }

pub place_rule : (l : DomainLine) (text : List ℕ) → PlaceRule l text (names_place l)
place_rule (line.Domain name has) text = free_line (line.Domain name has) text tt refl
place_rule (line.Words n) text = free_line (line.Words n) text tt refl
place_rule (line.Slot name ty) text = free_line (line.Slot name ty) text tt refl
place_rule (line.Import name has) text = free_line (line.Import name has) text tt refl
place_rule (line.Native body) text = free_line (line.Native body) text tt refl
place_rule (line.Function name) text = free_line (line.Function name) text tt refl
place_rule (line.Head label items) text = free_line (line.Head label items) text tt refl
place_rule (line.Code (instr.Const a n)) text = free_line (line.Code (instr.Const a n)) text tt refl
place_rule (line.Code (instr.Copy a b)) text = free_line (line.Code (instr.Copy a b)) text tt refl
place_rule (line.Code (instr.Math o a b c)) text = free_line (line.Code (instr.Math o a b c)) text tt refl
place_rule (line.Code (instr.Jmp label)) text = free_line (line.Code (instr.Jmp label)) text tt refl
place_rule (line.Code (instr.Jz a label)) text = free_line (line.Code (instr.Jz a label)) text tt refl
place_rule (line.Code (instr.Move a b)) text = free_line (line.Code (instr.Move a b)) text tt refl
place_rule (line.Code (instr.Get a o i)) text = free_line (line.Code (instr.Get a o i)) text tt refl
place_rule (line.Code (instr.Wget a i)) text = free_line (line.Code (instr.Wget a i)) text tt refl
place_rule (line.Code (instr.Has a slot)) text = free_line (line.Code (instr.Has a slot)) text tt refl
place_rule (line.Code (instr.Cap a import)) text = free_line (line.Code (instr.Cap a import)) text tt refl
place_rule (line.Code (instr.DevSize a)) text = free_line (line.Code (instr.DevSize a)) text tt refl
place_rule (line.Code (instr.New a ty)) text = free_line (line.Code (instr.New a ty)) text tt refl
place_rule (line.Code (instr.Drop a)) text = free_line (line.Code (instr.Drop a)) text tt refl
place_rule (line.Code (instr.Set o i v)) text = free_line (line.Code (instr.Set o i v)) text tt refl
place_rule (line.Code (instr.Wput i v)) text = free_line (line.Code (instr.Wput i v)) text tt refl
place_rule (line.Code (instr.Take a slot)) text = free_line (line.Code (instr.Take a slot)) text tt refl
place_rule (line.Code (instr.Put slot a)) text = free_line (line.Code (instr.Put slot a)) text tt refl
place_rule (line.Code (instr.DevGet o n)) text = free_line (line.Code (instr.DevGet o n)) text tt refl
place_rule (line.Code (instr.DevPut n o)) text = free_line (line.Code (instr.DevPut n o)) text tt refl
place_rule (line.Code (instr.Hang o place v)) text = record { free = λ e. absurd cc; bound = λ e h. h; keeps = λ e h. h }
place_rule (line.Code (instr.Unhang a o place)) text = record { free = λ e. absurd cc; bound = λ e h. h; keeps = λ e h. h }
place_rule (line.Code (instr.Call target method args results c label)) text = free_line (line.Code (instr.Call target method args results c label)) text tt refl
place_rule (line.Code (instr.Ret results)) text = free_line (line.Code (instr.Ret results)) text tt refl
place_rule (line.Code instr.Trap) text = free_line (line.Code instr.Trap) text tt refl
place_rule line.Close text = free_line line.Close text tt refl

-- ---- what reading a line answers

-- a line that is no form, however its numbers are written
pub no_spelling : (number : ℕ) (text : List ℕ) (fault : LoadFault) → Reads IsSpelled number text (Err fault) → Reads IsDomainLine number text (Err fault)
no_spelling number text (Refused at) h = (h.0, h.1, record { not_skipped = h.2.not_skipped; no_form = λ form f. h.2.no_form form f.tokens })
no_spelling number text Memory h = tt

-- a line whose place is not written in decimal digits
pub not_decimal : (number : ℕ) (text : List ℕ) (form : DomainLine) (fault : LoadFault) → fault ≡ Refused (record { line = number; rule = 1 }) → IsSpelled form text → (PlaceIsDecimal form text → ⊥) → Reads IsDomainLine number text (Err fault)
not_decimal number text form fault is h never =
    let P : LoadFault → Type 0 = λ f. Reads IsDomainLine number text (Err f) in
    let x : IsRefused IsDomainLine text = record {
      not_skipped = λ s. forms.skipped_no_form IsSpelled read reading text form s h;
      no_form = λ other f. never (subst (λ (l : DomainLine). PlaceIsDecimal l text) (forms.one_form IsSpelled read reading other form text f.tokens h) f.decimal);
    } in
    subst P (sym is) (refl, refl, x)
