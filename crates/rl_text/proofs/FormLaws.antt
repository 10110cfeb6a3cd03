-- Lines of a part, whatever its forms are: a text is one form at most, and reading its tokens finds it.
use Rattle.std.proofs.Common.{◌≡◌, ℕ, List, [], ◌∷◌, length, eqb, false, map, Option, None, Some, Err, inr, refl, sym, ap, subst, ◌∙◌, arith}
use Rattle.rl_defs.specs.declared.LoadFault.{LoadFault}
use Rattle.rl_defs.specs.declared.LoadFault.TheVariants.{Refused, Memory}
use Rattle.rl_defs.specs.Refusals.{IsFirst, Answers}
use Rattle.rl_defs.specs.Tokens.{Token, HasTokens, IsSkipped, FailsTokens}
use Rattle.rl_defs.specs.Parts.{FailsLine}
use Rattle.rl_text.specs.declared.lexeme.Lexeme.{Lexeme}
use Rattle.rl_text.specs.Lexemes.{token_of}
use Rattle.rl_text.specs.Forms.{IsReading, IsRefused, Reads, OneForm, SkippedIsNoForm}
use Rattle.rl_text.proofs.ReadingLaws.{one_reading}

-- the reading of a line that is a form
pub reads_form : {Form : Type 0} (is_line : Form → List ℕ → Type 0) (read : List ℕ → List Token → Option Form) → IsReading is_line read → (text : List ℕ) (ts : List Token) (form : Form) → HasTokens ts text → is_line form text → read text ts ≡ Some form
reads_form is_line read r text ts form h f = let x = r.finds text form f in ap (read text) (one_reading ts x.tokens text h x.has) ∙ x.found

pub no_line : {Form : Type 0} (is_line : Form → List ℕ → Type 0) (read : List ℕ → List Token → Option Form) → IsReading is_line read → (text : List ℕ) (ts : List Token) → HasTokens ts text → read text ts ≡ None → (form : Form) → is_line form text → ⊥
no_line is_line read r text ts h e form f = let g = sym e ∙ reads_form is_line read r text ts form h f in cc

-- no two forms share a spelling
pub one_form : {Form : Type 0} (is_line : Form → List ℕ → Type 0) (read : List ℕ → List Token → Option Form) → IsReading is_line read → OneForm is_line
one_form is_line read r a b text f g = let x = r.finds text a f in let e = sym x.found ∙ reads_form is_line read r text x.tokens b x.has g in cc

-- a line without tokens is no form
pub skipped_no_form : {Form : Type 0} (is_line : Form → List ℕ → Type 0) (read : List ℕ → List Token → Option Form) → IsReading is_line read → SkippedIsNoForm is_line
skipped_no_form is_line read r text form h f = no_line is_line read r text [] h (r.nothing text) form f

-- a line that can have no tokens
pub fault_reads : {Form : Type 0} (is_line : Form → List ℕ → Type 0) (read : List ℕ → List Token → Option Form) → IsReading is_line read → (number : ℕ) (text : List ℕ) (fault : LoadFault) → Answers {X = Unit {0}} (FailsTokens number text) (λ _. Unit {0}) (Err fault) → Reads is_line number text (Err fault)
fault_reads is_line read r number text (Refused at) h = (h.fails.0, h.fails.1, record { not_skipped = λ s. h.fails.2 [] s; no_form = λ form f. let x = r.finds text form f in h.fails.2 x.tokens x.has })
fault_reads is_line read r number text Memory h = tt

some_tokens : (text : List ℕ) (items : List Lexeme) → eqb (length items) 0 ≡ false → HasTokens (map (token_of text) items) text → IsSkipped text → ⊥
some_tokens text [] some h s = absurd cc
some_tokens text (x ∷ items) some h s = let e = one_reading (map (token_of text) (x ∷ items)) [] text h s in cc

-- a line whose tokens are no form
pub refuses_line : {Form : Type 0} (is_line : Form → List ℕ → Type 0) (read : List ℕ → List Token → Option Form) → IsReading is_line read → (number : ℕ) (text : List ℕ) (items : List Lexeme) (fault : LoadFault) → fault ≡ Refused (record { line = number; rule = 1 }) → eqb (length items) 0 ≡ false → HasTokens (map (token_of text) items) text → read text (map (token_of text) items) ≡ None → Reads is_line number text (Err fault)
refuses_line is_line read r number text items fault is some h none =
    let P : LoadFault → Type 0 = λ f. Reads is_line number text (Err f) in
    let x : IsRefused is_line text = record { not_skipped = some_tokens text items some h; no_form = no_line is_line read r text (map (token_of text) items) h none } in
    subst P (sym is) (refl, refl, x)

-- a line that is to be a form and has no tokens
pub skipped_fails : {Form : Type 0} (is_line : Form → List ℕ → Type 0) (read : List ℕ → List Token → Option Form) → IsReading is_line read → (number : ℕ) (text : List ℕ) → IsSkipped text → IsFirst (FailsLine is_line number text) number 1
skipped_fails is_line read r number text s = record {
  fails = (refl, refl, λ form f. skipped_no_form is_line read r text form s f);
  first = λ l rule f. inr (sym f.0, omega (arith, f.1));
}
