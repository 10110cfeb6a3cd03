-- Names of lines are words without a dot.
use Rattle.std.proofs.Common.{◌≡◌, ℕ, zero, suc, ◌+◌, inl, inr, true, not, ◌&&◌, List, [], ◌∷◌, ◌++◌, length, Some, None, refl, sym, ap, subst, ◌∙◌}
use Rattle.std.specs.Prelude.{slice_get, IsTrue, nat_le}
use Rattle.std.specs.List.{list_all}
use Rattle.rl_defs.specs.declared.bundle.Numbered.{Numbered}
use Rattle.rl_defs.specs.declared.bundle.Bundle.{Bundle}
use Rattle.rl_defs.specs.declared.bundle.PlanLine.{PlanLine}
use Rattle.rl_defs.specs.declared.bundle.ClientLine.{ClientLine}
use Rattle.rl_defs.specs.declared.bundle.ClientLine.TheVariants as client
use Rattle.rl_defs.specs.declared.tables.Tables.{Tables}
use Rattle.rl_defs.specs.Words.{is_word, starts_word, is_word_byte, is_name, is_reserved}
use Rattle.rl_defs.specs.Tokens.{Token, Name, Text, is_text_byte, Placed, IsToken, ArePlaced, tokens_of, HasTokens}
use Rattle.rl_defs.specs.Parts.{Grammar, StandFor}
use Rattle.rl_defs.specs.BundleForms.{spell_plan, IsPlanLine, spell_client, IsClientLine}
use Rattle.rl_defs.specs.BundleParts.{plan_part, client_part}
use Rattle.rl_defs.proofs.Lists.{and_left, and_right}
use Rattle.valid_loads.proofs.Rules.{Kept}
use Rattle.valid_loads.proofs.Rows.{LineOf}

-- a name among the tokens of a line is a name
named_there : (place : ℕ) (ps : List Placed) (bytes : List ℕ) → ArePlaced place ps bytes → (i : ℕ) (word : List ℕ) → slice_get (tokens_of ps) i ≡ Some (Name word) → IsTrue (is_name word)
named_there place [] bytes h i word e = absurd cc
named_there place (p ∷ ps) bytes h zero word e =
    let same : p.token ≡ Name word = cc in
    (subst (λ (t : Token). IsToken t h.1) same h.3.token).1
named_there place (p ∷ ps) bytes h (suc i) word e = named_there p.stop ps h.2 h.4 i word e

-- each token of a line has its bytes
tokens_there : (place : ℕ) (ps : List Placed) (bytes : List ℕ) → ArePlaced place ps bytes → (i : ℕ) (t : Token) → slice_get (tokens_of ps) i ≡ Some t → (text : List ℕ) × IsToken t text
tokens_there place [] bytes h i t e = absurd cc
tokens_there place (p ∷ ps) bytes h zero t e = let same : p.token ≡ t = cc in (h.1, subst (λ (u : Token). IsToken u h.1) same h.3.token)
tokens_there place (p ∷ ps) bytes h (suc i) t e = tokens_there p.stop ps h.2 h.4 i t e

pub token_at : (ts : List Token) (text : List ℕ) → HasTokens ts text → (i : ℕ) (t : Token) → slice_get ts i ≡ Some t → (bytes : List ℕ) × IsToken t bytes
token_at ts text h i t e = tokens_there 0 h.0 text h.2.tokens i t (ap (λ (us : List Token). slice_get us i) h.1 ∙ e)

pub named_token : (ts : List Token) (text : List ℕ) → HasTokens ts text → (i : ℕ) (word : List ℕ) → slice_get ts i ≡ Some (Name word) → IsTrue (is_name word)
named_token ts text h i word e = named_there 0 h.0 text h.2.tokens i word (ap (λ (t : List Token). slice_get t i) h.1 ∙ e)

-- the text of a line
pub text_of_line : {Form Block : Type 0} (G : Grammar Form Block) (number : ℕ) (texts : List (List ℕ)) (lines : List (Numbered Form)) → StandFor G number texts lines → (k : ℕ) (x : Numbered Form) → slice_get lines k ≡ Some x → (text : List ℕ) × G.is_line x.form text
text_of_line {Form} G number [] lines h k x e = let bad : None ≡ Some x = sym (ap (λ (ls : List (Numbered Form)). slice_get ls k) h) ∙ e in absurd cc
text_of_line G number (text ∷ texts) lines (inl h) k x e = text_of_line G (number + 1) texts lines h.1 k x e
text_of_line {Form} G number (text ∷ texts) lines (inr h) k x e = at k (sym (ap (λ (ls : List (Numbered Form)). slice_get ls k) h.2) ∙ e) (λ j d. text_of_line G (number + 1) texts h.1 h.4 j x d) where
  at : (k : ℕ) → slice_get (record { line = number; form = h.0 } ∷ h.1) k ≡ Some x → ((j : ℕ) → slice_get h.1 j ≡ Some x → (t : List ℕ) × G.is_line x.form t) → (t : List ℕ) × G.is_line x.form t
  at zero d more = let same : record { line = number; form = h.0 } ≡ x = cc in (text, subst (λ (y : Numbered Form). G.is_line y.form text) same h.3)
  at (suc j) d more = more j d

plan_text : (tables : Tables) (b : Bundle) → Kept tables b → (k : ℕ) (x : Numbered PlanLine) → slice_get b.plan.lines k ≡ Some x → (text : List ℕ) × IsPlanLine x.form text
plan_text tables b h k x e = elim h.lines.plan [
  | inl missing ↦ let bad : None ≡ Some x = sym (ap (λ (ls : List (Numbered PlanLine)). slice_get ls k) missing.1) ∙ e in absurd cc
  | inr part ↦ text_of_line plan_part part.0 part.1 b.plan.lines part.3 k x e
]

-- a name in a line of the plan is a name
pub plan_named : (tables : Tables) (b : Bundle) → Kept tables b → (form : PlanLine) → LineOf b form → (i : ℕ) (word : List ℕ) → slice_get (spell_plan form) i ≡ Some (Name word) → IsTrue (is_name word)
plan_named tables b h form line i word e =
    let t = plan_text tables b h line.place (record { line = line.number; form = form }) line.here in
    named_token (spell_plan form) t.0 t.1.tokens i word e

client_text : (tables : Tables) (b : Bundle) → Kept tables b → (k : ℕ) (x : Numbered ClientLine) → slice_get b.clients.lines k ≡ Some x → (text : List ℕ) × IsClientLine x.form text
client_text tables b h k x e = elim h.lines.clients [
  | inl missing ↦ let bad : None ≡ Some x = sym (ap (λ (ls : List (Numbered ClientLine)). slice_get ls k) missing.1) ∙ e in absurd cc
  | inr part ↦ text_of_line client_part part.0 part.1 b.clients.lines part.3 k x e
]

-- the bytes of a `text` line may stand in a text
pub text_bytes : (tables : Tables) (b : Bundle) → Kept tables b → (k n : ℕ) (name ty bytes : List ℕ) → slice_get b.clients.lines k ≡ Some (record { line = n; form = client.Text name ty bytes }) → list_all is_text_byte bytes ≡ true
text_bytes tables b h k n name ty bytes e =
    let t = client_text tables b h k (record { line = n; form = client.Text name ty bytes }) e in
    (token_at (spell_client (client.Text name ty bytes)) t.0 t.1 4 (Text bytes) refl).1.1

-- ---- no byte of a name is a dot

abbrev pub NoDot : List ℕ → Type 0
NoDot [] = Unit {0}
NoDot (c ∷ cs) = (c ≡ 46 → ⊥) × NoDot cs

dot_is_none : is_word_byte 46 ≡ true → ⊥
dot_is_none e = absurd cc

words_no_dot : (cs : List ℕ) → list_all is_word_byte cs ≡ true → NoDot cs
words_no_dot [] e = tt
words_no_dot (c ∷ cs) e = (
  λ is. dot_is_none (subst (λ (n : ℕ). is_word_byte n ≡ true) is (and_left (is_word_byte c) (list_all is_word_byte cs) e)),
  words_no_dot cs (and_right (is_word_byte c) (list_all is_word_byte cs) e),
)

pub name_no_dot : (name : List ℕ) → IsTrue (is_name name) → NoDot name
name_no_dot name h = words_no_dot name (and_right (starts_word name && nat_le (length name) 24) (list_all is_word_byte name) (and_left (is_word name) (not (is_reserved name)) h))

heads : (c d : ℕ) (xs ys : List ℕ) → c ∷ xs ≡ d ∷ ys → (c ≡ d) × (xs ≡ ys)
heads c d xs ys e = (cc, cc)

-- two names that a dot parts from others
pub parted : (a b x y : List ℕ) → NoDot a → NoDot x → a ++ 46 ∷ b ≡ x ++ 46 ∷ y → (a ≡ x) × (b ≡ y)
parted [] b [] y p q e = (refl, (heads 46 46 b y e).1)
parted [] b (d ∷ x) y p q e = absurd (q.0 (sym (heads 46 d b (x ++ 46 ∷ y) e).0))
parted (c ∷ a) b [] y p q e = absurd (p.0 (heads c 46 (a ++ 46 ∷ b) y e).0)
parted (c ∷ a) b (d ∷ x) y p q e =
    let h = heads c d (a ++ 46 ∷ b) (x ++ 46 ∷ y) e in
    let r = parted a b x y p.1 q.1 h.1 in
    (ap (λ (n : ℕ). n ∷ a) h.0 ∙ ap (λ (ns : List ℕ). d ∷ ns) r.0, r.1)
