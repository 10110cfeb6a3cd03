-- The names of an accepted bundle's load are words.
use Rattle.std.proofs.Common.{◌≡◌, ℕ, zero, suc, inl, inr, Bool, true, false, not, List, [], ◌∷◌, length, All, Some, None, refl, sym, ap, subst, ◌∙◌, arith}
use Rattle.std.specs.Prelude.{slice_get, IsTrue}
use Rattle.rl_defs.specs.declared.bundle.Numbered.{Numbered}
use Rattle.rl_defs.specs.declared.bundle.Bundle.{Bundle}
use Rattle.rl_defs.specs.declared.bundle.PlanLine.TheVariants as plan
use Rattle.rl_defs.specs.declared.idl.IdlLine.{IdlLine}
use Rattle.rl_defs.specs.declared.idl.IdlLine.TheVariants as form
use Rattle.rl_defs.specs.declared.tables.Tables.{Tables}
use Rattle.rl_defs.specs.declared.tables.StructRow.{StructRow}
use Rattle.rl_defs.specs.declared.tables.TraitRow.{TraitRow}
use Rattle.rl_defs.specs.declared.tables.MethodRow.{MethodRow}
use Rattle.rl_defs.specs.declared.load.LoadRows.{LoadRows}
use Rattle.rl_defs.specs.declared.load.LoadRow.{LoadRow}
use Rattle.rl_defs.specs.declared.load.ShadowRow.{ShadowRow}
use Rattle.rl_defs.specs.Words.{is_word, is_name, is_reserved}
use Rattle.rl_defs.specs.Tokens.{Name}
use Rattle.rl_defs.specs.Lines.{lines_of}
use Rattle.rl_defs.specs.IdlForms.{Choice, spell_line, IsIdlLine}
use Rattle.rl_defs.specs.IdlParts.{interface_part}
use Rattle.rl_defs.specs.Interfaces.{Lines, StructText, struct_before, fields_of, structs_of, traits_of}
use Rattle.rl_defs.specs.LoadOf.{load_of, loads_of, shadows_of}
use Rattle.rl_defs.specs.Acceptance.{Accepted}
use Rattle.rl_defs.proofs.Lists.{and_left, all_of}
use Rattle.valid_loads.proofs.Rules.{Kept, of_short}
use Rattle.valid_loads.proofs.Rows.{load_at, load_line, shadow_at, shadow_line}
use Rattle.valid_loads.proofs.Texts.{named_token, text_of_line, plan_named}
use Rattle.valid_loads.proofs.TableTexts.{struct_text, trait_text, method_text, trait_line, method_form}
use Rattle.machine_defs.specs.EntryTexts.{IsWord, HasWords}

name_word : (name : List ℕ) → IsTrue (is_name name) → IsWord name
name_word name is = and_left (is_word name) (not (is_reserved name)) is

-- ---- the interface part

idl_text : (tables : Tables) (b : Bundle) → Kept tables b → (k : ℕ) (x : Numbered IdlLine) → slice_get b.idl.lines k ≡ Some x → (text : List ℕ) × IsIdlLine x.form text
idl_text tables b h k x e = elim h.lines.idl [
  | inl missing ↦ let bad : None ≡ Some x = sym (ap (λ (ls : List (Numbered IdlLine)). slice_get ls k) missing.1) ∙ e in absurd cc
  | inr part ↦ text_of_line interface_part part.0 part.1 b.idl.lines part.3 k x e
]

-- a struct has its first line
record StructLine (lines : Lines) (text : StructText) : Type 0 where
  pub place : ℕ
  pub here : slice_get lines place ≡ Some (record { line = text.line; form = form.Struct text.name })

struct_later : (x : Numbered IdlLine) (xs : Lines) (text : StructText) → StructLine xs text → StructLine (x ∷ xs) text
struct_later x xs text l = record { place = suc l.place; here = l.here }

struct_here : (x : Numbered IdlLine) (xs : Lines) (name : List ℕ) (s : ℕ) (text : StructText) → x.form ≡ form.Struct name → ((s : ℕ) → slice_get (structs_of xs) s ≡ Some text → StructLine xs text) → slice_get (record { line = x.line; name = name; fields = fields_of xs } ∷ structs_of xs) s ≡ Some text → StructLine (x ∷ xs) text
struct_here x xs name zero text is further e =
    let same : record { line = x.line; name = name; fields = fields_of xs } ≡ text = cc in
    subst (λ (y : StructText). StructLine (x ∷ xs) y) same (record { place = 0; here = ap (λ (g : IdlLine). Some (record { line = x.line; form = g })) is })
struct_here x xs name (suc s) text is further e = struct_later x xs text (further s e)

struct_step : (x : Numbered IdlLine) (xs : Lines) (f : IdlLine) (s : ℕ) (text : StructText) → x.form ≡ f → ((s : ℕ) → slice_get (structs_of xs) s ≡ Some text → StructLine xs text) → slice_get (struct_before x.line f (fields_of xs) (structs_of xs)) s ≡ Some text → StructLine (x ∷ xs) text
struct_step x xs (form.Struct name) s text is further e = struct_here x xs name s text is further e
struct_step x xs (form.Field name ty) s text is further e = struct_later x xs text (further s e)
struct_step x xs (form.Trait name) s text is further e = struct_later x xs text (further s e)
struct_step x xs form.Idempotent s text is further e = struct_later x xs text (further s e)
struct_step x xs (form.Method name params outcome) s text is further e = struct_later x xs text (further s e)
struct_step x xs form.Close s text is further e = struct_later x xs text (further s e)

struct_line : (lines : Lines) (s : ℕ) (text : StructText) → slice_get (structs_of lines) s ≡ Some text → StructLine lines text
struct_line [] s text e = absurd cc
struct_line (x ∷ xs) s text e = struct_step x xs x.form s text refl (λ t d. struct_line xs t text d) e

-- the name of a struct's line among its tokens, where `pub` may stand before it
struct_token : (c : Choice) (name : List ℕ) (public : Bool) → c.public ≡ public → (i : ℕ) × (slice_get (spell_line c (form.Struct name)) i ≡ Some (Name name))
struct_token c name true is = (2, rw is refl)
struct_token c name false is = (1, rw is refl)

-- ---- the rows

module _ (tables : Tables) (b : Bundle) (h : Kept tables b) where
  load_word : (k : ℕ) (l : LoadRow) → slice_get (loads_of b) k ≡ Some l → IsWord l.name
  load_word k l e =
      let t = load_at b k l e in
      let word = name_word t.0.name (plan_named tables b h (plan.Load t.0.name t.0.domain) (load_line b k t.0 t.1) 1 t.0.name refl) in
      subst (λ (r : LoadRow). IsWord r.name) t.2 word

  shadow_word : (k : ℕ) (x : ShadowRow) → slice_get (shadows_of b) k ≡ Some x → IsWord x.name
  shadow_word k x e =
      let t = shadow_at b k x e in
      let word = name_word t.0.name (plan_named tables b h (plan.Shadow t.0.name t.0.load t.0.restarts) (shadow_line b k t.0 t.1) 1 t.0.name refl) in
      subst (λ (r : ShadowRow). IsWord r.name) t.2 word

  struct_word : (s : ℕ) (r : StructRow) → slice_get tables.structs s ≡ Some r → IsWord r.name
  struct_word s r e =
      let t = struct_text b.idl.lines (structs_of b.idl.lines) tables.structs s r h.rows.structs e in
      let line = struct_line b.idl.lines s t.0 t.1 in
      let text = idl_text tables b h line.place (record { line = t.0.line; form = form.Struct t.0.name }) line.here in
      let token = struct_token text.1.choice t.0.name text.1.choice.public refl in
      let word = name_word t.0.name (named_token (spell_line text.1.choice (form.Struct t.0.name)) text.0 text.1.tokens token.0 t.0.name token.1) in
      subst IsWord (sym t.2.name) word

  method_word : (t m : ℕ) (x : TraitRow) (r : MethodRow) → slice_get tables.traits t ≡ Some x → slice_get x.methods m ≡ Some r → IsWord r.name
  method_word t m x r e d =
      let trait = trait_text b.idl.lines (traits_of b.idl.lines) tables.traits t x h.rows.traits e in
      let method = method_text b.idl.lines trait.0.methods x.methods m r trait.2.methods d in
      let line = trait_line b.idl.lines t m trait.0 method.0 trait.1 method.1 in
      let text = idl_text tables b h line.place (record { line = method.0.line; form = method_form method.0 }) line.here in
      let word = name_word method.0.name (named_token (spell_line text.1.choice (method_form method.0)) text.0 text.1.tokens 1 method.0.name refl) in
      subst IsWord (sym method.2.name) word

  has_words : HasWords (load_of tables b)
  has_words = record {
    loads = all_of (λ (l : LoadRow). IsWord l.name) (loads_of b) load_word;
    shadows = all_of (λ (x : ShadowRow). IsWord x.name) (shadows_of b) shadow_word;
    structs = all_of (λ (s : StructRow). IsWord s.name) tables.structs struct_word;
    methods = all_of (λ (t : TraitRow). All (λ (m : MethodRow). IsWord m.name) t.methods) tables.traits (λ t x e. all_of (λ (m : MethodRow). IsWord m.name) x.methods (λ m r d. method_word t m x r e d));
  }

pub accepted_words : (bytes : List ℕ) (L : LoadRows) → Accepted bytes L → HasWords L
accepted_words bytes L accepted = of_short HasWords (length (lines_of bytes)) (λ tables b h few. has_words tables b h) bytes L (omega arith) accepted
