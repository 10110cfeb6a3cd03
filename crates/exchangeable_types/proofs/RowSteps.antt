-- Row by row, and the first struct that is refused.
use Rattle.std.proofs.Common.{◌≡◌, ℕ, Bool, true, zero, suc, ◌+◌, ◌<◌, ◌≤◌, List, [], ◌∷◌, ◌++◌, length, take, Some, inl, inr, Ok, refl, sym, ap, subst, ◌∙◌, arith}
use Rattle.std.specs.Prelude.{slice_get, slice_set, Err}
use Rattle.std.proofs.lemmas.Bool.{cases_order}
use Rattle.std.proofs.lemmas.List.{length-set, take_all}
use Rattle.rl_defs.specs.declared.LoadFault.{LoadFault}
use Rattle.rl_defs.specs.declared.LoadFault.TheVariants.{Refused, Memory}
use Rattle.rl_defs.specs.declared.bundle.Numbered.{Numbered}
use Rattle.rl_defs.specs.declared.idl.IdlLine.{IdlLine}
use Rattle.rl_defs.specs.declared.idl.IdlLine.TheVariants as form
use Rattle.rl_defs.specs.declared.tables.StructRow.{StructRow}
use Rattle.rl_defs.specs.Refusals.{Answers}
use Rattle.rl_defs.specs.Interfaces.{Lines, Rises, StructText, struct_before, structs_of, fields_of, struct_names}
use Rattle.rl_defs.specs.TypeRules.{StructAt, AreStructRows}
use Rattle.rl_defs.proofs.Places.{get_set, get_within}
use Rattle.exchangeable_types.specs.declared.walk.State.{State}
use Rattle.exchangeable_types.specs.declared.walk.State.TheVariants.{New}
use Rattle.exchangeable_types.specs.Walk.{Walked}
use Rattle.exchangeable_types.specs.Search.{Searching}
use Rattle.exchangeable_types.specs.Rows.{FailsStruct, FailsStructs, IsRowAnswer, RowsTo, AllRows, Rowing}
use Rattle.exchangeable_types.proofs.RowLaws.{state_at, rows_more, structs_count}

pub rowing_begins : (lines : Lines) (states : List State) (seen : List Bool) (rows : List StructRow) → Walked lines states → Searching lines seen [] → rows ≡ [] → Rowing lines states seen rows 0
rowing_begins lines states seen rows w searching is =
    subst (λ (xs : List StructRow). Rowing lines states seen xs 0) (sym is) (record {
      count = w.walking.count;
      rest = λ s x le e. state_at lines states s x w e;
      searching = searching;
      to = record { count = refl; are = empty (structs_of lines); none = λ s r lt f. omega arith; few = λ k row e. absurd cc };
    }) where
      empty : (ts : List StructText) → AreStructRows lines (take 0 ts) []
      empty [] = tt
      empty (t ∷ ts) = tt

pub rowing_more : (lines : Lines) (states left : List State) (seen after : List Bool) (rows more : List StructRow) (number : ℕ) (row : StructRow) → Rowing lines states seen rows number → left ≡ slice_set states number New → IsRowAnswer lines number (Ok row) → Searching lines after [] → more ≡ rows ++ row ∷ [] → Rowing lines left after more (number + 1)
rowing_more lines states left seen after rows more number row h is answer searching put = record {
  count = ap length is ∙ length-set states number New ∙ h.count;
  rest = λ s x le e. elim (get_set states number s New x (subst (λ (xs : List State). slice_get xs s ≡ Some x) is e)) [ inl a ↦ absurd (omega (arith, a.0, le)) | inr a ↦ h.rest s x (omega (arith, le)) a.1 ];
  searching = searching;
  to = rows_more lines rows more number row h.to answer put;
}

-- all structs have their rows
pub rowing_ends : (lines : Lines) (states : List State) (seen : List Bool) (rows : List StructRow) (number : ℕ) → Rowing lines states seen rows number → length (struct_names lines) ≤ number → Answers (FailsStructs lines) (AllRows lines) (Ok rows)
rowing_ends lines states seen rows number h le = (
  λ n r f. h.to.none f.0 r (omega (arith, get_within (structs_of lines) f.0 f.1.text f.1.here, structs_count lines, le)) f.2,
  record {
    are = subst (λ (ts : List StructText). AreStructRows lines ts rows) (take_all number (structs_of lines) (omega (arith, structs_count lines, le))) h.to.are;
    few = h.to.few;
  },
)

tail_rises : (x : Numbered IdlLine) (xs : Lines) → Rises (x ∷ xs) → Rises xs
tail_rises x xs h j k a b lt p q = h (suc j) (suc k) a b (omega (arith, lt)) p q

abbrev At : Lines → ℕ → Type 0
At lines n = (k : ℕ) × (y : Numbered IdlLine) × (slice_get lines k ≡ Some y) × (y.line ≡ n)

-- the first line of a struct is a line
line_step : (n : ℕ) (line : IdlLine) (xs : Lines) (t : StructText) (s : ℕ) → ((m : ℕ) → slice_get (structs_of xs) m ≡ Some t → At xs t.line) → slice_get (struct_before n line (fields_of xs) (structs_of xs)) s ≡ Some t → At (record { line = n; form = line } ∷ xs) t.line
line_step n (form.Struct name) xs t zero more e = (0, record { line = n; form = form.Struct name }, refl, same) where
  same : n ≡ t.line
  same = first (record { line = n; name = name; fields = fields_of xs }) e where
    first : (u : StructText) → Some u ≡ Some t → u.line ≡ t.line
    first u h = let is : u ≡ t = cc in ap (λ (v : StructText). v.line) is
line_step n (form.Struct name) xs t (suc m) more e = let h = more m e in (suc h.0, h.1, h.2, h.3)
line_step n (form.Field name ty) xs t s more e = let h = more s e in (suc h.0, h.1, h.2, h.3)
line_step n (form.Trait name) xs t s more e = let h = more s e in (suc h.0, h.1, h.2, h.3)
line_step n form.Idempotent xs t s more e = let h = more s e in (suc h.0, h.1, h.2, h.3)
line_step n (form.Method name params result) xs t s more e = let h = more s e in (suc h.0, h.1, h.2, h.3)
line_step n form.Close xs t s more e = let h = more s e in (suc h.0, h.1, h.2, h.3)

struct_line : (lines : Lines) (s : ℕ) (t : StructText) → slice_get (structs_of lines) s ≡ Some t → At lines t.line
struct_line [] s t e = absurd cc
struct_line (x ∷ xs) s t e = line_step x.line x.form xs t s (λ m h. struct_line xs m t h) e

-- what stands behind a line has a greater number
abbrev Below : ℕ → Lines → Type 0
Below n lines = (k : ℕ) (y : Numbered IdlLine) → slice_get lines k ≡ Some y → n < y.line

rise_step : (n : ℕ) (line : IdlLine) (xs : Lines) (s z : ℕ) (t u : StructText) → Below n xs → ((a b : ℕ) → a < b → slice_get (structs_of xs) a ≡ Some t → slice_get (structs_of xs) b ≡ Some u → t.line < u.line) → s < z → slice_get (struct_before n line (fields_of xs) (structs_of xs)) s ≡ Some t → slice_get (struct_before n line (fields_of xs) (structs_of xs)) z ≡ Some u → t.line < u.line
rise_step n (form.Struct name) xs s zero t u below more lt e f = absurd (omega arith)
rise_step n (form.Struct name) xs zero (suc b) t u below more lt e f =
    let h = struct_line xs b u f in
    let up = below h.0 h.1 h.2 in
    omega (arith, up, h.3, first (record { line = n; name = name; fields = fields_of xs }) e) where
      first : (v : StructText) → Some v ≡ Some t → v.line ≡ t.line
      first v h = let is : v ≡ t = cc in ap (λ (w : StructText). w.line) is
rise_step n (form.Struct name) xs (suc a) (suc b) t u below more lt e f = more a b (omega (arith, lt)) e f
rise_step n (form.Field name ty) xs s z t u below more lt e f = more s z lt e f
rise_step n (form.Trait name) xs s z t u below more lt e f = more s z lt e f
rise_step n form.Idempotent xs s z t u below more lt e f = more s z lt e f
rise_step n (form.Method name params result) xs s z t u below more lt e f = more s z lt e f
rise_step n form.Close xs s z t u below more lt e f = more s z lt e f

-- structs stand in the order of their lines
struct_rise : (lines : Lines) (s z : ℕ) (t u : StructText) → Rises lines → s < z → slice_get (structs_of lines) s ≡ Some t → slice_get (structs_of lines) z ≡ Some u → t.line < u.line
struct_rise [] s z t u h lt e f = absurd cc
struct_rise (x ∷ xs) s z t u h lt e f = rise_step x.line x.form xs s z t u (λ k y p. h 0 (suc k) x y (omega arith) refl p) (λ a b l p q. struct_rise xs a b t u (tail_rises x xs h) l p q) lt e f

same_text : (t u : StructText) → Some t ≡ Some u → t ≡ u
same_text t u e = cc

-- the first struct that is refused is the first refusal
pub first_refused : (lines : Lines) (rows : List StructRow) (number : ℕ) (e : LoadFault) → Rises lines → RowsTo lines rows number → IsRowAnswer lines number (Err e) → Answers (FailsStructs lines) (AllRows lines) (Err e)
first_refused lines rows number Memory rises before h = tt
first_refused lines rows number (Refused at) rises before h = record {
  fails = (number, h.here, h.fails);
  first = λ l r f. elim (cases_order f.0 number) [
    | inl same ↦ inr (same_line f.1 same, h.lowest r (subst (λ (n : ℕ). FailsStruct lines n r) same f.2))
    | inr (inl less) ↦ absurd (before.none f.0 r less f.2)
    | inr (inr more) ↦ inl (omega (arith, h.here.line, f.1.line, struct_rise lines number f.0 h.here.text f.1.text rises more h.here.here f.1.here))
  ];
} where
  same_line : {l s : ℕ} → StructAt lines l s → s ≡ number → at.line ≡ l
  same_line {l} {s} a same =
      let there = subst (λ (n : ℕ). slice_get (structs_of lines) n ≡ Some a.text) same a.here in
      let text : h.here.text ≡ a.text = same_text h.here.text a.text (sym h.here.here ∙ there) in
      sym h.here.line ∙ ap (λ (v : StructText). v.line) text ∙ a.line

pub none_searched : (lines : Lines) (seen : List Bool) → length seen ≡ length (struct_names lines) → ((s : ℕ) → slice_get seen s ≡ Some true → ⊥) → Searching lines seen []
none_searched lines seen count none = record {
  count = count;
  clean = λ s e. absurd (none s e);
  below = λ s h. let e = h.1 in absurd cc;
}
