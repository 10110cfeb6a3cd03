-- The texts and the lines that the rows of structs and traits come from.
use Rattle.std.proofs.Common.{◌≡◌, ℕ, zero, suc, ◌+◌, ◌⊎◌, inl, inr, Bool, true, false, List, [], ◌∷◌, ◌++◌, length, Some, refl, sym, ap, subst, ◌∙◌, arith}
use Rattle.std.specs.Prelude.{slice_get}
use Rattle.std.specs.Option.{option_to_list}
use Rattle.rl_defs.specs.declared.bundle.Numbered.{Numbered}
use Rattle.rl_defs.specs.declared.idl.IdlLine.{IdlLine}
use Rattle.rl_defs.specs.declared.idl.IdlLine.TheVariants as form
use Rattle.rl_defs.specs.declared.idl.Param.{Param}
use Rattle.rl_defs.specs.declared.idl.ResultText.{ResultText}
use Rattle.rl_defs.specs.declared.idl.TypeText.{TypeText}
use Rattle.rl_defs.specs.declared.tables.StructRow.{StructRow}
use Rattle.rl_defs.specs.declared.tables.MethodRow.{MethodRow}
use Rattle.rl_defs.specs.declared.tables.TraitRow.{TraitRow}
use Rattle.rl_defs.specs.Interfaces.{Lines, FieldText, StructText, MethodText, TraitText, field_before, fields_of, struct_before, structs_of, types_of, field_types, types_at, method_before, methods_of, trait_before, traits_of, struct_name, struct_names, trait_name, trait_names}
use Rattle.rl_defs.specs.Refusals.{HasLine}
use Rattle.rl_defs.specs.TypeRules.{IsStructRow, AreStructRows}
use Rattle.rl_defs.specs.MethodRules.{IsMethodRow, AreMethodRows, IsTraitRow, AreTraitRows}

-- ---- a method of a trait stands in a line

abbrev pub method_form : MethodText → IdlLine
method_form m = form.Method m.name m.params m.result

-- the line before a place marks the method there
pub record Marked (lines : Lines) (place : ℕ) : Type 0 where
  pub mark : ℕ
  pub number : ℕ
  pub before : mark + 1 ≡ place
  pub here : slice_get lines mark ≡ Some (record { line = number; form = form.Idempotent })

pub record MethodLine (lines : Lines) (marked : Bool) (m : MethodText) : Type 0 where
  pub place : ℕ
  pub here : slice_get lines place ≡ Some (record { line = m.line; form = method_form m })
  pub mark : m.idempotent ≡ true → ((place ≡ 0) × (marked ≡ true)) ⊎ Marked lines place

marked_later : (x : Numbered IdlLine) (xs : Lines) (place : ℕ) → Marked xs place → Marked (x ∷ xs) (suc place)
marked_later x xs place m = record { mark = suc m.mark; number = m.number; before = omega (arith, m.before); here = m.here }

behind_mark : (x : Numbered IdlLine) (xs : Lines) (marked : Bool) (m : MethodText) → x.form ≡ form.Idempotent → MethodLine xs true m → MethodLine (x ∷ xs) marked m
behind_mark x xs marked m is l = record {
  place = suc l.place;
  here = l.here;
  mark = λ idempotent. elim (l.mark idempotent) [
    | inl a ↦ inr (record { mark = 0; number = x.line; before = omega (arith, a.0); here = ap (λ (f : IdlLine). Some (record { line = x.line; form = f })) is })
    | inr b ↦ inr (marked_later x xs l.place b)
  ];
}

behind_method : (x : Numbered IdlLine) (xs : Lines) (marked : Bool) (m : MethodText) → MethodLine xs false m → MethodLine (x ∷ xs) marked m
behind_method x xs marked m l = record {
  place = suc l.place;
  here = l.here;
  mark = λ idempotent. elim (l.mark idempotent) [
    | inl a ↦ absurd (let bad = a.1 in cc)
    | inr b ↦ inr (marked_later x xs l.place b)
  ];
}

method_here : (x : Numbered IdlLine) (xs : Lines) (marked : Bool) (name : List ℕ) (params : List Param) (outcome : ResultText) (k : ℕ) (m : MethodText) → x.form ≡ form.Method name params outcome → ((k : ℕ) → slice_get (methods_of xs false) k ≡ Some m → MethodLine xs false m) → slice_get (record { line = x.line; name = name; idempotent = marked; params = params; result = outcome } ∷ methods_of xs false) k ≡ Some m → MethodLine (x ∷ xs) marked m
method_here x xs marked name params outcome zero m is further e =
    let same : record { line = x.line; name = name; idempotent = marked; params = params; result = outcome } ≡ m = cc in
    subst (λ (y : MethodText). MethodLine (x ∷ xs) marked y) same (record { place = 0; here = ap (λ (g : IdlLine). Some (record { line = x.line; form = g })) is; mark = λ idempotent. inl (refl, idempotent) })
method_here x xs marked name params outcome (suc k) m is further e = behind_method x xs marked m (further k e)

method_step : (x : Numbered IdlLine) (xs : Lines) (marked : Bool) (f : IdlLine) (k : ℕ) (m : MethodText) → x.form ≡ f → ((b : Bool) (k : ℕ) → slice_get (methods_of xs b) k ≡ Some m → MethodLine xs b m) → slice_get (method_before x.line f marked (methods_of xs)) k ≡ Some m → MethodLine (x ∷ xs) marked m
method_step x xs marked form.Idempotent k m is further e = behind_mark x xs marked m is (further true k e)
method_step x xs marked (form.Method name params outcome) k m is further e = method_here x xs marked name params outcome k m is (further false) e
method_step x xs marked (form.Struct name) k m is further e = absurd cc
method_step x xs marked (form.Field name ty) k m is further e = absurd cc
method_step x xs marked (form.Trait name) k m is further e = absurd cc
method_step x xs marked form.Close k m is further e = absurd cc

method_line : (lines : Lines) (marked : Bool) (k : ℕ) (m : MethodText) → slice_get (methods_of lines marked) k ≡ Some m → MethodLine lines marked m
method_line [] marked k m e = absurd cc
method_line (x ∷ xs) marked k m e = method_step x xs marked x.form k m refl (λ b j. method_line xs b j m) e

trait_step : (x : Numbered IdlLine) (xs : Lines) (f : IdlLine) (t k : ℕ) (text : TraitText) (m : MethodText) → slice_get text.methods k ≡ Some m → ((t : ℕ) → slice_get (traits_of xs) t ≡ Some text → MethodLine xs false m) → slice_get (trait_before x.line f (methods_of xs false) (traits_of xs)) t ≡ Some text → MethodLine xs false m
trait_step x xs (form.Trait name) zero k text m at further e =
    let same : record { line = x.line; name = name; methods = methods_of xs false } ≡ text = cc in
    method_line xs false k m (subst (λ (y : TraitText). slice_get y.methods k ≡ Some m) (sym same) at)
trait_step x xs (form.Trait name) (suc t) k text m at further e = further t e
trait_step x xs form.Idempotent t k text m at further e = further t e
trait_step x xs (form.Method name params outcome) t k text m at further e = further t e
trait_step x xs (form.Struct name) t k text m at further e = further t e
trait_step x xs (form.Field name ty) t k text m at further e = further t e
trait_step x xs form.Close t k text m at further e = further t e

pub trait_line : (lines : Lines) (t k : ℕ) (text : TraitText) (m : MethodText) → slice_get (traits_of lines) t ≡ Some text → slice_get text.methods k ≡ Some m → MethodLine lines false m
trait_line [] t k text m e at = absurd cc
trait_line (x ∷ xs) t k text m e at = behind_method x xs false m (trait_step x xs x.form t k text m at (λ u h. trait_line xs u k text m h at) e)

-- ---- a field of a struct stands in a line

pub record FieldLine (lines : Lines) (ty : TypeText) : Type 0 where
  pub number : ℕ
  pub name : List ℕ
  pub here : HasLine lines number (form.Field name ty)

field_later : (x : Numbered IdlLine) (xs : Lines) (ty : TypeText) → FieldLine xs ty → FieldLine (x ∷ xs) ty
field_later x xs ty l = record { number = l.number; name = l.name; here = record { place = suc l.here.place; here = l.here.here } }

field_here : (x : Numbered IdlLine) (xs : Lines) (f : IdlLine) (i : ℕ) (ty : TypeText) → x.form ≡ f → ((i : ℕ) → slice_get (types_of (fields_of xs)) i ≡ Some ty → FieldLine xs ty) → slice_get (types_of (field_before x.line f (fields_of xs))) i ≡ Some ty → FieldLine (x ∷ xs) ty
field_here x xs (form.Field name t) zero ty is further e =
    let same : t ≡ ty = cc in
    record { number = x.line; name = name; here = record { place = 0; here = ap (λ (g : IdlLine). Some (record { line = x.line; form = g })) is ∙ ap (λ (u : TypeText). Some (record { line = x.line; form = form.Field name u })) same } }
field_here x xs (form.Field name t) (suc i) ty is further e = field_later x xs ty (further i e)
field_here x xs (form.Struct name) i ty is further e = absurd cc
field_here x xs (form.Trait name) i ty is further e = absurd cc
field_here x xs form.Idempotent i ty is further e = absurd cc
field_here x xs (form.Method name params outcome) i ty is further e = absurd cc
field_here x xs form.Close i ty is further e = absurd cc

front_field : (lines : Lines) (i : ℕ) (ty : TypeText) → slice_get (types_of (fields_of lines)) i ≡ Some ty → FieldLine lines ty
front_field [] i ty e = absurd cc
front_field (x ∷ xs) i ty e = field_here x xs x.form i ty refl (λ j. front_field xs j ty) e

struct_step : (x : Numbered IdlLine) (xs : Lines) (f : IdlLine) (s i : ℕ) (ty : TypeText) → ((s : ℕ) → slice_get (types_at xs s) i ≡ Some ty → FieldLine xs ty) → slice_get (field_types (slice_get (struct_before x.line f (fields_of xs) (structs_of xs)) s)) i ≡ Some ty → FieldLine xs ty
struct_step x xs (form.Struct name) zero i ty further e = front_field xs i ty e
struct_step x xs (form.Struct name) (suc s) i ty further e = further s e
struct_step x xs (form.Trait name) s i ty further e = further s e
struct_step x xs form.Idempotent s i ty further e = further s e
struct_step x xs (form.Method name params outcome) s i ty further e = further s e
struct_step x xs (form.Field name t) s i ty further e = further s e
struct_step x xs form.Close s i ty further e = further s e

pub field_line : (lines : Lines) (s i : ℕ) (ty : TypeText) → slice_get (types_at lines s) i ≡ Some ty → FieldLine lines ty
field_line [] s i ty e = absurd cc
field_line (x ∷ xs) s i ty e = field_later x xs ty (struct_step x xs x.form s i ty (λ t h. field_line xs t i ty h) e)

-- ---- the texts of rows

pub struct_text : (lines : Lines) (texts : List StructText) (rows : List StructRow) (s : ℕ) (row : StructRow) → AreStructRows lines texts rows → slice_get rows s ≡ Some row → (text : StructText) × (slice_get texts s ≡ Some text) × IsStructRow lines text row
struct_text lines [] [] s row h e = absurd cc
struct_text lines [] (r ∷ rows) s row h e = absurd h
struct_text lines (t ∷ texts) [] s row h e = absurd h
struct_text lines (t ∷ texts) (r ∷ rows) zero row h e = let same : r ≡ row = cc in (t, refl, subst (λ (y : StructRow). IsStructRow lines t y) same h.0)
struct_text lines (t ∷ texts) (r ∷ rows) (suc s) row h e = struct_text lines texts rows s row h.1 e

pub trait_text : (lines : Lines) (texts : List TraitText) (rows : List TraitRow) (t : ℕ) (row : TraitRow) → AreTraitRows lines texts rows → slice_get rows t ≡ Some row → (text : TraitText) × (slice_get texts t ≡ Some text) × IsTraitRow lines text row
trait_text lines [] [] t row h e = absurd cc
trait_text lines [] (r ∷ rows) t row h e = absurd h
trait_text lines (x ∷ texts) [] t row h e = absurd h
trait_text lines (x ∷ texts) (r ∷ rows) zero row h e = let same : r ≡ row = cc in (x, refl, subst (λ (y : TraitRow). IsTraitRow lines x y) same h.0)
trait_text lines (x ∷ texts) (r ∷ rows) (suc t) row h e = trait_text lines texts rows t row h.1 e

pub method_text : (lines : Lines) (texts : List MethodText) (rows : List MethodRow) (m : ℕ) (row : MethodRow) → AreMethodRows lines texts rows → slice_get rows m ≡ Some row → (text : MethodText) × (slice_get texts m ≡ Some text) × IsMethodRow lines text row
method_text lines [] [] m row h e = absurd cc
method_text lines [] (r ∷ rows) m row h e = absurd h
method_text lines (x ∷ texts) [] m row h e = absurd h
method_text lines (x ∷ texts) (r ∷ rows) zero row h e = let same : r ≡ row = cc in (x, refl, subst (λ (y : MethodRow). IsMethodRow lines x y) same h.0)
method_text lines (x ∷ texts) (r ∷ rows) (suc m) row h e = method_text lines texts rows m row h.1 e

-- ---- counts

pub struct_rows : (lines : Lines) (texts : List StructText) (rows : List StructRow) → AreStructRows lines texts rows → length rows ≡ length texts
struct_rows lines [] [] h = refl
struct_rows lines [] (r ∷ rows) h = absurd h
struct_rows lines (t ∷ texts) [] h = absurd h
struct_rows lines (t ∷ texts) (r ∷ rows) h = omega (arith, struct_rows lines texts rows h.1)

pub trait_rows : (lines : Lines) (texts : List TraitText) (rows : List TraitRow) → AreTraitRows lines texts rows → length rows ≡ length texts
trait_rows lines [] [] h = refl
trait_rows lines [] (r ∷ rows) h = absurd h
trait_rows lines (t ∷ texts) [] h = absurd h
trait_rows lines (t ∷ texts) (r ∷ rows) h = omega (arith, trait_rows lines texts rows h.1)

struct_name_step : (n : ℕ) (f : IdlLine) (fields : List FieldText) (more : List StructText) (names : List (List ℕ)) → length names ≡ length more → length (option_to_list (struct_name f) ++ names) ≡ length (struct_before n f fields more)
struct_name_step n (form.Struct name) fields more names e = omega (arith, e)
struct_name_step n (form.Trait name) fields more names e = e
struct_name_step n form.Idempotent fields more names e = e
struct_name_step n (form.Method name params outcome) fields more names e = e
struct_name_step n (form.Field name ty) fields more names e = e
struct_name_step n form.Close fields more names e = e

pub struct_name_count : (lines : Lines) → length (struct_names lines) ≡ length (structs_of lines)
struct_name_count [] = refl
struct_name_count (x ∷ xs) = struct_name_step x.line x.form (fields_of xs) (structs_of xs) (struct_names xs) (struct_name_count xs)

trait_name_step : (n : ℕ) (f : IdlLine) (methods : List MethodText) (more : List TraitText) (names : List (List ℕ)) → length names ≡ length more → length (option_to_list (trait_name f) ++ names) ≡ length (trait_before n f methods more)
trait_name_step n (form.Trait name) methods more names e = omega (arith, e)
trait_name_step n (form.Struct name) methods more names e = e
trait_name_step n form.Idempotent methods more names e = e
trait_name_step n (form.Method name params outcome) methods more names e = e
trait_name_step n (form.Field name ty) methods more names e = e
trait_name_step n form.Close methods more names e = e

pub trait_name_count : (lines : Lines) → length (trait_names lines) ≡ length (traits_of lines)
trait_name_count [] = refl
trait_name_count (x ∷ xs) = trait_name_step x.line x.form (methods_of xs false) (traits_of xs) (trait_names xs) (trait_name_count xs)

-- there are as many rows as names
pub struct_count : (lines : Lines) (rows : List StructRow) → AreStructRows lines (structs_of lines) rows → length rows ≡ length (struct_names lines)
struct_count lines rows h = struct_rows lines (structs_of lines) rows h ∙ sym (struct_name_count lines)

pub trait_count : (lines : Lines) (rows : List TraitRow) → AreTraitRows lines (traits_of lines) rows → length rows ≡ length (trait_names lines)
trait_count lines rows h = trait_rows lines (traits_of lines) rows h ∙ sym (trait_name_count lines)
