-- The tables of an interface part that keeps its rules are small.
use Rattle.std.proofs.Common.{◌≡◌, ℕ, zero, suc, ◌+◌, ◌<◌, ◌≤◌, ◌^◌, ◌⊎◌, inl, inr, Bool, true, false, List, [], ◌∷◌, length, Some, refl, sym, ap, subst, ◌∙◌, arith}
use Rattle.std.specs.Prelude.{slice_get, All}
use Rattle.std.proofs.lemmas.Bool.{cases_lt}
use Rattle.rl_defs.specs.declared.bundle.Numbered.{Numbered}
use Rattle.rl_defs.specs.declared.idl.Idl.{Idl}
use Rattle.rl_defs.specs.declared.idl.IdlLine.{IdlLine}
use Rattle.rl_defs.specs.declared.idl.IdlLine.TheVariants as form
use Rattle.rl_defs.specs.declared.idl.Param.{Param}
use Rattle.rl_defs.specs.declared.idl.ResultText.{ResultText}
use Rattle.rl_defs.specs.declared.tables.StructRow.{StructRow}
use Rattle.rl_defs.specs.declared.tables.MethodRow.{MethodRow}
use Rattle.rl_defs.specs.declared.tables.TraitRow.{TraitRow}
use Rattle.rl_defs.specs.declared.tables.Tables.{Tables}
use Rattle.rl_defs.specs.Refusals.{Nowhere, HasLine}
use Rattle.rl_defs.specs.Interfaces.{Lines, FieldText, StructText, MethodText, TraitText, field_types, fields_of, struct_before, structs_of, types_of, types_at, method_before, methods_of, trait_before, traits_of, param_types, result_types}
use Rattle.rl_defs.specs.Flattening.{Flattens}
use Rattle.rl_defs.specs.TypeRules.{FailsTypes, IsStructRow, AreStructRows}
use Rattle.rl_defs.specs.MethodRules.{FailsMethods, IsMethodRow, AreMethodRows, IsTraitRow, AreTraitRows, TableRows}
use Rattle.rl_defs.specs.TableSizes.{IsMethodSmall, IsTraitSmall, IsStructSmall, AreTablesSmall}
use Rattle.proxy_tables.proofs.TableLaws.{few_methods}

all_of : {X : Type 0} (P : X → Type 0) (xs : List X) → ((i : ℕ) (x : X) → slice_get xs i ≡ Some x → P x) → All P xs
all_of P [] each i d within = absurd (omega (arith, within))
all_of P (x ∷ xs) each zero d within = each 0 x refl
all_of P (x ∷ xs) each (suc i) d within = all_of P xs (λ j y e. each (suc j) y e) i d (omega (arith, within))

-- a line of a list is a line of a longer one
later_line : (x : Numbered IdlLine) (xs : Lines) (n : ℕ) (f : IdlLine) → HasLine xs n f → HasLine (x ∷ xs) n f
later_line x xs n f h = record { place = suc h.place; here = h.here }

-- ---- a method of a trait stands in a line

abbrev method_form : MethodText → IdlLine
method_form m = form.Method m.name m.params m.result

method_line_here : (x : Numbered IdlLine) (xs : Lines) (marked : Bool) (name : List ℕ) (params : List Param) (outcome : ResultText) (k : ℕ) (m : MethodText) → x.form ≡ form.Method name params outcome → ((k : ℕ) → slice_get (methods_of xs false) k ≡ Some m → HasLine xs m.line (method_form m)) → slice_get (record { line = x.line; name = name; idempotent = marked; params = params; result = outcome } ∷ methods_of xs false) k ≡ Some m → HasLine (x ∷ xs) m.line (method_form m)
method_line_here x xs marked name params outcome zero m is further e =
    let same : record { line = x.line; name = name; idempotent = marked; params = params; result = outcome } ≡ m = cc in
    subst (λ (y : MethodText). HasLine (x ∷ xs) y.line (method_form y)) same (record { place = 0; here = ap (λ (g : IdlLine). Some (record { line = x.line; form = g })) is })
method_line_here x xs marked name params outcome (suc k) m is further e = later_line x xs m.line (method_form m) (further k e)

method_line_step : (x : Numbered IdlLine) (xs : Lines) (marked : Bool) (f : IdlLine) (k : ℕ) (m : MethodText) → x.form ≡ f → ((b : Bool) (k : ℕ) → slice_get (methods_of xs b) k ≡ Some m → HasLine xs m.line (method_form m)) → slice_get (method_before x.line f marked (methods_of xs)) k ≡ Some m → HasLine (x ∷ xs) m.line (method_form m)
method_line_step x xs marked form.Idempotent k m is further e = later_line x xs m.line (method_form m) (further true k e)
method_line_step x xs marked (form.Method name params outcome) k m is further e = method_line_here x xs marked name params outcome k m is (further false) e
method_line_step x xs marked (form.Struct name) k m is further e = absurd cc
method_line_step x xs marked (form.Field name ty) k m is further e = absurd cc
method_line_step x xs marked (form.Trait name) k m is further e = absurd cc
method_line_step x xs marked form.Close k m is further e = absurd cc

method_line : (lines : Lines) (marked : Bool) (k : ℕ) (m : MethodText) → slice_get (methods_of lines marked) k ≡ Some m → HasLine lines m.line (method_form m)
method_line [] marked k m e = absurd cc
method_line (x ∷ xs) marked k m e = method_line_step x xs marked x.form k m refl (λ b j. method_line xs b j m) e

trait_line_step : (x : Numbered IdlLine) (xs : Lines) (f : IdlLine) (t k : ℕ) (text : TraitText) (m : MethodText) → slice_get text.methods k ≡ Some m → ((t : ℕ) → slice_get (traits_of xs) t ≡ Some text → HasLine xs m.line (method_form m)) → slice_get (trait_before x.line f (methods_of xs false) (traits_of xs)) t ≡ Some text → HasLine xs m.line (method_form m)
trait_line_step x xs (form.Trait name) zero k text m at further e =
    let same : record { line = x.line; name = name; methods = methods_of xs false } ≡ text = cc in
    method_line xs false k m (subst (λ (y : TraitText). slice_get y.methods k ≡ Some m) (sym same) at)
trait_line_step x xs (form.Trait name) (suc t) k text m at further e = further t e
trait_line_step x xs form.Idempotent t k text m at further e = further t e
trait_line_step x xs (form.Method name params outcome) t k text m at further e = further t e
trait_line_step x xs (form.Struct name) t k text m at further e = further t e
trait_line_step x xs (form.Field name ty) t k text m at further e = further t e
trait_line_step x xs form.Close t k text m at further e = further t e

trait_line : (lines : Lines) (t k : ℕ) (text : TraitText) (m : MethodText) → slice_get (traits_of lines) t ≡ Some text → slice_get text.methods k ≡ Some m → HasLine lines m.line (method_form m)
trait_line [] t k text m e at = absurd cc
trait_line (x ∷ xs) t k text m e at = later_line x xs m.line (method_form m) (trait_line_step x xs x.form t k text m at (λ u. λ h. trait_line xs u k text m h at) e)

-- ---- counts

structs_before_short : (n : ℕ) (f : IdlLine) (fields : List FieldText) (more : List StructText) (count : ℕ) → length more ≤ count → length (struct_before n f fields more) ≤ suc count
structs_before_short n (form.Struct name) fields more count le = omega (arith, le)
structs_before_short n (form.Trait name) fields more count le = omega (arith, le)
structs_before_short n form.Idempotent fields more count le = omega (arith, le)
structs_before_short n (form.Method name params outcome) fields more count le = omega (arith, le)
structs_before_short n (form.Field name ty) fields more count le = omega (arith, le)
structs_before_short n form.Close fields more count le = omega (arith, le)

structs_short : (lines : Lines) → length (structs_of lines) ≤ length lines
structs_short [] = omega arith
structs_short (x ∷ xs) = structs_before_short x.line x.form (fields_of xs) (structs_of xs) (length xs) (structs_short xs)

traits_before_short : (n : ℕ) (f : IdlLine) (methods : List MethodText) (more : List TraitText) (count : ℕ) → length more ≤ count → length (trait_before n f methods more) ≤ suc count
traits_before_short n (form.Struct name) methods more count le = omega (arith, le)
traits_before_short n (form.Trait name) methods more count le = omega (arith, le)
traits_before_short n form.Idempotent methods more count le = omega (arith, le)
traits_before_short n (form.Method name params outcome) methods more count le = omega (arith, le)
traits_before_short n (form.Field name ty) methods more count le = omega (arith, le)
traits_before_short n form.Close methods more count le = omega (arith, le)

traits_short : (lines : Lines) → length (traits_of lines) ≤ length lines
traits_short [] = omega arith
traits_short (x ∷ xs) = traits_before_short x.line x.form (methods_of xs false) (traits_of xs) (length xs) (traits_short xs)

struct_count : (lines : Lines) (texts : List StructText) (rows : List StructRow) → AreStructRows lines texts rows → length rows ≡ length texts
struct_count lines [] [] h = refl
struct_count lines [] (r ∷ rows) h = absurd h
struct_count lines (t ∷ texts) [] h = absurd h
struct_count lines (t ∷ texts) (r ∷ rows) h = omega (arith, struct_count lines texts rows h.1)

trait_count : (lines : Lines) (texts : List TraitText) (rows : List TraitRow) → AreTraitRows lines texts rows → length rows ≡ length texts
trait_count lines [] [] h = refl
trait_count lines [] (r ∷ rows) h = absurd h
trait_count lines (t ∷ texts) [] h = absurd h
trait_count lines (t ∷ texts) (r ∷ rows) h = omega (arith, trait_count lines texts rows h.1)

-- ---- the texts of rows

struct_text : (lines : Lines) (texts : List StructText) (rows : List StructRow) (s : ℕ) (row : StructRow) → AreStructRows lines texts rows → slice_get rows s ≡ Some row → (text : StructText) × (slice_get texts s ≡ Some text) × IsStructRow lines text row
struct_text lines [] [] s row h e = absurd cc
struct_text lines [] (r ∷ rows) s row h e = absurd h
struct_text lines (t ∷ texts) [] s row h e = absurd h
struct_text lines (t ∷ texts) (r ∷ rows) zero row h e = let same : r ≡ row = cc in (t, refl, subst (λ (y : StructRow). IsStructRow lines t y) same h.0)
struct_text lines (t ∷ texts) (r ∷ rows) (suc s) row h e = struct_text lines texts rows s row h.1 e

trait_text : (lines : Lines) (texts : List TraitText) (rows : List TraitRow) (t : ℕ) (row : TraitRow) → AreTraitRows lines texts rows → slice_get rows t ≡ Some row → (text : TraitText) × (slice_get texts t ≡ Some text) × IsTraitRow lines text row
trait_text lines [] [] t row h e = absurd cc
trait_text lines [] (r ∷ rows) t row h e = absurd h
trait_text lines (x ∷ texts) [] t row h e = absurd h
trait_text lines (x ∷ texts) (r ∷ rows) zero row h e = let same : r ≡ row = cc in (x, refl, subst (λ (y : TraitRow). IsTraitRow lines x y) same h.0)
trait_text lines (x ∷ texts) (r ∷ rows) (suc t) row h e = trait_text lines texts rows t row h.1 e

method_text : (lines : Lines) (texts : List MethodText) (rows : List MethodRow) (m : ℕ) (row : MethodRow) → AreMethodRows lines texts rows → slice_get rows m ≡ Some row → (text : MethodText) × (slice_get texts m ≡ Some text) × IsMethodRow lines text row
method_text lines [] [] m row h e = absurd cc
method_text lines [] (r ∷ rows) m row h e = absurd h
method_text lines (x ∷ texts) [] m row h e = absurd h
method_text lines (x ∷ texts) (r ∷ rows) zero row h e = let same : r ≡ row = cc in (x, refl, subst (λ (y : MethodRow). IsMethodRow lines x y) same h.0)
method_text lines (x ∷ texts) (r ∷ rows) (suc m) row h e = method_text lines texts rows m row h.1 e

-- ---- sizes

struct_small : (idl : Idl) (tables : Tables) (s : ℕ) (row : StructRow) → Nowhere (FailsTypes idl) → TableRows idl tables → slice_get tables.structs s ≡ Some row → IsStructSmall row
struct_small idl tables s row none rows e =
    let x = struct_text idl.lines (structs_of idl.lines) tables.structs s row rows.structs e in
    let flat : Flattens idl.lines (types_at idl.lines s) row.flat = subst (λ (o : _). Flattens idl.lines (field_types o) row.flat) (sym x.1) x.2.flat in
    elim (cases_lt 512 (length row.flat)) [
      | inl many ↦ absurd (none x.0.line 12 (inr (inr (inl (
        refl,
        record {
          number = s;
          here = record { text = x.0; here = x.1; line = refl };
          ends = λ endless. none x.0.line 11 (inr (inl (refl, record { number = s; here = record { text = x.0; here = x.1; line = refl }; endless = endless })));
          cells = row.flat;
          flat = flat;
          many = many;
        },
      )))))
      | inr few ↦ few
    ]

method_small : (idl : Idl) (text : MethodText) (row : MethodRow) → Nowhere (FailsMethods idl) → HasLine idl.lines text.line (method_form text) → IsMethodRow idl.lines text row → IsMethodSmall row
method_small idl text row none at is = record {
  params = elim (cases_lt 8 (length row.params)) [
    | inl many ↦ absurd (none text.line 23 (inr (inr (inr (
      refl,
      inl (record {
        method = record { name = text.name; params = text.params; result = text.result; here = at };
        kinds = row.params;
        flat = is.params;
        many = many;
      }),
    )))))
    | inr few ↦ few
  ];
  results = elim (cases_lt 4 (length row.results)) [
    | inl many ↦ absurd (none text.line 23 (inr (inr (inr (
      refl,
      inr (record {
        method = record { name = text.name; params = text.params; result = text.result; here = at };
        kinds = row.results;
        flat = is.results;
        many = many;
      }),
    )))))
    | inr few ↦ few
  ];
}

trait_small : (idl : Idl) (tables : Tables) (t : ℕ) (row : TraitRow) → length idl.lines < 2 ^ 32 → Nowhere (FailsMethods idl) → TableRows idl tables → slice_get tables.traits t ≡ Some row → IsTraitSmall row
trait_small idl tables t row few none rows e =
    let x = trait_text idl.lines (traits_of idl.lines) tables.traits t row rows.traits e in
    record {
      few = omega (arith, few, few_methods idl tables t row rows e);
      methods = all_of IsMethodSmall row.methods (λ m r at.
          let y = method_text idl.lines x.0.methods row.methods m r x.2.methods at in
          method_small idl y.0 r none (trait_line idl.lines t m x.0 y.0 x.1 y.1) y.2);
    }

-- the tables of a part that keeps rules 12 and 23
pub small_tables : (idl : Idl) (tables : Tables) → length idl.lines < 2 ^ 32 → Nowhere (FailsTypes idl) → Nowhere (FailsMethods idl) → TableRows idl tables → AreTablesSmall tables
small_tables idl tables few types methods rows = record {
  few_structs = omega (arith, few, struct_count idl.lines (structs_of idl.lines) tables.structs rows.structs, structs_short idl.lines);
  few_traits = omega (arith, few, trait_count idl.lines (traits_of idl.lines) tables.traits rows.traits, traits_short idl.lines);
  structs = all_of IsStructSmall tables.structs (λ s row e. struct_small idl tables s row types rows e);
  traits = all_of IsTraitSmall tables.traits (λ t row e. trait_small idl tables t row few methods rows e);
}
