-- The tables of a part: one value, and no trait with more methods than the part has lines.
use Rattle.std.proofs.Common.{◌≡◌, ℕ, zero, suc, ◌≤◌, Bool, true, false, List, [], ◌∷◌, length, Some, refl, sym, ap, subst, ◌∙◌, arith}
use Rattle.std.specs.Prelude.{slice_get}
use Rattle.rl_defs.specs.declared.idl.Idl.{Idl}
use Rattle.rl_defs.specs.declared.idl.IdlLine.{IdlLine}
use Rattle.rl_defs.specs.declared.idl.IdlLine.TheVariants as form
use Rattle.rl_defs.specs.declared.tables.Kind.{Kind}
use Rattle.rl_defs.specs.declared.tables.StructRow.{StructRow}
use Rattle.rl_defs.specs.declared.tables.MethodRow.{MethodRow}
use Rattle.rl_defs.specs.declared.tables.TraitRow.{TraitRow}
use Rattle.rl_defs.specs.declared.tables.Tables.{Tables}
use Rattle.rl_defs.specs.Interfaces.{Lines, MethodText, TraitText, method_before, methods_of, trait_before, traits_of, param_types, result_types}
use Rattle.rl_defs.specs.MethodRules.{IsMethodRow, AreMethodRows, IsTraitRow, AreTraitRows, TableRows}
use Rattle.rl_defs.proofs.FlatteningLaws.{flattens_once, struct_rows_once}

-- ---- one value

abbrev method_row : List ℕ → Bool → List Kind → List Kind → MethodRow
method_row name marked params results = record { name = name; idempotent = marked; params = params; results = results }

method_once : (lines : Lines) (m : MethodText) (x y : MethodRow) → IsMethodRow lines m x → IsMethodRow lines m y → x ≡ y
method_once lines m x y a b =
    let name : x.name ≡ y.name = a.name ∙ sym b.name in
    let marked : x.idempotent ≡ y.idempotent = a.idempotent ∙ sym b.idempotent in
    let params = flattens_once lines (param_types m.params) x.params y.params a.params b.params in
    let results = flattens_once lines (result_types m.result) x.results y.results a.results b.results in
    ap (λ (n : List ℕ). method_row n x.idempotent x.params x.results) name
    ∙ ap (λ (t : Bool). method_row y.name t x.params x.results) marked
    ∙ ap (λ (ks : List Kind). method_row y.name y.idempotent ks x.results) params
    ∙ ap (method_row y.name y.idempotent y.params) results

methods_once : (lines : Lines) (ms : List MethodText) (xs ys : List MethodRow) → AreMethodRows lines ms xs → AreMethodRows lines ms ys → xs ≡ ys
methods_once lines [] [] [] a b = refl
methods_once lines [] [] (y ∷ ys) a b = absurd b
methods_once lines [] (x ∷ xs) ys a b = absurd a
methods_once lines (m ∷ ms) [] ys a b = absurd a
methods_once lines (m ∷ ms) (x ∷ xs) [] a b = absurd b
methods_once lines (m ∷ ms) (x ∷ xs) (y ∷ ys) a b =
    let head = method_once lines m x y a.0 b.0 in
    let tail = methods_once lines ms xs ys a.1 b.1 in
    cc

abbrev trait_row : List ℕ → List MethodRow → TraitRow
trait_row name methods = record { name = name; methods = methods }

trait_once : (lines : Lines) (t : TraitText) (x y : TraitRow) → IsTraitRow lines t x → IsTraitRow lines t y → x ≡ y
trait_once lines t x y a b =
    let name : x.name ≡ y.name = a.name ∙ sym b.name in
    ap (λ (n : List ℕ). trait_row n x.methods) name ∙ ap (trait_row y.name) (methods_once lines t.methods x.methods y.methods a.methods b.methods)

traits_once : (lines : Lines) (ts : List TraitText) (xs ys : List TraitRow) → AreTraitRows lines ts xs → AreTraitRows lines ts ys → xs ≡ ys
traits_once lines [] [] [] a b = refl
traits_once lines [] [] (y ∷ ys) a b = absurd b
traits_once lines [] (x ∷ xs) ys a b = absurd a
traits_once lines (t ∷ ts) [] ys a b = absurd a
traits_once lines (t ∷ ts) (x ∷ xs) [] a b = absurd b
traits_once lines (t ∷ ts) (x ∷ xs) (y ∷ ys) a b =
    let head = trait_once lines t x y a.0 b.0 in
    let tail = traits_once lines ts xs ys a.1 b.1 in
    cc

abbrev tables_of : List StructRow → List TraitRow → Tables
tables_of structs traits = record { structs = structs; traits = traits }

-- a part stands for one value of its tables
pub tables_once : (idl : Idl) (a b : Tables) → TableRows idl a → TableRows idl b → a ≡ b
tables_once idl a b h g =
    ap (λ (rows : List StructRow). tables_of rows a.traits) (struct_rows_once idl a.structs b.structs h.structs g.structs)
    ∙ ap (tables_of b.structs) (traits_once idl.lines (traits_of idl.lines) a.traits b.traits h.traits g.traits)

-- ---- counts of methods

methods_short : (lines : Lines) (marked : Bool) → length (methods_of lines marked) ≤ length lines
methods_short [] marked = omega arith
methods_short (x ∷ xs) marked = step x.line x.form (λ b. methods_short xs b) where
  step : (n : ℕ) (f : IdlLine) → ((b : Bool) → length (methods_of xs b) ≤ length xs) → length (method_before n f marked (methods_of xs)) ≤ length (x ∷ xs)
  step n form.Idempotent short = omega (arith, short true)
  step n (form.Method name params outcome) short = omega (arith, short false)
  step n (form.Struct name) short = omega arith
  step n (form.Field name ty) short = omega arith
  step n (form.Trait name) short = omega arith
  step n form.Close short = omega arith

trait_before_short : (n count : ℕ) (f : IdlLine) (ms : List MethodText) (ts : List TraitText) (t : ℕ) (text : TraitText) → length ms ≤ count → ((k : ℕ) → slice_get ts k ≡ Some text → length text.methods ≤ count) → slice_get (trait_before n f ms ts) t ≡ Some text → length text.methods ≤ count
trait_before_short n count (form.Trait name) ms ts zero text few later e =
    let same : record { line = n; name = name; methods = ms } ≡ text = cc in
    omega (arith, ap (λ (y : TraitText). length y.methods) same, few)
trait_before_short n count (form.Trait name) ms ts (suc t) text few later e = later t e
trait_before_short n count (form.Struct name) ms ts t text few later e = later t e
trait_before_short n count (form.Field name ty) ms ts t text few later e = later t e
trait_before_short n count form.Idempotent ms ts t text few later e = later t e
trait_before_short n count (form.Method name params outcome) ms ts t text few later e = later t e
trait_before_short n count form.Close ms ts t text few later e = later t e

trait_short : (lines : Lines) (t : ℕ) (text : TraitText) → slice_get (traits_of lines) t ≡ Some text → length text.methods ≤ length lines
trait_short [] t text e = absurd cc
trait_short (x ∷ xs) t text e = omega (arith, trait_before_short x.line (length xs) x.form (methods_of xs false) (traits_of xs) t text (methods_short xs false) (λ k g. trait_short xs k text g) e)

methods_count : (lines : Lines) (ms : List MethodText) (rows : List MethodRow) → AreMethodRows lines ms rows → length rows ≡ length ms
methods_count lines [] [] h = refl
methods_count lines [] (r ∷ rs) h = absurd h
methods_count lines (m ∷ ms) [] h = absurd h
methods_count lines (m ∷ ms) (r ∷ rs) h = omega (arith, methods_count lines ms rs h.1)

-- the text of a trait's row
trait_at : (lines : Lines) (ts : List TraitText) (rows : List TraitRow) (t : ℕ) (row : TraitRow) → AreTraitRows lines ts rows → slice_get rows t ≡ Some row → (text : TraitText) × (slice_get ts t ≡ Some text) × IsTraitRow lines text row
trait_at lines [] [] t row h e = absurd cc
trait_at lines [] (r ∷ rs) t row h e = absurd h
trait_at lines (x ∷ xs) [] t row h e = absurd h
trait_at lines (x ∷ xs) (r ∷ rs) zero row h e = let same : r ≡ row = cc in (x, refl, subst (λ (y : TraitRow). IsTraitRow lines x y) same h.0)
trait_at lines (x ∷ xs) (r ∷ rs) (suc t) row h e = trait_at lines xs rs t row h.1 e

pub few_methods : (idl : Idl) (tables : Tables) (t : ℕ) (row : TraitRow) → TableRows idl tables → slice_get tables.traits t ≡ Some row → length row.methods ≤ length idl.lines
few_methods idl tables t row h e =
    let x = trait_at idl.lines (traits_of idl.lines) tables.traits t row h.traits e in
    omega (arith, methods_count idl.lines x.0.methods row.methods x.2.methods, trait_short idl.lines t x.0 x.1)
