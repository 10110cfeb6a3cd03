-- The tables are small, and each domain keeps the rules that its code is run by.
use Rattle.std.proofs.Common.{◌≡◌, ℕ, zero, suc, ◌≤◌, Bool, true, false, List, [], ◌∷◌, length, Option, Some, None, refl, ap, arith}
use Rattle.std.specs.Prelude.{slice_get}
use Rattle.std.specs.Option.{option_to_list}
use Rattle.rl_defs.specs.declared.bundle.Bundle.{Bundle}
use Rattle.rl_defs.specs.declared.code.DomainText.{DomainText}
use Rattle.rl_defs.specs.declared.idl.IdlLine.{IdlLine}
use Rattle.rl_defs.specs.declared.idl.IdlLine.TheVariants as form
use Rattle.rl_defs.specs.declared.tables.StructRow.{StructRow}
use Rattle.rl_defs.specs.declared.tables.MethodRow.{MethodRow}
use Rattle.rl_defs.specs.declared.tables.TraitRow.{TraitRow}
use Rattle.rl_defs.specs.declared.tables.Tables.{Tables}
use Rattle.rl_defs.specs.Interfaces.{Lines, MethodText, TraitText, method_before, methods_of, trait_before, traits_of, struct_name, trait_name, names_by}
use Rattle.rl_defs.specs.MethodRules.{AreMethodRows}
use Rattle.rl_defs.specs.CodeNames.{flat_of}
use Rattle.rl_defs.specs.TableSizes.{IsMethodSmall, IsTraitSmall, IsStructSmall, AreTablesSmall}
use Rattle.rl_defs.specs.CodeRules.{KeepsRules}
use Rattle.rl_defs.specs.LoadOf.{checked_with}
use Rattle.rl_defs.proofs.Lists.{length_both, all_of}
use Rattle.valid_loads.proofs.Rules.{Kept}
use Rattle.valid_loads.proofs.TableTexts.{trait_text, struct_count, trait_count}
use Rattle.valid_loads.proofs.TablesKept.{method_kept, few_cells}
use Rattle.valid_loads.proofs.ShortBundles.{idl_short, domain_short}
use Rattle.valid_loads.proofs.CodeKept.{each_one}

-- ---- as few rows as lines

one_name : (o : Option (List ℕ)) → length (option_to_list o) ≤ 1
one_name None = omega arith
one_name (Some n) = omega arith

names_short : (name_of : IdlLine → Option (List ℕ)) (lines : Lines) → length (names_by name_of lines) ≤ length lines
names_short name_of [] = omega arith
names_short name_of (x ∷ xs) = omega (arith, length_both (option_to_list (name_of x.form)) (names_by name_of xs), one_name (name_of x.form), names_short name_of xs)

methods_short : (lines : Lines) (marked : Bool) → length (methods_of lines marked) ≤ length lines
methods_short [] marked = omega arith
methods_short (x ∷ xs) marked = step x.line x.form (λ b. methods_short xs b) where
  step : (n : ℕ) (f : IdlLine) → ((b : Bool) → length (methods_of xs b) ≤ length xs) → length (method_before n f marked (methods_of xs)) ≤ length (x ∷ xs)
  step n form.Idempotent short = omega (arith, short true)
  step n (form.Method name params result) short = omega (arith, short false)
  step n (form.Struct name) short = omega arith
  step n (form.Field name ty) short = omega arith
  step n (form.Trait name) short = omega arith
  step n form.Close short = omega arith

trait_step : (n count : ℕ) (f : IdlLine) (ms : List MethodText) (ts : List TraitText) (t : ℕ) (text : TraitText) → length ms ≤ count → ((k : ℕ) → slice_get ts k ≡ Some text → length text.methods ≤ count) → slice_get (trait_before n f ms ts) t ≡ Some text → length text.methods ≤ count
trait_step n count (form.Trait name) ms ts zero text few later e =
    let same : record { line = n; name = name; methods = ms } ≡ text = cc in
    omega (arith, ap (λ (y : TraitText). length y.methods) same, few)
trait_step n count (form.Trait name) ms ts (suc t) text few later e = later t e
trait_step n count (form.Struct name) ms ts t text few later e = later t e
trait_step n count (form.Field name ty) ms ts t text few later e = later t e
trait_step n count form.Idempotent ms ts t text few later e = later t e
trait_step n count (form.Method name params result) ms ts t text few later e = later t e
trait_step n count form.Close ms ts t text few later e = later t e

trait_short : (lines : Lines) (t : ℕ) (text : TraitText) → slice_get (traits_of lines) t ≡ Some text → length text.methods ≤ length lines
trait_short [] t text e = absurd cc
trait_short (x ∷ xs) t text e = omega (arith, trait_step x.line (length xs) x.form (methods_of xs false) (traits_of xs) t text (methods_short xs false) (λ k g. trait_short xs k text g) e)

method_rows : (lines : Lines) (texts : List MethodText) (rows : List MethodRow) → AreMethodRows lines texts rows → length rows ≡ length texts
method_rows lines [] [] h = refl
method_rows lines [] (r ∷ rows) h = absurd h
method_rows lines (t ∷ texts) [] h = absurd h
method_rows lines (t ∷ texts) (r ∷ rows) h = omega (arith, method_rows lines texts rows h.1)

-- ---- small tables

struct_small : (tables : Tables) (b : Bundle) → Kept tables b → (s : ℕ) (row : StructRow) → slice_get tables.structs s ≡ Some row → IsStructSmall row
struct_small tables b h s row e = omega (arith, few_cells tables b h s, ap (λ (o : Option StructRow). length (flat_of o)) e)

trait_small : (tables : Tables) (b : Bundle) → (h : Kept tables b) → length h.texts ≤ 1048576 → (t : ℕ) (x : TraitRow) → slice_get tables.traits t ≡ Some x → IsTraitSmall x
trait_small tables b h few t x e =
    let text = trait_text b.idl.lines (traits_of b.idl.lines) tables.traits t x h.rows.traits e in
    record {
      few = omega (arith, few, method_rows b.idl.lines text.0.methods x.methods text.2.methods, trait_short b.idl.lines t text.0 text.1, idl_short tables b h);
      methods = all_of IsMethodSmall x.methods (λ m row at. let k = method_kept tables b h t m x row e at in record { params = k.params; results = k.results });
    }

pub small : (tables : Tables) (b : Bundle) → (h : Kept tables b) → length h.texts ≤ 1048576 → AreTablesSmall tables
small tables b h few = record {
  few_structs = omega (arith, few, struct_count b.idl.lines tables.structs h.rows.structs, names_short struct_name b.idl.lines, idl_short tables b h);
  few_traits = omega (arith, few, trait_count b.idl.lines tables.traits h.rows.traits, names_short trait_name b.idl.lines, idl_short tables b h);
  structs = all_of IsStructSmall tables.structs (struct_small tables b h);
  traits = all_of IsTraitSmall tables.traits (trait_small tables b h few);
}

-- a domain keeps the rules that its code is run by
pub domain_kept : (tables : Tables) (b : Bundle) → (h : Kept tables b) → length h.texts ≤ 1048576 → (place : ℕ) (text : DomainText) → slice_get b.domains place ≡ Some text → KeepsRules (checked_with tables text)
domain_kept tables b h few place text here = record {
  short = omega (arith, few, domain_short tables b h place text here);
  small = small tables b h few;
  ordered = each_one tables b h place text here;
  rules = λ n r f. h.code n r (record { place = place; text = text; here = here; fails = f });
}
