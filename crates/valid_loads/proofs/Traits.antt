-- The trait of a target and its methods, by their names and by their numbers.
use Rattle.std.proofs.Common.{◌≡◌, ℕ, suc, inl, inr, Bool, true, false, cond, nat_eq, List, [], ◌∷◌, ◌++◌, map, Option, Some, None, refl, sym, ap, ◌∙◌, arith}
use Rattle.std.specs.Prelude.{slice_get, unwrap_or}
use Rattle.std.specs.Option.{option_map, option_to_list, option_and_then}
use Rattle.std.specs.List.{position_or_len}
use Rattle.std.specs.Cmp.Lexicographic.{pointwise}
use Rattle.rl_defs.specs.declared.bundle.Bundle.{Bundle}
use Rattle.rl_defs.specs.declared.idl.IdlLine.{IdlLine}
use Rattle.rl_defs.specs.declared.idl.IdlLine.TheVariants as form
use Rattle.rl_defs.specs.declared.code.DomainLine.{DomainLine}
use Rattle.rl_defs.specs.declared.code.DomainLine.TheVariants as line
use Rattle.rl_defs.specs.declared.code.DomainText.{DomainText}
use Rattle.rl_defs.specs.declared.tables.StructRow.{StructRow}
use Rattle.rl_defs.specs.declared.tables.MethodRow.{MethodRow}
use Rattle.rl_defs.specs.declared.tables.TraitRow.{TraitRow}
use Rattle.rl_defs.specs.declared.tables.Tables.{Tables}
use Rattle.rl_defs.specs.Words.{same_bytes}
use Rattle.rl_defs.specs.DomainParts.{begins_domain}
use Rattle.rl_defs.specs.Interfaces.{place_of, MethodText, TraitText, FieldText, StructText, methods_of, trait_before, traits_of, trait_names, struct_before, structs_of, fields_of, struct_names}
use Rattle.rl_defs.specs.Interfaces.{Lines as IdlLines, trait_name as idl_trait_name, struct_name as idl_struct_name}
use Rattle.rl_defs.specs.TypeRules.{AreStructRows}
use Rattle.rl_defs.specs.MethodRules.{AreTraitRows}
use Rattle.rl_defs.specs.Domains.{Lines, trait_name, trait_named, trait_of_form, method_of, method_in, lines_of_load, lines_of_row, domain_lines, load_of_target}
use Rattle.rl_defs.specs.CodeNames.{trait_number, method_number, row_at, rows_of, traits_used}
use Rattle.rl_defs.specs.CodeNames.{methods_of as methods_of_row}
use Rattle.rl_defs.specs.DomainParts.{IsOneDomain}
use Rattle.rl_defs.specs.BundleNames.{domain_lines as all_domain_lines, load_lines}
use Rattle.rl_defs.specs.ScriptRules.{target_trait, method_of_call}
use Rattle.rl_defs.specs.LoadOf.{load_of, target_number, method_number_of}
use Rattle.rl_defs.proofs.Lists.{goes}
use Rattle.valid_loads.proofs.Names.{declared_by}
use Rattle.valid_loads.proofs.Rules.{Kept, declared}
use Rattle.valid_loads.proofs.Rows.{row_at as load_row_at}
use Rattle.valid_loads.proofs.TargetNames.{TargetNamed}
use Rattle.valid_loads.proofs.CodeKept.{each_one}

-- ---- names of rows are those of the text

trait_step : (n : ℕ) (f : IdlLine) (methods : List MethodText) (more : List TraitText) (names : List (List ℕ)) → names ≡ map (λ (t : TraitText). t.name) more → option_to_list (idl_trait_name f) ++ names ≡ map (λ (t : TraitText). t.name) (trait_before n f methods more)
trait_step n (form.Trait name) methods more names e = ap (λ (ns : List (List ℕ)). name ∷ ns) e
trait_step n (form.Struct name) methods more names e = e
trait_step n form.Idempotent methods more names e = e
trait_step n (form.Method name params outcome) methods more names e = e
trait_step n (form.Field name ty) methods more names e = e
trait_step n form.Close methods more names e = e

trait_texts : (lines : IdlLines) → trait_names lines ≡ map (λ (t : TraitText). t.name) (traits_of lines)
trait_texts [] = refl
trait_texts (x ∷ xs) = trait_step x.line x.form (methods_of xs false) (traits_of xs) (trait_names xs) (trait_texts xs)

trait_rows : (lines : IdlLines) (texts : List TraitText) (rows : List TraitRow) → AreTraitRows lines texts rows → map (λ (t : TraitText). t.name) texts ≡ map (λ (t : TraitRow). t.name) rows
trait_rows lines [] [] h = refl
trait_rows lines [] (r ∷ rows) h = absurd h
trait_rows lines (t ∷ texts) [] h = absurd h
trait_rows lines (t ∷ texts) (r ∷ rows) h = ap (λ (n : List ℕ). n ∷ map (λ (t : TraitText). t.name) texts) (sym h.0.name) ∙ ap (λ (ns : List (List ℕ)). r.name ∷ ns) (trait_rows lines texts rows h.1)

struct_step : (n : ℕ) (f : IdlLine) (fields : List FieldText) (more : List StructText) (names : List (List ℕ)) → names ≡ map (λ (t : StructText). t.name) more → option_to_list (idl_struct_name f) ++ names ≡ map (λ (t : StructText). t.name) (struct_before n f fields more)
struct_step n (form.Struct name) fields more names e = ap (λ (ns : List (List ℕ)). name ∷ ns) e
struct_step n (form.Trait name) fields more names e = e
struct_step n form.Idempotent fields more names e = e
struct_step n (form.Method name params outcome) fields more names e = e
struct_step n (form.Field name ty) fields more names e = e
struct_step n form.Close fields more names e = e

struct_texts : (lines : IdlLines) → struct_names lines ≡ map (λ (t : StructText). t.name) (structs_of lines)
struct_texts [] = refl
struct_texts (x ∷ xs) = struct_step x.line x.form (fields_of xs) (structs_of xs) (struct_names xs) (struct_texts xs)

struct_rows : (lines : IdlLines) (texts : List StructText) (rows : List StructRow) → AreStructRows lines texts rows → map (λ (t : StructText). t.name) texts ≡ map (λ (t : StructRow). t.name) rows
struct_rows lines [] [] h = refl
struct_rows lines [] (r ∷ rows) h = absurd h
struct_rows lines (t ∷ texts) [] h = absurd h
struct_rows lines (t ∷ texts) (r ∷ rows) h = ap (λ (n : List ℕ). n ∷ map (λ (t : StructText). t.name) texts) (sym h.0.name) ∙ ap (λ (ns : List (List ℕ)). r.name ∷ ns) (struct_rows lines texts rows h.1)

pub trait_row_names : (tables : Tables) (b : Bundle) → Kept tables b → trait_names b.idl.lines ≡ map (λ (t : TraitRow). t.name) tables.traits
trait_row_names tables b h = trait_texts b.idl.lines ∙ trait_rows b.idl.lines (traits_of b.idl.lines) tables.traits h.rows.traits

pub struct_row_names : (tables : Tables) (b : Bundle) → Kept tables b → struct_names b.idl.lines ≡ map (λ (t : StructRow). t.name) tables.structs
struct_row_names tables b h = struct_texts b.idl.lines ∙ struct_rows b.idl.lines (structs_of b.idl.lines) tables.structs h.rows.structs

-- ---- the trait of a domain

head_trait : (lines : Lines) → IsOneDomain lines → (n : ℕ) × (name : List ℕ) × (slice_get lines 0 ≡ Some (record { line = n; form = line.Domain name (trait_name lines) }))
head_trait [] one = absurd one
head_trait (l ∷ ls) one = by l.form refl one.0 where
  by : (f : DomainLine) → l.form ≡ f → begins_domain f ≡ true → (n : ℕ) × (name : List ℕ) × (Some l ≡ Some (record { line = n; form = line.Domain name (trait_of_form l.form (trait_name ls)) }))
  by (line.Domain name has) is begins = (l.line, name, ap (λ (f : DomainLine). Some (record { line = l.line; form = f })) (is ∙ ap (line.Domain name) (ap (λ (g : DomainLine). trait_of_form g (trait_name ls)) (sym is))))
  by f is begins = absurd cc

pub trait_place : (tables : Tables) (b : Bundle) → Kept tables b → (k : ℕ) (d : DomainText) → slice_get b.domains k ≡ Some d → (p : ℕ) × (place_of (trait_name d.lines) (map (λ (t : TraitRow). t.name) tables.traits) ≡ Some p)
trait_place tables b h k d here =
    let head = head_trait d.lines (each_one tables b h k d here) in
    let at = goes (λ (x : DomainText). x.lines) b.domains k 0 d (record { line = head.0; form = line.Domain head.1 (trait_name d.lines) }) here head.2 in
    let p = declared_by (all_domain_lines b) traits_used (trait_names b.idl.lines) (λ n u. declared tables b h n (inr (inl u))) at.0 _ at.1 0 (trait_name d.lines) refl in
    (p.0, ap (place_of (trait_name d.lines)) (sym (trait_row_names tables b h)) ∙ p.1)

-- a row that is found by its name stands at the name's place
found : (name : List ℕ) (rows : List TraitRow) (p : ℕ) → place_of name (map (λ (t : TraitRow). t.name) rows) ≡ Some p → position_or_len (λ (t : TraitRow). same_bytes t.name name) rows ≡ p
found name [] p e = absurd cc
found name (r ∷ rows) p e = by (pointwise nat_eq r.name name) refl p (place_of name (map (λ (t : TraitRow). t.name) rows)) refl e (λ q d. found name rows q d) where
  by : (b : Bool) → pointwise nat_eq r.name name ≡ b → (p : ℕ) → (o : Option ℕ) → place_of name (map (λ (t : TraitRow). t.name) rows) ≡ o → cond b (Some 0) (option_map (λ (i : ℕ). suc i) o) ≡ Some p → ((q : ℕ) → place_of name (map (λ (t : TraitRow). t.name) rows) ≡ Some q → position_or_len (λ (t : TraitRow). same_bytes t.name name) rows ≡ q) → position_or_len (λ (t : TraitRow). same_bytes t.name name) (r ∷ rows) ≡ p
  by true is p o at e more = let same : 0 ≡ p = cc in rw is same
  by false is p None at e more = absurd cc
  by false is p (Some q) at e more = let same : suc q ≡ p = cc in let rest = more q at in rw is (omega (arith, rest, same))

pub trait_found : (tables : Tables) (b : Bundle) → Kept tables b → (k : ℕ) (d : DomainText) → slice_get b.domains k ≡ Some d → trait_named tables (trait_name d.lines) ≡ slice_get tables.traits (trait_number tables (trait_name d.lines))
trait_found tables b h k d here =
    let p = trait_place tables b h k d here in
    ap (slice_get tables.traits) (found (trait_name d.lines) tables.traits p.0 p.1 ∙ sym (ap (λ (o : Option ℕ). unwrap_or o 0) p.1))

-- ---- the methods of a target

pub target_trait_is : (tables : Tables) (b : Bundle) (target : List ℕ) → (t : TargetNamed tables b target) → target_trait tables b target ≡ trait_number tables (trait_name t.loaded.of.text.lines)
target_trait_is tables b target t =
    ap (λ (o : Option (List ℕ)). unwrap_or (option_map (λ (ls : Lines). trait_number tables (trait_name ls)) (option_and_then (load_lines b) o)) 0) t.stands_for
    ∙ ap (λ (o : Option Lines). unwrap_or (option_map (λ (ls : Lines). trait_number tables (trait_name ls)) o) 0) t.loaded.is

lines_of_target : (tables : Tables) (b : Bundle) (target : List ℕ) → (t : TargetNamed tables b target) → lines_of_load (load_of tables b) (load_of_target (load_of tables b) (suc t.place)) ≡ t.loaded.of.text.lines
lines_of_target tables b target t =
    ap (lines_of_load (load_of tables b)) t.row
    ∙ ap (lines_of_row (load_of tables b)) (load_row_at b t.loaded.place t.loaded.text t.loaded.here)
    ∙ ap (λ (n : ℕ). domain_lines (slice_get (load_of tables b).domains n)) t.loaded.of.number
    ∙ ap domain_lines t.loaded.of.among

pub in_rows : (o : Option TraitRow) (m : ℕ) → slice_get (rows_of o) m ≡ method_in o m
in_rows None m = refl
in_rows (Some t) m = refl

-- the method that a name names is the one of its number
pub method_is : (tables : Tables) (b : Bundle) (target method : List ℕ) → Kept tables b → (t : TargetNamed tables b target) → (row : MethodRow) → method_of_call tables b target method ≡ Some row → method_of (load_of tables b) (target_number b target) (method_number_of tables b target method) ≡ Some row
method_is tables b target method h t row e = by (method_number tables (target_trait tables b target) method) refl e where
  by : (o : Option ℕ) → method_number tables (target_trait tables b target) method ≡ o → row_at (methods_of_row tables (target_trait tables b target)) o ≡ Some row → method_of (load_of tables b) (target_number b target) (unwrap_or o 0) ≡ Some row
  by None is d = absurd cc
  by (Some m) is d =
      ap (λ (x : ℕ). method_of (load_of tables b) x m) t.number
      ∙ ap (λ (ls : Lines). method_in (trait_named tables (trait_name ls)) m) (lines_of_target tables b target t)
      ∙ ap (λ (o : Option TraitRow). method_in o m) (trait_found tables b h t.loaded.of.place t.loaded.of.text t.loaded.of.here)
      ∙ sym (in_rows (slice_get tables.traits (trait_number tables (trait_name t.loaded.of.text.lines))) m)
      ∙ ap (λ (n : ℕ). slice_get (methods_of_row tables n) m) (sym (target_trait_is tables b target t))
      ∙ d
