-- What is bound to the imports of a load.
use Rattle.std.specs.Option.{option_and_then}
use Rattle.std.proofs.Common.{◌≡◌, ℕ, zero, suc, ◌<◌, ◌⊎◌, inl, inr, Bool, true, false, cond, ◌&&◌, List, [], ◌∷◌, ◌++◌, map, length, Option, Some, None, refl, sym, ap, subst, ◌∙◌, arith}
use Rattle.std.specs.Prelude.{slice_get, unwrap_or}
use Rattle.std.specs.List.{flat_map}
use Rattle.std.proofs.lemmas.Bool.{cases_lt}
use Rattle.std.proofs.lemmas.List.{length-map}
use Rattle.rl_defs.specs.declared.bundle.Numbered.{Numbered}
use Rattle.rl_defs.specs.declared.bundle.Bundle.{Bundle}
use Rattle.rl_defs.specs.declared.bundle.PlanLine.{PlanLine}
use Rattle.rl_defs.specs.declared.bundle.PlanLine.TheVariants as plan
use Rattle.rl_defs.specs.declared.code.DomainLine.{DomainLine}
use Rattle.rl_defs.specs.declared.code.DomainLine.TheVariants as line
use Rattle.rl_defs.specs.declared.code.DomainText.{DomainText}
use Rattle.rl_defs.specs.declared.tables.Tables.{Tables}
use Rattle.rl_defs.specs.declared.load.LoadRow.{LoadRow}
use Rattle.rl_defs.specs.Words.{same_bytes}
use Rattle.rl_defs.specs.Interfaces.{place_of}
use Rattle.rl_defs.specs.DomainValue.{Domain}
use Rattle.rl_defs.specs.Domains.{Lines, load_of_target, trait_name}
use Rattle.rl_defs.specs.CodeNames.{Declared, imports, import_of_form, place_in, type_at, type_of, trait_number, domain_trait}
use Rattle.rl_defs.specs.BundleNames.{given_by, names_of, load_names, load_given, target_names, target_given, bind_given, import_given, load_lines, lines_of_domain}
use Rattle.rl_defs.specs.NameRules.{target_used}
use Rattle.rl_defs.specs.LoadOf.{load_of, bound_in, bound_to, binds_of, target_number, loads_of}
use Rattle.rl_defs.specs.Rows.{is_target, trait_if}
use Rattle.rl_defs.specs.Rows.{domain_of_load, domain_in, binds, binds_in}
use Rattle.rl_defs.proofs.Lists.{comes, goes, map_get, get_map, first_of_some, and_left, and_right}
use Rattle.valid_loads.proofs.Names.{Apart, given_apart, apart_among, apart_place, names_flat, place_there, same_name, same_self, only_name, declared_by}
use Rattle.valid_loads.proofs.Rules.{Kept, once, declared}
use Rattle.valid_loads.proofs.Rows.{LineOf, LoadText, load_texts, load_at, row_at, name_at, load_line, line_is}
use Rattle.valid_loads.proofs.Domains.{OfText, of_text, is_loaded}
use Rattle.valid_loads.proofs.Texts.{plan_named, name_no_dot, parted}
use Rattle.valid_loads.proofs.TargetNames.{TargetNamed, target_named}

-- ---- names of loads and of imports are apart

pub load_among : (f : PlanLine) → (load_given f ≡ []) ⊎ (load_given f ≡ target_given f)
load_among (plan.Load name domain) = inr refl
load_among f = inl refl

pub targets_apart : (tables : Tables) (b : Bundle) → Kept tables b → Apart (flat_map (λ l. target_given l.form) b.plan.lines)
targets_apart tables b h = subst Apart (names_flat target_given b.plan.lines) (given_apart (given_by target_given b.plan.lines) (λ n t. once tables b h n (inr (inr (inr (inl (inl t)))))))

pub loads_apart : (tables : Tables) (b : Bundle) → Kept tables b → Apart (load_names b)
loads_apart tables b h =
    subst Apart (sym (names_flat load_given b.plan.lines)) (apart_among (λ (l : Numbered PlanLine). target_given l.form) (λ (l : Numbered PlanLine). load_given l.form) (λ l. load_among l.form) b.plan.lines (targets_apart tables b h))

abbrev pub declared_names : List Declared → List (List ℕ)
declared_names ds = map (λ d. d.name) ds

import_form : (f : DomainLine) (others : List Declared) → import_given f ++ declared_names others ≡ declared_names (import_of_form f others)
import_form (line.Import name has) others = refl
import_form f others = refl

import_names : (lines : Lines) → flat_map (λ l. import_given l.form) lines ≡ declared_names (imports lines)
import_names [] = refl
import_names (l ∷ ls) = ap (λ (ns : List (List ℕ)). import_given l.form ++ ns) (import_names ls) ∙ import_form l.form (imports ls)

pub imports_apart : (tables : Tables) (b : Bundle) → Kept tables b → (place : ℕ) (text : DomainText) → slice_get b.domains place ≡ Some text → Apart (declared_names (imports text.lines))
imports_apart tables b h place text here =
    subst Apart (names_flat import_given text.lines ∙ import_names text.lines)
    (given_apart (given_by import_given text.lines) (λ n g. once tables b h n (inr (inl (inr (inl (record { number = place; names = given_by import_given text.lines; here = get_map (λ (d : DomainText). given_by import_given d.lines) b.domains place text here; twice = g })))))))

-- ---- what is bound

-- the line that binds a target to an import of a load
pub record BoundBy (b : Bundle) (load import : List ℕ) : Type 0 where
  pub target : List ℕ
  pub is : bound_to b load import ≡ target
  pub line : LineOf b (plan.Bind load import target)

bind_one : (f : PlanLine) (i : ℕ) (q : List ℕ) → slice_get (bind_given f) i ≡ Some q → (load : List ℕ) × (import : List ℕ) × (target : List ℕ) × (f ≡ plan.Bind load import target) × (load ++ 46 ∷ import ≡ q)
bind_one (plan.Bind load import target) zero q e = (load, import, target, refl, cc)
bind_one (plan.Bind load import target) (suc i) q e = absurd cc
bind_one (plan.Load name domain) i q e = absurd cc
bind_one (plan.Shadow name load restarts) i q e = absurd cc
bind_one (plan.Device load blocks) i q e = absurd cc
bind_one (plan.Serial load) i q e = absurd cc
bind_one (plan.Fuel n) i q e = absurd cc
bind_one (plan.Order clients) i q e = absurd cc

bound_one : (load import : List ℕ) (f : PlanLine) (i : ℕ) (x : List ℕ) → slice_get (bound_in load import f) i ≡ Some x → f ≡ plan.Bind load import x
bound_one load import (plan.Bind of to target) i x e = by (same_bytes of load && same_bytes to import) refl i e where
  by : (b : Bool) → (same_bytes of load && same_bytes to import) ≡ b → (i : ℕ) → slice_get (cond b (target ∷ []) []) i ≡ Some x → plan.Bind of to target ≡ plan.Bind load import x
  by true is zero d =
      let one = same_name of load (and_left (same_bytes of load) (same_bytes to import) is) in
      let two = same_name to import (and_right (same_bytes of load) (same_bytes to import) is) in
      let three : target ≡ x = cc in
      cc
  by true is (suc i) d = absurd cc
  by false is i d = absurd cc
bound_one load import (plan.Load name domain) i x e = absurd cc
bound_one load import (plan.Shadow name of restarts) i x e = absurd cc
bound_one load import (plan.Device of blocks) i x e = absurd cc
bound_one load import (plan.Serial of) i x e = absurd cc
bound_one load import (plan.Fuel n) i x e = absurd cc
bound_one load import (plan.Order clients) i x e = absurd cc

binds_there : (load import target : List ℕ) → slice_get (bound_in load import (plan.Bind load import target)) 0 ≡ Some target
binds_there load import target = rw (same_self load, same_self import) refl

bound_line : (b : Bundle) (load import target : List ℕ) → LineOf b (plan.Bind load import target) → BoundBy b load import
bound_line b load import target line =
    let whole = flat_map (λ (l : Numbered PlanLine). bound_in load import l.form) b.plan.lines in
    let g = goes (λ (l : Numbered PlanLine). bound_in load import l.form) b.plan.lines line.place 0 (record { line = line.number; form = plan.Bind load import target }) target line.here (binds_there load import target) in
    let first = first_of_some whole [] g.0 target g.1 in
    let c = comes (λ (l : Numbered PlanLine). bound_in load import l.form) b.plan.lines 0 first.0 first.1 in
    record { target = first.0; is = first.2; line = line_is b c.place c.item (plan.Bind load import first.0) c.here (bound_one load import c.item.form c.inner first.0 c.there) }

pub bound_by : (tables : Tables) (b : Bundle) (k j : ℕ) (t : LoadText) (i : Declared) → Kept tables b → slice_get (load_texts b) k ≡ Some t → (d : OfText tables b k t) → slice_get (imports d.text.lines) j ≡ Some i → BoundBy b t.name i.name
bound_by tables b k j t i h e d at = by (place_of (t.name ++ 46 ∷ i.name) (names_of (given_by bind_given b.plan.lines))) refl where
  by : (o : Option ℕ) → place_of (t.name ++ 46 ∷ i.name) (names_of (given_by bind_given b.plan.lines)) ≡ o → BoundBy b t.name i.name
  by None none =
      let line = load_line b k t e in
      absurd (h.plan line.number 40 (inl (refl, record { name = t.name; domain = t.domain; line = record { place = line.place; here = line.here }; lines = d.text.lines; text = d.lines; place = j; import = i; of = at; unbound = none })))
  by (Some p) some =
      let there = place_there (t.name ++ 46 ∷ i.name) (names_of (given_by bind_given b.plan.lines)) p some in
      let c = comes (λ (l : Numbered PlanLine). bind_given l.form) b.plan.lines p (t.name ++ 46 ∷ i.name) (ap (λ (ns : List (List ℕ)). slice_get ns p) (sym (names_flat bind_given b.plan.lines)) ∙ there) in
      let f = bind_one c.item.form c.inner (t.name ++ 46 ∷ i.name) c.there in
      let line = line_is b c.place c.item (plan.Bind f.0 f.1 f.2) c.here f.3 in
      let one = name_no_dot f.0 (plan_named tables b h (plan.Bind f.0 f.1 f.2) line 1 f.0 refl) in
      let two = name_no_dot t.name (plan_named tables b h (plan.Load t.name t.domain) (load_line b k t e) 1 t.name refl) in
      let same = parted f.0 f.1 t.name i.name one two f.4 in
      let form : plan.Bind f.0 f.1 f.2 ≡ plan.Bind t.name i.name f.2 = ap (λ (n : List ℕ). plan.Bind n f.1 f.2) same.0 ∙ ap (λ (n : List ℕ). plan.Bind t.name n f.2) same.1 in
      bound_line b t.name i.name f.2 (subst (LineOf b) form line)

-- ---- a bound target

-- A target that is bound to an import of a load.
pub record IsBound (tables : Tables) (b : Bundle) (k j x : ℕ) : Type 0 where
  pub target : is_target (load_of tables b) x ≡ true
  pub trait : trait_if (load_of tables b) (is_target (load_of tables b) x) x ≡ trait_number tables (type_at (imports (domain_of_load (load_of tables b) (suc k)).lines) (Some j))
  pub before : load_of_target (load_of tables b) x < suc k

pub trait_of_target : (tables : Tables) (b : Bundle) (target : List ℕ) → (t : TargetNamed tables b target) → trait_if (load_of tables b) (is_target (load_of tables b) (suc t.place)) (suc t.place) ≡ trait_number tables (trait_name t.loaded.of.text.lines)
trait_of_target tables b target t =
    ap (λ (is : Bool). trait_if (load_of tables b) is (suc t.place)) t.is
    ∙ ap (λ (n : ℕ). domain_trait (domain_of_load (load_of tables b) n)) t.row
    ∙ ap domain_trait t.loaded.of.domain

is_bound : (tables : Tables) (b : Bundle) (k j : ℕ) (t : LoadText) (i : Declared) → Kept tables b → slice_get (load_texts b) k ≡ Some t → (d : OfText tables b k t) → slice_get (imports d.text.lines) j ≡ Some i → (x : ℕ) → target_number b (bound_to b t.name i.name) ≡ x → IsBound tables b k j x
is_bound tables b k j t i h e d at x number =
    let bound = bound_by tables b k j t i h e d at in
    let p = declared_by b.plan.lines target_used (target_names b) (λ n u. declared tables b h n (inr (inr (inr (inr (inr (inl u))))))) bound.line.place _ bound.line.here 0 bound.target refl in
    let to = target_named tables b bound.target p.0 h p.1 in
    let is : suc to.place ≡ x = sym to.number ∙ sym (ap (target_number b) bound.is) ∙ number in
    let place = apart_place (load_names b) k t.name (loads_apart tables b h) (name_at b k t e) in
    let load : load_lines b t.name ≡ Some d.text.lines = ap (option_and_then (lines_of_domain b)) (is_loaded b t.name k t place e) ∙ d.lines in
    let import = apart_place (declared_names (imports d.text.lines)) j i.name (imports_apart tables b h d.place d.text d.here) (get_map (λ (y : Declared). y.name) (imports d.text.lines) j i at) in
    let ty : type_at (imports d.text.lines) (place_in i.name (imports d.text.lines)) ≡ i.ty = ap (type_at (imports d.text.lines)) import ∙ ap type_of at in
    let same : i.ty ≡ trait_name to.loaded.of.text.lines = only_name (trait_name to.loaded.of.text.lines) i.ty (λ none. h.plan bound.line.number 41 (inr (inl (
      refl,
      record {
        load = t.name;
        import = i.name;
        target = bound.target;
        line = record { place = bound.line.place; here = bound.line.here };
        lines = d.text.lines;
        binds = load;
        others = to.loaded.of.text.lines;
        bound = ap (option_and_then (load_lines b)) to.stands_for ∙ to.loaded.is;
        differ = λ is. none (is ∙ ty);
      },
    )))) in
    let before : to.loaded.place < k = elim (cases_lt to.loaded.place k) [
      | inl less ↦ less
      | inr behind ↦ absurd (h.plan bound.line.number 42 (inr (inr (inl (
        refl,
        record {
          load = t.name;
          import = i.name;
          target = bound.target;
          line = record { place = bound.line.place; here = bound.line.here };
          place = k;
          binds = place;
          target_load = to.load;
          stands_for = to.stands_for;
          target_place = to.loaded.place;
          bound = to.loaded.named;
          behind = behind;
        },
      )))))
    ] in
    let there : type_at (imports (domain_of_load (load_of tables b) (suc k)).lines) (Some j) ≡ i.ty = ap (λ (y : Domain). type_at (imports y.lines) (Some j)) d.domain ∙ ap type_of at in
    subst (IsBound tables b k j) is (record {
      target = to.is;
      trait = trait_of_target tables b bound.target to ∙ ap (trait_number tables) (sym same ∙ sym there);
      before = omega (arith, to.row, before);
    })

row_binds : (tables : Tables) (b : Bundle) (k : ℕ) (t : LoadText) → slice_get (load_texts b) k ≡ Some t → (d : OfText tables b k t) → binds (load_of tables b) (suc k) ≡ map (λ import. target_number b (bound_to b t.name import)) (declared_names (imports d.text.lines))
row_binds tables b k t e d = ap binds_in (row_at b k t e) ∙ ap (λ (o : Option Lines). binds_of b t.name (unwrap_or o [])) d.lines

pub each_bound : (tables : Tables) (b : Bundle) → Kept tables b → (k j x : ℕ) → slice_get (binds (load_of tables b) (suc k)) j ≡ Some x → IsBound tables b k j x
each_bound tables b h k j x e = by (slice_get (loads_of b) k) refl where
  by : (o : Option LoadRow) → slice_get (loads_of b) k ≡ o → IsBound tables b k j x
  by None none = let bad : None ≡ Some x = sym (ap (λ (o : Option LoadRow). slice_get (binds_in o) j) none) ∙ e in absurd cc
  by (Some l) some =
      let t = load_at b k l some in
      let d = of_text tables b k t.0 h t.1 in
      let m = map_get (λ (import : List ℕ). target_number b (bound_to b t.0.name import)) (declared_names (imports d.text.lines)) j x (sym (ap (λ (xs : List ℕ). slice_get xs j) (row_binds tables b k t.0 t.1 d)) ∙ e) in
      let i = map_get (λ (y : Declared). y.name) (imports d.text.lines) j m.0 m.1 in
      is_bound tables b k j t.0 i.0 h t.1 d i.1 x (ap (λ (n : List ℕ). target_number b (bound_to b t.0.name n)) i.2 ∙ m.2)

pub count : (tables : Tables) (b : Bundle) → Kept tables b → (k : ℕ) → length (binds (load_of tables b) k) ≡ length (imports (domain_of_load (load_of tables b) k).lines)
count tables b h zero = refl
count tables b h (suc k) = by (slice_get (loads_of b) k) refl where
  by : (o : Option LoadRow) → slice_get (loads_of b) k ≡ o → length (binds (load_of tables b) (suc k)) ≡ length (imports (domain_of_load (load_of tables b) (suc k)).lines)
  by None none = ap (λ (o : Option LoadRow). length (binds_in o)) none ∙ sym (ap (λ (o : Option LoadRow). length (imports (domain_in (load_of tables b) o).lines)) none)
  by (Some l) some =
      let t = load_at b k l some in
      let d = of_text tables b k t.0 h t.1 in
      ap (λ (xs : List ℕ). length xs) (row_binds tables b k t.0 t.1 d)
      ∙ length-map (declared_names (imports d.text.lines)) (λ (import : List ℕ). target_number b (bound_to b t.0.name import))
      ∙ length-map (imports d.text.lines) (λ (y : Declared). y.name)
      ∙ sym (ap (λ (y : Domain). length (imports y.lines)) d.domain)
