-- The rows of structs and of methods keep the rules 10 to 23.
use Rattle.rl_defs.specs.NameRules.{struct_in, trait_in}
use Rattle.std.proofs.Common.{◌≡◌, ℕ, zero, suc, ◌+◌, ◌<◌, ◌≤◌, inl, inr, Bool, true, false, ◌||◌, List, [], ◌∷◌, length, Option, Some, None, refl, sym, ap, subst, ◌∙◌, arith}
use Rattle.std.specs.Prelude.{slice_get, unwrap_or}
use Rattle.std.specs.List.{list_any}
use Rattle.std.proofs.lemmas.Bool.{cases_lt}
use Rattle.rl_defs.specs.declared.bundle.Bundle.{Bundle}
use Rattle.rl_defs.specs.declared.idl.Base.{Base}
use Rattle.rl_defs.specs.declared.idl.Base.TheVariants as base
use Rattle.rl_defs.specs.declared.idl.IdlLine.{IdlLine}
use Rattle.rl_defs.specs.declared.idl.IdlLine.TheVariants as form
use Rattle.rl_defs.specs.declared.idl.TypeText.{TypeText}
use Rattle.rl_defs.specs.declared.tables.Kind.{Kind}
use Rattle.rl_defs.specs.declared.tables.Kind.TheVariants as kind
use Rattle.rl_defs.specs.declared.tables.StructRow.{StructRow}
use Rattle.rl_defs.specs.declared.tables.MethodRow.{MethodRow}
use Rattle.rl_defs.specs.declared.tables.TraitRow.{TraitRow}
use Rattle.rl_defs.specs.declared.tables.Tables.{Tables}
use Rattle.rl_defs.specs.Interfaces.{Lines, StructText, MethodText, structs_of, traits_of, field_types, types_at, types_in, param_types, result_types, struct_names, trait_names, place_of, struct_number, trait_number}
use Rattle.rl_defs.specs.Flattening.{Flattens, kind_held, base_kind, is_refused}
use Rattle.rl_defs.specs.Refusals.{HasLine}
use Rattle.rl_defs.specs.TypeRules.{is_lent}
use Rattle.rl_defs.specs.Holding.{IsEndless, HoldsRRef}
use Rattle.rl_defs.specs.MethodRules.{IsMethodRow}
use Rattle.rl_defs.specs.CodeNames.{flat_of, cells_of}
use Rattle.rl_defs.specs.Valid.{IsOwnable, IsPassable}
use Rattle.rl_defs.proofs.Lists.{get_first, get_second, in_list, goes}
use Rattle.valid_loads.proofs.Names.{place_there}
use Rattle.valid_loads.proofs.Rules.{Kept}
use Rattle.valid_loads.proofs.TableTexts.{MethodLine, method_form, trait_line, field_line, struct_text, trait_text, method_text, struct_count, trait_count}
use Rattle.valid_loads.proofs.Flat.{Each, flat_each, unrefused, own_held, struct_holds}

pub any_at : {X : Type 0} (test : X → Bool) (xs : List X) (k : ℕ) (x : X) → slice_get xs k ≡ Some x → test x ≡ true → list_any test xs ≡ true
any_at test [] k x e t = absurd cc
any_at {X} test (y ∷ ys) zero x e t = let same : x ≡ y = cc in ap (λ b. b || list_any test ys) (subst (λ (z : X). test z ≡ true) same t)
any_at test (y ∷ ys) (suc k) x e t = or_true (test y) (list_any test ys) (any_at test ys k x e t) where
  or_true : (a b : Bool) → b ≡ true → (a || b) ≡ true
  or_true true b h = refl
  or_true false b h = h

-- ---- kinds that are no lent object and no interface

abbrev is_plain : Kind → Bool
is_plain (kind.Num w) = true
is_plain (kind.Own s) = true
is_plain _ = false

abbrev IsPlain : Kind → Type 0
IsPlain k = is_plain k ≡ true

abbrev Unlent : TypeText → Type 0
Unlent ty = is_lent ty.base ≡ false

plain_base : (lines : Lines) (b : Base) (k : Kind) → is_lent b ≡ false → base_kind lines b ≡ Some k → IsPlain k
plain_base lines (base.Num w) k u e = let same : kind.Num w ≡ k = cc in ap is_plain (sym same)
plain_base lines (base.RRef name) k u e = let same : kind.Own (struct_number lines name) ≡ k = cc in ap is_plain (sym same)
plain_base lines (base.Struct name) k u e = absurd cc
plain_base lines (base.LentRRef name) k u e = absurd cc
plain_base lines (base.Dyn name) k u e = absurd cc
plain_base lines base.String k u e = absurd cc
plain_base lines base.Function k u e = absurd cc

plain_one : (lines : Lines) (ty : TypeText) (k : Kind) → Unlent ty → kind_held lines ty ≡ Some k → IsPlain k
plain_one lines ty k u e = plain_base lines ty.base k u (unrefused (is_refused ty) (base_kind lines ty.base) k e).1

or_false : (a b : Bool) → ((a || b) ≡ true → ⊥) → b ≡ false
or_false true b never = absurd (never refl)
or_false false true never = absurd (never refl)
or_false false false never = refl

is_false : (b : Bool) → (b ≡ true → ⊥) → b ≡ false
is_false true never = absurd (never refl)
is_false false never = refl

-- no field is lent
fields_unlent : (tables : Tables) (b : Bundle) → Kept tables b → (s : ℕ) → Each Unlent (types_at b.idl.lines s)
fields_unlent tables b h s i ty e =
    let l = field_line b.idl.lines s i ty e in
    or_false (is_refused ty) (is_lent ty.base) (λ bad. h.types l.number 10 (inl (refl, record { line = form.Field l.name ty; here = l.here; bad = bad })))

-- ---- structs and traits are those of the tables

-- the struct, and the trait, that a type names
abbrev named_struct : Base → Option (List ℕ)
named_struct base = slice_get (struct_in base) 0

abbrev named_trait : Base → Option (List ℕ)
named_trait base = slice_get (trait_in base) 0

abbrev IsKnown : Lines → TypeText → Type 0
IsKnown lines ty =
    ((name : List ℕ) → named_struct ty.base ≡ Some name → (p : ℕ) × (place_of name (struct_names lines) ≡ Some p))
    × ((name : List ℕ) → named_trait ty.base ≡ Some name → (p : ℕ) × (place_of name (trait_names lines) ≡ Some p))

pub number_within : (name : List ℕ) (names : List (List ℕ)) (p count : ℕ) → place_of name names ≡ Some p → count ≡ length names → unwrap_or (place_of name names) 0 < count
number_within name names p count e same =
    let within = in_list names p name (place_there name names p e) in
    let number : unwrap_or (place_of name names) 0 ≡ p = ap (λ (o : Option ℕ). unwrap_or o 0) e in
    omega (arith, within, number, same)

within_base : (tables : Tables) (lines : Lines) (b : Base) (k : Kind) → length tables.structs ≡ length (struct_names lines) → length tables.traits ≡ length (trait_names lines) → ((name : List ℕ) → named_struct b ≡ Some name → (p : ℕ) × (place_of name (struct_names lines) ≡ Some p)) → ((name : List ℕ) → named_trait b ≡ Some name → (p : ℕ) × (place_of name (trait_names lines) ≡ Some p)) → base_kind lines b ≡ Some k → IsPassable tables k
within_base tables lines (base.Num w) k s t known traits e = let same : kind.Num w ≡ k = cc in subst (IsPassable tables) same tt
within_base tables lines (base.RRef name) k s t known traits e =
    let same : kind.Own (struct_number lines name) ≡ k = cc in
    let p = known name refl in
    subst (IsPassable tables) same (number_within name (struct_names lines) p.0 (length tables.structs) p.1 s)
within_base tables lines (base.LentRRef name) k s t known traits e =
    let same : kind.Lent (struct_number lines name) ≡ k = cc in
    let p = known name refl in
    subst (IsPassable tables) same (number_within name (struct_names lines) p.0 (length tables.structs) p.1 s)
within_base tables lines (base.Dyn name) k s t known traits e =
    let same : kind.Cap (trait_number lines name) ≡ k = cc in
    let p = traits name refl in
    subst (IsPassable tables) same (number_within name (trait_names lines) p.0 (length tables.traits) p.1 t)
within_base tables lines (base.Struct name) k s t known traits e = absurd cc
within_base tables lines base.String k s t known traits e = absurd cc
within_base tables lines base.Function k s t known traits e = absurd cc

within_one : (tables : Tables) (b : Bundle) → Kept tables b → (ty : TypeText) (k : Kind) → IsKnown b.idl.lines ty → kind_held b.idl.lines ty ≡ Some k → IsPassable tables k
within_one tables b h ty k known e =
    within_base tables b.idl.lines ty.base k (struct_count b.idl.lines tables.structs h.rows.structs) (trait_count b.idl.lines tables.traits h.rows.traits) known.0 known.1 (unrefused (is_refused ty) (base_kind b.idl.lines ty.base) k e).1

-- a type in a line names what is declared
line_known : (tables : Tables) (b : Bundle) → Kept tables b → (n : ℕ) (l : IdlLine) (i : ℕ) (ty : TypeText) → HasLine b.idl.lines n l → slice_get (types_in l) i ≡ Some ty → IsKnown b.idl.lines ty
line_known tables b h n l i ty here used = (λ name e. struct name e (place_of name (struct_names b.idl.lines)) refl, λ name e. trait name e (place_of name (trait_names b.idl.lines)) refl) where
  struct : (name : List ℕ) → named_struct ty.base ≡ Some name → (o : Option ℕ) → place_of name (struct_names b.idl.lines) ≡ o → (p : ℕ) × (place_of name (struct_names b.idl.lines) ≡ Some p)
  struct name e (Some p) is = (p, is)
  struct name e None is = absurd (let g = goes (λ (t : TypeText). struct_in t.base) (types_in l) i 0 ty name used e in h.names n 4 (inl (inr (refl, inl (record { place = here.place; form = l; here = here.here; unknown = record { place = g.0; name = name; uses = g.1; unknown = is } })))))

  trait : (name : List ℕ) → named_trait ty.base ≡ Some name → (o : Option ℕ) → place_of name (trait_names b.idl.lines) ≡ o → (p : ℕ) × (place_of name (trait_names b.idl.lines) ≡ Some p)
  trait name e (Some p) is = (p, is)
  trait name e None is = absurd (let g = goes (λ (t : TypeText). trait_in t.base) (types_in l) i 0 ty name used e in h.names n 4 (inl (inr (refl, inr (record { place = here.place; form = l; here = here.here; unknown = record { place = g.0; name = name; uses = g.1; unknown = is } })))))

fields_known : (tables : Tables) (b : Bundle) → Kept tables b → (s : ℕ) → Each (IsKnown b.idl.lines) (types_at b.idl.lines s)
fields_known tables b h s i ty e =
    let l = field_line b.idl.lines s i ty e in
    line_known tables b h l.number (form.Field l.name ty) 0 ty l.here refl

-- ---- structs

-- the flat cells of a struct come from its fields
pub record Cells (tables : Tables) (b : Bundle) (s : ℕ) (cells : List Kind) : Type 0 where
  pub text : StructText
  pub here : slice_get (structs_of b.idl.lines) s ≡ Some text
  pub flat : Flattens b.idl.lines (types_at b.idl.lines s) cells

cells_at : (tables : Tables) (b : Bundle) → Kept tables b → (s : ℕ) (row : StructRow) → slice_get tables.structs s ≡ Some row → Cells tables b s row.flat
cells_at tables b h s row e =
    let x = struct_text b.idl.lines (structs_of b.idl.lines) tables.structs s row h.rows.structs e in
    record { text = x.0; here = x.1; flat = subst (λ (o : Option StructText). Flattens b.idl.lines (field_types o) row.flat) (sym x.1) x.2.flat }

-- what holds of the cells of rows holds of all cells
of_cells : (tables : Tables) (s : ℕ) (P : List Kind → Type 0) → P [] → ((row : StructRow) → slice_get tables.structs s ≡ Some row → P row.flat) → P (cells_of tables s)
of_cells tables s P none each = by (slice_get tables.structs s) refl where
  by : (o : Option StructRow) → slice_get tables.structs s ≡ o → P (flat_of o)
  by None e = none
  by (Some row) e = each row e

never_endless : (tables : Tables) (b : Bundle) → Kept tables b → (s : ℕ) (cells : List Kind) → (c : Cells tables b s cells) → IsEndless b.idl.lines s → ⊥
never_endless tables b h s cells c endless = h.types c.text.line 11 (inr (inl (refl, record { number = s; here = record { text = c.text; here = c.here; line = refl }; endless = endless })))

pub few_cells : (tables : Tables) (b : Bundle) → Kept tables b → (s : ℕ) → length (cells_of tables s) ≤ 512
few_cells tables b h s = of_cells tables s (λ cells. length cells ≤ 512) (omega arith) (λ row e.
    let c = cells_at tables b h s row e in
    elim (cases_lt 512 (length row.flat)) [
      | inl many ↦ absurd (h.types c.text.line 12 (inr (inr (inl (refl, record { number = s; here = record { text = c.text; here = c.here; line = refl }; ends = never_endless tables b h s row.flat c; cells = row.flat; flat = c.flat; many = many })))))
      | inr few ↦ few
    ])

no_kind : (P : Kind → Type 0) → Each P []
no_kind P i k e = absurd cc

-- so cells and results hold numbers and objects of the structs
ownable : (tables : Tables) (k : Kind) → IsPlain k → IsPassable tables k → IsOwnable tables k
ownable tables (kind.Num w) plain within = tt
ownable tables (kind.Own s) plain within = within
ownable tables (kind.Lent s) plain within = absurd cc
ownable tables (kind.Cap t) plain within = absurd cc

plain_cells : (tables : Tables) (b : Bundle) → Kept tables b → (s : ℕ) → Each IsPlain (cells_of tables s)
plain_cells tables b h s = of_cells tables s (Each IsPlain) (no_kind IsPlain) (λ row e.
    let c = cells_at tables b h s row e in
    flat_each b.idl.lines Unlent IsPlain (plain_one b.idl.lines) (fields_unlent tables b h) (types_at b.idl.lines s) row.flat c.flat (fields_unlent tables b h s))

within_cells : (tables : Tables) (b : Bundle) → Kept tables b → (s : ℕ) → Each (IsPassable tables) (cells_of tables s)
within_cells tables b h s = of_cells tables s (Each (IsPassable tables)) (no_kind (IsPassable tables)) (λ row e.
    let c = cells_at tables b h s row e in
    flat_each b.idl.lines (IsKnown b.idl.lines) (IsPassable tables) (within_one tables b h) (fields_known tables b h) (types_at b.idl.lines s) row.flat c.flat (fields_known tables b h s))

pub cells_kept : (tables : Tables) (b : Bundle) → Kept tables b → (s : ℕ) → Each (IsOwnable tables) (cells_of tables s)
cells_kept tables b h s p k e = ownable tables k (plain_cells tables b h s p k e) (within_cells tables b h s p k e)

holds_at : (tables : Tables) (b : Bundle) → Kept tables b → (s q g : ℕ) → slice_get (cells_of tables s) q ≡ Some (kind.Own g) → HoldsRRef b.idl.lines s
holds_at tables b h s q g = of_cells tables s (λ cells. slice_get cells q ≡ Some (kind.Own g) → HoldsRRef b.idl.lines s) (λ e. absurd cc) (λ row e d.
    let c = cells_at tables b h s row e in
    struct_holds b.idl.lines s (own_held b.idl.lines (types_at b.idl.lines s) row.flat q g c.flat d))

pub flat_cells : (tables : Tables) (b : Bundle) → Kept tables b → (s p k q g : ℕ) → slice_get (cells_of tables s) p ≡ Some (kind.Own k) → slice_get (cells_of tables k) q ≡ Some (kind.Own g) → ⊥
flat_cells tables b h s p k q g cell inner = of_cells tables s (λ cells. length cells ≤ 512 → slice_get cells p ≡ Some (kind.Own k) → ⊥) (λ few e. absurd cc) (λ row e few d.
    let c = cells_at tables b h s row e in
    h.types c.text.line 13 (inr (inr (inr (refl, record { number = s; here = record { text = c.text; here = c.here; line = refl }; ends = never_endless tables b h s row.flat c; cells = row.flat; flat = c.flat; few = few; place = p; held = k; cell = d; nested = holds_at tables b h k q g inner })))))
    (few_cells tables b h s) cell

-- ---- methods

-- what the rules leave in a method's row
pub record IsMethodKept (tables : Tables) (row : MethodRow) : Type 0 where
  pub params : length row.params ≤ 8
  pub results : length row.results ≤ 4
  pub still : row.idempotent ≡ true → (p s : ℕ) → slice_get row.params p ≡ Some (kind.Own s) → ⊥
  pub takes : Each (IsPassable tables) row.params
  pub gives : Each (IsOwnable tables) row.results

pub method_kept : (tables : Tables) (b : Bundle) → Kept tables b → (t m : ℕ) (x : TraitRow) (row : MethodRow) → slice_get tables.traits t ≡ Some x → slice_get x.methods m ≡ Some row → IsMethodKept tables row
method_kept tables b h t m x row e d =
    let trait = trait_text b.idl.lines (traits_of b.idl.lines) tables.traits t x h.rows.traits e in
    let method = method_text b.idl.lines trait.0.methods x.methods m row trait.2.methods d in
    kept method.0 method.2 (trait_line b.idl.lines t m trait.0 method.0 trait.1 method.1) where
      kept : (text : MethodText) → IsMethodRow b.idl.lines text row → MethodLine b.idl.lines false text → IsMethodKept tables row
      kept text is l =
          let here : HasLine b.idl.lines text.line (method_form text) = record { place = l.place; here = l.here } in
          let known_params : Each (IsKnown b.idl.lines) (param_types text.params) = λ i ty u. line_known tables b h text.line (method_form text) i ty here (get_first (param_types text.params) (result_types text.result) i ty u) in
          let known_results : Each (IsKnown b.idl.lines) (result_types text.result) = λ i ty u. line_known tables b h text.line (method_form text) (length (param_types text.params) + i) ty here (get_second (param_types text.params) (result_types text.result) i ∙ u) in
          let unlent : Each Unlent (result_types text.result) = λ i ty u. is_false (is_lent ty.base) (λ lent. h.methods text.line 21 (inr (inl (refl, record { method = record { name = text.name; params = text.params; result = text.result; here = here }; lent = any_at (λ (y : TypeText). is_lent y.base) (result_types text.result) i ty u lent })))) in
          let plain = flat_each b.idl.lines Unlent IsPlain (plain_one b.idl.lines) (fields_unlent tables b h) (result_types text.result) row.results is.results unlent in
          record {
            params = elim (cases_lt 8 (length row.params)) [
              | inl many ↦ absurd (h.methods text.line 23 (inr (inr (inr (refl, inl (record { method = record { name = text.name; params = text.params; result = text.result; here = here }; kinds = row.params; flat = is.params; many = many }))))))
              | inr few ↦ few
            ];
            results = elim (cases_lt 4 (length row.results)) [
              | inl many ↦ absurd (h.methods text.line 23 (inr (inr (inr (refl, inr (record { method = record { name = text.name; params = text.params; result = text.result; here = here }; kinds = row.results; flat = is.results; many = many }))))))
              | inr few ↦ few
            ];
            still = λ idempotent p s u. elim (l.mark (sym is.idempotent ∙ idempotent)) [
              | inl a ↦ absurd (let bad = a.1 in cc)
              | inr mark ↦ h.methods text.line 22 (inr (inr (inl (
                refl,
                record {
                  method = record { name = text.name; params = text.params; result = text.result; here = here };
                  mark = mark.mark;
                  before = mark.before;
                  marks = mark.number;
                  marked = mark.here;
                  kinds = row.params;
                  flat = is.params;
                  place = p;
                  held = s;
                  moved = u;
                },
              ))))
            ];
            takes = flat_each b.idl.lines (IsKnown b.idl.lines) (IsPassable tables) (within_one tables b h) (fields_known tables b h) (param_types text.params) row.params is.params known_params;
            gives = λ p k u.
                ownable tables k (plain p k u)
                (flat_each b.idl.lines (IsKnown b.idl.lines) (IsPassable tables) (within_one tables b h) (fields_known tables b h) (result_types text.result) row.results is.results known_results p k u);
          }
