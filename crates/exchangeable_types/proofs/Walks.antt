-- The steps of a walk through the structs of a part.
use Rattle.std.proofs.Common.{cond, nat_eq, ◌≡◌, ℕ, Bool, true, false, suc, ◌+◌, ◌<◌, List, [], ◌∷◌, ◌++◌, length, drop, get_or, Option, Some, None, refl, sym, ap, subst, ◌∙◌, arith, append_assoc}
use Rattle.std.specs.Prelude.{slice_get, unwrap_or}
use Rattle.std.specs.Option.{option_map}
use Rattle.std.specs.Cmp.Lexicographic.{pointwise}
use Rattle.std.proofs.lemmas.Option.{slice_get_read}
use Rattle.std.proofs.lemmas.List.{append-nil}
use Rattle.rl_defs.proofs.Places.{get_seam, get_within, drop_at, drop_past}
use Rattle.rl_defs.specs.declared.bundle.Numbered.{Numbered}
use Rattle.rl_defs.specs.declared.idl.IdlLine.{IdlLine}
use Rattle.rl_defs.specs.declared.idl.IdlLine.TheVariants as form
use Rattle.rl_defs.specs.declared.idl.TypeText.{TypeText}
use Rattle.rl_defs.specs.Interfaces.{Lines, FieldText, fields_of, field_before, types_of, types_at, struct_names, struct_number, place_of}
use Rattle.rl_defs.specs.declared.idl.Base.{Base}
use Rattle.rl_defs.specs.declared.idl.Base.TheVariants as base
use Rattle.rl_defs.specs.Flattening.{struct_held, unless_refused, base_struct, is_refused}
use Rattle.exchangeable_types.specs.declared.cells.Cells.{Cells}
use Rattle.exchangeable_types.specs.declared.walk.State.{State}
use Rattle.exchangeable_types.specs.Numbering.{field_type, line_type}
use Rattle.exchangeable_types.specs.Steps.{HoldsUnended}
use Rattle.exchangeable_types.specs.Capped.{CellsOf}
use Rattle.exchangeable_types.specs.Walk.{IsVisit, WaitsFor}

pub read_state : (states : List State) (s : ℕ) (x : State) → s < length states → x ≡ get_or states s x → slice_get states s ≡ Some x
read_state states s x lt e = slice_get_read states (length states) s x refl lt e

-- the field line at a place, and the fields from there on
line_fields : (n : ℕ) (line : IdlLine) (ty : TypeText) (more : List FieldText) → line_type line ≡ Some ty → types_of (field_before n line more) ≡ ty ∷ types_of more
line_fields n (form.Field name t) ty more e = let h : t ≡ ty = cc in ap (λ (z : TypeText). z ∷ types_of more) h
line_fields n (form.Struct name) ty more e = absurd cc
line_fields n (form.Trait name) ty more e = absurd cc
line_fields n form.Idempotent ty more e = absurd cc
line_fields n (form.Method name params result) ty more e = absurd cc
line_fields n form.Close ty more e = absurd cc

line_ends : (n : ℕ) (line : IdlLine) (more : List FieldText) → line_type line ≡ None → types_of (field_before n line more) ≡ []
line_ends n (form.Field name t) more e = absurd cc
line_ends n (form.Struct name) more e = refl
line_ends n (form.Trait name) more e = refl
line_ends n form.Idempotent more e = refl
line_ends n (form.Method name params result) more e = refl
line_ends n form.Close more e = refl

-- where a field line stands at k, the fields from k on begin with its type
fields_step : (lines : Lines) (k : ℕ) (ty : TypeText) (o : Option (Numbered IdlLine)) → slice_get lines k ≡ o → field_type o ≡ Some ty → types_of (fields_of (drop k lines)) ≡ ty ∷ types_of (fields_of (drop (k + 1) lines))
fields_step lines k ty None e f = absurd cc
fields_step lines k ty (Some x) e f = ap (λ (xs : Lines). types_of (fields_of xs)) (drop_at lines k x e) ∙ line_fields x.line x.form ty (fields_of (drop (k + 1) lines)) f

pub fields_more : (lines : Lines) (k : ℕ) (ty : TypeText) → field_type (slice_get lines k) ≡ Some ty → types_of (fields_of (drop k lines)) ≡ ty ∷ types_of (fields_of (drop (k + 1) lines))
fields_more lines k ty f = fields_step lines k ty (slice_get lines k) refl f

fields_none_step : (lines : Lines) (k : ℕ) (o : Option (Numbered IdlLine)) → slice_get lines k ≡ o → field_type o ≡ None → types_of (fields_of (drop k lines)) ≡ []
fields_none_step lines k None e f = ap (λ (xs : Lines). types_of (fields_of xs)) (drop_past lines k e)
fields_none_step lines k (Some x) e f = ap (λ (xs : Lines). types_of (fields_of xs)) (drop_at lines k x e) ∙ line_ends x.line x.form (fields_of (drop (k + 1) lines)) f

pub fields_none : (lines : Lines) (k : ℕ) → field_type (slice_get lines k) ≡ None → types_of (fields_of (drop k lines)) ≡ []
fields_none lines k f = fields_none_step lines k (slice_get lines k) refl f

place_less : (name : List ℕ) (names : List (List ℕ)) (k : ℕ) → place_of name names ≡ Some k → k < length names
place_less name [] k e = absurd cc
place_less name (x ∷ xs) k e = step (pointwise nat_eq x name) (place_of name xs) k (λ m h. place_less name xs m h) e where
  step : (b : Bool) (o : Option ℕ) (k : ℕ) → ((m : ℕ) → o ≡ Some m → m < length xs) → cond b (Some 0) (option_map (λ n. suc n) o) ≡ Some k → k < suc (length xs)
  step true o k more e = let z : 0 ≡ k = cc in omega (arith, z)
  step false None k more e = absurd cc
  step false (Some m) k more e = let s : suc m ≡ k = cc in omega (arith, s, more m refl)

number_step : (names : List (List ℕ)) (name : List ℕ) (o : Option ℕ) → place_of name names ≡ o → 0 < length names → unwrap_or o 0 < length names
number_step names name None e some = some
number_step names name (Some k) e some = place_less name names k e

held_step : (lines : Lines) (refused : Bool) (b : Base) (t : ℕ) → 0 < length (struct_names lines) → unless_refused refused (base_struct lines b) ≡ Some t → t < length (struct_names lines)
held_step lines true b t some e = absurd cc
held_step lines false (base.Struct name) t some e =
    let is : struct_number lines name ≡ t = cc in
    omega (arith, is, number_step (struct_names lines) name (place_of name (struct_names lines)) refl some)
held_step lines false (base.Num w) t some e = absurd cc
held_step lines false (base.RRef name) t some e = absurd cc
held_step lines false (base.LentRRef name) t some e = absurd cc
held_step lines false (base.Dyn name) t some e = absurd cc
held_step lines false base.String t some e = absurd cc
held_step lines false base.Function t some e = absurd cc

-- the struct that a field holds is one of the part's
pub held_within : (lines : Lines) (ty : TypeText) (t : ℕ) → 0 < length (struct_names lines) → struct_held lines ty ≡ Some t → t < length (struct_names lines)
held_within lines ty t some h = held_step lines (is_refused ty) ty.base t some h

-- one field more is passed
pub visit_more : (lines : Lines) (number at : ℕ) (cells more : Cells) (ty : TypeText) → IsVisit lines (record { number = number; at = at; cells = cells }) → field_type (slice_get lines at) ≡ Some ty → ((passed : List TypeText) → CellsOf lines 512 passed cells → CellsOf lines 512 (passed ++ ty ∷ []) more) → IsVisit lines (record { number = number; at = at + 1; cells = more })
visit_more lines number at cells more ty v f adds = record {
  passed = v.passed ++ ty ∷ [];
  split = v.split ∙ ap (λ (xs : List TypeText). v.passed ++ xs) (fields_more lines at ty f) ∙ sym (append_assoc v.passed (ty ∷ []) (types_of (fields_of (drop (at + 1) lines))));
  cells = adds v.passed v.cells;
}

-- all fields are passed
pub visit_whole : (lines : Lines) (number at : ℕ) (cells : Cells) → IsVisit lines (record { number = number; at = at; cells = cells }) → field_type (slice_get lines at) ≡ None → CellsOf lines 512 (types_at lines number) cells
visit_whole lines number at cells v f =
    let all : types_at lines number ≡ v.passed = v.split ∙ ap (λ (xs : List TypeText). v.passed ++ xs) (fields_none lines at f) ∙ append-nil v.passed in
    subst (λ (xs : List TypeText). CellsOf lines 512 xs cells) (sym all) v.cells

-- the next field holds a struct that hasn't ended
pub visit_waits : (lines : Lines) (states : List State) (number at : ℕ) (cells : Cells) (ty : TypeText) (t : ℕ) → IsVisit lines (record { number = number; at = at; cells = cells }) → 0 < length (struct_names lines) → length states ≡ length (struct_names lines) → field_type (slice_get lines at) ≡ Some ty → HoldsUnended lines states ty t → WaitsFor lines states number t
visit_waits lines states number at cells ty t v some count f h =
    let split : types_at lines number ≡ v.passed ++ (ty ∷ types_of (fields_of (drop (at + 1) lines))) = v.split ∙ ap (λ (xs : List TypeText). v.passed ++ xs) (fields_more lines at ty f) in
    record {
      field = record { place = length v.passed; ty = ty; here = subst (λ (xs : List TypeText). slice_get xs (length v.passed) ≡ Some ty) (sym split) (get_seam v.passed ty (types_of (fields_of (drop (at + 1) lines)))); holds = h.held };
      there = omega (arith, held_within lines ty t some h.held);
      unended = h.unended;
    }

field_within_step : (lines : Lines) (k : ℕ) (ty : TypeText) (o : Option (Numbered IdlLine)) → slice_get lines k ≡ o → field_type o ≡ Some ty → k < length lines
field_within_step lines k ty None e f = absurd cc
field_within_step lines k ty (Some x) e f = get_within lines k x e

pub field_within : (lines : Lines) (k : ℕ) (ty : TypeText) → field_type (slice_get lines k) ≡ Some ty → k < length lines
field_within lines k ty f = field_within_step lines k ty (slice_get lines k) refl f
