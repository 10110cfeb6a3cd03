-- What is answered for each struct.
use Rattle.std.proofs.Common.{◌≡◌, ℕ, Bool, true, false, zero, suc, ◌+◌, ◌<◌, ◌≤◌, List, [], ◌∷◌, ◌++◌, length, take, Some, None, inl, inr, Ok, refl, sym, ap, subst, ◌∙◌, arith, add-one, length-append}
use Rattle.std.specs.Prelude.{slice_get, Result, Err, IfOk}
use Rattle.std.specs.Option.{option_to_list}
use Rattle.std.proofs.lemmas.Bool.{cases_lt}
use Rattle.std.proofs.lemmas.Option.{slice_get_past}
use Rattle.rl_defs.specs.declared.LoadFault.{LoadFault}
use Rattle.rl_defs.specs.declared.LoadFault.TheVariants.{Refused}
use Rattle.rl_defs.specs.declared.idl.IdlLine.{IdlLine}
use Rattle.rl_defs.specs.declared.idl.IdlLine.TheVariants as form
use Rattle.rl_defs.specs.declared.idl.TypeText.{TypeText}
use Rattle.rl_defs.specs.declared.tables.Kind.{Kind}
use Rattle.rl_defs.specs.declared.tables.Kind.TheVariants as kind
use Rattle.rl_defs.specs.declared.tables.StructRow.{StructRow}
use Rattle.rl_defs.specs.Interfaces.{Lines, StructText, struct_before, structs_of, fields_of, types_of, types_at, field_types, struct_name, names_by, struct_names}
use Rattle.rl_defs.specs.Flattening.{struct_held, Flattens, Ends, Plain, Fields}
use Rattle.rl_defs.specs.Holding.{HasField, FieldsLead, IsEndless, HoldsRRef}
use Rattle.rl_defs.specs.TypeRules.{StructAt, IsStructRow, AreStructRows}
use Rattle.rl_defs.proofs.FlatteningLaws.{flattens_once}
use Rattle.rl_defs.proofs.HoldingLaws.{fields_end}
use Rattle.rl_defs.proofs.Places.{get_within, get_last}
use Rattle.exchangeable_types.specs.declared.cells.Cells.{Cells}
use Rattle.exchangeable_types.specs.declared.cells.Cells.TheVariants.{Few, TooMany}
use Rattle.exchangeable_types.specs.declared.walk.State.{State}
use Rattle.exchangeable_types.specs.declared.walk.State.TheVariants.{Open, Ended}
use Rattle.exchangeable_types.specs.declared.rows.Head.{Head}
use Rattle.exchangeable_types.specs.Capped.{CellsOf}
use Rattle.exchangeable_types.specs.Walk.{Walked}
use Rattle.exchangeable_types.specs.Search.{IsSearch}
use Rattle.exchangeable_types.specs.Rows.{Overflows, FailsStruct, RowRefused, IsRowAnswer, StateAt, IsHead, NestedCell, IsNested, RowsTo}

field_ends : (lines : Lines) (types : List TypeText) (kinds : List Kind) → Flattens lines types kinds → (k : ℕ) (ty : TypeText) (t : ℕ) → slice_get types k ≡ Some ty → struct_held lines ty ≡ Some t → IsEndless lines t → ⊥
field_ends lines types kinds (Ends a b) k ty t e held endless = let none : slice_get [] k ≡ Some ty = subst (λ (xs : List TypeText). slice_get xs k ≡ Some ty) a e in absurd cc
field_ends lines types kinds (Plain first rest more a plain f b) zero ty t e held endless =
    let here : Some first ≡ Some ty = subst (λ (xs : List TypeText). slice_get xs 0 ≡ Some ty) a e in
    let same : first ≡ ty = cc in
    let none : struct_held lines ty ≡ None = subst (λ (x : TypeText). struct_held lines x ≡ None) same plain in
    let both : None ≡ Some t = sym none ∙ held in
    cc
field_ends lines types kinds (Plain first rest more a plain f b) (suc k) ty t e held endless =
    field_ends lines rest more f k ty t (subst (λ (xs : List TypeText). slice_get xs (suc k) ≡ Some ty) a e) held endless
field_ends lines types kinds (Fields first rest s inner more a holds g f b) zero ty t e held endless =
    let here : Some first ≡ Some ty = subst (λ (xs : List TypeText). slice_get xs 0 ≡ Some ty) a e in
    let same : first ≡ ty = cc in
    let number : Some s ≡ Some t = sym (subst (λ (x : TypeText). struct_held lines x ≡ Some s) same holds) ∙ held in
    let is : s ≡ t = cc in
    fields_end lines s (λ u field again. field_ends lines (types_at lines s) inner g field.place field.ty u field.here field.holds again) (subst (λ (n : ℕ). IsEndless lines n) (sym is) endless)
field_ends lines types kinds (Fields first rest s inner more a holds g f b) (suc k) ty t e held endless =
    field_ends lines rest more f k ty t (subst (λ (xs : List TypeText). slice_get xs (suc k) ≡ Some ty) a e) held endless

-- what flattens doesn't reach a struct that holds itself
pub flat_ends : (lines : Lines) (s : ℕ) (kinds : List Kind) → Flattens lines (types_at lines s) kinds → IsEndless lines s → ⊥
flat_ends lines s kinds f endless = fields_end lines s (λ u field again. field_ends lines (types_at lines s) kinds f field.place field.ty u field.here field.holds again) endless

head_at : (lines : Lines) (s : ℕ) (head : Head) → IsHead lines s head → StructAt lines head.line s
head_at lines s head h = record { text = record { line = head.line; name = head.name; fields = h.fields }; here = h.here; line = refl }

-- rule 11
pub refused_endless : (lines : Lines) (s : ℕ) (head : Head) → IsHead lines s head → IsEndless lines s → RowRefused lines s head.line 11
refused_endless lines s head h endless = record {
  here = head_at lines s head h;
  fails = inl (refl, endless);
  lowest = λ r f. elim f [ inl a ↦ omega (arith, a.0) | inr b ↦ elim b [ inl a ↦ omega (arith, a.0) | inr a ↦ omega (arith, a.0) ] ];
}

-- rule 12
pub refused_many : (lines : Lines) (s : ℕ) (head : Head) → IsHead lines s head → CellsOf lines 512 (types_at lines s) TooMany → RowRefused lines s head.line 12
refused_many lines s head h cells = record {
  here = head_at lines s head h;
  fails = inr (inl (refl, record { ends = flat_ends lines s cells.kinds cells.flat; cells = cells.kinds; flat = cells.flat; many = cells.capped }));
  lowest = λ r f. elim f [ inl a ↦ absurd (flat_ends lines s cells.kinds cells.flat a.1) | inr b ↦ elim b [ inl a ↦ omega (arith, a.0) | inr a ↦ omega (arith, a.0) ] ];
}

not_many : (lines : Lines) (s : ℕ) (flat : List Kind) → Flattens lines (types_at lines s) flat → length flat ≤ 512 → Overflows lines s → ⊥
not_many lines s flat f few o = omega (arith, o.many, few, ap length (flattens_once lines (types_at lines s) o.cells flat o.flat f))

-- rule 13
pub refused_nested : (lines : Lines) (s : ℕ) (head : Head) (flat : List Kind) → IsHead lines s head → Flattens lines (types_at lines s) flat → length flat ≤ 512 → NestedCell lines flat → RowRefused lines s head.line 13
refused_nested lines s head flat h f few n = record {
  here = head_at lines s head h;
  fails = inr (inr (refl, record { ends = flat_ends lines s flat f; cells = flat; flat = f; few = few; place = n.place; held = n.held; cell = n.cell; nested = n.nested }));
  lowest = λ r g. elim g [ inl a ↦ absurd (flat_ends lines s flat f a.1) | inr b ↦ elim b [ inl a ↦ absurd (not_many lines s flat f few a.1) | inr a ↦ omega (arith, a.0) ] ];
}

-- no rule refuses the struct
pub row_stands : (lines : Lines) (s : ℕ) (head : Head) (flat : List Kind) → IsHead lines s head → Flattens lines (types_at lines s) flat → length flat ≤ 512 → (NestedCell lines flat → ⊥) → IsRowAnswer lines s (Ok (record { name = head.name; flat = flat }))
row_stands lines s head flat h f few none = (
  λ r g. elim g [
    | inl a ↦ flat_ends lines s flat f a.1
    | inr b ↦ elim b [
      | inl a ↦ not_many lines s flat f few a.1
      | inr a ↦ none (record { place = a.1.place; held = a.1.held; cell = subst (λ (ks : List Kind). slice_get ks a.1.place ≡ Some (kind.Own a.1.held)) (flattens_once lines (types_at lines s) a.1.cells flat a.1.flat f) a.1.cell; nested = a.1.nested })
    ]
  ],
  record { text = record { line = head.line; name = head.name; fields = h.fields }; here = h.here; name = refl; flat = f; few = few },
)

-- the cells that a state knows
pub few_cells : (lines : Lines) (types : List TypeText) (list : List Kind) → CellsOf lines 512 types (Few list) → Flattens lines types list × (length list ≤ 512)
few_cells lines types list c = (subst (λ (ks : List Kind). Flattens lines types ks) (sym c.capped.0) c.flat, omega (arith, ap length c.capped.0, c.capped.1))

-- a struct that isn't there has no fields
structs_length : (lines : Lines) → length (structs_of lines) ≡ length (names_by struct_name lines)
structs_length [] = refl
structs_length (x ∷ xs) = step x.line x.form (structs_of xs) (names_by struct_name xs) (structs_length xs) where
  step : (n : ℕ) (line : IdlLine) (ts : List StructText) (ns : List (List ℕ)) → length ts ≡ length ns → length (struct_before n line (fields_of xs) ts) ≡ length (option_to_list (struct_name line) ++ ns)
  step n (form.Struct name) ts ns e = omega (arith, e)
  step n (form.Field name ty) ts ns e = e
  step n (form.Trait name) ts ns e = e
  step n form.Idempotent ts ns e = e
  step n (form.Method name params result) ts ns e = e
  step n form.Close ts ns e = e

pub structs_count : (lines : Lines) → length (structs_of lines) ≡ length (struct_names lines)
structs_count lines = structs_length lines

no_types : (lines : Lines) (s : ℕ) → length (struct_names lines) ≤ s → types_at lines s ≡ []
no_types lines s le = ap field_types (slice_get_past (structs_of lines) s (omega (arith, structs_count lines, le)))

no_field : (lines : Lines) (s t : ℕ) → length (struct_names lines) ≤ s → HasField lines s t → ⊥
no_field lines s t le f = let e = subst (λ (xs : List TypeText). slice_get xs f.place ≡ Some f.ty) (no_types lines s le) f.here in cc

no_lead : (lines : Lines) (s : ℕ) (us : List ℕ) (t : ℕ) → length (struct_names lines) ≤ s → FieldsLead lines s us t → ⊥
no_lead lines s [] t le f = no_field lines s t le f
no_lead lines s (u ∷ us) t le f = no_field lines s u le f.0

pub none_there : (lines : Lines) (s : ℕ) → length (struct_names lines) ≤ s → HoldsRRef lines s → ⊥
none_there lines s le (inl h) = let e = subst (λ (xs : List TypeText). slice_get xs h.place ≡ Some h.ty) (no_types lines s le) h.here in cc
none_there lines s le (inr (t, r, h)) = no_lead lines s r.0 t le r.1

pub own_nested : (lines : Lines) (held : ℕ) → HoldsRRef lines held → NestedCell lines (kind.Own held ∷ [])
own_nested lines held h = record { place = 0; held = held; cell = refl; nested = h }

only_cell : (lines : Lines) (k : Kind) → NestedCell lines (k ∷ []) → (held : ℕ) × (k ≡ kind.Own held) × HoldsRRef lines held
only_cell lines k n = first n.place n.cell where
  first : (i : ℕ) → slice_get (k ∷ []) i ≡ Some (kind.Own n.held) → (held : ℕ) × (k ≡ kind.Own held) × HoldsRRef lines held
  first zero e = (n.held, same e, n.nested) where
    same : Some k ≡ Some (kind.Own n.held) → k ≡ kind.Own n.held
    same h = cc
  first (suc i) e = absurd cc

pub own_not_nested : (lines : Lines) (held : ℕ) → (HoldsRRef lines held → ⊥) → NestedCell lines (kind.Own held ∷ []) → ⊥
own_not_nested lines held none n =
    let o = only_cell lines (kind.Own held) n in
    let is = o.1 in
    let same : held ≡ o.0 = cc in
    none (subst (λ (s : ℕ). HoldsRRef lines s) (sym same) o.2)

pub plain_not_nested : (lines : Lines) (k : Kind) → ((held : ℕ) → k ≡ kind.Own held → ⊥) → NestedCell lines (k ∷ []) → ⊥
plain_not_nested lines k none n = let o = only_cell lines k n in none o.0 o.1

-- what the walk knows, struct by struct
pub state_at : (lines : Lines) (states : List State) (s : ℕ) (x : State) → Walked lines states → slice_get states s ≡ Some x → StateAt lines s x
state_at lines states s x w e = record {
  known = λ cells h. w.walking.knows s cells (e ∙ ap (λ (y : State). Some y) h);
  endless = λ h. w.walking.endless s (e ∙ ap (λ (y : State). Some y) h);
  old = λ h. w.visited s (e ∙ ap (λ (y : State). Some y) h);
  closed = λ i h. not_open i (e ∙ ap (λ (y : State). Some y) h);
} where
  not_open : (i : ℕ) → slice_get states s ≡ Some (Open i) → ⊥
  not_open i h = let o = w.walking.opened s i h in let g = o.1 in cc

rows_suc : (lines : Lines) (ts : List StructText) (rows : List StructRow) (k : ℕ) (t : StructText) (row : StructRow) → AreStructRows lines (take k ts) rows → slice_get ts k ≡ Some t → IsStructRow lines t row → AreStructRows lines (take (suc k) ts) (rows ++ row ∷ [])
rows_suc lines [] rows k t row h e is = absurd cc
rows_suc lines (u ∷ us) [] zero t row h e is = let same : u ≡ t = cc in (subst (λ (x : StructText). IsStructRow lines x row) (sym same) is, tt)
rows_suc lines (u ∷ us) (r ∷ rs) zero t row h e is = absurd h
rows_suc lines (u ∷ us) [] (suc k) t row h e is = absurd h
rows_suc lines (u ∷ us) (r ∷ rs) (suc k) t row h e is = (h.0, rows_suc lines us rs k t row h.1 e is)

-- one more row
pub rows_more : (lines : Lines) (rows more : List StructRow) (number : ℕ) (row : StructRow) → RowsTo lines rows number → IsRowAnswer lines number (Ok row) → more ≡ rows ++ row ∷ [] → RowsTo lines more (number + 1)
rows_more lines rows more number row h answer is =
    subst (λ (xs : List StructRow). RowsTo lines xs (number + 1)) (sym is) (record {
      count = omega (arith, h.count, length-append rows (row ∷ []));
      are = subst (λ (n : ℕ). AreStructRows lines (take n (structs_of lines)) (rows ++ row ∷ [])) (sym (add-one number)) (rows_suc lines (structs_of lines) rows number answer.1.text row h.are answer.1.here (record { name = answer.1.name; flat = flat }));
      none = λ s r lt f. elim (cases_lt s number) [
        | inl a ↦ h.none s r a f
        | inr b ↦ let same : s ≡ number = omega arith in answer.0 r (subst (λ (n : ℕ). FailsStruct lines n r) same f)
      ];
      few = λ k x e. elim (get_last rows row k x e) [ inl a ↦ h.few k x a | inr a ↦ subst (λ (y : StructRow). length y.flat ≤ 512) (sym a.1) answer.1.few ];
    }) where
      flat : Flattens lines (types_of answer.1.text.fields) row.flat
      flat = subst (λ (xs : List TypeText). Flattens lines xs row.flat) (ap field_types answer.1.here) answer.1.flat

-- none of the kinds before a place is an RRef of a struct that holds an RRef
pub record NoneBefore (lines : Lines) (kinds : List Kind) (i : ℕ) : Type 0 where
  pub none : (p held : ℕ) → p < i → slice_get kinds p ≡ Some (kind.Own held) → HoldsRRef lines held → ⊥

pub none_first : (lines : Lines) (kinds : List Kind) → NoneBefore lines kinds 0
none_first lines kinds = record { none = λ p held lt e h. omega arith }

pub none_more : (lines : Lines) (kinds : List Kind) (i : ℕ) (k : Kind) → NoneBefore lines kinds i → slice_get kinds i ≡ Some k → (NestedCell lines (k ∷ []) → ⊥) → NoneBefore lines kinds (i + 1)
none_more lines kinds i k before here not = record {
  none = λ p held lt e h. elim (cases_lt p i) [
    | inl a ↦ before.none p held a e h
    | inr b ↦ let same : p ≡ i = omega arith in not (record { place = 0; held = held; cell = sym here ∙ subst (λ (n : ℕ). slice_get kinds n ≡ Some (kind.Own held)) same e; nested = h })
  ];
}

pub none_at_all : (lines : Lines) (kinds : List Kind) (i : ℕ) → length kinds ≤ i → NoneBefore lines kinds i → NestedCell lines kinds → ⊥
none_at_all lines kinds i le before n = before.none n.place n.held (omega (arith, get_within kinds n.place (kind.Own n.held) n.cell, le)) n.cell n.nested

pub nested_found : (lines : Lines) (kinds : List Kind) (i : ℕ) (k : Kind) → slice_get kinds i ≡ Some k → NestedCell lines (k ∷ []) → NestedCell lines kinds
nested_found lines kinds i k here n =
    let o = only_cell lines k n in
    record { place = i; held = o.0; cell = here ∙ ap (λ (x : Kind). Some x) o.1; nested = o.2 }

pub search_answer : (lines : Lines) (kind_is : Kind) (held : ℕ) (seen : List Bool) (found : Bool) → kind_is ≡ kind.Own held → IsSearch lines seen held found → IsNested lines (kind_is ∷ []) seen found
search_answer lines k held seen true e h = subst (λ (x : Kind). NestedCell lines (x ∷ [])) (sym e) (own_nested lines held h)
search_answer lines k held seen false e h = (h.0, subst (λ (x : Kind). NestedCell lines (x ∷ []) → ⊥) (sym e) (own_not_nested lines held h.1))

pub ok_maps : {T E : Type 0} (r : Result T E) (P Q : T → Type 0) → IfOk r P → ((x : T) → P x → Q x) → IfOk r Q
ok_maps (Ok x) P Q h f = f x h
ok_maps (Err e) P Q h f = h

pub row_refused : (lines : Lines) (s : ℕ) (e : LoadFault) (line rule : ℕ) → e ≡ Refused (record { line = line; rule = rule }) → RowRefused lines s line rule → IsRowAnswer lines s (Err e)
row_refused lines s e line rule is h = subst (λ (x : LoadFault). IsRowAnswer lines s (Err x)) (sym is) h

-- the cells of a struct that are too many
pub state_many : (lines : Lines) (s : ℕ) (head : Head) (state : State) (cells : Cells) (e : LoadFault) → StateAt lines s state → IsHead lines s head → state ≡ Ended cells → cells ≡ TooMany → e ≡ Refused (record { line = head.line; rule = 12 }) → IsRowAnswer lines s (Err e)
state_many lines s head state cells e h at is many refused =
    row_refused lines s e head.line 12 refused (refused_many lines s head at (subst (λ (x : Cells). CellsOf lines 512 (types_at lines s) x) many (h.known cells is)))

-- the cells of a struct that are few
pub state_few : (lines : Lines) (s : ℕ) (state : State) (cells : Cells) (flat : List Kind) → StateAt lines s state → state ≡ Ended cells → cells ≡ Few flat → Flattens lines (types_at lines s) flat × (length flat ≤ 512)
state_few lines s state cells flat h is few = few_cells lines (types_at lines s) flat (subst (λ (x : Cells). CellsOf lines 512 (types_at lines s) x) few (h.known cells is))

pub state_nested : (lines : Lines) (s : ℕ) (head : Head) (flat read : List Kind) (seen : List Bool) (found : Bool) (e : LoadFault) → IsHead lines s head → Flattens lines (types_at lines s) flat × (length flat ≤ 512) → read ≡ flat → IsNested lines read seen found → found ≡ true → e ≡ Refused (record { line = head.line; rule = 13 }) → IsRowAnswer lines s (Err e)
state_nested lines s head flat read seen found e at f same nested is refused =
    row_refused lines s e head.line 13 refused (refused_nested lines s head flat at f.0 f.1 (subst (λ (ks : List Kind). NestedCell lines ks) same (subst (λ (b : Bool). IsNested lines read seen b) is nested)))

pub state_stands : (lines : Lines) (s : ℕ) (head : Head) (flat read : List Kind) (seen : List Bool) (found : Bool) → IsHead lines s head → Flattens lines (types_at lines s) flat × (length flat ≤ 512) → read ≡ flat → IsNested lines read seen found → found ≡ false → IsRowAnswer lines s (Ok (record { name = head.name; flat = flat }))
state_stands lines s head flat read seen found at f same nested is =
    row_stands lines s head flat at f.0 f.1 (subst (λ (ks : List Kind). NestedCell lines ks → ⊥) same (subst (λ (b : Bool). IsNested lines read seen b) is nested).1)
