-- The steps of a search for an RRef of a struct that holds an RRef, and what it says of cells.
use Rattle.std.proofs.Common.{◌≡◌, ℕ, Bool, true, false, zero, suc, ◌+◌, ◌*◌, ◌<◌, ◌≤◌, List, [], ◌∷◌, ◌++◌, length, drop, Option, Some, None, ◌⊎◌, inl, inr, refl, sym, ap, subst, ◌∙◌, arith}
use Rattle.std.specs.Prelude.{slice_get, slice_set}
use Rattle.std.specs.Option.{option_to_list}
use Rattle.std.proofs.lemmas.List.{append-nil}
use Rattle.rl_defs.proofs.Places.{get_front, get_seam, get_last}
use Rattle.rl_defs.specs.declared.idl.TypeText.{TypeText}
use Rattle.rl_defs.specs.declared.tables.Kind.{Kind}
use Rattle.rl_defs.specs.declared.tables.Kind.TheVariants as kind
use Rattle.rl_defs.specs.Interfaces.{Lines, types_at, types_of, fields_of, struct_names}
use Rattle.rl_defs.specs.Flattening.{struct_held, kind_held, times_of, copies, Flattens, Ends, Plain, Fields}
use Rattle.exchangeable_types.specs.Numbering.{field_type}
use Rattle.exchangeable_types.specs.Walk.{StartsAt}
use Rattle.exchangeable_types.specs.Search.{StandsIn, Searching, unmarked_count, Marks}
use Rattle.exchangeable_types.specs.Rows.{NestedCell, IsNested}
use Rattle.exchangeable_types.specs.Nesting.{Nesting, IsNesting, IsFree, Passing, Passed, IsPassed, IsNestAnswer}
use Rattle.exchangeable_types.proofs.Starts.{types_at_start}
use Rattle.exchangeable_types.proofs.Walks.{fields_none}
use Rattle.exchangeable_types.proofs.Searches.{split_on, marks_one}

-- a type of one kind
pub nesting_kind : (lines : Lines) (ty : TypeText) (k : Kind) (seen : List Bool) (found : Bool) → kind_held lines ty ≡ Some k → IsNested lines (k ∷ []) seen found → IsNesting lines ty seen found
nesting_kind lines ty k seen true held n = record { kind = k; held = held; nested = n }
nesting_kind lines ty k seen false held n = (n.0, λ h. let both : Some k ≡ Some h.kind = sym held ∙ h.held in let same : h.kind ≡ k = cc in n.1 (subst (λ (x : Kind). NestedCell lines (x ∷ [])) same h.nested))

-- a type of none
pub nesting_none : (lines : Lines) (ty : TypeText) (seen : List Bool) → kind_held lines ty ≡ None → Searching lines seen [] → IsNesting lines ty seen false
nesting_none lines ty seen none h = (h, λ n. let both : None ≡ Some n.kind = sym none ∙ n.held in cc)

-- the types that were gone over are none, and hold only structs that were passed
abbrev pub AreFree : Lines → List Bool → List TypeText → Type 0
AreFree lines passed types = (k : ℕ) (ty : TypeText) → slice_get types k ≡ Some ty → (Nesting lines ty → ⊥) × ((t : ℕ) → struct_held lines ty ≡ Some t → slice_get passed t ≡ Some true)

-- In the middle of a scan: the struct itself counts as still to be looked at.
pub record Going (lines : Lines) (old passed : List Bool) (before waiting : List ℕ) (number at : ℕ) : Type 0 where
  pub count : length passed ≡ length (struct_names lines)
  pub free : (s : ℕ) → slice_get passed s ≡ Some true → (StandsIn waiting s ⊎ (s ≡ number)) ⊎ IsFree lines passed s
  pub below : (s : ℕ) → StandsIn waiting s → s < length passed
  pub falls : 2 * unmarked_count passed + length waiting ≤ 2 * unmarked_count old + length before
  pub stays : (s : ℕ) → slice_get old s ≡ Some true → slice_get passed s ≡ Some true
  pub gone : List TypeText
  pub split : types_at lines number ≡ gone ++ types_of (fields_of (drop at lines))
  pub are : AreFree lines passed gone

pub going_begins : (lines : Lines) (passed : List Bool) (waiting : List ℕ) (number place : ℕ) → Passing lines passed (waiting ++ number ∷ []) → StartsAt lines number place → Going lines passed passed waiting waiting number (place + 1)
going_begins lines passed waiting number place h starts = record {
  count = h.count;
  free = λ s e. elim (h.free s e) [
    | inl a ↦ elim (get_last waiting number a.0 s a.1) [ inl b ↦ inl (inl (a.0, b)) | inr b ↦ inl (inr b.1) ]
    | inr a ↦ inr a
  ];
  below = λ s a. h.below s (a.0, get_front waiting (number ∷ []) a.0 s a.1);
  falls = omega arith;
  stays = λ s e. e;
  gone = [];
  split = types_at_start lines number place starts;
  are = λ k ty e. absurd cc;
}

pub going_number : (lines : Lines) (passed : List Bool) (waiting : List ℕ) (number : ℕ) → Passing lines passed (waiting ++ number ∷ []) → number < length (struct_names lines)
going_number lines passed waiting number h = omega (arith, h.count, h.below number (length waiting, get_seam waiting number []))

free_more : (lines : Lines) (old new : List Bool) (gone : List TypeText) (ty : TypeText) → ((s : ℕ) → slice_get old s ≡ Some true → slice_get new s ≡ Some true) → AreFree lines old gone → (Nesting lines ty → ⊥) → ((t : ℕ) → struct_held lines ty ≡ Some t → slice_get new t ≡ Some true) → AreFree lines new (gone ++ ty ∷ [])
free_more lines old new gone ty stays are none held k x e = elim (get_last gone ty k x e) [
  | inl a ↦ ((are k x a).0, λ t h. stays t ((are k x a).1 t h))
  | inr a ↦ (λ n. none (subst (λ (y : TypeText). Nesting lines y) a.1 n), λ t h. held t (subst (λ (y : TypeText). struct_held lines y ≡ Some t) a.1 h))
]

-- a field that holds no struct
pub going_past : (lines : Lines) (old passed : List Bool) (before waiting : List ℕ) (number at : ℕ) (ty : TypeText) → Going lines old passed before waiting number at → field_type (slice_get lines at) ≡ Some ty → (Nesting lines ty → ⊥) → struct_held lines ty ≡ None → Going lines old passed before waiting number (at + 1)
going_past lines old passed before waiting number at ty h f none held = record {
  count = h.count;
  free = h.free;
  below = h.below;
  falls = h.falls;
  stays = h.stays;
  gone = h.gone ++ ty ∷ [];
  split = split_on lines number at h.gone ty h.split f;
  are = free_more lines passed passed h.gone ty (λ s e. e) h.are none (λ t e. let both : None ≡ Some t = sym held ∙ e in absurd cc);
}

-- a field that holds a struct, which was marked
pub going_marks : (lines : Lines) (old passed new : List Bool) (before waiting after : List ℕ) (number at held : ℕ) (ty : TypeText) → Going lines old passed before waiting number at → field_type (slice_get lines at) ≡ Some ty → (Nesting lines ty → ⊥) → struct_held lines ty ≡ Some held → held < length passed → Marks passed new waiting after held → Going lines old new before after number (at + 1)
going_marks lines old passed new before waiting after number at held ty h f none is lt m = record {
  count = m.count ∙ h.count;
  free = λ s e. elim (m.only s e) [
    | inl a ↦ elim (h.free s a) [
      | inl b ↦ elim b [ inl d ↦ inl (inl (m.kept s d)) | inr d ↦ inl (inr d) ]
      | inr b ↦ inr (record { none = b.none; closed = λ t field. m.stays t (b.closed t field) })
    ]
    | inr a ↦ inl (inl a)
  ];
  below = λ s a. elim (m.more s a) [ inl b ↦ omega (arith, h.below s b, m.count) | inr b ↦ omega (arith, b, lt, m.count) ];
  falls = omega (arith, h.falls, m.falls);
  stays = λ s e. m.stays s (h.stays s e);
  gone = h.gone ++ ty ∷ [];
  split = split_on lines number at h.gone ty h.split f;
  are = free_more lines passed new h.gone ty m.stays h.are none (λ t e. let both : Some held ≡ Some t = sym is ∙ e in let same : held ≡ t = cc in subst (λ (k : ℕ). slice_get new k ≡ Some true) same m.here);
}

-- all fields were looked at
pub going_ends : (lines : Lines) (old passed : List Bool) (before waiting : List ℕ) (number at : ℕ) → Going lines old passed before waiting number at → field_type (slice_get lines at) ≡ None → Passed lines old passed before waiting
going_ends lines old passed before waiting number at h f =
    let all : types_at lines number ≡ h.gone = h.split ∙ ap (λ (xs : List TypeText). h.gone ++ xs) (fields_none lines at f) ∙ append-nil h.gone in
    let free : IsFree lines passed number = record {
      none = λ r. (h.are r.place r.ty (subst (λ (xs : List TypeText). slice_get xs r.place ≡ Some r.ty) all r.here)).0 r.nesting;
      closed = λ t field. (h.are field.place field.ty (subst (λ (xs : List TypeText). slice_get xs field.place ≡ Some field.ty) all field.here)).1 t field.holds;
    } in record {
      passing = record {
        count = h.count;
        free = λ s e. elim (h.free s e) [
          | inl a ↦ elim a [ inl b ↦ inl b | inr b ↦ inr (subst (λ (k : ℕ). IsFree lines passed k) (sym b) free) ]
          | inr a ↦ inr a
        ];
        below = h.below;
      };
      stays = h.stays;
      falls = h.falls;
    }

nothing_waits : (s : ℕ) → StandsIn [] s → ⊥
nothing_waits s b = let e = b.1 in cc

-- the first struct is to be looked at
pub passing_begins : (lines : Lines) (passed new : List Bool) (after : List ℕ) (first : ℕ) → Passing lines passed [] → first < length passed → Marks passed new [] after first → Passing lines new after
passing_begins lines passed new after first h lt m = record {
  count = m.count ∙ h.count;
  free = λ s e. elim (m.only s e) [
    | inl a ↦ elim (h.free s a) [ inl b ↦ inl (m.kept s b) | inr b ↦ inr (record { none = b.none; closed = λ t field. m.stays t (b.closed t field) }) ]
    | inr a ↦ inl a
  ];
  below = λ s a. elim (m.more s a) [ inl b ↦ absurd (nothing_waits s b) | inr b ↦ omega (arith, b, lt, m.count) ];
}

-- the first struct was passed, and is looked at next
pub first_passed : (lines : Lines) (passed : List Bool) (none : List ℕ) (first : ℕ) → Passing lines passed [] → first < length passed → slice_get passed first ≡ Some false → none ≡ [] → Passing lines (slice_set passed first true) (none ++ first ∷ []) × (slice_get (slice_set passed first true) first ≡ Some true)
first_passed lines passed none first h lt read e =
    let marks : Marks passed (slice_set passed first true) [] (first ∷ []) first = marks_one passed (slice_set passed first true) [] (first ∷ []) first read refl refl in
    let begins = passing_begins lines passed (slice_set passed first true) (first ∷ []) first h lt marks in
    (subst (λ (xs : List ℕ). Passing lines (slice_set passed first true) (xs ++ first ∷ [])) (sym e) begins, marks.here)

-- where none was passed
pub none_passing : (lines : Lines) (passed : List Bool) → length passed ≡ length (struct_names lines) → ((s : ℕ) → slice_get passed s ≡ Some true → ⊥) → Passing lines passed []
none_passing lines passed count none = record { count = count; free = λ s e. absurd (none s e); below = λ s b. absurd (nothing_waits s b) }

pub free_struct : (lines : Lines) (passed : List Bool) (s : ℕ) → Passing lines passed [] → slice_get passed s ≡ Some true → IsFree lines passed s
free_struct lines passed s h e = elim (h.free s e) [ inl a ↦ absurd (nothing_waits s a) | inr a ↦ a ]

pub free_types : (lines : Lines) (passed : List Bool) (s : ℕ) → Passing lines passed [] → slice_get passed s ≡ Some true → AreFree lines passed (types_at lines s)
free_types lines passed s h e k ty here =
    let free = free_struct lines passed s h e in
    (λ n. free.none (record { place = k; ty = ty; here = here; nesting = n }), λ t held. free.closed t (record { place = k; ty = ty; here = here; holds = held }))

-- a kind stands among others
abbrev Among : List Kind → Kind → Type 0
Among xs k = (i : ℕ) × (slice_get xs i ≡ Some k)

among_either : (xs ys : List Kind) (i : ℕ) (k : Kind) → slice_get (xs ++ ys) i ≡ Some k → Among xs k ⊎ Among ys k
among_either [] ys i k e = inr (i, e)
among_either (x ∷ xs) ys zero k e = inl (0, e)
among_either (x ∷ xs) ys (suc i) k e = elim (among_either xs ys i k e) [ inl a ↦ inl (suc a.0, a.1) | inr a ↦ inr a ]

among_copies : (n : ℕ) (xs : List Kind) (i : ℕ) (k : Kind) → slice_get (copies n xs) i ≡ Some k → Among xs k
among_copies zero xs i k e = absurd cc
among_copies (suc n) xs i k e = elim (among_either xs (copies n xs) i k e) [ inl a ↦ a | inr a ↦ among_copies n xs a.0 k a.1 ]

only_option : (o : Option Kind) (i : ℕ) (k : Kind) → slice_get (option_to_list o) i ≡ Some k → o ≡ Some k
only_option None i k e = absurd cc
only_option (Some x) zero k e = e
only_option (Some x) (suc i) k e = absurd cc

free_rest : (lines : Lines) (passed : List Bool) (types rest : List TypeText) (ty : TypeText) → types ≡ ty ∷ rest → AreFree lines passed types → AreFree lines passed rest
free_rest lines passed types rest ty is are k x e = are (suc k) x (subst (λ (ts : List TypeText). slice_get ts (suc k) ≡ Some x) (sym is) e)

free_first : (lines : Lines) (passed : List Bool) (types rest : List TypeText) (ty : TypeText) → types ≡ ty ∷ rest → AreFree lines passed types → (Nesting lines ty → ⊥) × ((t : ℕ) → struct_held lines ty ≡ Some t → slice_get passed t ≡ Some true)
free_first lines passed types rest ty is are = are 0 ty (subst (λ (ts : List TypeText). slice_get ts 0 ≡ Some ty) (sym is) refl)

-- what free types flatten to
free_kinds : (lines : Lines) (passed : List Bool) (types : List TypeText) (kinds : List Kind) → Passing lines passed [] → AreFree lines passed types → Flattens lines types kinds → (i : ℕ) (k : Kind) → slice_get kinds i ≡ Some k → NestedCell lines (k ∷ []) → ⊥
free_kinds lines passed types kinds h are (Ends a b) i k e n = let none : slice_get [] i ≡ Some k = subst (λ (xs : List Kind). slice_get xs i ≡ Some k) b e in absurd cc
free_kinds lines passed types kinds h are (Plain ty rest more a plain f b) i k e n =
    elim (among_either (copies (times_of ty.wraps) (option_to_list (kind_held lines ty))) more i k (subst (λ (xs : List Kind). slice_get xs i ≡ Some k) b e)) [
      | inl c ↦
          let one = among_copies (times_of ty.wraps) (option_to_list (kind_held lines ty)) c.0 k c.1 in
          (free_first lines passed types rest ty a are).0 (record { kind = k; held = only_option (kind_held lines ty) one.0 k one.1; nested = n })
      | inr c ↦ free_kinds lines passed rest more h (free_rest lines passed types rest ty a are) f c.0 k c.1 n
    ]
free_kinds lines passed types kinds h are (Fields ty rest s inner more a held f g b) i k e n =
    elim (among_either (copies (times_of ty.wraps) inner) more i k (subst (λ (xs : List Kind). slice_get xs i ≡ Some k) b e)) [
      | inl c ↦
          let one = among_copies (times_of ty.wraps) inner c.0 k c.1 in
          free_kinds lines passed (types_at lines s) inner h (free_types lines passed s h ((free_first lines passed types rest ty a are).1 s held)) f one.0 k one.1 n
      | inr c ↦ free_kinds lines passed rest more h (free_rest lines passed types rest ty a are) g c.0 k c.1 n
    ]

-- the cells of a struct that was passed
pub passed_cells : (lines : Lines) (seen passed : List Bool) (s : ℕ) (kinds : List Kind) → IsPassed lines seen passed s → Flattens lines (types_at lines s) kinds → IsNestAnswer lines kinds seen passed false
passed_cells lines seen passed s kinds p f = (
  p.searching,
  p.passing,
  λ n. free_kinds lines passed (types_at lines s) kinds p.passing (free_types lines passed s p.passing p.here) f n.place (kind.Own n.held) n.cell (record { place = 0; held = n.held; cell = refl; nested = n.nested }),
)

-- the cells were gone over, with nothing passed
pub read_cells : (lines : Lines) (seen passed : List Bool) (kinds : List Kind) (found : Bool) → Passing lines passed [] → IsNested lines kinds seen found → IsNestAnswer lines kinds seen passed found
read_cells lines seen passed kinds true p n = n
read_cells lines seen passed kinds false p n = (n.0, p, n.1)

pub cells_answer : (lines : Lines) (seen passed : List Bool) (kinds : List Kind) (found : Bool) → IsNestAnswer lines kinds seen passed found → IsNested lines kinds seen found
cells_answer lines seen passed kinds true n = n
cells_answer lines seen passed kinds false n = (n.0, n.2)
