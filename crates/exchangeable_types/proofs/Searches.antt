-- The steps of a search for an RRef.
use Rattle.std.proofs.Common.{◌≡◌, ℕ, Bool, true, false, zero, suc, ◌+◌, ◌*◌, ◌<◌, ◌≤◌, List, [], ◌∷◌, ◌++◌, length, drop, Some, None, ◌⊎◌, inl, inr, refl, sym, ap, subst, ◌∙◌, arith, append_assoc, length-append}
use Rattle.std.specs.Prelude.{slice_get, slice_set, IsTrue}
use Rattle.std.proofs.lemmas.List.{length-set, append-nil}
use Rattle.rl_defs.proofs.Places.{get_front, get_seam, get_within, get_last, get_set_same, get_set_other, get_set}
use Rattle.rl_defs.proofs.HoldingLaws.{reaches_more, reaches_field, none_holds}
use Rattle.rl_defs.specs.declared.idl.TypeText.{TypeText}
use Rattle.rl_defs.specs.Interfaces.{Lines, types_at, types_of, fields_of, struct_names}
use Rattle.rl_defs.specs.Flattening.{struct_held}
use Rattle.rl_defs.specs.Holding.{HasField, Reaches, holds_rref, HasRRef, HoldsRRef}
use Rattle.exchangeable_types.specs.Numbering.{field_type}
use Rattle.exchangeable_types.specs.Walk.{StartsAt}
use Rattle.exchangeable_types.specs.Search.{IsClean, StandsIn, Searching, AllLead, unmarked, unmarked_count, Marks, Scanned}
use Rattle.exchangeable_types.proofs.Starts.{types_at_start}
use Rattle.exchangeable_types.proofs.Walks.{fields_more, fields_none}

unmarked_set : (xs : List Bool) (i : ℕ) (x y : Bool) → slice_get xs i ≡ Some x → unmarked_count (slice_set xs i y) + unmarked x ≡ unmarked_count xs + unmarked y
unmarked_set [] i x y e = absurd cc
unmarked_set (z ∷ zs) zero x y e = let same : z ≡ x = cc in omega (arith, ap unmarked same)
unmarked_set (z ∷ zs) (suc i) x y e = omega (arith, unmarked_set zs i x y e)

-- a struct that was seen
pub marks_none : (seen : List Bool) (waiting : List ℕ) (held : ℕ) → slice_get seen held ≡ Some true → Marks seen seen waiting waiting held
marks_none seen waiting held e = record {
  here = e;
  stays = λ s h. h;
  only = λ s h. inl h;
  kept = λ s h. h;
  more = λ s h. inl h;
  count = refl;
  falls = omega arith;
}

-- a struct that wasn't
pub marks_one : (seen new : List Bool) (waiting after : List ℕ) (held : ℕ) → slice_get seen held ≡ Some false → new ≡ slice_set seen held true → after ≡ waiting ++ held ∷ [] → Marks seen new waiting after held
marks_one seen new waiting after held e n a =
    subst (λ (xs : List Bool). Marks seen xs waiting after held) (sym n) (subst (λ (ys : List ℕ). Marks seen (slice_set seen held true) waiting ys held) (sym a) (record {
      here = get_set_same seen held true (get_within seen held false e);
      stays = λ s h. get_set_other seen held s true (λ same. apart (sym h ∙ subst (λ (k : ℕ). slice_get seen k ≡ Some false) (sym same) e)) ∙ h;
      only = λ s h. elim (get_set seen held s true true h) [ inl b ↦ inr (length waiting, subst (λ (k : ℕ). slice_get (waiting ++ held ∷ []) (length waiting) ≡ Some k) (sym b.0) (get_seam waiting held [])) | inr b ↦ inl b.1 ];
      kept = λ s h. (h.0, get_front waiting (held ∷ []) h.0 s h.1);
      more = λ s h. elim (get_last waiting held h.0 s h.1) [ inl b ↦ inl (h.0, b) | inr b ↦ inr b.1 ];
      count = length-set seen held true;
      falls = omega (arith, unmarked_set seen held false true e, length-append waiting (held ∷ []));
    })) where
      apart : Some true ≡ Some false → ⊥
      apart h = cc

-- the types that were passed are no RRef, and hold only structs that were seen
abbrev pub ArePassed : Lines → List Bool → List TypeText → Type 0
ArePassed lines seen passed = (k : ℕ) (ty : TypeText) → slice_get passed k ≡ Some ty → (holds_rref ty ≡ false) × ((t : ℕ) → struct_held lines ty ≡ Some t → slice_get seen t ≡ Some true)

-- In the middle of a scan: the struct itself counts as still to be looked at.
pub record Scanning (lines : Lines) (old seen : List Bool) (before waiting : List ℕ) (number at : ℕ) : Type 0 where
  pub count : length seen ≡ length (struct_names lines)
  pub clean : (s : ℕ) → slice_get seen s ≡ Some true → (StandsIn waiting s ⊎ (s ≡ number)) ⊎ IsClean lines seen s
  pub below : (s : ℕ) → StandsIn waiting s → s < length seen
  pub leads : (first : ℕ) → AllLead lines (before ++ number ∷ []) first → AllLead lines waiting first
  pub falls : 2 * unmarked_count seen + length waiting ≤ 2 * unmarked_count old + length before
  pub stays : (s : ℕ) → slice_get old s ≡ Some true → slice_get seen s ≡ Some true
  pub passed : List TypeText
  pub split : types_at lines number ≡ passed ++ types_of (fields_of (drop at lines))
  pub are : ArePassed lines seen passed

pub scan_begins : (lines : Lines) (seen : List Bool) (waiting : List ℕ) (number place : ℕ) → Searching lines seen (waiting ++ number ∷ []) → StartsAt lines number place → Scanning lines seen seen waiting waiting number (place + 1)
scan_begins lines seen waiting number place h starts = record {
  count = h.count;
  clean = λ s e. elim (h.clean s e) [
    | inl a ↦ elim (get_last waiting number a.0 s a.1) [ inl b ↦ inl (inl (a.0, b)) | inr b ↦ inl (inr b.1) ]
    | inr a ↦ inr a
  ];
  below = λ s a. h.below s (a.0, get_front waiting (number ∷ []) a.0 s a.1);
  leads = λ first all s a. all s (a.0, get_front waiting (number ∷ []) a.0 s a.1);
  falls = omega arith;
  stays = λ s e. e;
  passed = [];
  split = types_at_start lines number place starts;
  are = λ k ty e. absurd cc;
}

pub scan_number : (lines : Lines) (seen : List Bool) (waiting : List ℕ) (number : ℕ) → Searching lines seen (waiting ++ number ∷ []) → number < length (struct_names lines)
scan_number lines seen waiting number h = omega (arith, h.count, h.below number (length waiting, get_seam waiting number []))

split_more : (lines : Lines) (number at : ℕ) (passed : List TypeText) (ty : TypeText) → types_at lines number ≡ passed ++ types_of (fields_of (drop at lines)) → field_type (slice_get lines at) ≡ Some ty → types_at lines number ≡ passed ++ (ty ∷ types_of (fields_of (drop (at + 1) lines)))
split_more lines number at passed ty split f = split ∙ ap (λ (xs : List TypeText). passed ++ xs) (fields_more lines at ty f)

pub field_here : (lines : Lines) (number at : ℕ) (passed : List TypeText) (ty : TypeText) → types_at lines number ≡ passed ++ types_of (fields_of (drop at lines)) → field_type (slice_get lines at) ≡ Some ty → slice_get (types_at lines number) (length passed) ≡ Some ty
field_here lines number at passed ty split f = subst (λ (xs : List TypeText). slice_get xs (length passed) ≡ Some ty) (sym (split_more lines number at passed ty split f)) (get_seam passed ty (types_of (fields_of (drop (at + 1) lines))))

-- an RRef was found
pub scan_found : (lines : Lines) (old seen : List Bool) (before waiting : List ℕ) (number at : ℕ) (ty : TypeText) → Scanning lines old seen before waiting number at → field_type (slice_get lines at) ≡ Some ty → holds_rref ty ≡ true → HasRRef lines number
scan_found lines old seen before waiting number at ty h f is = record { place = length h.passed; ty = ty; here = field_here lines number at h.passed ty h.split f; rref = is }

passed_more : (lines : Lines) (old new : List Bool) (passed : List TypeText) (ty : TypeText) → ((s : ℕ) → slice_get old s ≡ Some true → slice_get new s ≡ Some true) → ArePassed lines old passed → holds_rref ty ≡ false → ((t : ℕ) → struct_held lines ty ≡ Some t → slice_get new t ≡ Some true) → ArePassed lines new (passed ++ ty ∷ [])
passed_more lines old new passed ty stays are none held k x e = elim (get_last passed ty k x e) [
  | inl a ↦ ((are k x a).0, λ t h. stays t ((are k x a).1 t h))
  | inr a ↦ (subst (λ (y : TypeText). holds_rref y ≡ false) (sym a.1) none, λ t h. held t (subst (λ (y : TypeText). struct_held lines y ≡ Some t) a.1 h))
]

pub split_on : (lines : Lines) (number at : ℕ) (passed : List TypeText) (ty : TypeText) → types_at lines number ≡ passed ++ types_of (fields_of (drop at lines)) → field_type (slice_get lines at) ≡ Some ty → types_at lines number ≡ (passed ++ ty ∷ []) ++ types_of (fields_of (drop (at + 1) lines))
split_on lines number at passed ty split f = split_more lines number at passed ty split f ∙ sym (append_assoc passed (ty ∷ []) (types_of (fields_of (drop (at + 1) lines))))

-- a field that holds no struct
pub scan_passes : (lines : Lines) (old seen : List Bool) (before waiting : List ℕ) (number at : ℕ) (ty : TypeText) → Scanning lines old seen before waiting number at → field_type (slice_get lines at) ≡ Some ty → holds_rref ty ≡ false → struct_held lines ty ≡ None → Scanning lines old seen before waiting number (at + 1)
scan_passes lines old seen before waiting number at ty h f none held = record {
  count = h.count;
  clean = h.clean;
  below = h.below;
  leads = h.leads;
  falls = h.falls;
  stays = h.stays;
  passed = h.passed ++ ty ∷ [];
  split = split_on lines number at h.passed ty h.split f;
  are = passed_more lines seen seen h.passed ty (λ s e. e) h.are none (λ t e. let both : None ≡ Some t = sym held ∙ e in absurd cc);
}

-- a field that holds a struct, which was marked
pub scan_marks : (lines : Lines) (old seen new : List Bool) (before waiting after : List ℕ) (number at held : ℕ) (ty : TypeText) → Scanning lines old seen before waiting number at → field_type (slice_get lines at) ≡ Some ty → holds_rref ty ≡ false → struct_held lines ty ≡ Some held → held < length seen → Marks seen new waiting after held → Scanning lines old new before after number (at + 1)
scan_marks lines old seen new before waiting after number at held ty h f none is lt m = record {
  count = m.count ∙ h.count;
  clean = λ s e. elim (m.only s e) [
    | inl a ↦ elim (h.clean s a) [
      | inl b ↦ elim b [ inl d ↦ inl (inl (m.kept s d)) | inr d ↦ inl (inr d) ]
      | inr b ↦ inr (record { none = b.none; closed = λ t field. m.stays t (b.closed t field) })
    ]
    | inr a ↦ inl (inl a)
  ];
  below = λ s a. elim (m.more s a) [ inl b ↦ omega (arith, h.below s b, m.count) | inr b ↦ omega (arith, b, lt, m.count) ];
  leads = λ first all s a. elim (m.more s a) [
    | inl b ↦ h.leads first all s b
    | inr b ↦ subst (λ (k : ℕ). (k ≡ first) ⊎ Reaches lines first k) (sym b) (onward first (all number (length before, get_seam before number [])))
  ];
  falls = omega (arith, h.falls, m.falls);
  stays = λ s e. m.stays s (h.stays s e);
  passed = h.passed ++ ty ∷ [];
  split = split_on lines number at h.passed ty h.split f;
  are = passed_more lines seen new h.passed ty m.stays h.are none (λ t e. let both : Some held ≡ Some t = sym is ∙ e in let same : held ≡ t = cc in subst (λ (k : ℕ). slice_get new k ≡ Some true) same m.here);
} where
  field : HasField lines number held
  field = record { place = length h.passed; ty = ty; here = field_here lines number at h.passed ty h.split f; holds = is }

  onward : (first : ℕ) → (number ≡ first) ⊎ Reaches lines first number → (held ≡ first) ⊎ Reaches lines first held
  onward first (inl same) = inr (subst (λ (k : ℕ). Reaches lines k held) same (reaches_field lines number held field))
  onward first (inr r) = inr (reaches_more lines first number held r field)

-- all fields were looked at
pub scan_ends : (lines : Lines) (old seen : List Bool) (before waiting : List ℕ) (number at : ℕ) → Scanning lines old seen before waiting number at → field_type (slice_get lines at) ≡ None → Scanned lines old seen before waiting number
scan_ends lines old seen before waiting number at h f =
    let all : types_at lines number ≡ h.passed = h.split ∙ ap (λ (xs : List TypeText). h.passed ++ xs) (fields_none lines at f) ∙ append-nil h.passed in
    let clean : IsClean lines seen number = record {
      none = λ r. untrue r.ty (h.are r.place r.ty (subst (λ (xs : List TypeText). slice_get xs r.place ≡ Some r.ty) all r.here)).0 r.rref;
      closed = λ t field. (h.are field.place field.ty (subst (λ (xs : List TypeText). slice_get xs field.place ≡ Some field.ty) all field.here)).1 t field.holds;
    } in record {
      searching = record {
        count = h.count;
        clean = λ s e. elim (h.clean s e) [
          | inl a ↦ elim a [ inl b ↦ inl b | inr b ↦ inr (subst (λ (k : ℕ). IsClean lines seen k) (sym b) clean) ]
          | inr a ↦ inr a
        ];
        below = h.below;
      };
      leads = h.leads;
      falls = h.falls;
      stays = h.stays;
    } where
      untrue : (ty : TypeText) → holds_rref ty ≡ false → IsTrue (holds_rref ty) → ⊥
      untrue ty e t = let both : false ≡ true = sym e ∙ t in cc

-- the first struct is to be looked at
pub search_begins : (lines : Lines) (seen new : List Bool) (after : List ℕ) (first : ℕ) → Searching lines seen [] → first < length seen → Marks seen new [] after first → Searching lines new after × AllLead lines after first
search_begins lines seen new after first h lt m = (
  record {
    count = m.count ∙ h.count;
    clean = λ s e. elim (m.only s e) [
      | inl a ↦ elim (h.clean s a) [ inl b ↦ inl (m.kept s b) | inr b ↦ inr (record { none = b.none; closed = λ t field. m.stays t (b.closed t field) }) ]
      | inr a ↦ inl a
    ];
    below = λ s a. elim (m.more s a) [ inl b ↦ absurd (empty s b) | inr b ↦ omega (arith, b, lt, m.count) ];
  },
  λ s a. elim (m.more s a) [ inl b ↦ absurd (empty s b) | inr b ↦ inl b ],
) where
  empty : (s : ℕ) → StandsIn [] s → ⊥
  empty s b = let e = b.1 in cc

-- nothing is left to be looked at
pub search_ends : (lines : Lines) (seen : List Bool) (first : ℕ) → Searching lines seen [] → slice_get seen first ≡ Some true → HoldsRRef lines first → ⊥
search_ends lines seen first h here = none_holds lines (λ s. slice_get seen s ≡ Some true) (λ s e. (clean s e).none) (λ s t e field. (clean s e).closed t field) first here where
  empty : (s : ℕ) → StandsIn [] s → ⊥
  empty s b = let e = b.1 in cc

  clean : (s : ℕ) → slice_get seen s ≡ Some true → IsClean lines seen s
  clean s e = elim (h.clean s e) [ inl a ↦ absurd (empty s a) | inr a ↦ a ]

-- an RRef of a struct that the first leads to
pub search_found : (lines : Lines) (waiting : List ℕ) (first number : ℕ) → AllLead lines (waiting ++ number ∷ []) first → HasRRef lines number → HoldsRRef lines first
search_found lines waiting first number all h = elim (all number (length waiting, get_seam waiting number [])) [
  | inl same ↦ inl (subst (λ (k : ℕ). HasRRef lines k) same h)
  | inr r ↦ inr (number, r, h)
]
