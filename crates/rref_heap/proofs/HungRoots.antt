-- How objects hang where a root is hung in an empty cell of another.
use Rattle.std.proofs.Common.{◌≡◌, ℕ, ◌<◌, ◌≤◌, false, List, [], length, Option, Some, None, refl, sym, ap, ◌∙◌, subst, arith, inl, inr}
use Rattle.std.specs.Prelude.{slice_index_or, slice_set}
use Rattle.std.proofs.lemmas.Bool.{cases_eq}
use Rattle.std.proofs.lemmas.List.{get_or-set_same, get_or-set_other, length-set}
use Rattle.rref_heap.specs.Store.{Cell, Nest, IsNested, Hanged, Held}
use Rattle.rref_heap.proofs.Spots.{same_some}

-- the nest of the object that hangs, and of the one that it hangs in
abbrev pub hung_at_cell : ℕ → ℕ → Nest → Nest
hung_at_cell o cell p = record p { hung = Some (record { parent = o; place = cell }) }

abbrev pub with_below : ℕ → ℕ → Nest → Nest
with_below cell v q = record q { below = slice_set q.below cell v }

-- what the two were: roots that stay, one with an empty cell, and one in which nothing may hang
pub record Hangable (N : ℕ → Option Nest) (top o v cell : ℕ) (q p : Nest) : Type 0 where
  pub at_o : N o ≡ Some q
  pub at_v : N v ≡ Some p
  pub none : N 0 ≡ None
  pub apart : o ≡ v → ⊥
  pub root_o : q.hung ≡ None
  pub root_v : p.hung ≡ None
  pub low : p.below ≡ []
  pub stays_o : q.leaves ≡ false
  pub stays_v : p.leaves ≡ false
  pub within : cell < length q.below
  pub empty : slice_index_or q.below cell 0 ≡ 0
  pub top_o : o ≤ top
  pub top_v : v ≤ top

module _ (N M : ℕ → Option Nest) (top o v cell : ℕ) (q p : Nest) (h : IsNested N top) (x : Hangable N top o v cell q p) (now_o : M o ≡ Some (with_below cell v q)) (now_v : M v ≡ Some (hung_at_cell o cell p)) (others : (n : ℕ) → (n ≡ o → ⊥) → (n ≡ v → ⊥) → M n ≡ N n) where
  is_o : (n : ℕ) (r : Nest) → n ≡ o → M n ≡ Some r → r ≡ with_below cell v q
  is_o n r e is = same_some (sym is ∙ (ap M e ∙ now_o))

  is_v : (n : ℕ) (r : Nest) → n ≡ v → M n ≡ Some r → r ≡ hung_at_cell o cell p
  is_v n r e is = same_some (sym is ∙ (ap M e ∙ now_v))

  -- a number that has an object isn't 0
  some_at : (n : ℕ) (r : Nest) → N n ≡ Some r → n ≡ 0 → ⊥
  some_at n r is e = let k : None ≡ Some r = sym x.none ∙ (ap N (sym e) ∙ is) in cc

  -- nothing hung in the cell
  none_hung : (n : ℕ) (r : Nest) (c : Cell) → N n ≡ Some r → r.hung ≡ Some c → c.parent ≡ o → c.place ≡ cell → ⊥
  none_hung n r c is hung parent place =
      let i = (h.hangs n r c is hung).in_parent q (ap N parent ∙ x.at_o) in
      let at_cell : slice_index_or q.below cell 0 ≡ n = subst (λ (k : ℕ). slice_index_or q.below k 0 ≡ n) place i.0 in
      some_at n r is (sym at_cell ∙ x.empty)

  -- nor in the one that hangs now
  none_in : (n : ℕ) (r : Nest) (c : Cell) → N n ≡ Some r → r.hung ≡ Some c → c.parent ≡ v → ⊥
  none_in n r c is hung parent =
      let i = (h.hangs n r c is hung).in_parent p (ap N parent ∙ x.at_v) in
      let lt : c.place < length p.below = i.1 in
      let e : length p.below ≡ 0 = ap length x.low in
      omega arith

  hangs_still : (n : ℕ) (r : Nest) (c : Cell) → N n ≡ Some r → r.hung ≡ Some c → Hanged N c n r → Hanged M c n r
  hangs_still n r c is hung was = record {
    low = was.low;
    in_parent = λ s now. elim (cases_eq c.parent o) [
      | inl e ↦ (
          let s_is = is_o c.parent s e now in
          let i = was.in_parent q (ap N e ∙ x.at_o) in
          let lt : c.place < length q.below = i.1 in
          let len = length-set q.below cell v in
          let other : c.place ≡ cell → ⊥ = λ place. none_hung n r c is hung e place in (
            ap (λ (k : Nest). slice_index_or k.below c.place 0) s_is ∙ (get_or-set_other q.below cell c.place v 0 other ∙ i.0),
            subst (λ (k : Nest). c.place < length k.below) (sym s_is) (omega arith),
            i.2 ∙ sym (ap (λ (k : Nest). k.leaves) s_is),
          ))
      | inr ne ↦ was.in_parent s (sym (others c.parent ne (none_in n r c is hung)) ∙ now)
    ];
    alone = λ gone. elim (cases_eq c.parent o) [
      | inl e ↦ absurd (let k : None ≡ Some (with_below cell v q) = sym gone ∙ (ap M e ∙ now_o) in cc)
      | inr ne ↦ was.alone (sym (others c.parent ne (none_in n r c is hung)) ∙ gone)
    ];
  }

  hangs_here : (n : ℕ) (r : Nest) (c : Cell) → n ≡ v → r ≡ hung_at_cell o cell p → c ≡ record { parent = o; place = cell } → Hanged M c n r
  hangs_here n r c n_is r_is c_is = record {
    low = ap (λ (k : Nest). k.below) r_is ∙ x.low;
    in_parent = λ s now. (
        let s_is = is_o c.parent s (ap (λ (k : Cell). k.parent) c_is) now in
        let place : c.place ≡ cell = ap (λ (k : Cell). k.place) c_is in
        let len = length-set q.below cell v in
        let lt = x.within in (
          ap (λ (k : Nest). slice_index_or k.below c.place 0) s_is ∙ (ap (λ (j : ℕ). slice_index_or (slice_set q.below cell v) j 0) place ∙ (get_or-set_same q.below cell v 0 lt ∙ sym n_is)),
          subst (λ (k : Nest). c.place < length k.below) (sym s_is) (omega arith),
          ap (λ (k : Nest). k.leaves) r_is ∙ (x.stays_v ∙ sym (ap (λ (k : Nest). k.leaves) s_is ∙ x.stays_o)),
        ));
    alone = λ gone. absurd (let k : None ≡ Some (with_below cell v q) = sym gone ∙ (ap M (ap (λ (k : Cell). k.parent) c_is) ∙ now_o) in cc);
  }

  cell_here : (n : ℕ) (r : Nest) (c : Cell) → n ≡ v → M n ≡ Some r → r.hung ≡ Some c → c ≡ record { parent = o; place = cell }
  cell_here n r c e is hung = same_some (sym hung ∙ ap (λ (k : Nest). k.hung) (is_v n r e is))

  no_cell : (n : ℕ) (r : Nest) (c : Cell) → n ≡ o → M n ≡ Some r → r.hung ≡ Some c → ⊥
  no_cell n r c e is hung = let k : None ≡ Some c = sym (ap (λ (k : Nest). k.hung) (is_o n r e is) ∙ x.root_o) ∙ hung in cc

  holds_still : (n place u : ℕ) (r s : Nest) → s.leaves ≡ r.leaves → Held N n place u r → Held M n place u s
  holds_still n place u r s same was = record {
    there = λ t now. elim (cases_eq u o) [
      | inl e ↦ absurd (let k : None ≡ Some (record { parent = n; place = place }) = sym x.root_o ∙ was.there q (ap N e ∙ x.at_o) in cc)
      | inr ne ↦ elim (cases_eq u v) [
        | inl e ↦ absurd (let k : None ≡ Some (record { parent = n; place = place }) = sym x.root_v ∙ was.there p (ap N e ∙ x.at_v) in cc)
        | inr ne' ↦ was.there t (sym (others u ne ne') ∙ now)
      ]
    ];
    gone = λ gone. elim (cases_eq u o) [
      | inl e ↦ absurd (let k : None ≡ Some (with_below cell v q) = sym gone ∙ (ap M e ∙ now_o) in cc)
      | inr ne ↦ elim (cases_eq u v) [
        | inl e ↦ absurd (let k : None ≡ Some (hung_at_cell o cell p) = sym gone ∙ (ap M e ∙ now_v) in cc)
        | inr ne' ↦ same ∙ was.gone (sym (others u ne ne') ∙ gone)
      ]
    ];
  }

  holds_here : (n place u : ℕ) (s : Nest) → n ≡ o → place ≡ cell → u ≡ v → Held M n place u s
  holds_here n place u s n_is place_is u_is = record {
    there = λ t now. (
        let e : o ≡ n = sym n_is in
        let f : cell ≡ place = sym place_is in
        ap (λ (k : Nest). k.hung) (is_v u t u_is now) ∙ (ap (λ (j : ℕ). Some (record { parent = j; place = cell })) e ∙ ap (λ (j : ℕ). Some (record { parent = n; place = j })) f));
    gone = λ gone. absurd (let k : None ≡ Some (hung_at_cell o cell p) = sym gone ∙ (ap M u_is ∙ now_v) in cc);
  }

  -- what the cells of the one that hangs name
  named_none : (n place u : ℕ) (r : Nest) → n ≡ v → M n ≡ Some r → slice_index_or r.below place 0 ≡ u → u ≡ 0
  named_none n place u r e is named = sym named ∙ (ap (λ (k : Nest). slice_index_or k.below place 0) (is_v n r e is) ∙ ap (λ (xs : List ℕ). slice_index_or xs place 0) x.low)

  -- what a cell of the other names
  named_same : (n place u : ℕ) (r : Nest) → n ≡ o → M n ≡ Some r → (place ≡ cell → ⊥) → slice_index_or r.below place 0 ≡ u → slice_index_or q.below place 0 ≡ u
  named_same n place u r e is ne named = sym (get_or-set_other q.below cell place v 0 ne) ∙ (sym (ap (λ (k : Nest). slice_index_or k.below place 0) (is_o n r e is)) ∙ named)

  named_here : (n place u : ℕ) (r : Nest) → n ≡ o → M n ≡ Some r → place ≡ cell → slice_index_or r.below place 0 ≡ u → u ≡ v
  named_here n place u r e is place_is named = sym named ∙ (ap (λ (k : Nest). slice_index_or k.below place 0) (is_o n r e is) ∙ (ap (λ (j : ℕ). slice_index_or (slice_set q.below cell v) j 0) place_is ∙ get_or-set_same q.below cell v 0 x.within))

  alone_here : (u : ℕ) (r : Nest) (c : Cell) → (u ≡ o → ⊥) → (u ≡ v → ⊥) → M u ≡ Some r → r.hung ≡ Some c → c ≡ record { parent = o; place = cell } → ⊥
  alone_here u r c ne ne' is hung c_is = none_hung u r c (sym (others u ne ne') ∙ is) hung (ap (λ (k : Cell). k.parent) c_is) (ap (λ (k : Cell). k.place) c_is)

  pub nested_hung : IsNested M top
  nested_hung = record {
    hangs = λ n r c is hung. elim (cases_eq n o) [
      | inl e ↦ absurd (no_cell n r c e is hung)
      | inr ne ↦ elim (cases_eq n v) [
        | inl e ↦ hangs_here n r c e (is_v n r e is) (cell_here n r c e is hung)
        | inr ne' ↦ (let was = sym (others n ne ne') ∙ is in hangs_still n r c was hung (h.hangs n r c was hung))
      ]
    ];
    holds = λ n place u r is named pos. elim (cases_eq n o) [
      | inl e ↦ elim (cases_eq place cell) [
        | inl here ↦ holds_here n place u r e here (named_here n place u r e is here named)
        | inr ne ↦ holds_still n place u q r (ap (λ (k : Nest). k.leaves) (is_o n r e is)) (h.holds n place u q (ap N e ∙ x.at_o) (named_same n place u r e is ne named) pos)
      ]
      | inr ne ↦ elim (cases_eq n v) [
        | inl e ↦ absurd (let z = named_none n place u r e is named in omega arith)
        | inr ne' ↦ holds_still n place u r r refl (h.holds n place u r (sym (others n ne ne') ∙ is) named pos)
      ]
    ];
    wide = λ n r is pos. elim (cases_eq n o) [
      | inl e ↦ (
          let r_is = is_o n r e is in
          let len = length-set q.below cell v in
          let lt = x.within in
          ap (λ (k : Nest). length k.below) r_is ∙ (len ∙ (h.wide o q x.at_o (omega arith) ∙ sym (ap (λ (k : Nest). k.width) r_is))))
      | inr ne ↦ elim (cases_eq n v) [
        | inl e ↦ absurd (let none : length r.below ≡ 0 = ap (λ (k : Nest). length k.below) (is_v n r e is) ∙ ap length x.low in omega arith)
        | inr ne' ↦ h.wide n r (sym (others n ne ne') ∙ is) pos
      ]
    ];
    parents = λ n r c is hung. elim (cases_eq n o) [
      | inl e ↦ absurd (no_cell n r c e is hung)
      | inr ne ↦ elim (cases_eq n v) [
        | inl e ↦ (let parent : c.parent ≡ o = ap (λ (k : Cell). k.parent) (cell_here n r c e is hung) in let le = x.top_o in omega arith)
        | inr ne' ↦ h.parents n r c (sym (others n ne ne') ∙ is) hung
      ]
    ];
    past = λ n place u r is named. elim (cases_eq n o) [
      | inl e ↦ elim (cases_eq place cell) [
        | inl here ↦ (let u_is = named_here n place u r e is here named in let le = x.top_v in omega arith)
        | inr ne ↦ h.past n place u q (ap N e ∙ x.at_o) (named_same n place u r e is ne named)
      ]
      | inr ne ↦ elim (cases_eq n v) [
        | inl e ↦ (let z = named_none n place u r e is named in omega arith)
        | inr ne' ↦ h.past n place u r (sym (others n ne ne') ∙ is) named
      ]
    ];
    alone = λ n u r s c is is' a b. elim (cases_eq n o) [
      | inl e ↦ absurd (no_cell n r c e is a)
      | inr ne ↦ elim (cases_eq u o) [
        | inl e ↦ absurd (no_cell u s c e is' b)
        | inr ne_u ↦ elim (cases_eq n v) [
          | inl e ↦ elim (cases_eq u v) [
            | inl f ↦ e ∙ sym f
            | inr f ↦ absurd (alone_here u s c ne_u f is' b (cell_here n r c e is a))
          ]
          | inr e ↦ elim (cases_eq u v) [
            | inl f ↦ absurd (alone_here n r c ne e is a (cell_here u s c f is' b))
            | inr f ↦ h.alone n u r s c (sym (others n ne e) ∙ is) (sym (others u ne_u f) ∙ is') a b
          ]
        ]
      ]
    ];
  }
