-- How objects hang where what hung in a cell is a root again.
use Rattle.std.proofs.Common.{◌≡◌, ℕ, ◌<◌, List, [], length, Option, Some, None, refl, sym, ap, ◌∙◌, subst, arith, inl, inr}
use Rattle.std.specs.Prelude.{slice_index_or, slice_set}
use Rattle.std.proofs.lemmas.Bool.{cases_eq, cases_lt}
use Rattle.std.proofs.lemmas.List.{get_or-set_same, get_or-set_other, get_or_past, length-set}
use Rattle.rref_heap.specs.Store.{Cell, Nest, IsNested, Hanged, Held}
use Rattle.rref_heap.proofs.Spots.{same_some}
use Rattle.rref_heap.proofs.HungRoots.{with_below}

-- the nest of an object that hangs no more
abbrev pub unhung : Nest → Nest
unhung p = record p { hung = None }

-- what the two were: a root that stays, and what hung in its cell
pub record Unhangable (N : ℕ → Option Nest) (o v cell : ℕ) (q p : Nest) : Type 0 where
  pub at_o : N o ≡ Some q
  pub at_v : N v ≡ Some p
  pub apart : o ≡ v → ⊥
  pub root_o : q.hung ≡ None
  pub hung_v : p.hung ≡ Some (record { parent = o; place = cell })

module _ (N M : ℕ → Option Nest) (top o v cell : ℕ) (q p : Nest) (h : IsNested N top) (x : Unhangable N o v cell q p) (now_o : M o ≡ Some (with_below cell 0 q)) (now_v : M v ≡ Some (unhung p)) (others : (n : ℕ) → (n ≡ o → ⊥) → (n ≡ v → ⊥) → M n ≡ N n) where
  is_o : (n : ℕ) (r : Nest) → n ≡ o → M n ≡ Some r → r ≡ with_below cell 0 q
  is_o n r e is = same_some (sym is ∙ (ap M e ∙ now_o))

  is_v : (n : ℕ) (r : Nest) → n ≡ v → M n ≡ Some r → r ≡ unhung p
  is_v n r e is = same_some (sym is ∙ (ap M e ∙ now_v))

  low_v : p.below ≡ []
  low_v = (h.hangs v p _ x.at_v x.hung_v).low

  root_now : (n : ℕ) (r : Nest) (c : Cell) → M n ≡ Some r → r.hung ≡ Some c → (n ≡ o → ⊥) × (n ≡ v → ⊥)
  root_now n r c is hung = (
    λ e. (let k : None ≡ Some c = sym (ap (λ (k : Nest). k.hung) (is_o n r e is) ∙ x.root_o) ∙ hung in cc),
    λ e. (let k : None ≡ Some c = sym (ap (λ (k : Nest). k.hung) (is_v n r e is)) ∙ hung in cc),
  )

  -- another object hangs in another cell
  other_cell : (n : ℕ) (r : Nest) (c : Cell) → (n ≡ v → ⊥) → N n ≡ Some r → r.hung ≡ Some c → c.parent ≡ o → c.place ≡ cell → ⊥
  other_cell n r c ne is hung parent place =
      let c_is : c ≡ record { parent = o; place = cell } = ap (λ (j : ℕ). record { parent = j; place = c.place }) parent ∙ ap (λ (j : ℕ). record { parent = o; place = j }) place in
      ne (h.alone n v r p c is x.at_v hung (x.hung_v ∙ ap (λ (k : Cell). Some k) (sym c_is)))

  -- nothing hangs in what hung
  none_in : (n : ℕ) (r : Nest) (c : Cell) → N n ≡ Some r → r.hung ≡ Some c → c.parent ≡ v → ⊥
  none_in n r c is hung parent =
      let i = (h.hangs n r c is hung).in_parent p (ap N parent ∙ x.at_v) in
      let lt : c.place < length p.below = i.1 in
      let e : length p.below ≡ 0 = ap length low_v in
      omega arith

  hangs_still : (n : ℕ) (r : Nest) (c : Cell) → (n ≡ v → ⊥) → N n ≡ Some r → r.hung ≡ Some c → Hanged N c n r → Hanged M c n r
  hangs_still n r c ne_v is hung was = record {
    low = was.low;
    in_parent = λ s now. elim (cases_eq c.parent o) [
      | inl e ↦ (
          let s_is = is_o c.parent s e now in
          let i = was.in_parent q (ap N e ∙ x.at_o) in
          let lt : c.place < length q.below = i.1 in
          let len = length-set q.below cell 0 in
          let other : c.place ≡ cell → ⊥ = λ place. other_cell n r c ne_v is hung e place in (
            ap (λ (k : Nest). slice_index_or k.below c.place 0) s_is ∙ (get_or-set_other q.below cell c.place 0 0 other ∙ i.0),
            subst (λ (k : Nest). c.place < length k.below) (sym s_is) (omega arith),
            i.2 ∙ sym (ap (λ (k : Nest). k.leaves) s_is),
          ))
      | inr ne ↦ was.in_parent s (sym (others c.parent ne (none_in n r c is hung)) ∙ now)
    ];
    alone = λ gone. elim (cases_eq c.parent o) [
      | inl e ↦ absurd (let k : None ≡ Some (with_below cell 0 q) = sym gone ∙ (ap M e ∙ now_o) in cc)
      | inr ne ↦ was.alone (sym (others c.parent ne (none_in n r c is hung)) ∙ gone)
    ];
  }

  -- what a cell of the parent names
  named_same : (n place u : ℕ) (r : Nest) → n ≡ o → M n ≡ Some r → (place ≡ cell → ⊥) → slice_index_or r.below place 0 ≡ u → slice_index_or q.below place 0 ≡ u
  named_same n place u r e is ne named = sym (get_or-set_other q.below cell place 0 0 ne) ∙ (sym (ap (λ (k : Nest). slice_index_or k.below place 0) (is_o n r e is)) ∙ named)

  -- the cell names nothing now
  emptied : (xs : List ℕ) (k : ℕ) → slice_index_or (slice_set xs k 0) k 0 ≡ 0
  emptied xs k = elim (cases_lt k (length xs)) [
    | inl lt ↦ get_or-set_same xs k 0 0 lt
    | inr le ↦ (let len = length-set xs k 0 in get_or_past (slice_set xs k 0) k 0 (omega arith))
  ]

  named_here : (n place u : ℕ) (r : Nest) → n ≡ o → M n ≡ Some r → place ≡ cell → slice_index_or r.below place 0 ≡ u → u ≡ 0
  named_here n place u r e is place_is named = sym named ∙ (ap (λ (k : Nest). slice_index_or k.below place 0) (is_o n r e is) ∙ (ap (λ (j : ℕ). slice_index_or (slice_set q.below cell 0) j 0) place_is ∙ emptied q.below cell))

  -- nor do the cells of what hung
  named_none : (n place u : ℕ) (r : Nest) → n ≡ v → M n ≡ Some r → slice_index_or r.below place 0 ≡ u → u ≡ 0
  named_none n place u r e is named = sym named ∙ (ap (λ (k : Nest). slice_index_or k.below place 0) (is_v n r e is) ∙ ap (λ (xs : List ℕ). slice_index_or xs place 0) low_v)

  holds_still : (n place u : ℕ) (r s : Nest) → s.leaves ≡ r.leaves → (n ≡ o → place ≡ cell → ⊥) → Held N n place u r → Held M n place u s
  holds_still n place u r s same other was = record {
    there = λ t now. elim (cases_eq u o) [
      | inl e ↦ absurd (let k : None ≡ Some (record { parent = n; place = place }) = sym x.root_o ∙ was.there q (ap N e ∙ x.at_o) in cc)
      | inr ne ↦ elim (cases_eq u v) [
        | inl e ↦ absurd (
            let k : record { parent = o; place = cell } ≡ record { parent = n; place = place } = same_some (sym x.hung_v ∙ was.there p (ap N e ∙ x.at_v)) in
            other (sym (ap (λ (k : Cell). k.parent) k)) (sym (ap (λ (k : Cell). k.place) k)))
        | inr ne' ↦ was.there t (sym (others u ne ne') ∙ now)
      ]
    ];
    gone = λ gone. elim (cases_eq u o) [
      | inl e ↦ absurd (let k : None ≡ Some (with_below cell 0 q) = sym gone ∙ (ap M e ∙ now_o) in cc)
      | inr ne ↦ elim (cases_eq u v) [
        | inl e ↦ absurd (let k : None ≡ Some (unhung p) = sym gone ∙ (ap M e ∙ now_v) in cc)
        | inr ne' ↦ same ∙ was.gone (sym (others u ne ne') ∙ gone)
      ]
    ];
  }

  pub nested_unhung : IsNested M top
  nested_unhung = record {
    hangs = λ n r c is hung. (
        let ne = root_now n r c is hung in
        let was : N n ≡ Some r = sym (others n ne.0 ne.1) ∙ is in
        hangs_still n r c ne.1 was hung (h.hangs n r c was hung));
    holds = λ n place u r is named pos. elim (cases_eq n o) [
      | inl e ↦ elim (cases_eq place cell) [
        | inl here ↦ absurd (let z = named_here n place u r e is here named in omega arith)
        | inr ne ↦ holds_still n place u q r (ap (λ (k : Nest). k.leaves) (is_o n r e is)) (λ a b. ne b) (h.holds n place u q (ap N e ∙ x.at_o) (named_same n place u r e is ne named) pos)
      ]
      | inr ne ↦ elim (cases_eq n v) [
        | inl e ↦ absurd (let z = named_none n place u r e is named in omega arith)
        | inr ne' ↦ holds_still n place u r r refl (λ a b. ne a) (h.holds n place u r (sym (others n ne ne') ∙ is) named pos)
      ]
    ];
    wide = λ n r is pos. elim (cases_eq n o) [
      | inl e ↦ (
          let r_is = is_o n r e is in
          let len : length (slice_set q.below cell 0) ≡ length q.below = length-set q.below cell 0 in
          let same : length r.below ≡ length q.below = ap (λ (k : Nest). length k.below) r_is ∙ len in
          same ∙ (h.wide o q x.at_o (omega arith) ∙ sym (ap (λ (k : Nest). k.width) r_is)))
      | inr ne ↦ elim (cases_eq n v) [
        | inl e ↦ absurd (let none : length r.below ≡ 0 = ap (λ (k : Nest). length k.below) (is_v n r e is) ∙ ap length low_v in omega arith)
        | inr ne' ↦ h.wide n r (sym (others n ne ne') ∙ is) pos
      ]
    ];
    parents = λ n r c is hung. (let ne = root_now n r c is hung in h.parents n r c (sym (others n ne.0 ne.1) ∙ is) hung);
    past = λ n place u r is named. elim (cases_eq n o) [
      | inl e ↦ elim (cases_eq place cell) [
        | inl here ↦ (let z = named_here n place u r e is here named in omega arith)
        | inr ne ↦ h.past n place u q (ap N e ∙ x.at_o) (named_same n place u r e is ne named)
      ]
      | inr ne ↦ elim (cases_eq n v) [
        | inl e ↦ (let z = named_none n place u r e is named in omega arith)
        | inr ne' ↦ h.past n place u r (sym (others n ne ne') ∙ is) named
      ]
    ];
    alone = λ n u r s c is is' a b. (
        let ne = root_now n r c is a in
        let nu = root_now u s c is' b in
        h.alone n u r s c (sym (others n ne.0 ne.1) ∙ is) (sym (others u nu.0 nu.1) ∙ is') a b);
  }
