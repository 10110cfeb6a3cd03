-- The walk over an owner's roots that lists those that aren't lent.
use Rattle.std.proofs.Common.{◌≡◌, ℕ, zero, suc, ◌+◌, ◌<◌, ◌≤◌, ◌==◌, ◌||◌, ◌&&◌, Bool, true, false, List, [], ◌∷◌, length, map, Option, Some, None, refl, sym, ap, ◌∙◌, subst, arith, inl, inr}
use Rattle.std.specs.Prelude.{slice_index_or, is_some}
use Rattle.std.specs.List.{filter_map}
use Rattle.std.specs.Option.{option_map_or}
use Rattle.std.proofs.lemmas.Bool.{cases_eq, cases_Bool, eq-eqb, both_ways}
use Rattle.machine_defs.specs.declared.values.Owner.{Owner}
use Rattle.machine_defs.specs.State.{Object, Placement, Root, Hung}
use Rattle.machine_defs.specs.Arguments.{has}
use Rattle.machine_defs.specs.Report.{same_owner}
use Rattle.rref_heap.specs.HeapValue.{HeapRow, HeapRows, row_of, loans_at}
use Rattle.rref_heap.specs.Changing.{hangs_below, is_below, with_leaving}
use Rattle.rref_heap.specs.Leaving.{is_left_root, is_left_row, is_left_at, listed_row, listed_rows, is_root_of, root_number, roots_of}
use Rattle.rref_heap.specs.Spots.{Spot, Spots, at, row_of_spot, row_at, rows_in, loans_in, next_in}
use Rattle.rref_heap.specs.Links.{first_in, Link, link_by, link_of, links_in}
use Rattle.rref_heap.specs.declared.store.Store.{Store}
use Rattle.rref_heap.specs.Store.{IsStore, Becomes, Distinct}
use Rattle.rref_heap.proofs.Spots.{same_some, unequal}
use Rattle.rref_heap.proofs.Links.{same_is, same_self}
use Rattle.rref_heap.proofs.Leavers.{in_tail, in_head, not_head}
use Rattle.rref_heap.proofs.Passing.{row_at_is, becomes_then}
use Rattle.rref_heap.proofs.Rows.{spot_at}
use Rattle.rref_heap.proofs.Objects.{row_of_map}

-- one of these objects, or what hangs in one of them
abbrev pub below_any : List ℕ → Object → Bool
below_any [] x = false
below_any (o ∷ os) x = is_below o x || below_any os x

by_number : (m a : ℕ) (os : List ℕ) → (((m == a) || false) || has os m) ≡ has (a ∷ os) m
by_number m a os = elim (cases_eq m a) [
  | inl e ↦ rw (eq-eqb m a e, eq-eqb a m (sym e)) refl
  | inr ne ↦ rw (unequal m a ne, unequal a m (λ e. ne (sym e))) refl
]

swap_number : (m a : ℕ) (os : List ℕ) → ((false || (m == a)) || has os m) ≡ has (a ∷ os) m
swap_number m a os = elim (cases_eq m a) [
  | inl e ↦ rw (eq-eqb m a e, eq-eqb a m (sym e)) refl
  | inr ne ↦ rw (unequal m a ne, unequal a m (λ e. ne (sym e))) refl
]

none_and : (b : Bool) → (b && false) ≡ false
none_and true = refl
none_and false = refl

-- these and what hangs in them leave
abbrev pub mark_row : List ℕ → Option HeapRow → Option HeapRow
mark_row os None = None
mark_row os (Some r) = Some (record r { leaves = below_any os r.object || r.leaves })

or_assoc : (a b c : Bool) → (a || (b || c)) ≡ ((a || b) || c)
or_assoc true b c = refl
or_assoc false b c = refl

pub mark_none : (rows : HeapRows) → map (mark_row []) rows ≡ rows
mark_none [] = refl
mark_none (None ∷ rows) = ap (λ (l : HeapRows). None ∷ l) (mark_none rows)
mark_none (Some r ∷ rows) = ap (λ (l : HeapRows). Some r ∷ l) (mark_none rows)

pub mark_more : (o : ℕ) (os : List ℕ) (rows : HeapRows) → map (with_leaving o) (map (mark_row os) rows) ≡ map (mark_row (o ∷ os)) rows
mark_more o os [] = refl
mark_more o os (None ∷ rows) = ap (λ (l : HeapRows). None ∷ l) (mark_more o os rows)
mark_more o os (Some r ∷ rows) =
    ap (λ (l : HeapRows). with_leaving o (mark_row os (Some r)) ∷ l) (mark_more o os rows)
    ∙ ap (λ (b : Bool). Some (record r { leaves = b }) ∷ map (mark_row (o ∷ os)) rows) (or_assoc (is_below o r.object) (below_any os r.object) r.leaves)

-- a list is changed alike by what changes each of its rows alike
pub map_alike : (f g : Option HeapRow → Option HeapRow) (rows : HeapRows) → f None ≡ g None → ((j : ℕ) (r : HeapRow) → slice_index_or rows j None ≡ Some r → f (Some r) ≡ g (Some r)) → map f rows ≡ map g rows
map_alike f g [] none each = refl
map_alike f g (None ∷ rows) none each = ap (λ (l : HeapRows). f None ∷ l) (map_alike f g rows none (λ j r is. each (suc j) r is)) ∙ ap (λ (x : Option HeapRow). x ∷ map g rows) none
map_alike f g (Some r ∷ rows) none each = ap (λ (l : HeapRows). f (Some r) ∷ l) (map_alike f g rows none (λ j q is. each (suc j) q is)) ∙ ap (λ (x : Option HeapRow). x ∷ map g rows) (each 0 r refl)

-- what stands in a list but isn't its head
pub has_rest : (x : ℕ) (xs : List ℕ) (n : ℕ) → (x ≡ n → ⊥) → has (x ∷ xs) n ≡ true → has xs n ≡ true
has_rest x xs n ne h = rw (unequal x n ne) at h

pub lacks : (x : ℕ) (xs : List ℕ) (n : ℕ) → (x ≡ n → ⊥) → has xs n ≡ false → has (x ∷ xs) n ≡ false
lacks x xs n ne h = rw (unequal x n ne) h

-- a list without one of its numbers
record TakenOut (ys : List ℕ) (x : ℕ) : Type 0 where
  rest : List ℕ
  shorter : length ys ≡ suc (length rest)
  others : (n : ℕ) → (x ≡ n → ⊥) → has ys n ≡ true → has rest n ≡ true

take_out : (ys : List ℕ) (x : ℕ) → has ys x ≡ true → TakenOut ys x
take_out [] x h = absurd cc
take_out (y ∷ ys) x h = elim (cases_eq y x) [
  | inl e ↦ record { rest = ys; shorter = refl; others = λ n ne k. has_rest y ys n (λ same. ne (sym e ∙ same)) k }
  | inr ne ↦ (
      let r = take_out ys x (has_rest y ys x ne h) in
      record {
        rest = y ∷ r.rest;
        shorter = ap (λ (n : ℕ). suc n) r.shorter;
        others = λ n ne' k. elim (cases_eq y n) [
          | inl e ↦ subst (λ (m : ℕ). has (y ∷ r.rest) m ≡ true) e (in_head y r.rest)
          | inr ny ↦ in_tail y r.rest n (r.others n ne' (has_rest y ys n ny k))
        ];
      })
]

-- numbers that stand once each are no more than those of a list that has them all
pub no_more : (xs ys : List ℕ) → Distinct xs → ((n : ℕ) → has xs n ≡ true → has ys n ≡ true) → length xs ≤ length ys
no_more [] ys once all = omega arith
no_more (x ∷ xs) ys once all =
    let r = take_out ys x (all x (in_head x xs)) in
    let shorter = r.shorter in
    let le = no_more xs r.rest once.1 (λ n h. r.others n (λ e. both_ways (has xs x) once.0 (ap (has xs) e ∙ h)) (all n (in_tail x xs n h))) in
    omega arith

-- what a list's rows give stands in what is filtered from them
pub has_given : (g : Option HeapRow → Option ℕ) (rows : HeapRows) (j n : ℕ) → g (slice_index_or rows j None) ≡ Some n → g None ≡ None → has (filter_map g rows) n ≡ true
has_given g [] j n is none = absurd (let k : None ≡ Some n = sym none ∙ is in cc)
has_given g (x ∷ rows) zero n is none = let here : g x ≡ Some n = is in rw here (in_head n (filter_map g rows))
has_given g (x ∷ rows) (suc j) n is none = by (g x) refl (has_given g rows j n is none)
  where
    by : (y : Option ℕ) → g x ≡ y → has (filter_map g rows) n ≡ true → has (filter_map g (x ∷ rows)) n ≡ true
    by None e deeper = rw e deeper
    by (Some m) e deeper = rw e (in_tail m (filter_map g rows) n deeper)

-- a root of an owner
pub record RootOf (spots : Spots) (w : Owner) (n : ℕ) : Type 0 where
  pub link : Link
  pub is : links_in spots n ≡ Some link
  pub of : link.owner ≡ w

-- the next root that the walk looks at
pub record Ahead (spots : Spots) (w : Owner) (seen : List ℕ) (o : ℕ) : Type 0 where
  pub root : RootOf spots w o
  pub fresh : has seen o ≡ false
  pub behind : (p : Link) → links_in spots o ≡ Some p → 0 < p.prev → has seen p.prev ≡ true

-- The walk has seen the owner's roots as far as this one, and has listed those of them that aren't lent.
pub record Walk (s z : Store) (w : Owner) (o start taken : ℕ) : Type 0 where
  pub seen : List ℕ
  pub listed : List ℕ
  pub once : Distinct seen
  pub roots : (n : ℕ) → has seen n ≡ true → RootOf s.places.spots w n
  pub ahead : 0 < o → Ahead s.places.spots w seen o
  pub forth : (n : ℕ) (p : Link) → has seen n ≡ true → links_in s.places.spots n ≡ Some p → (p.next ≡ o → ⊥) → has seen p.next ≡ true
  pub back : (n : ℕ) (p : Link) → has seen n ≡ true → links_in s.places.spots n ≡ Some p → 0 < p.prev → has seen p.prev ≡ true
  pub first : (first_in s.firsts w ≡ o → ⊥) → has seen (first_in s.firsts w) ≡ true
  pub unlent : (n : ℕ) → has listed n ≡ (has seen n && (loans_at (rows_in s.places.spots) n == 0))
  pub links : (n : ℕ) → links_in z.places.spots n ≡ links_in s.places.spots n
  pub becomes : Becomes s z (map (mark_row listed) (rows_in s.places.spots))
  pub counted : taken ≡ start + length seen

-- the walk begins
pub walk_starts : (s : Store) (w : Owner) (o start : ℕ) → IsStore s → o ≡ first_in s.firsts w → Walk s s w o start start
walk_starts s w o start h o_is = record {
  seen = [];
  listed = [];
  once = tt;
  roots = λ n e. absurd cc;
  ahead = λ pos. (
      let f = h.links.heads w (omega arith) in
      record {
        root = record { link = f.link; is = ap (links_in s.places.spots) o_is ∙ f.is; of = f.of };
        fresh = refl;
        behind = λ p is pos'. absurd (let same : p ≡ f.link = same_some (sym is ∙ (ap (links_in s.places.spots) o_is ∙ f.is)) in let z : p.prev ≡ 0 = ap (λ (x : Link). x.prev) same ∙ f.first in omega arith);
      });
  forth = λ n p e. absurd cc;
  back = λ n p e. absurd cc;
  first = λ ne. absurd (ne (sym o_is));
  unlent = λ n. refl;
  links = λ n. refl;
  becomes = subst (λ (rows : HeapRows). Becomes s s rows) (sym (mark_none (rows_in s.places.spots))) (record { store = h; seen = refl; spare = refl; clients = refl; instances = refl; fewer = omega arith; room = refl });
  counted = omega arith;
}

next_of_link : (x : Option Spot) (p : Link) → link_of x ≡ Some p → next_in x ≡ p.next
next_of_link None p is = absurd cc
next_of_link (Some q) p is = by q.placement is
  where
    by : (pl : Placement) → link_by pl q.next q.prev ≡ Some p → q.next ≡ p.next
    by (Root w) e = ap (λ (x : Link). x.next) (same_some e)
    by (Hung parent place) e = absurd cc

loans_of_row : (spots : Spots) (n : ℕ) → loans_in (at spots n) ≡ loans_at (rows_in spots) n
loans_of_row spots n = sym (ap (λ (x : Option HeapRow). option_map_or (λ r. r.loans) x 0) (row_at_is spots n) ∙ by (at spots n))
  where
    by : (x : Option Spot) → option_map_or (λ r. r.loans) (row_at x) 0 ≡ loans_in x
    by None = refl
    by (Some p) = refl

loans_marked : (os : List ℕ) (rows : HeapRows) (n : ℕ) → loans_at (map (mark_row os) rows) n ≡ loans_at rows n
loans_marked os rows n = ap (λ (x : Option HeapRow). option_map_or (λ r. r.loans) x 0) (row_of_map (mark_row os) refl rows n) ∙ by (row_of rows n)
  where
    by : (x : Option HeapRow) → option_map_or (λ r. r.loans) (mark_row os x) 0 ≡ option_map_or (λ r. r.loans) x 0
    by None = refl
    by (Some r) = refl

module _ (s z : Store) (w : Owner) (o start taken : ℕ) (h : IsStore s) (k : Walk s z w o start taken) where
  -- so many roots are still ahead
  owners_root : (n : ℕ) → RootOf s.places.spots w n → has (roots_of (rows_in s.places.spots) w) n ≡ true
  owners_root zero r = absurd (let x : None ≡ Some r.link = r.is in cc)
  owners_root (suc j) r = has_given (root_number w) (rows_in s.places.spots) j (suc j) (ap (root_number w) (row_at_is s.places.spots (suc j)) ∙ by (at s.places.spots (suc j)) refl) refl
    where
      of_link : (pl : Placement) (next prev : ℕ) → link_by pl next prev ≡ Some r.link → is_root_of w pl ≡ true
      of_link (Root u) next prev e = ap (λ (v : Owner). same_owner v w) (ap (λ (x : Link). x.owner) (same_some e) ∙ r.of) ∙ same_self w
      of_link (Hung parent place) next prev e = absurd cc

      by : (x : Option Spot) → at s.places.spots (suc j) ≡ x → root_number w (row_at x) ≡ Some (suc j)
      by None e = absurd (let y : None ≡ Some r.link = sym (ap link_of e) ∙ r.is in cc)
      by (Some p) e = rw (of_link p.placement p.next p.prev (sym (ap link_of e) ∙ r.is)) (ap (λ (n : ℕ). Some n) (h.numbered (suc j) p e))

  pub few_seen : length k.seen ≤ length (roots_of (rows_in s.places.spots) w)
  few_seen = no_more k.seen (roots_of (rows_in s.places.spots) w) k.once (λ n e. owners_root n (k.roots n e))

  pub more_ahead : 0 < o → length k.seen < length (roots_of (rows_in s.places.spots) w)
  more_ahead pos =
      let a = k.ahead pos in
      let le = no_more (o ∷ k.seen) (roots_of (rows_in s.places.spots) w) (a.fresh, k.once) (λ n e. elim (cases_eq o n) [
        | inl same ↦ subst (λ (m : ℕ). has (roots_of (rows_in s.places.spots) w) m ≡ true) same (owners_root o a.root)
        | inr ne ↦ owners_root n (k.roots n (has_rest o k.seen n ne e))
      ]) in
      omega arith

  -- what a look at the next one tells
  pub ahead_loans : loans_in (at z.places.spots o) ≡ loans_at (rows_in s.places.spots) o
  ahead_loans = loans_of_row z.places.spots o ∙ (ap (λ (rows : HeapRows). loans_at rows o) k.becomes.seen ∙ loans_marked k.listed (rows_in s.places.spots) o)

  pub ahead_root : 0 < o → is_some (links_in z.places.spots o) ≡ true
  ahead_root pos = ap (λ (x : Option Link). is_some x) (k.links o ∙ (k.ahead pos).root.is)

  module _ (pos : 0 < o) (next : ℕ) (next_is : next ≡ next_in (at z.places.spots o)) where
    abbrev p : Link
    p = (k.ahead pos).root.link

    to_next : next ≡ p.next
    to_next = next_is ∙ next_of_link (at z.places.spots o) p (k.links o ∙ (k.ahead pos).root.is)

    roots_next : (n : ℕ) → has (o ∷ k.seen) n ≡ true → RootOf s.places.spots w n
    roots_next n e = elim (cases_eq o n) [
      | inl same ↦ subst (λ (m : ℕ). RootOf s.places.spots w m) same (k.ahead pos).root
      | inr ne ↦ k.roots n (has_rest o k.seen n ne e)
    ]

    mine : (q : Link) → links_in s.places.spots o ≡ Some q → q ≡ p
    mine q is = same_some (sym is ∙ (k.ahead pos).root.is)

    ahead_of : 0 < next → Ahead s.places.spots w (o ∷ k.seen) next
    ahead_of pos_next =
        let a = k.ahead pos in
        let linked = h.links.roots o p a.root.is (λ e. omega arith) in
        let x = linked.next (let t = to_next in omega arith) in
        let x_is : links_in s.places.spots next ≡ Some x.link = ap (links_in s.places.spots) to_next ∙ x.is in
        let back : x.link.prev ≡ o = x.back in
        record {
          root = record { link = x.link; is = x_is; of = x.of ∙ a.root.of };
          fresh = elim (cases_Bool (has (o ∷ k.seen) next)) [
            | inr e ↦ e
            | inl e ↦ absurd (elim (cases_eq o next) [
              | inl same ↦ (
                  let x_p : x.link ≡ p = mine x.link (ap (links_in s.places.spots) same ∙ x_is) in
                  let p_prev : p.prev ≡ o = sym (ap (λ (y : Link). y.prev) x_p) ∙ back in
                  both_ways (has k.seen o) a.fresh (ap (has k.seen) (sym p_prev) ∙ a.behind p a.root.is (omega arith)))
              | inr ne ↦ both_ways (has k.seen o) a.fresh (ap (has k.seen) (sym back) ∙ k.back next x.link (has_rest o k.seen next ne e) x_is (omega arith))
            ])
          ];
          behind = λ q is pos'. (
              let same : q ≡ x.link = same_some (sym is ∙ x_is) in
              let q_prev : q.prev ≡ o = ap (λ (y : Link). y.prev) same ∙ back in
              ap (has (o ∷ k.seen)) q_prev ∙ in_head o k.seen);
        }

    forth_next : (n : ℕ) (q : Link) → has (o ∷ k.seen) n ≡ true → links_in s.places.spots n ≡ Some q → (q.next ≡ next → ⊥) → has (o ∷ k.seen) q.next ≡ true
    forth_next n q e is ne = elim (cases_eq o n) [
      | inl same ↦ absurd (ne (ap (λ (y : Link). y.next) (mine q (ap (links_in s.places.spots) same ∙ is)) ∙ sym to_next))
      | inr other ↦ elim (cases_eq q.next o) [
        | inl here ↦ ap (has (o ∷ k.seen)) here ∙ in_head o k.seen
        | inr there ↦ in_tail o k.seen q.next (k.forth n q (has_rest o k.seen n other e) is there)
      ]
    ]

    back_next : (n : ℕ) (q : Link) → has (o ∷ k.seen) n ≡ true → links_in s.places.spots n ≡ Some q → 0 < q.prev → has (o ∷ k.seen) q.prev ≡ true
    back_next n q e is some = in_tail o k.seen q.prev (elim (cases_eq o n) [
      | inl same ↦ (k.ahead pos).behind q (ap (links_in s.places.spots) same ∙ is) some
      | inr other ↦ k.back n q (has_rest o k.seen n other e) is some
    ])

    first_next : has (o ∷ k.seen) (first_in s.firsts w) ≡ true
    first_next = elim (cases_eq (first_in s.firsts w) o) [
      | inl here ↦ ap (has (o ∷ k.seen)) here ∙ in_head o k.seen
      | inr there ↦ in_tail o k.seen (first_in s.firsts w) (k.first there)
    ]

    -- a root that is lent stays
    pub walk_passes : (loans taken' : ℕ) → loans ≡ loans_in (at z.places.spots o) → 0 < loans → taken' ≡ taken + 1 → Walk s z w next start taken'
    walk_passes loans taken' loans_is lent more = record {
      seen = o ∷ k.seen;
      listed = k.listed;
      once = ((k.ahead pos).fresh, k.once);
      roots = roots_next;
      ahead = ahead_of;
      forth = forth_next;
      back = back_next;
      first = λ ne. first_next;
      unlent = λ n. k.unlent n ∙ elim (cases_eq o n) [
        | inr ne ↦ rw (unequal o n ne) refl
        | inl same ↦ (
            let lent_there : loans ≡ loans_at (rows_in s.places.spots) n = loans_is ∙ (ahead_loans ∙ ap (loans_at (rows_in s.places.spots)) same) in
            let lent_not : (loans_at (rows_in s.places.spots) n == 0) ≡ false = unequal _ 0 (λ e. omega arith) in
            rw lent_not (none_and (has k.seen n) ∙ sym (none_and (has (o ∷ k.seen) n))))
      ];
      links = k.links;
      becomes = k.becomes;
      counted = (let c = k.counted in omega arith);
    }

    -- one that isn't lent is listed
    pub walk_lists : (loans taken' : ℕ) (y : Store) → loans ≡ loans_in (at z.places.spots o) → loans ≡ 0 → taken' ≡ taken + 1 → Becomes z y (map (with_leaving o) (rows_in z.places.spots)) → ((n : ℕ) → links_in y.places.spots n ≡ links_in z.places.spots n) → Walk s y w next start taken'
    walk_lists loans taken' y loans_is free more b same_links = record {
      seen = o ∷ k.seen;
      listed = o ∷ k.listed;
      once = ((k.ahead pos).fresh, k.once);
      roots = roots_next;
      ahead = ahead_of;
      forth = forth_next;
      back = back_next;
      first = λ ne. first_next;
      unlent = λ n. elim (cases_eq o n) [
        | inr ne ↦ rw (unequal o n ne) (k.unlent n)
        | inl same ↦ (
            let free_there : loans_at (rows_in s.places.spots) n ≡ 0 = sym (loans_is ∙ (ahead_loans ∙ ap (loans_at (rows_in s.places.spots)) same)) ∙ free in
            rw (eq-eqb o n same, eq-eqb _ 0 free_there) refl)
      ];
      links = λ n. same_links n ∙ k.links n;
      becomes = becomes_then s z y (map (mark_row k.listed) (rows_in s.places.spots)) (map (mark_row (o ∷ k.listed)) (rows_in s.places.spots)) k.becomes
          (subst (λ (rows : HeapRows). Becomes z y rows) (ap (map (with_leaving o)) k.becomes.seen ∙ mark_more o k.listed (rows_in s.places.spots)) b);
      counted = (let c = k.counted in omega arith);
    }

  -- The walk is over: it has seen all of the owner's roots.
  module _ (over : o ≡ 0) where
    unseen_none : (n : ℕ) → links_in s.places.spots n ≡ None → has k.seen n ≡ false
    unseen_none n none = elim (cases_Bool (has k.seen n)) [
      | inr e ↦ e
      | inl e ↦ absurd (let r = k.roots n e in let x : None ≡ Some r.link = sym none ∙ r.is in cc)
    ]

    some_at : (n : ℕ) (p : Link) → links_in s.places.spots n ≡ Some p → n ≡ 0 → ⊥
    some_at n p is e = let x : None ≡ Some p = sym (ap (links_in s.places.spots) e) ∙ is in cc

    seen_first : (n : ℕ) → (n ≡ 0 → ⊥) → first_in s.firsts w ≡ n → has k.seen n ≡ true
    seen_first n some is = subst (λ (m : ℕ). has k.seen m ≡ true) is (k.first (λ e. some (sym is ∙ (e ∙ over))))

    reach : (fuel n : ℕ) (p : Link) → links_in s.places.spots n ≡ Some p → p.owner ≡ w → h.links.top ≤ h.links.stamp n + fuel → has k.seen n ≡ true
    reach zero n p is of le = absurd (let low = (h.links.roots n p is (some_at n p is)).low in omega arith)
    reach (suc fuel) n p is of le =
        let some : n ≡ 0 → ⊥ = some_at n p is in
        let l = h.links.roots n p is some in
        elim (cases_eq p.prev 0) [
          | inl none ↦ seen_first n some (ap (first_in s.firsts) (sym of) ∙ l.first none)
          | inr ne ↦ (
              let b = l.prev (omega arith) in
              let forth : b.link.next ≡ n = b.forth in
              let m = (h.links.roots p.prev b.link b.is (some_at p.prev b.link b.is)).next (omega arith) in
              let lower : h.links.stamp n < h.links.stamp p.prev = subst (λ (j : ℕ). h.links.stamp j < h.links.stamp p.prev) forth m.lower in
              let before = reach fuel p.prev b.link b.is (b.of ∙ of) (omega arith) in
              subst (λ (j : ℕ). has k.seen j ≡ true) forth (k.forth p.prev b.link before b.is (λ e. some (sym forth ∙ (e ∙ over)))))
        ]

    seen_all : (n : ℕ) (p : Link) → links_in s.places.spots n ≡ Some p → has k.seen n ≡ same_owner p.owner w
    seen_all n p is = elim (cases_Bool (same_owner p.owner w)) [
      | inl e ↦ reach h.links.top n p is (same_is p.owner w e) (omega arith) ∙ sym e
      | inr e ↦ elim (cases_Bool (has k.seen n)) [
        | inr out ↦ out ∙ sym e
        | inl in_it ↦ absurd (
            let r = k.roots n in_it in
            let same : p.owner ≡ w = ap (λ (x : Link). x.owner) (same_some (sym is ∙ r.is)) ∙ r.of in
            both_ways (same_owner p.owner w) e (ap (λ (u : Owner). same_owner u w) same ∙ same_self w))
      ]
    ]

    -- what is listed is what the owner leaves
    left_spot : (n : ℕ) (q : Spot) → at s.places.spots n ≡ Some q → (pl : Placement) → q.placement ≡ pl → (has k.seen n && (q.loans == 0)) ≡ is_left_root w q.loans pl
    left_spot n q is (Root u) e = ap (λ (b : Bool). b && (q.loans == 0)) (seen_all n (record { owner = u; next = q.next; prev = q.prev }) (ap link_of is ∙ ap (λ (x : Placement). link_by x q.next q.prev) e))
    left_spot n q is (Hung parent place) e = ap (λ (b : Bool). b && (q.loans == 0)) (unseen_none n (ap link_of is ∙ ap (λ (x : Placement). link_by x q.next q.prev) e))

    listed_left : (n : ℕ) → has k.listed n ≡ is_left_row w (row_of (rows_in s.places.spots) n)
    listed_left n = k.unlent n ∙ by (at s.places.spots n) refl
      where
        by : (x : Option Spot) → at s.places.spots n ≡ x → (has k.seen n && (loans_at (rows_in s.places.spots) n == 0)) ≡ is_left_row w (row_of (rows_in s.places.spots) n)
        by None e =
            let out = unseen_none n (ap link_of e) in
            ap (λ (b : Bool). b && (loans_at (rows_in s.places.spots) n == 0)) out ∙ sym (ap (is_left_row w) (row_at_is s.places.spots n ∙ ap row_at e))
        by (Some q) e =
            let row : row_of (rows_in s.places.spots) n ≡ Some (row_of_spot q) = row_at_is s.places.spots n ∙ ap row_at e in
            ap (λ (x : Option HeapRow). has k.seen n && (option_map_or (λ r. r.loans) x 0 == 0)) row ∙ (left_spot n q e q.placement refl ∙ sym (ap (is_left_row w) row))

    any_root : (os : List ℕ) (x : Object) (u : Owner) → x.placement ≡ Root u → below_any os x ≡ has os x.number
    any_root [] x u e = refl
    any_root (a ∷ os) x u e =
        ap (λ (b : Bool). is_below a x || b) (any_root os x u e)
        ∙ (ap (λ (pl : Placement). ((x.number == a) || hangs_below a pl) || has os x.number) e ∙ by_number x.number a os)

    any_hung : (os : List ℕ) (x : Object) (parent place : ℕ) → x.placement ≡ Hung parent place → has os x.number ≡ false → below_any os x ≡ has os parent
    any_hung [] x parent place e out = refl
    any_hung (a ∷ os) x parent place e out =
        let r = not_head a os x.number out in
        let ne : (x.number == a) ≡ false = unequal x.number a (λ same. r.0 (sym same)) in
        ap (λ (b : Bool). is_below a x || b) (any_hung os x parent place e r.1)
        ∙ (ap (λ (pl : Placement). ((x.number == a) || hangs_below a pl) || has os parent) e
        ∙ (ap (λ (b : Bool). (b || (parent == a)) || has os parent) ne ∙ swap_number parent a os))

    row_left : (n : ℕ) (r : HeapRow) → row_of (rows_in s.places.spots) n ≡ Some r → (pl : Placement) → r.object.placement ≡ pl → below_any k.listed r.object ≡ is_left_at (rows_in s.places.spots) w r.loans pl
    row_left n r is (Root u) e =
        let q = spot_at s.places.spots n r is in
        let number : r.object.number ≡ n = ap (λ (x : HeapRow). x.object.number) q.row ∙ h.numbered n q.spot q.is in
        any_root k.listed r.object u e ∙ (ap (has k.listed) number ∙ (listed_left n ∙ (ap (is_left_row w) is ∙ ap (is_left_root w r.loans) e)))
    row_left n r is (Hung parent place) e =
        let q = spot_at s.places.spots n r is in
        let number : r.object.number ≡ n = ap (λ (x : HeapRow). x.object.number) q.row ∙ h.numbered n q.spot q.is in
        let out : has k.listed r.object.number ≡ false = ap (has k.listed) number ∙ (listed_left n ∙ (ap (is_left_row w) is ∙ ap (is_left_root w r.loans) e)) in
        any_hung k.listed r.object parent place e out ∙ listed_left parent

    rows_over : map (mark_row k.listed) (rows_in s.places.spots) ≡ listed_rows (rows_in s.places.spots) w
    rows_over = map_alike (mark_row k.listed) (listed_row (rows_in s.places.spots) w) (rows_in s.places.spots) refl
        (λ j r is. ap (λ (b : Bool). Some (record r { leaves = b || r.leaves })) (row_left (suc j) r is r.object.placement refl))

    pub walk_over : Becomes s z (listed_rows (rows_in s.places.spots) w)
    walk_over = subst (λ (rows : HeapRows). Becomes s z rows) rows_over k.becomes
