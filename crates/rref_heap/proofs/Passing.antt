-- A store in which a root has been linked, or linked no more.
use Rattle.std.proofs.Common.{◌≡◌, ℕ, zero, suc, ◌+◌, ◌<◌, ◌≤◌, ◌==◌, cond, Bool, true, false, if◌then◌else◌, List, length, map, Option, Some, None, ◌++◌, take, drop, length-append, length-drop, refl, sym, ap, ◌∙◌, subst, arith, inl, inr}
use Rattle.std.proofs.lemmas.Bool.{cases_eq, cases_Bool}
use Rattle.std.proofs.lemmas.List.{length-set, length-take}
use Rattle.machine_defs.specs.declared.values.Owner.{Owner}
use Rattle.machine_defs.specs.declared.values.Owner.TheVariants as owner
use Rattle.machine_defs.specs.State.{Placement, Root, Hung}
use Rattle.machine_defs.specs.Objects.{owned_by, overwritten}
use Rattle.std.proofs.Math.ListN.{get_or-map}
use Rattle.std.specs.Prelude.{is_some}
use Rattle.std.specs.Option.{option_map_or}
use Rattle.machine_defs.specs.Objects.{cells_in}
use Rattle.rref_heap.specs.HeapValue.{HeapRow, HeapRows, HeapValue, row_of, root_owner, owner_in, owner_at, MayOwn, loans_at, cells_at, object_in}
use Rattle.std.specs.Prelude.{slice_index_or}
use Rattle.rref_heap.specs.Changing.{on_row, on_object, leaving_if}
use Rattle.rref_heap.specs.Spots.{Spot, Spots, at, Numbered, on_spot, row_of_spot, row_at, rows_in, to_next, to_prev, to_owner}
use Rattle.rref_heap.specs.Links.{FirstRows, first_in, HasFirst, with_first, first_after, Link, LinksBut, Links, link_by, link_of, links_in}
use Rattle.rref_heap.specs.declared.store.Store.{Store}
use Rattle.rref_heap.specs.declared.heap.Ready.{Ready}
use Rattle.rref_heap.specs.Store.{cell_of, nest_of, nests_in, IsStore, Becomes, RoomsFor, room_in, without_links, linked_first, with_spots}
use Rattle.rref_heap.proofs.Spots.{same_some, unequal, at_map, at_on, here_on, at_within}
use Rattle.rref_heap.proofs.Links.{if_link, around, before, unlinked, joined, same_links, has_after}
use Rattle.rref_heap.proofs.Quiet.{Quiet, quiet_then, quiet_on, each_on, rows_on, rows_same, same_nested, same_listing}

next_by : (pl : Placement) (m next prev : ℕ) → link_by pl m prev ≡ if_link (λ l. record l { next = m }) (link_by pl next prev)
next_by (Root w) m next prev = refl
next_by (Hung parent place) m next prev = refl

prev_by : (pl : Placement) (m next prev : ℕ) → link_by pl next m ≡ if_link (λ l. record l { prev = m }) (link_by pl next prev)
prev_by (Root w) m next prev = refl
prev_by (Hung parent place) m next prev = refl

same_by : (x : Option Link) → x ≡ if_link (λ l. l) x
same_by None = refl
same_by (Some l) = refl

next_case : (b c : Bool) (m : ℕ) (q : Spot) → b ≡ c → link_of (Some (if b then to_next m q else q)) ≡ if_link (λ l. record l { next = cond c m l.next }) (link_of (Some q))
next_case true true m q e = next_by q.placement m q.next q.prev
next_case false false m q e = same_by (link_by q.placement q.next q.prev)
next_case true false m q e = absurd cc
next_case false true m q e = absurd cc

prev_case : (b c : Bool) (m : ℕ) (q : Spot) → b ≡ c → link_of (Some (if b then to_prev m q else q)) ≡ if_link (λ l. record l { prev = cond c m l.prev }) (link_of (Some q))
prev_case true true m q e = prev_by q.placement m q.next q.prev
prev_case false false m q e = same_by (link_by q.placement q.next q.prev)
prev_case true false m q e = absurd cc
prev_case false true m q e = absurd cc

abbrev pub with_next : ℕ → ℕ → ℕ → Link → Link
with_next k m n l = record l { next = cond (n == k) m l.next }

abbrev pub with_prev : ℕ → ℕ → ℕ → Link → Link
with_prev k m n l = record l { prev = cond (n == k) m l.prev }

-- the links where a spot has another next, or another before it
pub links_next : (k m : ℕ) (spots : Spots) → Numbered spots → (n : ℕ) → links_in (map (on_spot k (to_next m)) spots) n ≡ if_link (with_next k m n) (links_in spots n)
links_next k m spots numbered n = ap link_of (at_map (on_spot k (to_next m)) refl spots n) ∙ go (at spots n) refl
  where
    go : (x : Option Spot) → at spots n ≡ x → link_of (on_spot k (to_next m) (at spots n)) ≡ if_link (with_next k m n) (links_in spots n)
    go None is = rw is refl
    go (Some q) is = rw is (next_case (q.number == k) (n == k) m q (ap (λ j. j == k) (numbered n q is)))

pub links_prev : (k m : ℕ) (spots : Spots) → Numbered spots → (n : ℕ) → links_in (map (on_spot k (to_prev m)) spots) n ≡ if_link (with_prev k m n) (links_in spots n)
links_prev k m spots numbered n = ap link_of (at_map (on_spot k (to_prev m)) refl spots n) ∙ go (at spots n) refl
  where
    go : (x : Option Spot) → at spots n ≡ x → link_of (on_spot k (to_prev m) (at spots n)) ≡ if_link (with_prev k m n) (links_in spots n)
    go None is = rw is refl
    go (Some q) is = rw is (prev_case (q.number == k) (n == k) m q (ap (λ j. j == k) (numbered n q is)))

both : (f g h : Link → Link) → ((l : Link) → g (f l) ≡ h l) → (x : Option Link) → if_link g (if_link f x) ≡ if_link h x
both f g h same None = refl
both f g h same (Some l) = ap Some (same l)

pub quiet_next : (k m : ℕ) (spots : Spots) → Numbered spots → Quiet spots (map (on_spot k (to_next m)) spots)
quiet_next k m spots numbered = quiet_on k (to_next m) spots numbered (λ q. refl) (λ q is. refl)

pub quiet_prev : (k m : ℕ) (spots : Spots) → Numbered spots → Quiet spots (map (on_spot k (to_prev m)) spots)
quiet_prev k m spots numbered = quiet_on k (to_prev m) spots numbered (λ q. refl) (λ q is. refl)

-- the spots where o's neighbors lead to one another
abbrev pub apart : Link → Spots → Spots
apart p spots = map (on_spot p.next (to_prev p.prev)) (map (on_spot p.prev (to_next p.next)) spots)

pub quiet_apart : (p : Link) (spots : Spots) → Numbered spots → Quiet spots (apart p spots)
quiet_apart p spots numbered =
    let a = quiet_next p.prev p.next spots numbered in
    quiet_then _ _ _ a (quiet_prev p.next p.prev _ a.numbered)

pub apart_each : (p : Link) (spots : Spots) → Numbered spots → (n : ℕ) → links_in (apart p spots) n ≡ if_link (around p n) (links_in spots n)
apart_each p spots numbered n =
    let a = quiet_next p.prev p.next spots numbered in
    links_prev p.next p.prev _ a.numbered n ∙ (ap (if_link (with_prev p.next p.prev n)) (links_next p.prev p.next spots numbered n) ∙ both (with_next p.prev p.next n) (with_prev p.next p.prev n) (around p n) (λ l. refl) (links_in spots n))

pub rows_apart : (p : Link) (spots : Spots) → rows_in (apart p spots) ≡ rows_in spots
rows_apart p spots = rows_same p.next (to_prev p.prev) _ (λ q. refl) ∙ rows_same p.prev (to_next p.next) spots (λ q. refl)

pub out_of_links : (spots : Spots) (f : FirstRows) (o : ℕ) (p : Link) → Numbered spots → Links spots f → links_in spots o ≡ Some p → LinksBut (links_in (apart p spots)) (first_after f p.owner p.prev p.next) o
out_of_links spots f o p numbered l is = unlinked (links_in spots) (links_in (apart p spots)) f o p l is (apart_each p spots numbered)

-- the spots where o stands in front of an owner's roots
abbrev pub fronted : Spots → FirstRows → ℕ → Owner → Spots
fronted spots f o w = map (on_spot (first_in f w) (to_prev o)) (map (on_spot o (to_owner w (first_in f w))) spots)

pub root_cell : (pl : Placement) (next prev : ℕ) (p : Link) → link_by pl next prev ≡ Some p → cell_of pl ≡ None
root_cell (Root w) next prev p is = refl
root_cell (Hung parent place) next prev p is = absurd cc

module _ (spots : Spots) (f : FirstRows) (o : ℕ) (w : Owner) (numbered : Numbered spots) (l : LinksBut (links_in spots) f o) (has : HasFirst f w) (q : Spot) (there : at spots o ≡ Some q) where
  abbrev owned : Spots
  owned = map (on_spot o (to_owner w (first_in f w))) spots

  numbered_owned : Numbered owned
  numbered_owned n r is = go (at spots n) refl
    where
      go : (x : Option Spot) → at spots n ≡ x → r.number ≡ n
      go None was = absurd (let x : None ≡ Some r = sym (at_map (on_spot o (to_owner w (first_in f w))) refl spots n ∙ ap (on_spot o (to_owner w (first_in f w))) was) ∙ is in cc)
      go (Some p) was = elim (cases_Bool (p.number == o)) [
        | inl e ↦ (let x : on_spot o (to_owner w (first_in f w)) (Some p) ≡ Some (to_owner w (first_in f w) p) = rw e refl in let y : to_owner w (first_in f w) p ≡ r = same_some (sym x ∙ (sym (at_map (on_spot o (to_owner w (first_in f w))) refl spots n ∙ ap (on_spot o (to_owner w (first_in f w))) was) ∙ is)) in sym (ap (λ (s : Spot). s.number) y) ∙ numbered n p was)
        | inr e ↦ (let x : on_spot o (to_owner w (first_in f w)) (Some p) ≡ Some p = rw e refl in let y : p ≡ r = same_some (sym x ∙ (sym (at_map (on_spot o (to_owner w (first_in f w))) refl spots n ∙ ap (on_spot o (to_owner w (first_in f w))) was) ∙ is)) in sym (ap (λ (s : Spot). s.number) y) ∙ numbered n p was)
      ]

  some : 0 < o
  some = (at_within spots o q there).0

  off : o ≡ first_in f w → ⊥
  off e = elim (cases_eq (first_in f w) 0) [
    | inl none ↦ (let s = some in omega arith)
    | inr pos ↦ (l.heads w (omega arith)).other (sym e)
  ]

  links_owned : (n : ℕ) → (n ≡ o → ⊥) → links_in owned n ≡ links_in spots n
  links_owned n ne = ap link_of (at_map (on_spot o (to_owner w (first_in f w))) refl spots n ∙ at_on o (to_owner w (first_in f w)) spots numbered n ne)

  link_here : links_in (fronted spots f o w) o ≡ Some (record { owner = w; next = first_in f w; prev = 0 })
  link_here =
      let a : links_in owned o ≡ Some (record { owner = w; next = first_in f w; prev = 0 }) = ap link_of (at_map (on_spot o (to_owner w (first_in f w))) refl spots o ∙ here_on o (to_owner w (first_in f w)) spots numbered q there) in
      links_prev (first_in f w) o owned numbered_owned o ∙ (ap (if_link (with_prev (first_in f w) o o)) a ∙ (rw (unequal o (first_in f w) off) refl))

  pub in_links : LinksBut (links_in (fronted spots f o w)) (with_first f w o) 0
  in_links = joined (links_in spots) (links_in (fronted spots f o w)) f o w l has some link_here
      (λ n ne. links_prev (first_in f w) o owned numbered_owned n ∙ ap (if_link (before o (first_in f w) n)) (links_owned n ne))

  pub quiet_fronted : cell_of q.placement ≡ None → Quiet spots (fronted spots f o w)
  quiet_fronted root =
      let a = quiet_on o (to_owner w (first_in f w)) spots numbered (λ p. refl) (λ p is. (let e : q ≡ p = same_some (sym there ∙ is) in let c : cell_of p.placement ≡ None = ap (λ (x : Spot). cell_of x.placement) (sym e) ∙ root in rw c refl)) in
      quiet_then _ _ _ a (quiet_prev (first_in f w) o _ a.numbered)

pub rows_fronted : (spots : Spots) (f : FirstRows) (o : ℕ) (w : Owner) → rows_in (fronted spots f o w) ≡ map (on_object o (owned_by w)) (rows_in spots)
rows_fronted spots f o w = rows_same (first_in f w) (to_prev o) _ (λ q. refl) ∙ rows_on o (to_owner w (first_in f w)) _ spots (λ q e. refl)

-- the rows of owners stay as many
pub record SameWidths (f g : FirstRows) : Type 0 where
  pub clients : length g.clients ≡ length f.clients
  pub instances : length g.instances ≡ length f.instances

pub widths_set : (f : FirstRows) (w : Owner) (n : ℕ) → SameWidths f (with_first f w n)
widths_set f (owner.Client c) n = record { clients = length-set f.clients c n; instances = refl }
widths_set f (owner.Instance i) n = record { clients = refl; instances = length-set f.instances i n }

pub widths_after : (f : FirstRows) (w : Owner) (prev n : ℕ) → SameWidths f (first_after f w prev n)
widths_after f w zero n = widths_set f w n
widths_after f w (suc prev) n = record { clients = refl; instances = refl }

root_spot : (x : Option Spot) (p : Link) → link_of x ≡ Some p → (q : Spot) × (x ≡ Some q) × (cell_of q.placement ≡ None)
root_spot None p is = absurd cc
root_spot (Some q) p is = (q, refl, root_cell q.placement q.next q.prev p is)

-- a root has another owner
pub passed : (s : Store) (o : ℕ) (p : Link) (w : Owner) → IsStore s → links_in s.places.spots o ≡ Some p → HasFirst s.firsts w
    → Becomes s (linked_first (without_links s p.owner p.prev p.next) o w) (map (on_object o (owned_by w)) (rows_in s.places.spots))
passed s o p w h is has =
    let f1 : FirstRows = first_after s.firsts p.owner p.prev p.next in
    let qa = quiet_apart p s.places.spots h.numbered in
    let l1 = out_of_links s.places.spots s.firsts o p h.numbered h.links is in
    let has1 : HasFirst f1 w = has_after s.firsts p.owner w p.prev p.next has in
    let at_o : links_in (apart p s.places.spots) o ≡ Some (around p o p) = apart_each p s.places.spots h.numbered o ∙ ap (if_link (around p o)) is in
    let r = root_spot (at (apart p s.places.spots) o) (around p o p) at_o in
    let qf = quiet_fronted (apart p s.places.spots) f1 o w qa.numbered l1 has1 r.0 r.1 r.2 in
    let quiet = quiet_then _ _ _ qa qf in
    let wa = widths_after s.firsts p.owner p.prev p.next in
    let wb = widths_set f1 w o in
    let len = quiet.len in
    record {
      store = record {
        numbered = quiet.numbered;
        links = in_links (apart p s.places.spots) f1 o w qa.numbered l1 has1 r.0 r.1;
        nested = same_nested (nests_in s.places.spots) _ (length s.places.spots) _ quiet.nests (omega arith) h.nested;
        listed = same_listing (nests_in s.places.spots) _ s.listing.numbers quiet.nests h.listed;
        count = h.count ∙ sym quiet.count;
        room = h.room;
      };
      seen = rows_fronted (apart p s.places.spots) f1 o w ∙ ap (map (on_object o (owned_by w))) (rows_apart p s.places.spots);
      spare = refl;
      clients = wb.clients ∙ wa.clients;
      instances = wb.instances ∙ wa.instances;
      fewer = omega arith;
      room = refl;
    }

-- one spot has changed, and neither links nor hanging
pub changed : (s : Store) (k : ℕ) (f : Spot → Spot) (g : HeapRow → HeapRow) → IsStore s → ((q : Spot) → (f q).number ≡ q.number) → ((q : Spot) → at s.places.spots k ≡ Some q → nest_of (f q) ≡ nest_of q) → ((q : Spot) → link_of (Some (f q)) ≡ link_of (Some q))
    → ((q : Spot) → row_of_spot (f q) ≡ g (row_of_spot q)) → Becomes s (with_spots s (map (on_spot k f) s.places.spots)) (map (on_row k g) (rows_in s.places.spots))
changed s k f g h number nest link row =
    let quiet = quiet_on k f s.places.spots h.numbered number nest in
    let len = quiet.len in
    record {
      store = record {
        numbered = quiet.numbered;
        links = same_links (links_in s.places.spots) _ s.firsts 0 (each_on link_of k f s.places.spots h.numbered (λ q is. link q)) h.links;
        nested = same_nested (nests_in s.places.spots) _ (length s.places.spots) _ quiet.nests (omega arith) h.nested;
        listed = same_listing (nests_in s.places.spots) _ s.listing.numbers quiet.nests h.listed;
        count = h.count ∙ sym quiet.count;
        room = h.room;
      };
      seen = rows_on k f g s.places.spots (λ q e. row q);
      spare = refl;
      clients = refl;
      instances = refl;
      fewer = omega arith;
      room = refl;
    }

-- what the heap keeps and what is seen of it
pub rooms : (ready : Option Ready) (s z : Store) (rows : HeapRows) → RoomsFor ready s → Becomes s z rows → RoomsFor ready z
rooms None s z rows r b = r
rooms (Some x) s z rows r b =
    let fewer = b.fewer in
    let room = b.room in
    let number = r.number in
    record { cells = r.cells; below = r.below; wide = r.wide; place = rw b.spare r.place; number = omega arith }

abbrev pub heap_seen : Store → Option Ready → HeapValue
heap_seen s ready = record { rows = rows_in s.places.spots; ready = room_in ready; clients = length s.firsts.clients; instances = length s.firsts.instances }

pub seen_as : (ready : Option Ready) (s z : Store) (rows : HeapRows) (v : HeapValue) → heap_seen s ready ≡ v → Becomes s z rows → heap_seen z ready ≡ record { rows = rows; ready = v.ready; clients = v.clients; instances = v.instances }
seen_as ready s z rows v is b = rw (← is) (rw (b.seen, b.clients, b.instances) refl)

pub has_of : (s : Store) (o : ℕ) (p : Link) → IsStore s → links_in s.places.spots o ≡ Some p → HasFirst s.firsts p.owner
has_of s o p h is = (h.links.roots o p is (λ e. (let x : None ≡ Some p = sym h.links.none ∙ (ap (links_in s.places.spots) (sym e) ∙ is) in cc))).has

-- what callers see of a root
pub row_at_is : (spots : Spots) (n : ℕ) → row_of (rows_in spots) n ≡ row_at (at spots n)
row_at_is spots zero = refl
row_at_is spots (suc k) = get_or-map row_at spots k None

pub root_link : (spots : Spots) (o : ℕ) → is_some (root_owner (rows_in spots) o) ≡ true → is_some (links_in spots o) ≡ true
root_link spots o root = go (at spots o) (subst (λ (x : Option HeapRow). is_some (owner_in x) ≡ true) (row_at_is spots o) root)
  where
    by : (pl : Placement) (next prev : ℕ) → is_some (owner_at pl) ≡ true → is_some (link_by pl next prev) ≡ true
    by (Root w) next prev e = refl
    by (Hung parent place) next prev e = absurd cc

    go : (x : Option Spot) → is_some (owner_in (row_at x)) ≡ true → is_some (link_of x) ≡ true
    go None e = absurd cc
    go (Some q) e = by q.placement q.next q.prev e

pub link_root : (spots : Spots) (o : ℕ) → is_some (links_in spots o) ≡ true → is_some (root_owner (rows_in spots) o) ≡ true
link_root spots o root = subst (λ (x : Option HeapRow). is_some (owner_in x) ≡ true) (sym (row_at_is spots o)) (go (at spots o) root)
  where
    by : (pl : Placement) (next prev : ℕ) → is_some (link_by pl next prev) ≡ true → is_some (owner_at pl) ≡ true
    by (Root w) next prev e = refl
    by (Hung parent place) next prev e = absurd cc

    go : (x : Option Spot) → is_some (link_of x) ≡ true → is_some (owner_in (row_at x)) ≡ true
    go None e = absurd cc
    go (Some q) e = by q.placement q.next q.prev e

pub may_own : (s : Store) (ready : Option Ready) (v : HeapValue) (w : Owner) → heap_seen s ready ≡ v → MayOwn v w → HasFirst s.firsts w
may_own s ready v (owner.Client c) is h = subst (λ (u : HeapValue). c < u.clients) (sym is) h
may_own s ready v (owner.Instance i) is h = subst (λ (u : HeapValue). i < u.instances) (sym is) h

-- a fact of a row that a caller has, said of its spot
pub loans_seen : (spots : Spots) (o : ℕ) (p : Spot) → at spots o ≡ Some p → loans_at (rows_in spots) o ≡ p.loans
loans_seen spots o p is = ap (λ (x : Option HeapRow). option_map_or (λ r. r.loans) x 0) (row_at_is spots o ∙ ap row_at is)

pub cells_seen : (spots : Spots) (o : ℕ) (p : Spot) → at spots o ≡ Some p → cells_at (rows_in spots) o ≡ p.cells
cells_seen spots o p is = ap (λ (x : Option HeapRow). cells_in (object_in x)) (row_at_is spots o ∙ ap row_at is)

pub becomes_then : (s z y : Store) (rows more : HeapRows) → Becomes s z rows → Becomes z y more → Becomes s y more
becomes_then s z y rows more a b =
    let fa = a.fewer in
    let fb = b.fewer in
    record { store = b.store; seen = b.seen; spare = b.spare ∙ a.spare; clients = b.clients ∙ a.clients; instances = b.instances ∙ a.instances; fewer = omega arith; room = b.room ∙ a.room }

pub root_seen : (s : Store) (ready : Option Ready) (v : HeapValue) (o : ℕ) → heap_seen s ready ≡ v → is_some (root_owner v.rows o) ≡ true → is_some (links_in s.places.spots o) ≡ true
root_seen s ready v o is root = root_link s.places.spots o (subst (λ (u : HeapValue). is_some (root_owner u.rows o) ≡ true) (sym is) root)

row_map : (g : Option HeapRow → Option HeapRow) → g None ≡ None → (rows : HeapRows) (n : ℕ) → row_of (map g rows) n ≡ g (row_of rows n)
row_map g none rows zero = sym none
row_map g none rows (suc k) = subst (λ (d : Option HeapRow). slice_index_or (map g rows) k d ≡ g (slice_index_or rows k None)) none (get_or-map g rows k None)

pub root_kept : (s z : Store) (ready : Option Ready) (v : HeapValue) (o : ℕ) (g : HeapRow → HeapRow) → heap_seen s ready ≡ v → ((r : HeapRow) → is_some (owner_at r.object.placement) ≡ true → is_some (owner_at (g r).object.placement) ≡ true)
    → is_some (root_owner v.rows o) ≡ true → Becomes s z (map (on_row o g) (rows_in s.places.spots)) → is_some (links_in z.places.spots o) ≡ true
root_kept s z ready v o g is keeps root b =
    let was : is_some (root_owner (rows_in s.places.spots) o) ≡ true = subst (λ (u : HeapValue). is_some (root_owner u.rows o) ≡ true) (sym is) root in
    root_link z.places.spots o (subst (λ (r : HeapRows). is_some (root_owner r o) ≡ true) (sym b.seen) (subst (λ (x : Option HeapRow). is_some (owner_in x) ≡ true) (sym (row_map (on_row o g) refl (rows_in s.places.spots) o)) (go (row_of (rows_in s.places.spots) o) was)))
  where
    by : (r : HeapRow) (b : Bool) → is_some (owner_at r.object.placement) ≡ true → is_some (owner_at (if b then g r else r).object.placement) ≡ true
    by r true e = keeps r e
    by r false e = e

    go : (x : Option HeapRow) → is_some (owner_in x) ≡ true → is_some (owner_in (on_row o g x)) ≡ true
    go None e = absurd cc
    go (Some r) e = by r (r.object.number == o) e

pub then_listed : (s z y : Store) (b : Bool) (o : ℕ) (rows : HeapRows) → Becomes s z rows → Becomes z y (leaving_if b o (rows_in z.places.spots)) → Becomes s y (leaving_if b o rows)
then_listed s z y b o rows p q = becomes_then s z y rows (leaving_if b o rows) p (subst (λ (r : HeapRows). Becomes z y (leaving_if b o r)) p.seen q)

pub spot_there : (s : Store) (ready : Option Ready) (v : HeapValue) (o : ℕ) → heap_seen s ready ≡ v → is_some (root_owner v.rows o) ≡ true → (p : Spot) × (at s.places.spots o ≡ Some p)
spot_there s ready v o is root = go (at s.places.spots o) (root_seen s ready v o is root)
  where
    go : (x : Option Spot) → is_some (link_of x) ≡ true → (p : Spot) × (x ≡ Some p)
    go None e = absurd cc
    go (Some q) e = (q, refl)

pub over_length : (from : ℕ) (values cells : List ℕ) → from + length values ≤ length cells → length (overwritten from values cells) ≡ length cells
over_length from values cells le =
    let a = length-append (take from cells) (values ++ drop (from + length values) cells) in
    let b = length-append values (drop (from + length values) cells) in
    let d = length-drop (from + length values) cells in
    let t = length-take from cells in
    omega arith
