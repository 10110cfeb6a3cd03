-- The roots of each owner, linked to one another.
use Rattle.std.specs.Prelude.{◌≡◌, ℕ, zero, suc, ◌<◌, ◌++◌, List, length, Option, Some, None, replicate, slice_set}
use Rattle.std.specs.List.{slice_index_or}
use Rattle.machine_defs.specs.declared.values.Owner.{Owner}
use Rattle.machine_defs.specs.declared.values.Owner.TheVariants as owner
use Rattle.machine_defs.specs.State.{Placement, Root, Hung}
use Rattle.rref_heap.specs.Spots.{Spot, Spots, at}

-- the first root of each client and of each instance, by number, 0 where there is none
pub record FirstRows : Type 0 where
  pub clients : List ℕ
  pub instances : List ℕ

abbrev pub first_in : FirstRows → Owner → ℕ
first_in f (owner.Client c) = slice_index_or f.clients c 0
first_in f (owner.Instance i) = slice_index_or f.instances i 0

abbrev pub HasFirst : FirstRows → Owner → Type 0
HasFirst f (owner.Client c) = c < length f.clients
HasFirst f (owner.Instance i) = i < length f.instances

abbrev pub with_first : FirstRows → Owner → ℕ → FirstRows
with_first f (owner.Client c) n = record f { clients = slice_set f.clients c n }
with_first f (owner.Instance i) n = record f { instances = slice_set f.instances i n }

-- where a root of an owner was first, another is
abbrev pub first_after : FirstRows → Owner → ℕ → ℕ → FirstRows
first_after f w zero next = with_first f w next
first_after f w (suc prev) next = f

-- a root's owner, and the numbers of its neighbors, 0 for none
pub record Link : Type 0 where
  pub owner : Owner
  pub next : ℕ
  pub prev : ℕ

abbrev pub link_by : Placement → ℕ → ℕ → Option Link
link_by (Root w) next prev = Some (record { owner = w; next = next; prev = prev })
link_by (Hung parent place) next prev = None

abbrev pub link_of : Option Spot → Option Link
link_of None = None
link_of (Some p) = link_by p.placement p.next p.prev

abbrev pub links_in : Spots → ℕ → Option Link
links_in spots n = link_of (at spots n)

-- A root leads to the next of its owner, which was linked before it, as its stamp tells. None of
-- them is the one that is out of the links.
pub record NextOf (L : ℕ → Option Link) (stamp : ℕ → ℕ) (out n : ℕ) (p : Link) : Type 0 where
  pub link : Link
  pub is : L p.next ≡ Some link
  pub of : link.owner ≡ p.owner
  pub back : link.prev ≡ n
  pub lower : stamp p.next < stamp n
  pub other : p.next ≡ out → ⊥

-- and back
pub record PrevOf (L : ℕ → Option Link) (out n : ℕ) (p : Link) : Type 0 where
  pub link : Link
  pub is : L p.prev ≡ Some link
  pub of : link.owner ≡ p.owner
  pub forth : link.next ≡ n
  pub other : p.prev ≡ out → ⊥

-- the first root of an owner
pub record FirstOf (L : ℕ → Option Link) (out : ℕ) (w : Owner) (n : ℕ) : Type 0 where
  pub link : Link
  pub is : L n ≡ Some link
  pub of : link.owner ≡ w
  pub first : link.prev ≡ 0
  pub other : n ≡ out → ⊥

pub record Linked (L : ℕ → Option Link) (f : FirstRows) (stamp : ℕ → ℕ) (top out n : ℕ) (p : Link) : Type 0 where
  pub low : stamp n < top
  pub next : 0 < p.next → NextOf L stamp out n p
  pub prev : 0 < p.prev → PrevOf L out n p
  pub first : p.prev ≡ 0 → first_in f p.owner ≡ n
  pub has : HasFirst f p.owner

-- All roots are linked but for one, which is out of the links; 0 is none.
pub record LinksBut (L : ℕ → Option Link) (f : FirstRows) (out : ℕ) : Type 0 where
  pub stamp : ℕ → ℕ
  pub top : ℕ
  pub none : L 0 ≡ None
  pub roots : (n : ℕ) (p : Link) → L n ≡ Some p → (n ≡ out → ⊥) → Linked L f stamp top out n p
  pub heads : (w : Owner) → 0 < first_in f w → FirstOf L out w (first_in f w)

abbrev pub Links : Spots → FirstRows → Type 0
Links spots f = LinksBut (links_in spots) f 0

-- rows without a root were added
abbrev pub Widened : List ℕ → List ℕ → Type 0
Widened old new = (k : ℕ) × (new ≡ old ++ replicate k 0)
