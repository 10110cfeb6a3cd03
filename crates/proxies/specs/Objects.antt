-- What calls and returns do to the objects of the heap.
use Rattle.std.specs.Prelude.{◌≡◌, ℕ, ◌+◌, ◌-◌, ◌≤◌, ◌==◌, ◌&&◌, ◌||◌, List, Option, Some, None, Bool, true, false, not, All, if◌then◌else◌}
use Rattle.std.specs.Option.{option_map_or}
use Rattle.rl_defs.specs.Domains.{row}
use Rattle.machine_defs.specs.declared.values.Owner.{Owner}
use Rattle.machine_defs.specs.declared.values.Owner.TheVariants as owner
use Rattle.machine_defs.specs.declared.values.Arg.{Arg}
use Rattle.machine_defs.specs.State.{Instance, Object, Placement, Root, Hung, lives}
use Rattle.machine_defs.specs.Loans.{count}
use Rattle.machine_defs.specs.Objects.{owned_by}
use Rattle.machine_defs.specs.Arguments.{has, moved_of, lent_of}
use Rattle.rref_heap.specs.HeapValue.{HeapRow, HeapRows, IsRoot, loans_at, leaves_at, root_owner}

-- an object is a root that nobody has borrowed and that stays
pub record IsFree (rows : HeapRows) (o : ℕ) : Type 0 where
  pub root : IsRoot rows o
  pub unlent : loans_at rows o ≡ 0
  pub stays : leaves_at rows o ≡ false

-- an object can be lent as often as these objects name it
pub record MayLend (rows : HeapRows) (os : List ℕ) (o : ℕ) : Type 0 where
  pub root : IsRoot rows o
  pub few : loans_at rows o + count o os ≤ 1048576

-- The arguments of a call can be given: what is moved is free, what is lent isn't moved too.
pub record MayGive (rows : HeapRows) (args : List Arg) : Type 0 where
  pub moved : All (IsFree rows) (moved_of args)
  pub lent : All (MayLend rows (lent_of args)) (lent_of args)
  pub apart : (o : ℕ) → has (moved_of args) o ≡ true → has (lent_of args) o ≡ false

-- an object passes to an owner where it is one of these
abbrev pub passed : Owner → List ℕ → Object → Object
passed to os x = if has os x.number then owned_by to x else x

-- what is moved passes to the owner, and what is lent gains a loan
abbrev pub handed_row : List Arg → Owner → HeapRow → HeapRow
handed_row args to r = record r { object = passed to (moved_of args) r.object; loans = r.loans + count r.object.number (lent_of args) }

abbrev pub handed : List Arg → Owner → Option HeapRow → Option HeapRow
handed args to None = None
handed args to (Some r) = Some (handed_row args to r)

-- an object hangs in one of these
abbrev pub hangs_in_one : List ℕ → Placement → Bool
hangs_in_one os (Root w) = false
hangs_in_one os (Hung parent place) = has os parent

-- these objects are gone, and what hung in them is listed for the sweep
abbrev pub given_up : List ℕ → Option HeapRow → Option HeapRow
given_up os None = None
given_up os (Some r) = if has os r.object.number then None else Some (record r { leaves = hangs_in_one os r.object.placement || r.leaves })

-- An owner has ended. A client never does.
abbrev pub is_over_for : List Instance → Owner → Bool
is_over_for instances (owner.Client c) = false
is_over_for instances (owner.Instance i) = not (lives (row instances i))

-- an object loses its last loan, and its owner has ended
abbrev pub is_let_go : HeapRows → List Instance → List ℕ → ℕ → Bool
is_let_go rows instances lent o = (has lent o && (loans_at rows o == count o lent)) && option_map_or (is_over_for instances) (root_owner rows o) false

abbrev pub is_let_go_at : HeapRows → List Instance → List ℕ → Placement → Bool
is_let_go_at rows instances lent (Root w) = false
is_let_go_at rows instances lent (Hung parent place) = is_let_go rows instances lent parent

-- loans end; an object that nobody can reach any more is listed for the sweep, with what hangs in
-- it
abbrev pub returned_row : HeapRows → List Instance → List ℕ → HeapRow → HeapRow
returned_row rows instances lent r = record r {
  loans = r.loans - count r.object.number lent;
  leaves = (is_let_go rows instances lent r.object.number || is_let_go_at rows instances lent r.object.placement) || r.leaves;
}

abbrev pub returned : HeapRows → List Instance → List ℕ → Option HeapRow → Option HeapRow
returned rows instances lent None = None
returned rows instances lent (Some r) = Some (returned_row rows instances lent r)

-- each loan that ends was made
pub record IsLent (rows : HeapRows) (lent : List ℕ) (o : ℕ) : Type 0 where
  pub root : IsRoot rows o
  pub counted : count o lent ≤ loans_at rows o

-- Results pass to an owner. Where that has ended they are listed for the sweep, with what hangs in
-- them.
abbrev pub handed_back_row : List ℕ → Owner → Bool → HeapRow → HeapRow
handed_back_row os to ended r = record r {
  object = passed to os r.object;
  leaves = (ended && (has os r.object.number || hangs_in_one os r.object.placement)) || r.leaves;
}

abbrev pub handed_back : List ℕ → Owner → Bool → Option HeapRow → Option HeapRow
handed_back os to ended None = None
handed_back os to ended (Some r) = Some (handed_back_row os to ended r)

-- a root that isn't lent
pub record IsUnlent (rows : HeapRows) (o : ℕ) : Type 0 where
  pub root : IsRoot rows o
  pub unlent : loans_at rows o ≡ 0
