-- What a history tells. It is cut into turns, and each reading is of the turns before a place, the
-- newest first.
use Rattle.std.specs.Prelude.{ℕ, fold, filter, map, not, unwrap_or, ◌++◌, ◌+◌, ◌-◌, ◌==◌, ◌&&◌, ◌||◌, [], ◌∷◌, List, Bool, false, Option, Some, None, length, if◌then◌else◌}
use Rattle.std.specs.List.{list_any, flat_map, range_with_len}
use Rattle.std.specs.Option.{option_map_or}
use Rattle.machine_defs.specs.declared.entry.Entry.TheVariants as entry
use Rattle.machine_defs.specs.declared.values.Owner.TheVariants as owner
use Rattle.machine_defs.specs.declared.values.Arg.{Arg}
use Rattle.machine_defs.specs.declared.entry.Entry.{Entry}
use Rattle.machine_defs.specs.declared.values.Owner.{Owner}
use Rattle.rl_defs.specs.declared.load.LoadRows.{LoadRows}
use Rattle.machine_defs.specs.Entries.{thread_of}
use Rattle.machine_defs.specs.Steps.{Turn}
use Rattle.machine_defs.specs.Arguments.{has, moved_of, objects_in, lent_of}
use Rattle.rl_defs.specs.Domains.{load_of_target}
use Rattle.rl_defs.specs.Rows.{row}
use Rattle.machine_defs.specs.Loans.{count}
use Rattle.rl_defs.specs.Words.{same_bytes}

-- a `free` is of the turn before it, and each other entry begins a turn
abbrev pub freeing : ℕ → List Turn → List Turn
freeing o [] = []
freeing o (u ∷ us) = record u { frees = u.frees ++ o ∷ [] } ∷ us

abbrev pub with_entry : List Turn → Entry → List Turn
with_entry us (entry.Free o) = freeing o us
with_entry us e = record { entry = e; frees = [] } ∷ us

-- the turns of a history, the newest first
abbrev pub turns_of : List Entry → List Turn
turns_of H = fold with_entry [] H

-- what the entries make of a first value, the newest last
abbrev pub told : {A : Type 0} → (Entry → A → A) → A → List Turn → A
told change first [] = first
told change first (u ∷ us) = change u.entry (told change first us)

-- how many calls were made, refused ones too; how many reloads there were, and how many of a
-- shadow; how many objects were made
abbrev pub is_call : Entry → ℕ
is_call (entry.Call t c x i m args) = 1
is_call (entry.Refuse t c why x m args) = 1
is_call _ = 0

abbrev pub is_reload : Entry → ℕ
is_reload (entry.Reload t x i left) = 1
is_reload _ = 0

abbrev pub is_reload_of : ℕ → Entry → ℕ
is_reload_of x (entry.Reload t y i left) = if y == x then 1 else 0
is_reload_of x _ = 0

abbrev pub is_new : Entry → ℕ
is_new (entry.New t w o ty values) = 1
is_new _ = 0

abbrev pub times : (Entry → ℕ) → List Turn → ℕ
times counts us = told (λ e n. counts e + n) 0 us

abbrev pub calls_made : List Turn → ℕ
calls_made us = times is_call us

abbrev pub reloads_made : List Turn → ℕ
reloads_made us = times is_reload us

abbrev pub reloads_of : List Turn → ℕ → ℕ
reloads_of us x = times (is_reload_of x) us

abbrev pub objects_made : List Turn → ℕ
objects_made us = times is_new us

-- a call that is open: its number, target, method and arguments, and the instance that it is in
pub record OpenCall : Type 0 where
  pub call : ℕ
  pub target : ℕ
  pub method : ℕ
  pub args : List Arg
  pub inside : ℕ

-- a call that is closed is no longer open, and one that is issued again is in another instance
abbrev pub open_after : Entry → List OpenCall → List OpenCall
open_after (entry.Call t c x i m args) os = record { call = c; target = x; method = m; args = args; inside = i } ∷ os
open_after (entry.Ret t c results) os = filter (λ o. not (o.call == c)) os
open_after (entry.Unwound t c) os = filter (λ o. not (o.call == c)) os
open_after (entry.Again t c x i) os = map (λ (o : OpenCall). if o.call == c then record o { inside = i } else o) os
open_after _ os = os

-- the open calls of a thread, the newest first
abbrev pub open_calls : List Turn → ℕ → List OpenCall
open_calls us t = told (λ e os. if thread_of e == t then open_after e os else os) [] us

-- who acts for a thread: the instance that its newest open call is in, or the client
abbrev pub actor_in : ℕ → List OpenCall → Owner
actor_in t [] = owner.Client t
actor_in t (o ∷ os) = owner.Instance o.inside

abbrev pub actor_at : List Turn → ℕ → Owner
actor_at us t = actor_in t (open_calls us t)

-- whether an instance has ended
abbrev pub ends : ℕ → Entry → Bool
ends i (entry.Trap t j cause) = j == i
ends i (entry.Kill t j) = j == i
ends i _ = false

abbrev pub ended_at : List Turn → ℕ → Bool
ended_at us i = list_any (λ u. ends i u.entry) us

abbrev pub owner_ended_at : List Turn → Owner → Bool
owner_ended_at us (owner.Client t) = false
owner_ended_at us (owner.Instance i) = ended_at us i

-- the instance that a target stands for: that of its last `reload`, else that of its load
abbrev pub current_after : ℕ → Entry → ℕ → ℕ
current_after x (entry.Reload t y i left) j = if y == x then i else j
current_after x _ j = j

abbrev pub current_at : LoadRows → List Turn → ℕ → ℕ
current_at L us x = told (current_after x) (load_of_target L x) us

-- the restarts that the plan gives a target; a load has none
abbrev pub restarts_of : LoadRows → ℕ → ℕ
restarts_of L x = option_map_or (λ shadow. shadow.restarts) (row L.shadows (x - length L.loads)) 0

-- The last receiver of an object: the owner that its `new` names, the instance that a call moving
-- it entered, who acts just after a `ret` moving it, or who acts at its `unhang`.
abbrev pub receiver_after : ℕ → Entry → Owner → Owner → Owner → Owner
receiver_after o (entry.Call t c x i m args) at after old = if has (moved_of args) o then owner.Instance i else old
receiver_after o (entry.Ret t c results) at after old = if has (objects_in results) o then after else old
receiver_after o (entry.New t w p ty values) at after old = if p == o then w else old
receiver_after o (entry.Unhang t p place v) at after old = if v == o then at else old
receiver_after o _ at after old = old

abbrev pub receiver_at : List Turn → ℕ → Owner
receiver_at [] o = owner.Client 0
receiver_at (u ∷ us) o = receiver_after o u.entry (actor_at us (thread_of u.entry)) (actor_at (u ∷ us) (thread_of u.entry)) (receiver_at us o)

-- the object that one was last hung in, where it was not unhung since
abbrev pub parent_after : ℕ → Entry → Option ℕ → Option ℕ
parent_after o (entry.Hang t p place v) old = if v == o then Some p else old
parent_after o (entry.Unhang t p place v) old = if v == o then None else old
parent_after o _ old = old

abbrev pub parent_at : List Turn → ℕ → Option ℕ
parent_at us o = told (parent_after o) None us

-- what was hung in a cell and not unhung
abbrev pub cell_after : ℕ → ℕ → Entry → Option ℕ → Option ℕ
cell_after o at (entry.Hang t p place v) old = if (p == o) && (place == at) then Some v else old
cell_after o at (entry.Unhang t p place v) old = if (p == o) && (place == at) then None else old
cell_after o at _ old = old

abbrev pub cell_at : List Turn → ℕ → ℕ → Option ℕ
cell_at us o at = told (cell_after o at) None us

-- the root above an object: its parent, which has none in a run, or itself; the root's last
-- receiver owns it
abbrev pub root_at : List Turn → ℕ → ℕ
root_at us o = unwrap_or (parent_at us o) o

abbrev pub owner_at : List Turn → ℕ → Owner
owner_at us o = receiver_at us (root_at us o)

-- how often an object is lent in the open calls of all threads
abbrev pub loans_at : LoadRows → List Turn → ℕ → ℕ
loans_at L us o = count o (flat_map (λ t. flat_map (λ c. lent_of c.args) (open_calls us t)) (range_with_len 1 (length L.clients)))

-- the objects that an entry drops
abbrev pub dropped : Entry → List ℕ
dropped (entry.Refuse t c why x m args) = moved_of args
dropped (entry.Drop t o) = o ∷ []
dropped _ = []

-- whether an object is gone: an entry dropped it, or it was freed
abbrev pub gone_at : List Turn → ℕ → Bool
gone_at [] o = false
gone_at (u ∷ us) o = has u.frees o || (has (dropped u.entry) o || gone_at us o)

-- the last value put into a word of an instance, and what was put into a slot and not taken
abbrev pub word_after : ℕ → ℕ → Entry → ℕ → ℕ
word_after i at (entry.Wput t j place v) old = if (j == i) && (place == at) then v else old
word_after i at _ old = old

abbrev pub word_at : List Turn → ℕ → ℕ → ℕ
word_at us i at = told (word_after i at) 0 us

abbrev pub slot_after : ℕ → List ℕ → Entry → Option ℕ → Option ℕ
slot_after i slot (entry.Put t j name o) old = if (j == i) && same_bytes name slot then Some o else old
slot_after i slot (entry.Take t j name o) old = if (j == i) && same_bytes name slot then None else old
slot_after i slot _ old = old

abbrev pub slot_at : List Turn → ℕ → List ℕ → Option ℕ
slot_at us i slot = told (slot_after i slot) None us

-- a claim on each turn and the turns before it
abbrev pub Always : (List Turn → Turn → Type 0) → List Turn → Type 0
Always Claim [] = Unit {0}
Always Claim (u ∷ us) = Claim us u × Always Claim us
