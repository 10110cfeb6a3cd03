-- What a heap lists for its sweep is what is freed behind a row.
use Rattle.std.proofs.Common.{◌≡◌, ℕ, ◌+◌, ◌≤◌, ◌==◌, Bool, true, false, not, List, [], ◌∷◌, length, map, filter, find, All, Option, Some, None, is_some, refl, sym, ap, subst, ◌∙◌, ◌++◌, append_assoc, arith, if◌then◌else◌}
use Rattle.std.specs.List.{list_any}
use Rattle.std.proofs.Math.Bool.{or-true}
use Rattle.std.proofs.lemmas.Bool.{eq-eqb}
use Rattle.std.proofs.lemmas.List.{length-map}
use Rattle.std.proofs.lemmas.List.Elements.{All-nil, All-cons}
use Rattle.machine_defs.specs.declared.entry.Entry.{Entry}
use Rattle.machine_defs.specs.declared.entry.Entry.TheVariants as entry
use Rattle.machine_defs.specs.declared.frame.Action.{Action}
use Rattle.machine_defs.specs.declared.values.Owner.{Owner}
use Rattle.rl_defs.specs.declared.load.LoadRows.{LoadRows}
use Rattle.machine_defs.specs.LogValue.{LogValue}
use Rattle.machine_defs.specs.State.{State, Object, Root, StackFrame, Thread}
use Rattle.machine_defs.specs.Arguments.{has}
use Rattle.machine_defs.specs.Entries.{thread_of}
use Rattle.machine_defs.specs.Loans.{loans, object_of, is_doomed, sweep, freed}
use Rattle.machine_defs.specs.Objects.{kinds_of}
use Rattle.machine_defs.specs.Sound.{IsRoot}
use Rattle.machine_defs.specs.Steps.{Row}
use Rattle.step_laws.specs.StepLaws.{DoomsBy, FreesBy, FewObjects}
use Rattle.rref_heap.specs.HeapValue.{HeapRow, HeapRows, HeapValue, row_of, object_in, heap_objects, leaves_at, loans_at, owner_in, owner_at, root_owner, is_rref}
use Rattle.rref_heap.specs.HeapValue as heap
use Rattle.rref_heap.specs.Leaving.{swept_row, swept_rows, leaving_in}
use Rattle.rref_heap.proofs.Objects.{IsNumbered, object_found, objects_swept, leaving_numbers, row_of_map}
use Rattle.trampolines.specs.Laid.{Laid}
use Rattle.machine_steps.specs.declared.machine.Machine.TheInside.{Inside}
use Rattle.machine_steps.specs.Kept.{MayStep, Agrees}
use Rattle.machine_steps.specs.Inside.{state_of, kept, IsKept}
use Rattle.machine_steps.specs.Known.{Known}
use Rattle.machine_steps.proofs.Stepping.{Stepped, Logged, goes}

-- what all of a list have, each that stands in it has
pub all_numbers : (P : ℕ → Type 0) (os : List ℕ) → ((o : ℕ) → has os o ≡ true → P o) → All P os
all_numbers P [] each = All-nil P
all_numbers P (x ∷ os) each = All-cons P x os (each x (rw (eq-eqb x x refl) refl)) (all_numbers P os (λ o is. each o (rw is (or-true (x == o)))))

-- ---- roots of the state are those of the heap

-- the row of a root, by its number
pub record RootRow (rows : HeapRows) (o : ℕ) (w : Owner) : Type 0 where
  pub row : HeapRow
  pub is : row_of rows o ≡ Some row
  pub root : row.object.placement ≡ Root w

-- the row of an object that is found
pub record FoundRow (rows : HeapRows) (o : ℕ) (x : Object) : Type 0 where
  pub row : HeapRow
  pub is : row_of rows o ≡ Some row
  pub object : row.object ≡ x

module _ (rows : HeapRows) (numbered : IsNumbered rows) (s : State) (same : s.objects ≡ heap_objects rows) where
  pub object_at : (o : ℕ) → object_of s o ≡ object_in (row_of rows o)
  object_at o = ap (find (λ x. x.number == o)) same ∙ object_found rows numbered o

  pub found_row : (o : ℕ) (x : Object) → object_of s o ≡ Some x → FoundRow rows o x
  found_row o x there = go (row_of rows o) refl
    where
      go : (r : Option HeapRow) → row_of rows o ≡ r → FoundRow rows o x
      go None is = absurd (let e : ◌≡◌ {A = Option Object} None (Some x) = sym (object_at o ∙ ap object_in is) ∙ there in cc)
      go (Some r) is = record { row = r; is = is; object = let e : Some r.object ≡ Some x = sym (object_at o ∙ ap object_in is) ∙ there in cc }

  pub row_found : (o : ℕ) (r : HeapRow) → row_of rows o ≡ Some r → object_of s r.object.number ≡ Some r.object
  row_found o r is = ap (object_of s) (numbered o r is) ∙ (object_at o ∙ ap object_in is)

  pub root_row : (o : ℕ) (w : Owner) → IsRoot s o w → RootRow rows o w
  root_row o w root =
      let f = found_row o root.0 root.1 in
      record { row = f.row; is = f.is; root = ap (λ x. x.placement) f.object ∙ root.2 }

pub owner_of_root : (rows : HeapRows) (o : ℕ) (w : Owner) → RootRow rows o w → root_owner rows o ≡ Some w
owner_of_root rows o w r = ap owner_in r.is ∙ ap owner_at r.root

pub is_heap_root : (rows : HeapRows) (o : ℕ) (w : Owner) → RootRow rows o w → heap.IsRoot rows o
is_heap_root rows o w r = ap (λ x. is_some x) (owner_of_root rows o w r)

-- ---- what is listed is freed

-- What is freed behind a row is what the heap lists, and the sweep leaves the others.
pub record Frees (made : State) (rows : HeapRows) : Type 0 where
  pub frees : leaving_in rows ≡ freed made
  pub swept : record made { objects = heap_objects (swept_rows rows) } ≡ sweep made
  pub few : length (leaving_in rows) ≤ 65536

-- an object is doomed where its row is listed
pub dooms_by_rows : (rows : HeapRows) (made : State) → IsNumbered rows → made.objects ≡ heap_objects rows → ((o : ℕ) (r : HeapRow) → row_of rows o ≡ Some r → is_doomed made r.object ≡ r.leaves)
    → DoomsBy made (λ x. leaves_at rows x.number)
dooms_by_rows rows made numbered same each x there =
    let f = found_row rows numbered made same x.number x there in
    let listed : leaves_at rows x.number ≡ f.row.leaves = ap (λ (r : Option HeapRow). Rattle.std.specs.Option.option_map_or (λ r. r.leaves) r false) f.is in
    ap (is_doomed made) (sym f.object) ∙ (each x.number f.row f.is ∙ sym listed)

module _ (known : Known) {w : Inside} (k : IsKept w) (e : Entry) (may : MayStep (kept w) (thread_of e)) (made : State) (makes : Row w.load (state_of w) e made) where
  pub frees_listed : (rows : HeapRows) → IsNumbered rows → made.objects ≡ heap_objects rows → DoomsBy made (λ x. leaves_at rows x.number) → Frees made rows
  frees_listed rows numbered same dooms =
      let by : FreesBy made (λ x. leaves_at rows x.number) = known.doomed w.load w.log.entries (state_of w) made e k.valid k.run may.enabled makes (λ x. leaves_at rows x.number) dooms in
      let few : FewObjects made = known.few w.load w.log.entries (state_of w) made e k.valid k.run may.enabled makes in
      let is : leaving_in rows ≡ freed made = leaving_numbers rows numbered ∙ (ap (λ xs. map (λ x. x.number) (filter (λ x. leaves_at rows x.number) xs)) (sym same) ∙ sym by.frees) in
      record {
        frees = is;
        swept = ap (λ xs. record made { objects = xs }) (objects_swept rows numbered ∙ ap (filter (λ x. not (leaves_at rows x.number))) (sym same)) ∙ sym by.stays;
        few = subst (λ os. length os ≤ 65536) (sym is) few.frees;
      }

  pub goes_swept : (rows : HeapRows) → Frees made rows → {z : Inside} → state_of z ≡ record made { objects = heap_objects (swept_rows rows) } → Logged w z e (leaving_in rows) → Agrees w.load (state_of z) z.heap.rows → Stepped w z e
  goes_swept rows f {z} same logged agrees = goes known e made (leaving_in rows) k may makes f.frees (same ∙ f.swept) logged agrees

-- ---- behind the sweep

-- each row says how often its object is lent, and whether others may hang in it
pub record TellsAt (L : LoadRows) (s : State) (o : ℕ) (r : HeapRow) : Type 0 where
  pub lent : r.loans ≡ loans s o
  pub nests : r.nests ≡ list_any is_rref (kinds_of L (Some r.object))

-- what a sweep leaves was there, and isn't listed
left_row : (x : Option HeapRow) (r : HeapRow) → swept_row x ≡ Some r → (x ≡ Some r) × (r.leaves ≡ false)
left_row None r is = absurd cc
left_row (Some q) r is = go q.leaves refl
  where
    go : (b : Bool) → q.leaves ≡ b → (◌≡◌ {A = Option HeapRow} (Some q) (Some r)) × (r.leaves ≡ false)
    go true e = absurd (let n : ◌≡◌ {A = Option HeapRow} None (Some r) = subst (λ b. ◌≡◌ {A = Option HeapRow} (if b then None else Some q) (Some r)) e is in cc)
    go false e =
        let n : ◌≡◌ {A = Option HeapRow} (Some q) (Some r) = subst (λ b. ◌≡◌ {A = Option HeapRow} (if b then None else Some q) (Some r)) e is in
        (n, ap (λ (o : Option HeapRow). Rattle.std.specs.Option.option_map_or (λ x. x.leaves) o false) (sym n) ∙ e)

pub agrees_swept : (L : LoadRows) (z : State) (rows : HeapRows) → ((o : ℕ) (r : HeapRow) → row_of rows o ≡ Some r → TellsAt L z o r) → Agrees L z (swept_rows rows)
agrees_swept L z rows tells o r is =
    let left = left_row (row_of rows o) r (sym (row_of_map swept_row refl rows o) ∙ is) in
    let at = tells o r left.0 in
    record { lent = at.lent; nests = at.nests; stays = left.1 }

-- ---- a step that ends with a sweep

-- what the heap still is before its sweep
pub record KeepsRooms (before heap : HeapValue) : Type 0 where
  pub clients : heap.clients ≡ before.clients
  pub instances : heap.instances ≡ before.instances
  pub long : length heap.rows ≡ length before.rows

-- the state before the sweep
abbrev pub before_sweep : Inside → List Object → List (List StackFrame) → List Thread → ℕ → State
before_sweep w objects stacks threads next_call = record {
  instances = w.instances;
  objects = objects;
  stacks = stacks;
  threads = threads;
  shadows = w.shadows;
  blocks = w.blocks;
  next_object = length w.heap.rows + 1;
  next_call = next_call;
}

pub sweep_goes : (known : Known) {w : Inside} (k : IsKept w) (e : Entry) (may : MayStep (kept w) (thread_of e)) (made : State) (makes : Row w.load (state_of w) e made)
    → {logged log : LogValue} {heap swept : HeapValue} {stacks : Laid Action} {threads : List Thread} {next_call : ℕ}
    → Frees made heap.rows → ((o : ℕ) (r : HeapRow) → row_of heap.rows o ≡ Some r → TellsAt w.load made o r) → KeepsRooms w.heap heap
    → before_sweep w made.objects stacks.frames threads next_call ≡ made → stacks.instances ≡ w.stacks.instances
    → logged.entries ≡ w.log.entries ++ e ∷ [] → logged.spare + 1 ≡ w.log.spare
    → swept ≡ record heap { rows = swept_rows heap.rows } → log.entries ≡ logged.entries ++ map entry.Free (leaving_in heap.rows) → log.spare + length (leaving_in heap.rows) ≡ logged.spare
    → Stepped w (record w { log = log; heap = swept; stacks = stacks; threads = threads; next_call = next_call }) e
sweep_goes known {w} k e may made makes {logged} {log} {heap} {swept} {stacks} {threads} {next_call} frees tells rooms same counts entries spare is_swept freed_entries freed_spare =
    goes_swept known k e may made makes heap.rows frees
    (ap (λ rows. with_objects (heap_objects rows) (length rows + 1)) rows_are ∙ (ap (λ n. with_objects (heap_objects (swept_rows heap.rows)) (n + 1)) long ∙ ap (λ (m : State). record m { objects = heap_objects (swept_rows heap.rows) }) same))
    (record {
      load = refl;
      proxies = refl;
      entries = freed_entries ∙ (ap (λ es. es ++ map entry.Free (leaving_in heap.rows)) entries ∙ append_assoc w.log.entries (e ∷ []) (map entry.Free (leaving_in heap.rows)));
      spare = omega (arith, spare, freed_spare);
      counts = omega (arith, counts, k.rooms.counts);
      clients = (let c : swept.clients ≡ heap.clients = ap (λ (v : HeapValue). v.clients) is_swept in omega (arith, c, rooms.clients));
      owners = (let c : swept.instances ≡ heap.instances = ap (λ (v : HeapValue). v.instances) is_swept in omega (arith, c, rooms.instances, k.rooms.owners));
    })
    (subst (Agrees w.load z_state) (sym rows_are) (agrees_swept w.load z_state heap.rows (λ o r there. (let at = tells o r there in record { lent = at.lent ∙ ap (λ (m : State). loans m o) (sym same); nests = at.nests }))))
  where
    with_objects : List Object → ℕ → State
    with_objects objects next = record (before_sweep w objects stacks.frames threads next_call) { next_object = next }

    z_state : State
    z_state = with_objects (heap_objects swept.rows) (length swept.rows + 1)

    rows_are : swept.rows ≡ swept_rows heap.rows
    rows_are = ap (λ (v : HeapValue). v.rows) is_swept

    long : length (swept_rows heap.rows) ≡ length w.heap.rows
    long = length-map heap.rows swept_row ∙ rooms.long

-- there is room for what is freed behind an entry
pub room_for_freed : {w : Inside} (k : IsKept w) (t : ℕ) (may : MayStep (kept w) t) (made : State) (rows : HeapRows) (spare : ℕ) → Frees made rows → spare + 1 ≡ w.log.spare → length (leaving_in rows) ≤ spare
room_for_freed k t may made rows spare f one = omega (arith, k.rooms.log, may.short, f.few, one)
