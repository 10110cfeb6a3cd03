-- The end of an instance is a step: what the heap takes out is what the state frees.
use Rattle.std.proofs.Common.{◌≡◌, ℕ, suc, ◌+◌, ◌-◌, ◌≤◌, ◌==◌, ◌&&◌, not, false, List, [], ◌∷◌, ◌++◌, length, map, filter, slice_set, Option, Some, None, refl, sym, ap, subst, ◌∙◌, arith, inl, inr}
use Rattle.std.proofs.lemmas.Bool.{cases_Bool}
use Rattle.std.proofs.lemmas.List.{length-map}
use Rattle.std.specs.List.{slice_index_or}
use Rattle.machine_defs.specs.declared.entry.Entry.{Entry}
use Rattle.machine_defs.specs.declared.entry.Entry.TheVariants as entry
use Rattle.machine_defs.specs.declared.values.Owner.{Owner}
use Rattle.machine_defs.specs.declared.values.Owner.TheVariants as owner
use Rattle.machine_defs.specs.declared.values.Cause.{Cause}
use Rattle.machine_defs.specs.declared.frame.Action.TheVariants as action
use Rattle.rl_defs.specs.declared.load.Command.TheVariants as command
use Rattle.machine_defs.specs.LogValue.{LogValue}
use Rattle.machine_defs.specs.State.{State, Instance, Placement, Root, Hung, Thread, with_thread, current}
use Rattle.machine_defs.specs.Loans.{loans, freed, object_of}
use Rattle.machine_defs.specs.Report.{same_owner}
use Rattle.machine_defs.specs.Seen.{change_row, ended}
use Rattle.machine_defs.specs.Entries.{thread_of}
use Rattle.machine_defs.specs.Steps.{Row}
use Rattle.rl_defs.specs.Rows.{row}
use Rattle.step_laws.specs.StepLaws.{DoomsBy, FreesBy, goes_with, is_unlent_at, is_unlent_root}
use Rattle.rref_heap.specs.HeapValue.{HeapRow, HeapRows, HeapValue, row_of, heap_objects, object_in}
use Rattle.rref_heap.specs.Leaving.{leaving_in, is_left, is_left_root, is_left_row, row_without, rows_without, left_number, left_by}
use Rattle.rref_heap.proofs.Objects.{IsNumbered, Tells, object_found, unless_passing, passing_number, objects_unless_passing, passing_numbers, same_map, same_filter_map, without_is, left_is}
use Rattle.machine_steps.specs.declared.machine.Machine.TheInside.{Inside}
use Rattle.machine_steps.specs.Kept.{MayStep, Agrees}
use Rattle.machine_steps.specs.Inside.{state_of, kept, IsKept}
use Rattle.machine_steps.specs.Known.{Known}
use Rattle.machine_steps.specs.Acting.{WouldAct, at_standing}
use Rattle.machine_steps.specs.declared.standing.Standing.{Standing}
use Rattle.machine_defs.specs.Calling.{with_fuel}
use Rattle.machine_defs.specs.CallRows.{command_done}
use Rattle.machine_defs.specs.Wants.{wanted, Commands}
use Rattle.machine_laws.proofs.Acting.{ActsAs, acts_as, CommandsAs, commands_as}
use Rattle.machine_steps.proofs.Commands.{changed_twice, done_with_none}
use Rattle.machine_steps.proofs.Stepping.{Stepped, goes, KeepsRows, agrees_mapped, count_changed}
use Rattle.machine_steps.proofs.Acting.{same_parts}

-- ---- nothing is listed for the sweep between steps

none_leave_behind : (rows : HeapRows) → ((j : ℕ) (r : HeapRow) → slice_index_or rows j None ≡ Some r → r.leaves ≡ false) → leaving_in rows ≡ []
none_leave_behind [] stay = refl
none_leave_behind (None ∷ rows) stay = none_leave_behind rows (λ j r is. stay (suc j) r is)
none_leave_behind (Some r ∷ rows) stay = rw (stay 0 r refl) (none_leave_behind rows (λ j q is. stay (suc j) q is))

pub none_leave : {w : Inside} → IsKept w → leaving_in w.heap.rows ≡ []
none_leave {w} k = none_leave_behind w.heap.rows (λ j r is. (k.agrees (suc j) r is).stays)

-- ---- what an owner leaves behind

module _ {w : Inside} (k : IsKept w) (numbered : IsNumbered w.heap.rows) (v : Owner) where
  -- a root goes with its owner by its row as by the state
  root_goes : (o : ℕ) (r : HeapRow) (p : Placement) → row_of w.heap.rows o ≡ Some r → is_left_root v r.loans p ≡ is_unlent_at (state_of w) v r.object.number p
  root_goes o r (Root x) here =
      let lent : r.loans ≡ loans (state_of w) r.object.number = (k.agrees o r here).lent ∙ ap (loans (state_of w)) (sym (numbered o r here)) in
      ap (λ n. same_owner x v && (n == 0)) lent
  root_goes o r (Hung parent place) here = refl

  row_goes : (parent : ℕ) (q : Option HeapRow) → row_of w.heap.rows parent ≡ q → is_left_row v q ≡ is_unlent_root (state_of w) v (object_in q)
  row_goes parent None here = refl
  row_goes parent (Some q) here = root_goes parent q q.object.placement here

  goes_at_place : (o : ℕ) (r : HeapRow) (p : Placement) → row_of w.heap.rows o ≡ Some r → r.object.placement ≡ p → is_left w.heap.rows v r ≡ goes_with (state_of w) v r.object
  goes_at_place o r (Root x) here is = rw is (root_goes o r (Root x) here)
  goes_at_place o r (Hung parent place) here is =
      let found : object_of (state_of w) parent ≡ object_in (row_of w.heap.rows parent) = object_found w.heap.rows numbered parent in
      rw (is, found) (row_goes parent (row_of w.heap.rows parent) refl)

  left_goes : Tells (is_left w.heap.rows v) (goes_with (state_of w) v) w.heap.rows
  left_goes j r is = sym (goes_at_place (suc j) r r.object.placement is refl)

  pub objects_left : heap_objects (rows_without w.heap.rows v) ≡ filter (λ x. not (goes_with (state_of w) v x)) (state_of w).objects
  objects_left =
      ap heap_objects (same_map (row_without w.heap.rows v) (unless_passing (is_left w.heap.rows v)) w.heap.rows (without_is w.heap.rows v))
      ∙ objects_unless_passing (is_left w.heap.rows v) (goes_with (state_of w) v) w.heap.rows left_goes

  pub numbers_left : left_by w.heap.rows v ≡ map (λ x. x.number) (filter (goes_with (state_of w) v) (state_of w).objects)
  numbers_left =
      same_filter_map (left_number w.heap.rows v) (passing_number (is_left w.heap.rows v)) w.heap.rows (left_is w.heap.rows v)
      ∙ passing_numbers (is_left w.heap.rows v) (goes_with (state_of w) v) w.heap.rows left_goes

-- the rows that stay are as they were
stays_same : (rows : HeapRows) (v : Owner) → KeepsRows (row_without rows v)
stays_same rows v None r is = absurd cc
stays_same rows v (Some q) r is = elim (cases_Bool (is_left rows v q)) [
  | inl goes' ↦ absurd (let e : ◌≡◌ {A = Option HeapRow} None (Some r) = rw goes' at is in cc)
  | inr stays ↦ (let e : Some q ≡ Some r = rw stays at is in let same : q ≡ r = cc in (q, refl, ap (λ (x : HeapRow). x.loans) (sym same), ap (λ (x : HeapRow). x.nests) (sym same), ap (λ (x : HeapRow). x.object.ty) (sym same), ap (λ (x : HeapRow). x.leaves) (sym same)))
]

-- ---- an instance ends

module _ (known : Known) {w : Inside} (k : IsKept w) (numbered : IsNumbered w.heap.rows) (t i : ℕ) (after : Thread) (e : Entry) (may : MayStep (kept w) (thread_of e)) where
  abbrev made : State
  made = ended i (with_thread (state_of w) t after)

  module _ (makes : Row w.load (state_of w) e made) (dooms : DoomsBy made (goes_with (state_of w) (owner.Instance i))) where
    frees_by : FreesBy made (goes_with (state_of w) (owner.Instance i))
    frees_by = known.doomed w.load w.log.entries (state_of w) made e k.valid k.run may.enabled makes (goes_with (state_of w) (owner.Instance i)) dooms

    left_freed : left_by w.heap.rows (owner.Instance i) ≡ freed made
    left_freed = numbers_left k numbered (owner.Instance i) ∙ sym frees_by.frees

    pub room_for_end : length (left_by w.heap.rows (owner.Instance i)) + 1 ≤ w.log.spare
    room_for_end =
        let few = (known.few w.load w.log.entries (state_of w) made e k.valid k.run may.enabled makes).frees in
        let n : length (left_by w.heap.rows (owner.Instance i)) ≡ length (freed made) = ap length left_freed in
        omega (arith, few, n, k.rooms.log, may.short)

    pub end_goes : {log : LogValue} {heap : HeapValue} {instances : List Instance} {threads : List Thread}
        → log.entries ≡ w.log.entries ++ e ∷ map entry.Free (left_by w.heap.rows (owner.Instance i)) → log.spare + length (left_by w.heap.rows (owner.Instance i)) + 1 ≡ w.log.spare
        → heap ≡ record w.heap { rows = rows_without w.heap.rows (owner.Instance i) }
        → instances ≡ change_row w.instances i (λ x. record x { live = false }) (row w.instances i)
        → threads ≡ slice_set w.threads (t - 1) after
        → Stepped w (record w { log = log; heap = heap; instances = instances; threads = threads }) e
    end_goes {log} {heap} {instances} {threads} entries spare taken over charged =
        let rows : heap.rows ≡ rows_without w.heap.rows (owner.Instance i) = ap (λ (h : HeapValue). h.rows) taken in
        let objects : heap_objects heap.rows ≡ filter (λ x. not (goes_with (state_of w) (owner.Instance i) x)) (state_of w).objects = ap heap_objects rows ∙ objects_left k numbered (owner.Instance i) in
        let count : length heap.rows ≡ length w.heap.rows = ap length rows ∙ length-map w.heap.rows (row_without w.heap.rows (owner.Instance i)) in
        let n : length instances ≡ length w.instances = ap length over ∙ count_changed w.instances i _ in
        let clients : heap.clients ≡ w.heap.clients = ap (λ (h : HeapValue). h.clients) taken in
        let owners : heap.instances ≡ w.heap.instances = ap (λ (h : HeapValue). h.instances) taken in
        goes known e made (left_by w.heap.rows (owner.Instance i)) k may makes left_freed
        (same_parts over objects refl charged refl refl (ap (λ m. m + 1) count) refl ∙ sym frees_by.stays)
        (record { load = refl; proxies = refl; entries = entries; spare = spare; counts = omega (arith, n, k.rooms.counts); clients = omega (arith, clients); owners = omega (arith, n, owners, k.rooms.owners) })
        (subst (λ xs. Agrees w.load (state_of (record w { log = log; heap = heap; instances = instances; threads = threads })) xs) (sym rows)
        (agrees_mapped w.load (state_of w) (state_of (record w { log = log; heap = heap; instances = instances; threads = threads })) w.heap.rows (row_without w.heap.rows (owner.Instance i)) refl (stays_same w.heap.rows (owner.Instance i)) (λ o. refl) k.agrees))

-- ---- by a trap

module _ (known : Known) {w : Inside} (k : IsKept w) (numbered : IsNumbered w.heap.rows) (t i : ℕ) (cause : Cause) (stand : Standing) (may : MayStep (kept w) t) (would : WouldAct (kept w) t i (action.Trap cause) stand) where
  trap_acts : ActsAs w.load (state_of w) t (action.Trap cause) stand.fuel (at_standing would.frame stand)
  trap_acts = acts_as w.load (state_of w) t (action.Trap cause) stand.fuel (at_standing would.frame stand) would.wants

  trap_row : Row w.load (state_of w) (entry.Trap t i cause) (ended i (with_thread (state_of w) t (with_fuel stand.fuel trap_acts.thread)))
  trap_row = record { thread = trap_acts.thread; fuel = stand.fuel; frame = at_standing would.frame stand; of = trap_acts.of; wants = would.wants; inside = would.inside; becomes = refl }

  trap_dooms : DoomsBy (ended i (with_thread (state_of w) t (with_fuel stand.fuel trap_acts.thread))) (goes_with (state_of w) (owner.Instance i))
  trap_dooms = known.ends w.load w.log.entries (state_of w) _ (entry.Trap t i cause) k.valid k.run may.enabled trap_row

  pub trap_room : length (left_by w.heap.rows (owner.Instance i)) + 1 ≤ w.log.spare
  trap_room = room_for_end known k numbered t i (with_fuel stand.fuel trap_acts.thread) (entry.Trap t i cause) may trap_row trap_dooms

  pub trap_goes : {log : LogValue} {heap : HeapValue} {instances : List Instance} {threads : List Thread}
      → log.entries ≡ w.log.entries ++ entry.Trap t i cause ∷ map entry.Free (left_by w.heap.rows (owner.Instance i)) → log.spare + length (left_by w.heap.rows (owner.Instance i)) + 1 ≡ w.log.spare
      → heap ≡ record w.heap { rows = rows_without w.heap.rows (owner.Instance i) }
      → instances ≡ change_row w.instances i (λ x. record x { live = false }) (row w.instances i)
      → threads ≡ change_row w.threads t (with_fuel stand.fuel) (row w.threads t)
      → Stepped w (record w { log = log; heap = heap; instances = instances; threads = threads }) (entry.Trap t i cause)
  trap_goes entries spare taken over charged =
      end_goes known k numbered t i (with_fuel stand.fuel trap_acts.thread) (entry.Trap t i cause) may trap_row trap_dooms entries spare taken over
      (charged ∙ ap (change_row w.threads t (with_fuel stand.fuel)) trap_acts.of)

-- ---- by a kill

module _ (known : Known) {w : Inside} (k : IsKept w) (numbered : IsNumbered w.heap.rows) (t target i fuel : ℕ) (may : MayStep (kept w) t) (wants : wanted w.load (state_of w) t ≡ Commands (command.Kill target)) (into : i ≡ current w.load (state_of w) target) where
  kill_commands : CommandsAs w.load (state_of w) t (Commands (command.Kill target))
  kill_commands = commands_as w.load (state_of w) t (Commands (command.Kill target)) tt wants

  kill_row : Row w.load (state_of w) (entry.Kill t i) (ended i (with_thread (state_of w) t (command_done w.load t [] kill_commands.thread)))
  kill_row = record { thread = kill_commands.thread; target = target; of = kill_commands.of; wants = wants; inside = into; becomes = refl }

  kill_dooms : DoomsBy (ended i (with_thread (state_of w) t (command_done w.load t [] kill_commands.thread))) (goes_with (state_of w) (owner.Instance i))
  kill_dooms = known.ends w.load w.log.entries (state_of w) _ (entry.Kill t i) k.valid k.run may.enabled kill_row

  pub kill_room : length (left_by w.heap.rows (owner.Instance i)) + 1 ≤ w.log.spare
  kill_room = room_for_end known k numbered t i (command_done w.load t [] kill_commands.thread) (entry.Kill t i) may kill_row kill_dooms

  pub kill_goes : fuel ≡ w.load.fuel - 1 → {log : LogValue} {heap : HeapValue} {instances : List Instance} {fueled threads : List Thread}
      → log.entries ≡ w.log.entries ++ entry.Kill t i ∷ map entry.Free (left_by w.heap.rows (owner.Instance i)) → log.spare + length (left_by w.heap.rows (owner.Instance i)) + 1 ≡ w.log.spare
      → heap ≡ record w.heap { rows = rows_without w.heap.rows (owner.Instance i) }
      → instances ≡ change_row w.instances i (λ x. record x { live = false }) (row w.instances i)
      → fueled ≡ change_row w.threads t (with_fuel fuel) (row w.threads t) → threads ≡ change_row fueled t (λ x. record x { place = x.place + 1 }) (row fueled t)
      → Stepped w (record w { log = log; heap = heap; instances = instances; threads = threads }) (entry.Kill t i)
  kill_goes takes {fueled = fueled} {threads = threads} entries spare taken over charged next =
      let thread : Thread = kill_commands.thread in
      let twice = changed_twice w.threads fueled threads t (with_fuel fuel) (λ x. record x { place = x.place + 1 }) thread kill_commands.of charged next in
      end_goes known k numbered t i (command_done w.load t [] thread) (entry.Kill t i) may kill_row kill_dooms entries spare taken over
      (twice ∙ (ap (change_row w.threads t (λ x. record x { fuel = fuel; place = x.place + 1 })) kill_commands.of ∙ ap (slice_set w.threads (t - 1)) (done_with_none w.load t fuel thread takes)))
