-- A client's `drop` is a step.
use Rattle.std.proofs.Common.{◌≡◌, ℕ, ◌+◌, ◌-◌, ◌≤◌, false, true, List, [], ◌∷◌, ◌++◌, length, map, slice_set, refl, sym, ap, subst, ◌∙◌, arith, append_assoc, inl}
use Rattle.std.proofs.lemmas.Bool.{eq-eqb}
use Rattle.std.proofs.lemmas.List.{length-map}
use Rattle.machine_defs.specs.declared.entry.Entry.TheVariants as entry
use Rattle.rl_defs.specs.declared.load.Command.TheVariants as command
use Rattle.rl_defs.specs.Rows.{row}
use Rattle.machine_defs.specs.LogValue.{LogValue}
use Rattle.machine_defs.specs.State.{State, Thread, with_thread}
use Rattle.machine_defs.specs.Arguments.{has}
use Rattle.machine_defs.specs.Loans.{loans}
use Rattle.machine_defs.specs.Frames.{acting}
use Rattle.machine_defs.specs.Objects.{without}
use Rattle.machine_defs.specs.Seen.{change_row}
use Rattle.machine_defs.specs.Calling.{with_fuel}
use Rattle.machine_defs.specs.CallRows.{command_done}
use Rattle.machine_defs.specs.ObjectRows.{without_name}
use Rattle.machine_defs.specs.Wants.{wanted, Commands}
use Rattle.machine_defs.specs.Sound.{IsRoot as IsRootIn}
use Rattle.machine_defs.specs.Steps.{Row}
use Rattle.step_laws.specs.StepLaws.{DoomsBy, hangs_among}
use Rattle.rref_heap.specs.HeapValue.{HeapValue, IsRoot, heap_objects, loans_at, leaves_at}
use Rattle.rref_heap.specs.Changing.{unless, with_leaving}
use Rattle.rref_heap.specs.Leaving.{swept_row, swept_rows, leaving_in}
use Rattle.rref_heap.proofs.Objects.{IsNumbered}
use Rattle.machine_steps.specs.declared.machine.Machine.TheInside.{Inside}
use Rattle.machine_steps.specs.Kept.{MayStep, Agrees}
use Rattle.machine_steps.specs.Inside.{state_of, kept, IsKept}
use Rattle.machine_steps.specs.Known.{Known}
use Rattle.machine_steps.specs.Calls.{IsNamed}
use Rattle.machine_steps.proofs.Stepping.{Stepped, goes}
use Rattle.machine_steps.proofs.Acting.{same_parts}
use Rattle.machine_steps.proofs.Commands.{changed_twice, done_with_none}
use Rattle.machine_steps.proofs.Dropped.{dropped_rows, agrees_dropped, listed_freed, swept_made, drop_room, is_root, loans_known, stays_known}

module _ (known : Known) {w : Inside} (k : IsKept w) (numbered : IsNumbered w.heap.rows) (t name o : ℕ) (may : MayStep (kept w) t) (wants : wanted w.load (state_of w) t ≡ Commands (command.Drop name)) (named : IsNamed (kept w) t name o) where
  abbrev made : State
  made = without (o ∷ []) (with_thread (state_of w) t (command_done w.load t [] (without_name name named.thread)))

  drop_row : Row w.load (state_of w) (entry.Drop t o) made
  drop_row = inl (record { thread = named.thread; name = name; of = named.of; wants = wants; object = named.holds; becomes = refl })

  dooms : DoomsBy made (λ x. hangs_among (o ∷ []) x.placement)
  dooms = known.drops w.load w.log.entries (state_of w) made (entry.Drop t o) k.valid k.run may.enabled drop_row

  unlent_root : IsRootIn (state_of w) o (acting (state_of w) t) × (loans (state_of w) o ≡ 0)
  unlent_root = (known.roots w.load w.log.entries (state_of w) made (entry.Drop t o) k.valid k.run may.enabled drop_row).changed o (let e : has (o ∷ []) o ≡ true = rw (eq-eqb o o refl) refl in e)

  pub drops_root : IsRoot w.heap.rows o
  drops_root = is_root k numbered o (acting (state_of w) t) unlent_root.0

  pub drops_unlent : loans_at w.heap.rows o ≡ 0
  drops_unlent = loans_known k numbered o (acting (state_of w) t) unlent_root.0 ∙ unlent_root.1

  pub drops_kept : leaves_at w.heap.rows o ≡ false
  drops_kept = stays_known k numbered o (acting (state_of w) t) unlent_root.0

  pub sweep_room : (left : ℕ) → left + 1 ≡ w.log.spare → {heap : HeapValue} → heap ≡ record w.heap { rows = map (with_leaving o) (map (unless o) w.heap.rows) } → length (leaving_in heap.rows) ≤ left
  sweep_room left spare {heap} taken =
      let room = drop_room known k numbered o (entry.Drop t o) made may drop_row dooms refl in
      let n : length (leaving_in heap.rows) ≡ length (leaving_in (dropped_rows o w.heap.rows)) = ap (λ (h : HeapValue). length (leaving_in h.rows)) taken in
      omega (arith, room, n, spare)

  pub drop_goes : (fuel : ℕ) → fuel ≡ w.load.fuel - 1 → {put log : LogValue} {taken heap : HeapValue} {fueled unnamed threads : List Thread}
      → put.entries ≡ w.log.entries ++ entry.Drop t o ∷ [] → put.spare + 1 ≡ w.log.spare
      → taken ≡ record w.heap { rows = map (with_leaving o) (map (unless o) w.heap.rows) }
      → heap ≡ record taken { rows = swept_rows taken.rows }
      → log.entries ≡ put.entries ++ map entry.Free (leaving_in taken.rows) → log.spare + length (leaving_in taken.rows) ≡ put.spare
      → fueled ≡ change_row w.threads t (with_fuel fuel) (row w.threads t) → unnamed ≡ change_row fueled t (without_name name) (row fueled t)
      → threads ≡ change_row unnamed t (λ x. record x { place = x.place + 1 }) (row unnamed t)
      → Stepped w (record w { log = log; heap = heap; threads = threads }) (entry.Drop t o)
  drop_goes fuel takes {put} {log} {taken} {heap} {fueled} {unnamed} {threads} puts spare leaves swept entries left charged unbound next =
      let z : Inside = record w { log = log; heap = heap; threads = threads } in
      let gone : taken.rows ≡ dropped_rows o w.heap.rows = ap (λ (h : HeapValue). h.rows) leaves in
      let rows : heap.rows ≡ swept_rows (dropped_rows o w.heap.rows) = ap (λ (h : HeapValue). h.rows) swept ∙ ap swept_rows gone in
      let frees : leaving_in taken.rows ≡ leaving_in (dropped_rows o w.heap.rows) = ap leaving_in gone in
      let n : length (leaving_in taken.rows) ≡ length (leaving_in (dropped_rows o w.heap.rows)) = ap length frees in
      let count : length heap.rows ≡ length w.heap.rows = ap length rows ∙ (length-map (dropped_rows o w.heap.rows) swept_row ∙ (length-map (map (unless o) w.heap.rows) (with_leaving o) ∙ length-map w.heap.rows (unless o))) in
      let clients : heap.clients ≡ w.heap.clients = ap (λ (h : HeapValue). h.clients) swept ∙ ap (λ (h : HeapValue). h.clients) leaves in
      let owners : heap.instances ≡ w.heap.instances = ap (λ (h : HeapValue). h.instances) swept ∙ ap (λ (h : HeapValue). h.instances) leaves in
      let twice = changed_twice w.threads fueled unnamed t (with_fuel fuel) (without_name name) named.thread named.of charged unbound in
      let thrice = changed_twice w.threads unnamed threads t (λ x. without_name name (with_fuel fuel x)) (λ x. record x { place = x.place + 1 }) named.thread named.of twice next in
      goes known (entry.Drop t o) made (leaving_in (dropped_rows o w.heap.rows)) k may drop_row (listed_freed known k numbered o (entry.Drop t o) made may drop_row dooms refl)
      (same_parts refl (ap (λ rows. heap_objects rows) rows) refl
      (thrice ∙ (ap (change_row w.threads t (λ x. record x { fuel = fuel; place = x.place + 1; names = (without_name name x).names })) named.of ∙ ap (slice_set w.threads (t - 1)) (done_with_none w.load t fuel (without_name name named.thread) takes)))
      refl refl (ap (λ m. m + 1) count) refl ∙ sym (swept_made known k numbered o (entry.Drop t o) made may drop_row dooms refl))
      (record {
        load = refl;
        proxies = refl;
        entries = entries ∙ (ap (λ xs. put.entries ++ map entry.Free xs) frees ∙ (ap (λ es. es ++ map entry.Free (leaving_in (dropped_rows o w.heap.rows))) puts ∙ append_assoc w.log.entries (entry.Drop t o ∷ []) (map entry.Free (leaving_in (dropped_rows o w.heap.rows)))));
        spare = omega (arith, spare, left, n);
        counts = k.rooms.counts;
        clients = omega (arith, clients);
        owners = omega (arith, owners, k.rooms.owners);
      })
      (subst (λ xs. Agrees w.load (state_of z) xs) (sym rows) (agrees_dropped k numbered o (state_of z) (λ q. refl)))
