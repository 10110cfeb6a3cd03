-- A reload is a step of the machine.
use Rattle.std.proofs.Common.{◌≡◌, ℕ, ◌+◌, ◌-◌, ◌<◌, ◌≤◌, ◌⊎◌, true, false, List, [], ◌∷◌, ◌++◌, length, slice_set, Option, Some, None, refl, sym, ap, subst, ◌∙◌, arith, inl, inr}
use Rattle.std.specs.Option.{option_map_or}
use Rattle.machine_defs.specs.declared.entry.Entry.TheVariants as entry
use Rattle.machine_defs.specs.declared.frame.Action.{Action}
use Rattle.machine_defs.specs.LogValue.{LogValue}
use Rattle.rl_defs.specs.declared.load.LoadRows.{LoadRows}
use Rattle.rl_defs.specs.Domains.{load_row, load_of_target}
use Rattle.rl_defs.specs.Rows.{row, is_target}
use Rattle.machine_defs.specs.State.{State, Instance, Shadow, is_live, current_of, first_instance}
use Rattle.machine_defs.specs.Calling.{restarts_left, is_undone}
use Rattle.machine_defs.specs.CallRows.{reloaded, Reloads, WouldCall, WouldReenter}
use Rattle.machine_defs.specs.Steps.{Row}
use Rattle.machine_laws.proofs.ClientCalls.{clients_call}
use Rattle.machine_laws.proofs.CallSteps.{called, not_waiting}
use Rattle.machine_laws.proofs.EndSteps.{top_call}
use Rattle.trampolines.specs.Laid.{Laid}
use Rattle.rref_heap.specs.HeapValue.{HeapValue, heap_objects}
use Rattle.machine_steps.specs.declared.machine.Machine.TheInside.{Inside}
use Rattle.machine_steps.specs.Kept.{MayStep, Agrees}
use Rattle.machine_steps.specs.Inside.{state_of, kept, IsKept}
use Rattle.machine_steps.specs.Known.{Known}
use Rattle.machine_steps.specs.Calls.{MayReload}
use Rattle.machine_steps.proofs.Stepping.{Stepped, goes_quietly, agrees_lent}
use Rattle.machine_steps.proofs.Acting.{holds, ledger, same_parts}

-- a machine that has gained room alone
pub roomier : {w : Inside} → IsKept w → {heap : HeapValue} {instances : List Instance} {stacks : Laid Action} {shadows : List Shadow}
    → heap.rows ≡ w.heap.rows → w.heap.clients ≤ heap.clients → w.heap.instances ≤ heap.instances → stacks.frames ≡ w.stacks.frames → w.stacks.instances ≤ stacks.instances
    → instances ≡ w.instances → shadows ≡ w.shadows → IsKept (record w { heap = heap; instances = instances; stacks = stacks; shadows = shadows })
roomier {w} k {heap} {instances} {stacks} {shadows} rows clients owners frames counted same still = record {
  valid = k.valid;
  run = subst (Rattle.machine_defs.specs.Runs.Run w.load w.log.entries) (sym is) k.run;
  turns = k.turns;
  agrees = subst (λ s. Agrees w.load s heap.rows) (sym is) (subst (Agrees w.load (state_of w)) (sym rows) k.agrees);
  rooms = record {
    log = k.rooms.log;
    counts = (let n : length instances ≡ length w.instances = ap length same in omega (arith, n, counted, k.rooms.counts));
    clients = omega (arith, clients, k.rooms.clients);
    owners = (let n : length instances ≡ length w.instances = ap length same in omega (arith, n, owners, k.rooms.owners));
  };
  found = k.found;
  code = k.code;
}
  where
    is : state_of (record w { heap = heap; instances = instances; stacks = stacks; shadows = shadows }) ≡ state_of w
    is = same_parts same (ap heap_objects rows) frames refl still refl (ap (λ rows. length rows + 1) rows) refl

-- the shadow that is needed is a target
module _ {w : Inside} (k : IsKept w) (t x : ℕ) (may : MayStep (kept w) t) (needs : MayReload (kept w) t x) where
  ready : is_undone (row w.threads t) ≡ true
  ready = (not_waiting w.load (state_of w) t may.enabled).0

  pub reload_target : is_target w.load x ≡ true
  reload_target = needed needs.needed
    where
      L : LoadRows
      L = w.load

      s : State
      s = state_of w

      needed : WouldCall L s t x ⊎ WouldReenter L s t x → is_target L x ≡ true
      needed (inl c) = subst (λ n. is_target L n ≡ true) c.target (called L s t k.valid k.valid.tables (holds k).laid (ledger k).owned (holds k).fits (clients_call L s k.valid (holds k).laid (ledger k).owned (holds k).fits) ready c.wished c.wants).target
      needed (inr d) = subst (λ n. is_target L n ≡ true) d.target (top_call L s k.valid k.valid.tables (holds k).laid (ledger k).owned (holds k).fits t d.frame d.on_top).target

  -- a restart is left
  pub restart : (left : ℕ) × (restarts_left w.load (state_of w) x ≡ left + 1)
  restart = (restarts_left w.load (state_of w) x - 1, (let some = needs.left in omega (arith, some)))

  pub reloads_row : (left : ℕ) → restarts_left w.load (state_of w) x ≡ left + 1 → Reloads w.load (state_of w) t x (length w.instances + 1) left (reloaded w.load x (length w.instances + 1) left (state_of w))
  reloads_row left is = go (row w.shadows (x - length w.load.loads)) refl
    where
      go : (found : Option Shadow) → row w.shadows (x - length w.load.loads) ≡ found → Reloads w.load (state_of w) t x (length w.instances + 1) left (reloaded w.load x (length w.instances + 1) left (state_of w))
      go None none = absurd (let e : 0 ≡ left + 1 = sym (ap (λ found. option_map_or (λ shadow. shadow.left) found 0) none) ∙ is in omega (arith, e))
      go (Some shadow) some = record {
        shadow = shadow;
        of = some;
        dead = subst (λ found. is_live (state_of w) (current_of x found) ≡ false) some needs.dead;
        restarts = sym (ap (λ found. option_map_or (λ shadow. shadow.left) found 0) some) ∙ is;
        needed = needs.needed;
        number = refl;
        becomes = refl;
      }

  pub reload_goes : (known : Known) (left : ℕ) → restarts_left w.load (state_of w) x ≡ left + 1 → {log : LogValue} {heap : HeapValue} {instances : List Instance} {stacks : Laid Action} {shadows : List Shadow}
      → log.entries ≡ w.log.entries ++ entry.Reload t x (length w.instances + 1) left ∷ [] → log.spare + 1 ≡ w.log.spare
      → heap.rows ≡ w.heap.rows → w.heap.clients ≤ heap.clients → length w.instances + 1 < heap.instances → stacks.frames ≡ w.stacks.frames → stacks.instances ≡ w.stacks.instances + 1
      → instances ≡ w.instances ++ option_map_or (λ l. first_instance w.load (load_of_target w.load x) l ∷ []) (load_row w.load (load_of_target w.load x)) []
      → shadows ≡ slice_set w.shadows (x - length w.load.loads - 1) (record { current = length w.instances + 1; left = left })
      → Stepped w (record w { log = log; heap = heap; instances = instances; stacks = stacks; shadows = shadows }) (entry.Reload t x (length w.instances + 1) left)
  reload_goes known left is {log} {heap} {instances} {stacks} {shadows} entries spare rows clients owners frames counted opened stands =
      let made : State = reloaded w.load x (length w.instances + 1) left (state_of w) in
      let makes : Row w.load (state_of w) (entry.Reload t x (length w.instances + 1) left) made = reloads_row left is in
      let up = (known.counts w.load (state_of w) made (entry.Reload t x (length w.instances + 1) left) makes).instances in
      let n : length instances ≡ length made.instances = ap length opened in
      goes_quietly known (entry.Reload t x (length w.instances + 1) left) made k may makes refl
      (same_parts opened (ap heap_objects rows) frames refl stands refl (ap (λ rows. length rows + 1) rows) refl)
      (record { load = refl; proxies = refl; entries = entries; spare = omega (arith, spare); counts = omega (arith, n, up, counted, k.rooms.counts); clients = clients; owners = omega (arith, n, up, owners) })
      (agrees_lent w.load (state_of w) made heap.rows (λ o. refl) (subst (Agrees w.load (state_of w)) (sym rows) k.agrees))

  -- the same, where the count of instances, the restarts and the number of the new instance were asked for
  pub reload_stepped : (known : Known) (left : ℕ) → restarts_left w.load (state_of w) x ≡ left + 1 → {count had number : ℕ} → count ≡ length w.instances → had ≡ restarts_left w.load (state_of w) x → number ≡ length w.instances + 1
      → {log : LogValue} {heap : HeapValue} {instances : List Instance} {stacks : Laid Action} {shadows : List Shadow}
      → log.entries ≡ w.log.entries ++ entry.Reload t x (count + 1) (had - 1) ∷ [] → log.spare + 1 ≡ w.log.spare
      → heap.rows ≡ w.heap.rows → w.heap.clients ≤ heap.clients → count + 1 < heap.instances → stacks.frames ≡ w.stacks.frames → stacks.instances ≡ w.stacks.instances + 1
      → instances ≡ w.instances ++ option_map_or (λ l. first_instance w.load (load_of_target w.load x) l ∷ []) (load_row w.load (load_of_target w.load x)) []
      → ((left : ℕ) → restarts_left w.load (state_of w) x ≡ left + 1 → shadows ≡ slice_set w.shadows (x - length w.load.loads - 1) (record { current = number; left = left }))
      → Stepped w (record w { log = log; heap = heap; instances = instances; stacks = stacks; shadows = shadows }) (entry.Reload t x (length w.instances + 1) left)
  reload_stepped known left is {count} {had} {number} counted has numbered {log} {heap} {instances} {stacks} {shadows} entries spare rows clients owners frames more opened stands =
      let one : had - 1 ≡ left = omega (arith, has, is) in
      reload_goes known left is
      (entries ∙ ap (λ n. w.log.entries ++ entry.Reload t x (n + 1) (had - 1) ∷ []) counted ∙ ap (λ n. w.log.entries ++ entry.Reload t x (length w.instances + 1) n ∷ []) one)
      spare rows clients (omega (arith, owners, counted)) frames more opened
      (stands left is ∙ ap (λ n. slice_set w.shadows (x - length w.load.loads - 1) (record { current = n; left = left })) numbered)
