-- Steps of a script are steps of the machine.
use Rattle.std.proofs.Common.{◌≡◌, ℕ, ◌+◌, ◌-◌, true, List, [], ◌∷◌, ◌++◌, slice_set, Some, refl, ap, ◌∙◌, arith}
use Rattle.machine_defs.specs.declared.entry.Entry.{Entry}
use Rattle.machine_defs.specs.declared.entry.Entry.TheVariants as entry
use Rattle.machine_defs.specs.LogValue.{LogValue}
use Rattle.rl_defs.specs.Rows.{row}
use Rattle.machine_defs.specs.State.{Thread, with_thread}
use Rattle.machine_defs.specs.Seen.{change_row}
use Rattle.machine_defs.specs.Entries.{thread_of}
use Rattle.machine_defs.specs.Steps.{Row}
use Rattle.step_laws.specs.StepLaws.{is_quiet}
use Rattle.machine_defs.specs.Calling.{with_fuel}
use Rattle.machine_defs.specs.CallRows.{command_done}
use Rattle.machine_defs.specs.Wants.{wanted, Finishes, Skips}
use Rattle.machine_laws.proofs.Acting.{commands_as}
use Rattle.machine_steps.specs.declared.machine.Machine.TheInside.{Inside}
use Rattle.machine_steps.specs.Kept.{MayStep}
use Rattle.machine_steps.specs.Inside.{state_of, kept, IsKept}
use Rattle.machine_steps.specs.Known.{Known}
use Rattle.machine_steps.proofs.Stepping.{Stepped, goes_quietly, agrees_lent}
use Rattle.machine_steps.proofs.Acting.{same_parts}
use Rattle.machine_steps.proofs.Commands.{changed_twice, done_with_none}

-- a step that changes nothing but its thread
pub thread_goes : (known : Known) {w : Inside} → IsKept w → (t : ℕ) (e : Entry) (thread after : Thread) → row w.threads t ≡ Some thread → MayStep (kept w) (thread_of e)
    → Row w.load (state_of w) e (with_thread (state_of w) t after) → is_quiet e ≡ true
    → {log : LogValue} {threads : List Thread} (change : Thread → Thread) → log.entries ≡ w.log.entries ++ e ∷ [] → log.spare + 1 ≡ w.log.spare
    → threads ≡ change_row w.threads t change (row w.threads t) → change thread ≡ after
    → Stepped w (record w { log = log; threads = threads }) e
thread_goes known {w} k t e thread after of may makes quiet {log} {threads} change entries spare changed is =
    goes_quietly known e (with_thread (state_of w) t after) k may makes quiet
    (same_parts refl refl refl (changed ∙ (ap (change_row w.threads t change) of ∙ ap (slice_set w.threads (t - 1)) is)) refl refl refl refl)
    (record { load = refl; proxies = refl; entries = entries; spare = omega (arith, spare); counts = k.rooms.counts; clients = omega arith; owners = k.rooms.owners })
    (agrees_lent w.load (state_of w) (with_thread (state_of w) t after) w.heap.rows (λ o. refl) k.agrees)

-- ---- the script has ended

pub done_goes : (known : Known) {w : Inside} → IsKept w → (t : ℕ) → MayStep (kept w) t → wanted w.load (state_of w) t ≡ Finishes
    → {log : LogValue} {threads : List Thread} → log.entries ≡ w.log.entries ++ entry.Done t ∷ [] → log.spare + 1 ≡ w.log.spare
    → threads ≡ change_row w.threads t (λ x. record x { done = true }) (row w.threads t)
    → Stepped w (record w { log = log; threads = threads }) (entry.Done t)
done_goes known {w} k t may wants entries spare changed =
    let c = commands_as w.load (state_of w) t Finishes tt wants in
    thread_goes known k t (entry.Done t) c.thread (record c.thread { done = true }) c.of may (record { thread = c.thread; of = c.of; wants = wants; becomes = refl }) refl (λ x. record x { done = true }) entries spare changed refl

-- ---- a command is skipped

pub skip_goes : (known : Known) {w : Inside} → IsKept w → (t number fuel : ℕ) → MayStep (kept w) t → wanted w.load (state_of w) t ≡ Skips number → fuel ≡ w.load.fuel - 1
    → {log : LogValue} {fueled threads : List Thread} → log.entries ≡ w.log.entries ++ entry.Skip t number ∷ [] → log.spare + 1 ≡ w.log.spare
    → fueled ≡ change_row w.threads t (with_fuel fuel) (row w.threads t) → threads ≡ change_row fueled t (λ x. record x { place = x.place + 1 }) (row fueled t)
    → Stepped w (record w { log = log; threads = threads }) (entry.Skip t number)
skip_goes known {w} k t number fuel may wants takes {log} {fueled} {threads} entries spare charged next =
    let c = commands_as w.load (state_of w) t (Skips number) tt wants in
    thread_goes known k t (entry.Skip t number) c.thread (command_done w.load t [] c.thread) c.of may (record { thread = c.thread; of = c.of; wants = wants; becomes = refl }) refl
    (λ x. record x { fuel = fuel; place = x.place + 1 }) entries spare
    (changed_twice w.threads fueled threads t (with_fuel fuel) (λ x. record x { place = x.place + 1 }) c.thread c.of charged next) (done_with_none w.load t fuel c.thread takes)
