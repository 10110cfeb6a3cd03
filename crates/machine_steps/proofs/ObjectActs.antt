-- Actions of domain code on objects, words, slots and blocks are steps.
use Rattle.std.proofs.Common.{◌≡◌, ℕ, ◌+◌, ◌-◌, List, [], ◌∷◌, ◌++◌, length, slice_set, Some, refl, ap, ◌∙◌, arith}
use Rattle.machine_defs.specs.declared.entry.Entry.TheVariants as entry
use Rattle.machine_defs.specs.declared.frame.Action.{Action}
use Rattle.machine_defs.specs.declared.frame.Action.TheVariants as action
use Rattle.machine_defs.specs.declared.frame.Answer.TheVariants as answer
use Rattle.machine_defs.specs.LogValue.{LogValue}
use Rattle.rl_defs.specs.Rows.{row}
use Rattle.machine_defs.specs.State.{State, Instance, StackFrame, Thread}
use Rattle.machine_defs.specs.Seen.{change_row, with_word}
use Rattle.machine_defs.specs.Calling.{with_fuel}
use Rattle.machine_defs.specs.Steps.{Row}
use Rattle.machine_laws.proofs.Instances.{loads_kept}
use Rattle.trampolines.specs.Laid.{Laid}
use Rattle.trampolines.specs.Words as words
use Rattle.machine_steps.specs.declared.machine.Machine.TheInside.{Inside}
use Rattle.machine_steps.specs.declared.standing.Standing.{Standing}
use Rattle.machine_steps.specs.Kept.{MayStep}
use Rattle.machine_steps.specs.Inside.{state_of, kept, IsKept}
use Rattle.machine_steps.specs.Known.{Known}
use Rattle.machine_steps.specs.Acting.{WouldAct}
use Rattle.machine_steps.proofs.Stepping.{Stepped, goes_quietly, agrees_lent, count_changed}
use Rattle.machine_steps.proofs.Acting.{CodeActs, code_acts, answered_state, answered_frame, does, threads_same, stacks_same, same_parts}

-- ---- a word is set

module _ {w : Inside} (k : IsKept w) (t i at v : ℕ) (stand : Standing) (would : WouldAct (kept w) t i (action.Wput at v) stand) where
  pub wput_acts : CodeActs w t i (action.Wput at v) stand
  wput_acts = code_acts k t i (action.Wput at v) stand would (λ c same. cc)

  pub wput_goes : (known : Known) (may : MayStep (kept w) t) {log : LogValue} {instances : List Instance} {stacks : Laid Action} {threads : List Thread}
      → log.entries ≡ w.log.entries ++ entry.Wput t i at v ∷ [] → log.spare + 1 ≡ w.log.spare
      → instances ≡ change_row w.instances i (λ x. record x { words = slice_set x.words at v }) (row w.instances i)
      → ((f : StackFrame) → words.top (words.stack_of w.stacks.frames t) ≡ Some f → stacks.frames ≡ words.with_stack_of w.stacks.frames t (words.below_top (words.stack_of w.stacks.frames t) ++ answered_frame w i stand f answer.Went ∷ []))
      → stacks.instances ≡ w.stacks.instances
      → threads ≡ change_row w.threads t (with_fuel (stand.fuel - 1)) (row w.threads t)
      → Stepped w (record w { log = log; instances = instances; stacks = stacks; threads = threads }) (entry.Wput t i at v)
  wput_goes known may {log} {instances} {stacks} {threads} entries spare set frames counts charged =
      let change : State → State = with_word i at v in
      let made : State = change (answered_state w wput_acts.on answer.Went) in
      let makes : Row w.load (state_of w) (entry.Wput t i at v) made = does wput_acts answer.Went change (λ m. loads_kept m i (λ x. record x { words = slice_set x.words at v }) (λ x. refl)) in
      let n : length instances ≡ length w.instances = ap length set ∙ count_changed w.instances i _ in
      goes_quietly known (entry.Wput t i at v) made k may makes refl
      (same_parts set refl (stacks_same wput_acts answer.Went stacks.frames frames) (threads_same wput_acts answer.Went threads charged) refl refl refl refl)
      (record { load = refl; proxies = refl; entries = entries; spare = omega (arith, spare); counts = omega (arith, counts, n, k.rooms.counts); clients = omega arith; owners = omega (arith, n, k.rooms.owners) })
      (agrees_lent w.load (state_of w) made w.heap.rows (known.loans w.load w.log.entries (state_of w) made (entry.Wput t i at v) k.valid k.run may.enabled makes) k.agrees)
