-- A frame takes an object out of a slot, and puts one into a slot.
use Rattle.std.proofs.Common.{◌≡◌, ℕ, true, List, length, slice_set, Option, Some, None, refl, sym, ap, ◌∙◌, arith}
use Rattle.machine_defs.specs.declared.entry.Entry.{Entry}
use Rattle.machine_defs.specs.declared.entry.Entry.TheVariants as entry
use Rattle.machine_defs.specs.declared.frame.Action.{Action}
use Rattle.machine_defs.specs.declared.frame.Action.TheVariants as action
use Rattle.machine_defs.specs.declared.frame.Answer.{Answer}
use Rattle.machine_defs.specs.declared.frame.Answer.TheVariants as answer
use Rattle.machine_defs.specs.LogValue.{LogValue}
use Rattle.rl_defs.specs.Rows.{row}
use Rattle.machine_defs.specs.Entries.{thread_of}
use Rattle.machine_defs.specs.Loans.{loans}
use Rattle.machine_defs.specs.ObjectRows.{Does, IsSlot}
use Rattle.machine_defs.specs.Seen.{change_row, in_slot, with_slot}
use Rattle.machine_defs.specs.State.{State, Instance, Thread}
use Rattle.machine_defs.specs.Steps.{Row}
use Rattle.step_laws.specs.StepLaws.{is_quiet}
use Rattle.machine_laws.proofs.Instances.{loads_kept}
use Rattle.trampolines.specs.Laid.{Laid}
use Rattle.code_machine.specs.Fitting.{standing}
use Rattle.machine_steps.specs.declared.machine.Machine.TheInside.{Inside}
use Rattle.machine_steps.specs.declared.standing.Standing.{Standing}
use Rattle.machine_steps.specs.Kept.{MayStep}
use Rattle.machine_steps.specs.Inside.{state_of, kept, IsKept}
use Rattle.machine_steps.specs.Known.{Known}
use Rattle.machine_steps.specs.Acting.{WouldAct, domain_in}
use Rattle.machine_steps.specs.Slots.{slot_named}
use Rattle.machine_steps.proofs.Stepping.{Stepped, goes_quietly, agrees_lent, count_changed}
use Rattle.machine_steps.proofs.Acting.{CodeActs, code_acts, answered_state, does, same_parts}
use Rattle.machine_steps.proofs.ActSteps.{GoneOn, frames_so, threads_so, logged_so}
use Rattle.machine_steps.proofs.Meanings.{NamesSlot, MeansAct, means_act, means_names, named_so}

-- an action that fills a slot, or empties it
module _ (known : Known) {w : Inside} (k : IsKept w) {t i : ℕ} {act : Action} {stand : Standing} (acts : CodeActs w t i act stand) (a : Answer) (slot : ℕ) (content : Option ℕ) where
  abbrev pub slot_made : State
  slot_made = with_slot i slot content (answered_state w acts.on a)

  pub slot_does : Does w.load (state_of w) t i act a (with_slot i slot content) slot_made
  slot_does = does acts a (with_slot i slot content) (λ m. loads_kept m i (λ x. record x { slots = slice_set x.slots slot content }) (λ x. refl))

  pub slot_goes : (e : Entry) → MayStep (kept w) (thread_of e) → Row w.load (state_of w) e slot_made → is_quiet e ≡ true → ((q : ℕ) → loans slot_made q ≡ loans (state_of w) q)
      → {log : LogValue} {instances : List Instance} {stacks : Laid Action} {threads : List Thread} → GoneOn w t i stand a e log stacks threads
      → instances ≡ change_row w.instances i (λ x. record x { slots = slice_set x.slots slot content }) (row w.instances i)
      → Stepped w (record w { log = log; instances = instances; stacks = stacks; threads = threads }) e
  slot_goes e may makes quiet lent {log} {instances} {stacks} {threads} on set =
      let n : length instances ≡ length w.instances = ap length set ∙ count_changed w.instances i _ in
      goes_quietly known e slot_made k may makes quiet
      (same_parts set refl (frames_so k acts on) (threads_so k acts on) refl refl refl refl)
      (logged_so k acts on (omega arith) (omega arith) n)
      (agrees_lent w.load (state_of w) slot_made w.heap.rows lent k.agrees)

-- ---- an object taken out

module _ {w : Inside} (k : IsKept w) (t i slot : ℕ) (stand : Standing) (would : WouldAct (kept w) t i (action.Take slot) stand) where
  pub take_acts : CodeActs w t i (action.Take slot) stand
  take_acts = code_acts k t i (action.Take slot) stand would (λ c same. cc)

  pub take_means : MeansAct w.load (state_of w) i (action.Take slot) (standing stand.line stand.registers)
  take_means = means_act k t i (action.Take slot) stand would (λ c same. cc)

  pub take_name : NamesSlot (domain_in w.load w.instances i) take_means.instr slot
  take_name = means_names take_means

  pub take_said : slot_named (domain_in w.load w.instances i) stand.line ≡ Some take_name.name
  take_said = named_so take_means ∙ take_name.said

  pub take_named : {found : Option (List ℕ)} {name : List ℕ} → found ≡ slot_named (domain_in w.load w.instances i) stand.line → found ≡ Some name → IsSlot w.load (state_of w) i slot name
  take_named is some = take_name.is ∙ (sym take_said ∙ (sym is ∙ some))

  pub take_some : {found : Option (List ℕ)} → found ≡ slot_named (domain_in w.load w.instances i) stand.line → found ≡ None → ⊥
  take_some is none = let e : None ≡ Some take_name.name = sym none ∙ (is ∙ take_said) in cc

  pub take_goes : Known → MayStep (kept w) t → (o : ℕ) (name : List ℕ) → in_slot (state_of w) i slot ≡ Some o → IsSlot w.load (state_of w) i slot name
      → {log : LogValue} {instances : List Instance} {stacks : Laid Action} {threads : List Thread}
      → GoneOn w t i stand (answer.Made o) (entry.Take t i name o) log stacks threads
      → instances ≡ change_row w.instances i (λ x. record x { slots = slice_set x.slots slot None }) (row w.instances i)
      → Stepped w (record w { log = log; instances = instances; stacks = stacks; threads = threads }) (entry.Take t i name o)
  take_goes known may o name full named on set =
      let makes : Row w.load (state_of w) (entry.Take t i name o) (slot_made known k take_acts (answer.Made o) slot None) = record { place = slot; named = named; full = full; does = slot_does known k take_acts (answer.Made o) slot None } in
      slot_goes known k take_acts (answer.Made o) slot None (entry.Take t i name o) may makes refl
      (known.loans w.load w.log.entries (state_of w) (slot_made known k take_acts (answer.Made o) slot None) (entry.Take t i name o) k.valid k.run may.enabled makes) on set

-- ---- an object put in

module _ {w : Inside} (k : IsKept w) (t i slot o : ℕ) (stand : Standing) (would : WouldAct (kept w) t i (action.Put slot o) stand) where
  pub put_acts : CodeActs w t i (action.Put slot o) stand
  put_acts = code_acts k t i (action.Put slot o) stand would (λ c same. cc)

  pub put_means : MeansAct w.load (state_of w) i (action.Put slot o) (standing stand.line stand.registers)
  put_means = means_act k t i (action.Put slot o) stand would (λ c same. cc)

  pub put_name : NamesSlot (domain_in w.load w.instances i) put_means.instr slot
  put_name = means_names put_means

  pub put_said : slot_named (domain_in w.load w.instances i) stand.line ≡ Some put_name.name
  put_said = named_so put_means ∙ put_name.said

  pub put_named : {found : Option (List ℕ)} {name : List ℕ} → found ≡ slot_named (domain_in w.load w.instances i) stand.line → found ≡ Some name → IsSlot w.load (state_of w) i slot name
  put_named is some = put_name.is ∙ (sym put_said ∙ (sym is ∙ some))

  pub put_some : {found : Option (List ℕ)} → found ≡ slot_named (domain_in w.load w.instances i) stand.line → found ≡ None → ⊥
  put_some is none = let e : None ≡ Some put_name.name = sym none ∙ (is ∙ put_said) in cc

  pub put_goes : Known → MayStep (kept w) t → (name : List ℕ) → IsSlot w.load (state_of w) i slot name
      → {log : LogValue} {instances : List Instance} {stacks : Laid Action} {threads : List Thread}
      → GoneOn w t i stand answer.Went (entry.Put t i name o) log stacks threads
      → instances ≡ change_row w.instances i (λ x. record x { slots = slice_set x.slots slot (Some o) }) (row w.instances i)
      → Stepped w (record w { log = log; instances = instances; stacks = stacks; threads = threads }) (entry.Put t i name o)
  put_goes known may name named on set =
      let makes : Row w.load (state_of w) (entry.Put t i name o) (slot_made known k put_acts answer.Went slot (Some o)) = record { place = slot; named = named; empty = put_acts.can.0; does = slot_does known k put_acts answer.Went slot (Some o) } in
      slot_goes known k put_acts answer.Went slot (Some o) (entry.Put t i name o) may makes refl
      (known.loans w.load w.log.entries (state_of w) (slot_made known k put_acts answer.Went slot (Some o)) (entry.Put t i name o) k.valid k.run may.enabled makes) on set
