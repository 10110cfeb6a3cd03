-- An action of a frame that changes one object, but neither its number nor its struct.
use Rattle.std.proofs.Common.{◌≡◌, ℕ, ◌+◌, ◌==◌, true, if◌then◌else◌, List, length, map, Some, None, refl, sym, ap, subst, ◌∙◌, arith, inl, inr}
use Rattle.std.proofs.lemmas.Bool.{cases_Bool}
use Rattle.std.proofs.lemmas.List.{length-map}
use Rattle.machine_defs.specs.declared.entry.Entry.{Entry}
use Rattle.machine_defs.specs.declared.frame.Action.{Action}
use Rattle.machine_defs.specs.declared.frame.Answer.{Answer}
use Rattle.machine_defs.specs.LogValue.{LogValue}
use Rattle.machine_defs.specs.State.{State, Object, Thread}
use Rattle.machine_defs.specs.Entries.{thread_of}
use Rattle.machine_defs.specs.Loans.{loans}
use Rattle.machine_defs.specs.Objects.{change_object}
use Rattle.machine_defs.specs.Steps.{Row}
use Rattle.step_laws.specs.StepLaws.{is_quiet}
use Rattle.rref_heap.specs.HeapValue.{HeapValue, heap_objects}
use Rattle.rref_heap.specs.Changing.{on_object, with_object}
use Rattle.rref_heap.proofs.Objects.{objects_on_object}
use Rattle.trampolines.specs.Laid.{Laid}
use Rattle.machine_steps.specs.declared.machine.Machine.TheInside.{Inside}
use Rattle.machine_steps.specs.declared.standing.Standing.{Standing}
use Rattle.machine_steps.specs.Kept.{MayStep, Agrees}
use Rattle.machine_steps.specs.Inside.{state_of, kept, IsKept}
use Rattle.machine_steps.specs.Known.{Known}
use Rattle.machine_steps.proofs.Stepping.{Stepped, goes_quietly, agrees_mapped, KeepsRows}
use Rattle.machine_steps.proofs.Acting.{CodeActs, answered_state, same_parts}
use Rattle.machine_steps.proofs.ActSteps.{GoneOn, frames_so, threads_so, logged_so}

-- its row keeps what is beside the object
pub object_keeps_rows : (o : ℕ) (change : Object → Object) → ((x : Object) → (change x).ty ≡ x.ty) → KeepsRows (on_object o change)
object_keeps_rows o change keeps None r is = absurd cc
object_keeps_rows o change keeps (Some q) r is = elim (cases_Bool (q.object.number == o)) [
  | inl this ↦
      let e : Some (with_object change q) ≡ Some r = rw this at is in
      let same : with_object change q ≡ r = cc in
      (q, refl, ap (λ p. p.loans) (sym same), ap (λ p. p.nests) (sym same), ap (λ p. p.object.ty) (sym same) ∙ keeps q.object, ap (λ p. p.leaves) (sym same))
  | inr other ↦
      let e : Some q ≡ Some r = rw other at is in
      let same : q ≡ r = cc in
      (q, refl, ap (λ p. p.loans) (sym same), ap (λ p. p.nests) (sym same), ap (λ p. p.object.ty) (sym same), ap (λ p. p.leaves) (sym same))
]

-- the heap, where the object is changed
abbrev pub changed_heap : HeapValue → ℕ → (Object → Object) → HeapValue
changed_heap heap o change = record heap { rows = map (on_object o change) heap.rows }

module _ (known : Known) {w : Inside} (k : IsKept w) {t i : ℕ} {act : Action} {stand : Standing} (acts : CodeActs w t i act stand) (a : Answer) (o : ℕ) (change : Object → Object) (keeps : (x : Object) → (change x).ty ≡ x.ty) where
  abbrev pub changed_made : State
  changed_made = change_object o change (answered_state w acts.on a)

  pub object_goes : (e : Entry) → MayStep (kept w) (thread_of e) → Row w.load (state_of w) e changed_made → is_quiet e ≡ true → ((q : ℕ) → loans changed_made q ≡ loans (state_of w) q)
      → {log : LogValue} {heap : HeapValue} {stacks : Laid Action} {threads : List Thread} → GoneOn w t i stand a e log stacks threads → heap ≡ changed_heap w.heap o change
      → Stepped w (record w { log = log; heap = heap; stacks = stacks; threads = threads }) e
  object_goes e may makes quiet lent {log} {heap} {stacks} {threads} on is =
      let clients : heap.clients ≡ w.heap.clients = ap (λ h. h.clients) is in
      let owners : heap.instances ≡ w.heap.instances = ap (λ h. h.instances) is in
      let objects : heap_objects heap.rows ≡ map (λ x. if x.number == o then change x else x) (heap_objects w.heap.rows) = ap (λ h. heap_objects h.rows) is ∙ objects_on_object o change w.heap.rows in
      let next : length heap.rows + 1 ≡ length w.heap.rows + 1 = ap (λ h. length h.rows + 1) is ∙ ap (λ n. n + 1) (length-map w.heap.rows (on_object o change)) in
      goes_quietly known e changed_made k may makes quiet
      (same_parts refl objects (frames_so k acts on) (threads_so k acts on) refl refl next refl)
      (logged_so k acts on (omega (arith, clients)) (omega (arith, owners)) refl)
      (subst (λ h. Agrees w.load changed_made h.rows) (sym is)
      (agrees_mapped w.load (state_of w) changed_made w.heap.rows (on_object o change) refl (object_keeps_rows o change keeps) lent k.agrees))
