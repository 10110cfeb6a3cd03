-- A frame gives an object up.
use Rattle.std.proofs.Common.{◌≡◌, ℕ, ◌+◌, ◌≤◌, List, [], ◌∷◌, ◌++◌, length, map, refl, sym, ap, subst, ◌∙◌, arith, inr}
use Rattle.std.proofs.lemmas.List.{append_assoc}
use Rattle.machine_defs.specs.declared.values.Owner.{Owner}
use Rattle.machine_defs.specs.declared.entry.Entry.{Entry}
use Rattle.machine_defs.specs.declared.entry.Entry.TheVariants as entry
use Rattle.machine_defs.specs.declared.frame.Action.{Action}
use Rattle.machine_defs.specs.declared.frame.Action.TheVariants as action
use Rattle.machine_defs.specs.declared.frame.Answer.TheVariants as answer
use Rattle.machine_defs.specs.LogValue.{LogValue}
use Rattle.machine_defs.specs.Frames.{acting}
use Rattle.machine_defs.specs.Loans.{sweep}
use Rattle.machine_defs.specs.Objects.{without}
use Rattle.machine_defs.specs.State.{State, Thread}
use Rattle.machine_defs.specs.Steps.{Row}
use Rattle.step_laws.specs.StepLaws.{NamesRoots}
use Rattle.rref_heap.specs.HeapValue.{HeapValue, heap_objects, loans_at}
use Rattle.rref_heap.specs.Kept.{IsHeapOf}
use Rattle.rref_heap.specs.Leaving.{leaving_in, swept_rows}
use Rattle.trampolines.specs.Laid.{Laid}
use Rattle.machine_steps.specs.declared.machine.Machine.TheInside.{Inside}
use Rattle.machine_steps.specs.declared.standing.Standing.{Standing}
use Rattle.machine_steps.specs.Kept.{MayStep, Agrees}
use Rattle.machine_steps.specs.Inside.{state_of, kept, IsKept}
use Rattle.machine_steps.specs.Known.{Known}
use Rattle.machine_steps.specs.Acting.{WouldAct}
use Rattle.machine_steps.proofs.Stepping.{Stepped, goes}
use Rattle.machine_steps.proofs.Acting.{CodeActs, code_acts, answered_state, does, same_parts}
use Rattle.machine_steps.proofs.ActSteps.{GoneOn, frames_so, threads_so, has_first}
use Rattle.machine_steps.proofs.Dropping.{dropped_rows, drop_agrees, drop_count, drop_frees, drop_room, drop_stays}
use Rattle.machine_steps.proofs.RowsSeen.{RootSeen, root_seen}

-- the heap without the object, what hung in it listed for the sweep, and behind the sweep
abbrev pub listed_heap : HeapValue → ℕ → HeapValue
listed_heap heap o = record heap { rows = dropped_rows o heap.rows }

abbrev pub swept_heap : HeapValue → HeapValue
swept_heap heap = record heap { rows = swept_rows heap.rows }

-- the object is a root, and isn't lent
pub record MayDrop (w : Inside) (o : ℕ) : Type 0 where
  pub above : Owner
  pub root : RootSeen w o above
  pub unlent : loans_at w.heap.rows o ≡ 0

module _ {w : Inside} (k : IsKept w) (heap : IsHeapOf w.heap) (t i o : ℕ) (stand : Standing) (would : WouldAct (kept w) t i (action.Drop o) stand) where
  pub drop_acts : CodeActs w t i (action.Drop o) stand
  drop_acts = code_acts k t i (action.Drop o) stand would (λ c same. cc)

  abbrev drop_made : State
  drop_made = without (o ∷ []) (answered_state w drop_acts.on answer.Went)

  drop_makes : Row w.load (state_of w) (entry.Drop t o) drop_made
  drop_makes = inr (i, does drop_acts answer.Went (without (o ∷ [])) (λ m. refl))

  pub may_drop : Known → MayStep (kept w) t → MayDrop w o
  may_drop known may =
      let names : NamesRoots (state_of w) (entry.Drop t o) = known.roots w.load w.log.entries (state_of w) drop_made (entry.Drop t o) k.valid k.run may.enabled drop_makes in
      let changed = names.changed o (has_first o []) in
      let root = root_seen k heap o (acting (state_of w) t) changed.0 in
      record { above = acting (state_of w) t; root = root; unlent = root.lent ∙ changed.1 }

  -- what is freed has room in the log
  pub drop_logs : Known → MayStep (kept w) t → {listed : HeapValue} {room : ℕ} → listed ≡ listed_heap w.heap o → room + 1 ≡ w.log.spare → length (leaving_in listed.rows) ≤ room
  drop_logs known may {listed} {room} is spare =
      let few = drop_room known k t o drop_made may drop_makes refl in
      let same : length (leaving_in listed.rows) ≡ length (leaving_in (dropped_rows o w.heap.rows)) = ap (λ h. length (leaving_in h.rows)) is in
      omega (arith, few, same, spare)

  pub drop_goes : Known → MayStep (kept w) t → {listed after : HeapValue} {log freed' : LogValue} {stacks : Laid Action} {threads : List Thread}
      → GoneOn w t i stand answer.Went (entry.Drop t o) log stacks threads → listed ≡ listed_heap w.heap o → after ≡ swept_heap listed
      → freed'.entries ≡ log.entries ++ map entry.Free (leaving_in listed.rows) → freed'.spare + length (leaving_in listed.rows) ≡ log.spare
      → Stepped w (record w { log = freed'; heap = after; stacks = stacks; threads = threads }) (entry.Drop t o)
  drop_goes known may {listed} {after} {log} {freed'} {stacks} {threads} on is swept entries spare =
      let frees : List ℕ = leaving_in (dropped_rows o w.heap.rows) in
      let behind : after ≡ swept_heap (listed_heap w.heap o) = swept ∙ ap swept_heap is in
      let count : length after.rows + 1 ≡ length w.heap.rows + 1 = ap (λ h. length h.rows + 1) behind ∙ ap (λ n. n + 1) (drop_count known k t o drop_made may drop_makes refl) in
      let clients : after.clients ≡ w.heap.clients = ap (λ h. h.clients) behind in
      let owners : after.instances ≡ w.heap.instances = ap (λ h. h.instances) behind in
      let many : length (leaving_in listed.rows) ≡ length frees = ap (λ h. length (leaving_in h.rows)) is in
      let all : freed'.entries ≡ w.log.entries ++ entry.Drop t o ∷ map entry.Free frees =
      entries ∙ (ap (λ h. log.entries ++ map entry.Free (leaving_in h.rows)) is
      ∙ (ap (λ (xs : List Entry). xs ++ map entry.Free frees) on.entries ∙ append_assoc w.log.entries (entry.Drop t o ∷ []) (map entry.Free frees))) in
      let becomes : state_of (record w { log = freed'; heap = after; stacks = stacks; threads = threads }) ≡ sweep drop_made =
      same_parts refl (ap (λ h. heap_objects h.rows) behind ∙ drop_stays known k t o drop_made may drop_makes refl) (frames_so k drop_acts on) (threads_so k drop_acts on) refl refl count refl in
      goes known (entry.Drop t o) drop_made frees k may drop_makes (drop_frees known k t o drop_made may drop_makes refl) becomes
      (record {
        load = refl;
        proxies = refl;
        entries = all;
        spare = omega (arith, spare, many, on.spare);
        counts = omega (arith, on.counts, k.rooms.counts);
        clients = omega (arith, clients);
        owners = omega (arith, owners, k.rooms.owners);
      })
      (subst (λ s. Agrees w.load s after.rows) (sym becomes) (subst (λ h. Agrees w.load (sweep drop_made) h.rows) (sym behind) (drop_agrees known k t o drop_made may drop_makes refl)))
