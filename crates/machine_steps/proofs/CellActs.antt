-- A frame sets a cell of an object.
use Rattle.std.proofs.Common.{◌≡◌, ℕ, ◌+◌, ◌<◌, ◌≤◌, true, List, [], ◌∷◌, length, Option, Some, None, slice_get, is_some, refl, ap, arith}
use Rattle.std.proofs.lemmas.Option.{slice_get_within}
use Rattle.rl_defs.specs.declared.tables.Kind.{Kind}
use Rattle.rl_defs.specs.declared.tables.Kind.TheVariants as kind
use Rattle.machine_defs.specs.declared.values.Owner.{Owner}
use Rattle.machine_defs.specs.declared.entry.Entry.TheVariants as entry
use Rattle.machine_defs.specs.declared.frame.Action.TheVariants as action
use Rattle.machine_defs.specs.declared.frame.Answer.TheVariants as answer
use Rattle.machine_defs.specs.LogValue.{LogValue}
use Rattle.machine_defs.specs.State.{State, Thread}
use Rattle.machine_defs.specs.Frames.{acting}
use Rattle.machine_defs.specs.Loans.{object_of}
use Rattle.machine_defs.specs.Objects.{cells_in, if_number, kinds_of, with_cells, with_cells_of, overwritten}
use Rattle.machine_defs.specs.ObjectRows.{Does}
use Rattle.machine_defs.specs.Steps.{Row}
use Rattle.rref_heap.specs.HeapValue.{HeapValue, cells_at}
use Rattle.rref_heap.specs.Kept.{IsHeapOf}
use Rattle.trampolines.specs.Laid.{Laid}
use Rattle.machine_defs.specs.declared.frame.Action.{Action}
use Rattle.machine_steps.specs.declared.machine.Machine.TheInside.{Inside}
use Rattle.machine_steps.specs.declared.standing.Standing.{Standing}
use Rattle.machine_steps.specs.Kept.{MayStep}
use Rattle.machine_steps.specs.Inside.{state_of, kept, IsKept}
use Rattle.machine_steps.specs.Known.{Known}
use Rattle.machine_steps.specs.Acting.{WouldAct}
use Rattle.machine_steps.proofs.Stepping.{Stepped}
use Rattle.machine_steps.proofs.Acting.{CodeActs, code_acts, answered_state, does}
use Rattle.machine_steps.proofs.ActSteps.{GoneOn, has_first}
use Rattle.machine_steps.proofs.ObjectChanges.{changed_heap, object_goes}
use Rattle.machine_steps.proofs.RowsSeen.{RootSeen, root_seen, cells_seen}

-- a number cell is one of the cells
cell_within : (k : Option Kind) (cells : List ℕ) (at : ℕ) → is_some (if_number k (slice_get cells at)) ≡ true → at < length cells
cell_within k cells at is = by_cell (slice_get cells at) refl
  where
    by_kind : (k : Option Kind) → is_some (if_number k None) ≡ true → ⊥
    by_kind None e = cc
    by_kind (Some (kind.Num w)) e = cc
    by_kind (Some (kind.Own s)) e = cc
    by_kind (Some (kind.Lent s)) e = cc
    by_kind (Some (kind.Cap t)) e = cc

    by_cell : (x : Option ℕ) → slice_get cells at ≡ x → at < length cells
    by_cell None e = absurd (by_kind k (rw e at is))
    by_cell (Some n) e = slice_get_within cells at n e

module _ {w : Inside} (k : IsKept w) (heap : IsHeapOf w.heap) (t i o at v : ℕ) (stand : Standing) (would : WouldAct (kept w) t i (action.Set o at (v ∷ [])) stand) where
  pub set_acts : CodeActs w t i (action.Set o at (v ∷ [])) stand
  set_acts = code_acts k t i (action.Set o at (v ∷ [])) stand would (λ c same. cc)

  abbrev set_change : State → State
  set_change = with_cells_of o (overwritten at (v ∷ []))

  abbrev set_made : State
  set_made = set_change (answered_state w set_acts.on answer.Went)

  set_does : Does w.load (state_of w) t i (action.Set o at (v ∷ [])) answer.Went set_change set_made
  set_does = does set_acts answer.Went set_change (λ m. refl)

  pub set_root : Known → MayStep (kept w) t → (x : Owner) × RootSeen w o x
  set_root known may =
      let names = known.roots w.load w.log.entries (state_of w) set_made (entry.Set t o at (v ∷ [])) k.valid k.run may.enabled (i, set_does) in
      (acting (state_of w) t, root_seen k heap o (acting (state_of w) t) (names.changed o (has_first o [])).0)

  pub set_within : at + 1 ≤ length (cells_at w.heap.rows o)
  set_within =
      let within = cell_within (slice_get (kinds_of w.load (object_of (state_of w) o)) at) (cells_in (object_of (state_of w) o)) at set_acts.can.0 in
      let same : length (cells_at w.heap.rows o) ≡ length (cells_in (object_of (state_of w) o)) = ap length (cells_seen k heap o) in
      omega (arith, within, same)

  pub set_goes : Known → MayStep (kept w) t → {log : LogValue} {after : HeapValue} {stacks : Laid Action} {threads : List Thread}
      → GoneOn w t i stand answer.Went (entry.Set t o at (v ∷ [])) log stacks threads → after ≡ changed_heap w.heap o (with_cells (overwritten at (v ∷ [])))
      → Stepped w (record w { log = log; heap = after; stacks = stacks; threads = threads }) (entry.Set t o at (v ∷ []))
  set_goes known may on is =
      let makes : Row w.load (state_of w) (entry.Set t o at (v ∷ [])) set_made = (i, set_does) in
      object_goes known k set_acts answer.Went o (with_cells (overwritten at (v ∷ []))) (λ x. refl) (entry.Set t o at (v ∷ [])) may makes refl
      (known.loans w.load w.log.entries (state_of w) set_made (entry.Set t o at (v ∷ [])) k.valid k.run may.enabled makes) on is
