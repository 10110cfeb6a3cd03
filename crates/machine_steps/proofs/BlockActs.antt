-- A frame reads and writes blocks of the device.
use Rattle.std.proofs.Common.{◌≡◌, ℕ, ◌<◌, true, List, [], length, slice_set, refl, sym, ap, subst, ◌∙◌, arith}
use Rattle.std.specs.List.{slice_index_or}
use Rattle.std.proofs.lemmas.Option.{slice_get-get_or}
use Rattle.rl_defs.specs.declared.tables.Width.TheVariants as width
use Rattle.machine_defs.specs.declared.values.Owner.{Owner}
use Rattle.machine_defs.specs.declared.entry.Entry.TheVariants as entry
use Rattle.machine_defs.specs.declared.frame.Action.{Action}
use Rattle.machine_defs.specs.declared.frame.Action.TheVariants as action
use Rattle.machine_defs.specs.declared.frame.Answer.TheVariants as answer
use Rattle.machine_defs.specs.LogValue.{LogValue}
use Rattle.rl_defs.specs.CodeNames.{cells_of}
use Rattle.rl_defs.specs.NativeShapes.{has_cells}
use Rattle.machine_defs.specs.State.{State, Thread}
use Rattle.machine_defs.specs.Loans.{object_of}
use Rattle.machine_defs.specs.Objects.{kinds_of, cells_in, with_cells, with_cells_of}
use Rattle.machine_defs.specs.ObjectRows.{Does, block, with_block, instead}
use Rattle.machine_defs.specs.Frames.{acting}
use Rattle.machine_defs.specs.Steps.{Row}
use Rattle.machine_laws.proofs.CellsFit.{cells_block}
use Rattle.machine_laws.proofs.ObjectsKept.{does_fit}
use Rattle.rref_heap.specs.HeapValue.{HeapValue, cells_at}
use Rattle.rref_heap.specs.Kept.{IsHeapOf}
use Rattle.trampolines.specs.Laid.{Laid}
use Rattle.machine_steps.specs.declared.machine.Machine.TheInside.{Inside}
use Rattle.machine_steps.specs.declared.standing.Standing.{Standing}
use Rattle.machine_steps.specs.Kept.{MayStep}
use Rattle.machine_steps.specs.Inside.{state_of, kept, IsKept}
use Rattle.machine_steps.specs.Known.{Known}
use Rattle.machine_steps.specs.Acting.{WouldAct}
use Rattle.machine_steps.proofs.Stepping.{Stepped, goes_quietly, agrees_lent}
use Rattle.machine_steps.proofs.Acting.{CodeActs, code_acts, answered_state, does, same_parts, holds}
use Rattle.machine_steps.proofs.ActSteps.{GoneOn, frames_so, threads_so, logged_so, has_first}
use Rattle.machine_steps.proofs.ObjectChanges.{changed_heap, object_goes}
use Rattle.machine_steps.proofs.RowsSeen.{RootSeen, root_seen, cells_seen}

-- ---- the object's cells become the block

module _ {w : Inside} (k : IsKept w) (heap : IsHeapOf w.heap) (t i b o : ℕ) (stand : Standing) (would : WouldAct (kept w) t i (action.DevPut b o) stand) where
  pub devput_acts : CodeActs w t i (action.DevPut b o) stand
  devput_acts = code_acts k t i (action.DevPut b o) stand would (λ c same. cc)

  abbrev devput_change : State → State
  devput_change = with_block b (cells_in (object_of (state_of w) o))

  abbrev devput_made : State
  devput_made = devput_change (answered_state w devput_acts.on answer.Went)

  devput_does : Does w.load (state_of w) t i (action.DevPut b o) answer.Went devput_change devput_made
  devput_does = does devput_acts answer.Went devput_change (λ m. refl)

  pub devput_root : Known → MayStep (kept w) t → (v : Owner) × RootSeen w o v
  devput_root known may =
      let names = known.roots w.load w.log.entries (state_of w) devput_made (entry.DevPut t b o) k.valid k.run may.enabled (i, devput_does) in
      let r = names.seen o (has_first o []) in
      (r.0, root_seen k heap o r.0 r.1)

  -- a block is as large as the object
  pub devput_size : Known → MayStep (kept w) t → {cells : List ℕ} → cells ≡ cells_at w.heap.rows o → length cells ≡ 64
  devput_size known may {cells} is =
      let r = (devput_root known may).1 in
      let wide : has_cells 64 width.W64 (kinds_of w.load (object_of (state_of w) o)) ≡ true = does_fit k.valid k.valid.tables (holds k).laid (holds k).fits (λ c same. cc) devput_does in
      let fit = cells_block (cells_of w.load.tables r.object.ty) r.object.cells (subst (λ x. has_cells 64 width.W64 (kinds_of w.load x) ≡ true) r.here wide) ((holds k).fits.objects o r.object r.here).numbers in
      ap length is ∙ (ap length r.cells ∙ fit.size)

  pub devput_goes : Known → MayStep (kept w) t → {cells : List ℕ} {log : LogValue} {stacks : Laid Action} {threads : List Thread} {blocks : List (List ℕ)}
      → GoneOn w t i stand answer.Went (entry.DevPut t b o) log stacks threads → cells ≡ cells_at w.heap.rows o → blocks ≡ slice_set w.blocks b cells
      → Stepped w (record w { log = log; stacks = stacks; threads = threads; blocks = blocks }) (entry.DevPut t b o)
  devput_goes known may {cells} {log} {stacks} {threads} {blocks} on is set =
      let makes : Row w.load (state_of w) (entry.DevPut t b o) devput_made = (i, devput_does) in
      goes_quietly known (entry.DevPut t b o) devput_made k may makes refl
      (same_parts refl refl (frames_so k devput_acts on) (threads_so k devput_acts on) refl (set ∙ ap (slice_set w.blocks b) (is ∙ cells_seen k heap o)) refl refl)
      (logged_so k devput_acts on (omega arith) (omega arith) refl)
      (agrees_lent w.load (state_of w) devput_made w.heap.rows (known.loans w.load w.log.entries (state_of w) devput_made (entry.DevPut t b o) k.valid k.run may.enabled makes) k.agrees)

-- ---- the block becomes the object's cells

module _ {w : Inside} (k : IsKept w) (heap : IsHeapOf w.heap) (t i o b : ℕ) (stand : Standing) (would : WouldAct (kept w) t i (action.DevGet o b) stand) where
  pub devget_acts : CodeActs w t i (action.DevGet o b) stand
  devget_acts = code_acts k t i (action.DevGet o b) stand would (λ c same. cc)

  abbrev devget_change : State → State
  devget_change = with_cells_of o (instead (block (state_of w) b))

  abbrev devget_made : State
  devget_made = devget_change (answered_state w devget_acts.on answer.Went)

  devget_does : Does w.load (state_of w) t i (action.DevGet o b) answer.Went devget_change devget_made
  devget_does = does devget_acts answer.Went devget_change (λ m. refl)

  pub devget_root : Known → MayStep (kept w) t → (v : Owner) × RootSeen w o v
  devget_root known may =
      let names = known.roots w.load w.log.entries (state_of w) devget_made (entry.DevGet t o b) k.valid k.run may.enabled (i, devget_does) in
      let r = (names.changed o (has_first o [])).0 in
      (acting (state_of w) t, root_seen k heap o (acting (state_of w) t) r)

  -- the object is as large as a block
  pub devget_size : Known → MayStep (kept w) t → {cells : List ℕ} → cells ≡ slice_index_or w.blocks b [] → length cells ≡ length (cells_at w.heap.rows o)
  devget_size known may {cells} is =
      let r = (devget_root known may).1 in
      let fits = (holds k).fits in
      let put = does_fit k.valid k.valid.tables (holds k).laid fits (λ c same. cc) devget_does in
      let fit = cells_block (cells_of w.load.tables r.object.ty) r.object.cells (subst (λ x. has_cells 64 width.W64 (kinds_of w.load x) ≡ true) r.here put.0) (fits.objects o r.object r.here).numbers in
      let within : b < length w.blocks = omega (arith, put.1, fits.device.count) in
      let whole = fits.device.each b (slice_index_or w.blocks b []) (slice_get-get_or w.blocks b [] within) in
      ap length is ∙ (whole.size ∙ sym (ap length r.cells ∙ fit.size))

  pub devget_goes : Known → MayStep (kept w) t → {cells : List ℕ} {log : LogValue} {after : HeapValue} {stacks : Laid Action} {threads : List Thread}
      → GoneOn w t i stand answer.Went (entry.DevGet t o b) log stacks threads → cells ≡ slice_index_or w.blocks b [] → after ≡ changed_heap w.heap o (with_cells (instead cells))
      → Stepped w (record w { log = log; heap = after; stacks = stacks; threads = threads }) (entry.DevGet t o b)
  devget_goes known may on same is =
      let makes : Row w.load (state_of w) (entry.DevGet t o b) devget_made = (i, devget_does) in
      object_goes known k devget_acts answer.Went o (with_cells (instead (block (state_of w) b))) (λ x. refl) (entry.DevGet t o b) may makes refl
      (known.loans w.load w.log.entries (state_of w) devget_made (entry.DevGet t o b) k.valid k.run may.enabled makes) on
      (is ∙ ap (λ cs. changed_heap w.heap o (with_cells (instead cs))) same)
