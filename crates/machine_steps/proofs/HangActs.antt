-- A frame moves an object into a cell of another, and out of one.
use Rattle.std.proofs.Common.{◌≡◌, ℕ, zero, suc, ◌<◌, true, false, List, [], ◌∷◌, length, Some, None, slice_get, refl, sym, ap, subst, ◌∙◌, arith}
use Rattle.std.specs.List.{list_any}
use Rattle.std.specs.Option.{option_map_or}
use Rattle.std.proofs.lemmas.Option.{slice_get_within}
use Rattle.rl_defs.specs.declared.tables.Kind.{Kind}
use Rattle.rl_defs.specs.declared.tables.Kind.TheVariants as kind
use Rattle.rl_defs.specs.CodeNames.{cells_of}
use Rattle.rl_defs.proofs.ValidFacts.{one_deep}
use Rattle.machine_defs.specs.declared.values.Owner.{Owner}
use Rattle.machine_defs.specs.declared.values.Owner.TheVariants as owner
use Rattle.machine_defs.specs.declared.entry.Entry.TheVariants as entry
use Rattle.machine_defs.specs.declared.frame.Action.{Action}
use Rattle.machine_defs.specs.declared.frame.Action.TheVariants as action
use Rattle.machine_defs.specs.declared.frame.Answer.TheVariants as answer
use Rattle.machine_defs.specs.LogValue.{LogValue}
use Rattle.machine_defs.specs.Frames.{acting}
use Rattle.machine_defs.specs.Objects.{hung_in, kinds_of, owned_by, placed, with_placement}
use Rattle.machine_defs.specs.Sound.{IsRoot}
use Rattle.machine_defs.specs.State.{State, Thread, Root, Hung}
use Rattle.machine_defs.specs.Steps.{Row}
use Rattle.step_laws.specs.StepLaws.{NamesRoots}
use Rattle.machine_laws.proofs.ObjectsKept.{does_fit}
use Rattle.rref_heap.specs.HeapValue.{HeapValue, cells_at, hung_at, is_rref, nests_at, root_owner}
use Rattle.rref_heap.specs.Kept.{IsHeapOf}
use Rattle.trampolines.specs.Laid.{Laid}
use Rattle.machine_steps.specs.declared.machine.Machine.TheInside.{Inside}
use Rattle.machine_steps.specs.declared.standing.Standing.{Standing}
use Rattle.machine_steps.specs.Kept.{MayStep}
use Rattle.machine_steps.specs.Inside.{state_of, kept, IsKept}
use Rattle.machine_steps.specs.Known.{Known}
use Rattle.machine_steps.specs.Acting.{WouldAct}
use Rattle.machine_steps.proofs.Stepping.{Stepped}
use Rattle.machine_steps.proofs.Acting.{CodeActs, code_acts, answered_state, does, holds}
use Rattle.machine_steps.proofs.ActSteps.{GoneOn, acting_is, has_first, has_second}
use Rattle.machine_steps.proofs.ObjectChanges.{changed_heap, object_goes}
use Rattle.machine_steps.proofs.RowsSeen.{RootSeen, root_seen}

-- where a cell is for an object, some are; where none is, none are
some_rref : (kinds : List Kind) (at s : ℕ) → slice_get kinds at ≡ Some (kind.Own s) → list_any is_rref kinds ≡ true
some_rref [] at s is = absurd cc
some_rref (j ∷ kinds) zero s is = let e : j ≡ kind.Own s = cc in rw e refl
some_rref (kind.Num w ∷ kinds) (suc at) s is = some_rref kinds at s is
some_rref (kind.Own r ∷ kinds) (suc at) s is = refl
some_rref (kind.Lent r ∷ kinds) (suc at) s is = some_rref kinds at s is
some_rref (kind.Cap r ∷ kinds) (suc at) s is = some_rref kinds at s is

none_rref : (kinds : List Kind) → ((at s : ℕ) → slice_get kinds at ≡ Some (kind.Own s) → ⊥) → list_any is_rref kinds ≡ false
none_rref [] none = refl
none_rref (kind.Num w ∷ kinds) none = none_rref kinds (λ at s e. none (suc at) s e)
none_rref (kind.Own r ∷ kinds) none = absurd (none 0 r refl)
none_rref (kind.Lent r ∷ kinds) none = none_rref kinds (λ at s e. none (suc at) s e)
none_rref (kind.Cap r ∷ kinds) none = none_rref kinds (λ at s e. none (suc at) s e)

-- ---- into a cell

-- what is known of the two objects
pub record MayHang (w : Inside) (o at v : ℕ) : Type 0 where
  pub above : Owner
  pub beside : Owner
  pub parent : RootSeen w o above
  pub child : RootSeen w v beside
  pub nests : nests_at w.heap.rows o ≡ true
  pub low : nests_at w.heap.rows v ≡ false
  pub within : at < length (cells_at w.heap.rows o)
  pub empty : hung_at w.heap.rows o at ≡ None

module _ {w : Inside} (k : IsKept w) (heap : IsHeapOf w.heap) (t i o at v : ℕ) (stand : Standing) (would : WouldAct (kept w) t i (action.Hang o at v) stand) where
  pub hang_acts : CodeActs w t i (action.Hang o at v) stand
  hang_acts = code_acts k t i (action.Hang o at v) stand would (λ c same. cc)

  abbrev hang_made : State
  hang_made = placed v (Hung o at) (answered_state w hang_acts.on answer.Went)

  hang_makes : Row w.load (state_of w) (entry.Hang t o at v) hang_made
  hang_makes = record { inside = i; empty = hang_acts.can.0; does = does hang_acts answer.Went (placed v (Hung o at)) (λ m. refl) }

  pub may_hang : Known → MayStep (kept w) t → MayHang w o at v
  may_hang known may =
      let names : NamesRoots (state_of w) (entry.Hang t o at v) = known.roots w.load w.log.entries (state_of w) hang_made (entry.Hang t o at v) k.valid k.run may.enabled hang_makes in
      let parent = root_seen k heap o (acting (state_of w) t) (names.changed o (has_second v o)).0 in
      let child = root_seen k heap v (acting (state_of w) t) (names.changed v (has_first v (o ∷ []))).0 in
      let cell : slice_get (cells_of w.load.tables parent.object.ty) at ≡ Some (kind.Own child.object.ty) =
      ap (λ x. slice_get (kinds_of w.load x) at) (sym parent.here)
      ∙ (does_fit k.valid k.valid.tables (holds k).laid (holds k).fits (λ c same. cc) hang_makes.does
      ∙ ap (λ x. Some (kind.Own (option_map_or (λ y. y.ty) x (length w.load.tables.structs)))) child.here) in
      let many : length parent.object.cells ≡ length (cells_of w.load.tables parent.object.ty) = ((holds k).fits.objects o parent.object parent.here).cells in
      let within : at < length (cells_of w.load.tables parent.object.ty) = slice_get_within (cells_of w.load.tables parent.object.ty) at (kind.Own child.object.ty) cell in
      let same : length (cells_at w.heap.rows o) ≡ length parent.object.cells = ap length parent.cells in
      record {
        above = acting (state_of w) t;
        beside = acting (state_of w) t;
        parent = parent;
        child = child;
        nests = parent.nests ∙ some_rref (cells_of w.load.tables parent.object.ty) at child.object.ty cell;
        low = child.nests ∙ none_rref (cells_of w.load.tables child.object.ty) (λ q g e. one_deep w.load.tables k.valid.tables parent.object.ty at child.object.ty q g cell e);
        within = omega (arith, within, many, same);
        empty = hang_acts.can.0;
      }

  pub hang_goes : Known → MayStep (kept w) t → {log : LogValue} {after : HeapValue} {stacks : Laid Action} {threads : List Thread}
      → GoneOn w t i stand answer.Went (entry.Hang t o at v) log stacks threads → after ≡ changed_heap w.heap v (with_placement (Hung o at))
      → Stepped w (record w { log = log; heap = after; stacks = stacks; threads = threads }) (entry.Hang t o at v)
  hang_goes known may on is =
      object_goes known k hang_acts answer.Went v (with_placement (Hung o at)) (λ x. refl) (entry.Hang t o at v) may hang_makes refl
      (known.loans w.load w.log.entries (state_of w) hang_made (entry.Hang t o at v) k.valid k.run may.enabled hang_makes) on is

-- ---- out of a cell

-- an object hangs in the cell
pub record HungFull (w : Inside) (o at : ℕ) : Type 0 where
  pub hung : ℕ
  pub is : hung_in (state_of w) o at ≡ Some hung

pub hung_full : {w : Inside} (k : IsKept w) (t i o at : ℕ) (stand : Standing) → WouldAct (kept w) t i (action.Unhang o at) stand → HungFull w o at
hung_full k t i o at stand would =
    let acts = code_acts k t i (action.Unhang o at) stand would (λ c same. cc) in
    record { hung = acts.can.object; is = acts.can.there }

module _ {w : Inside} (k : IsKept w) (heap : IsHeapOf w.heap) (t i o at v : ℕ) (stand : Standing) (would : WouldAct (kept w) t i (action.Unhang o at) stand) (full : hung_in (state_of w) o at ≡ Some v) where
  pub unhang_acts : CodeActs w t i (action.Unhang o at) stand
  unhang_acts = code_acts k t i (action.Unhang o at) stand would (λ c same. cc)

  abbrev unhang_made : State
  unhang_made = placed v (Root (owner.Instance i)) (answered_state w unhang_acts.on (answer.Made v))

  unhang_makes : Row w.load (state_of w) (entry.Unhang t o at v) unhang_made
  unhang_makes = record { inside = i; full = full; does = does unhang_acts (answer.Made v) (placed v (Root (owner.Instance i))) (λ m. refl) }

  pub unhang_root : Known → MayStep (kept w) t → RootSeen w o (owner.Instance i)
  unhang_root known may =
      let names : NamesRoots (state_of w) (entry.Unhang t o at v) = known.roots w.load w.log.entries (state_of w) unhang_made (entry.Unhang t o at v) k.valid k.run may.enabled unhang_makes in
      root_seen k heap o (owner.Instance i) (subst (IsRoot (state_of w) o) (acting_is unhang_acts.on) (names.changed o (has_first o [])).0)

  pub unhang_goes : Known → MayStep (kept w) t → {log : LogValue} {after : HeapValue} {stacks : Laid Action} {threads : List Thread} {hung : ℕ}
      → GoneOn w t i stand (answer.Made v) (entry.Unhang t o at v) log stacks threads → hung_at w.heap.rows o at ≡ Some hung
      → ((x : Owner) → root_owner w.heap.rows o ≡ Some x → after ≡ changed_heap w.heap hung (owned_by x))
      → Stepped w (record w { log = log; heap = after; stacks = stacks; threads = threads }) (entry.Unhang t o at v)
  unhang_goes known may {log} {after} {stacks} {threads} {hung} on found passes =
      let e : Some hung ≡ Some v = sym found ∙ full in
      let same : hung ≡ v = cc in
      let is : after ≡ changed_heap w.heap v (owned_by (owner.Instance i)) = passes (owner.Instance i) (unhang_root known may).owner ∙ ap (λ u. changed_heap w.heap u (owned_by (owner.Instance i))) same in
      object_goes known k unhang_acts (answer.Made v) v (owned_by (owner.Instance i)) (λ x. refl) (entry.Unhang t o at v) may unhang_makes refl
      (known.loans w.load w.log.entries (state_of w) unhang_made (entry.Unhang t o at v) k.valid k.run may.enabled unhang_makes) on is
