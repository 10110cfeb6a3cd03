-- Frames stand where they may.
use Rattle.std.proofs.Common.{◌≡◌, ℕ, ◌+◌, ◌<◌, ◌≤◌, true, List, [], ◌∷◌, ◌++◌, length, refl, ap, sym, subst, ◌∙◌, arith}
use Rattle.machine_defs.specs.declared.values.Owner.TheVariants as owner
use Rattle.rl_defs.specs.declared.load.LoadRows.{LoadRows}
use Rattle.rl_defs.specs.Domains.{load_of_target, is_serial}
use Rattle.machine_defs.specs.State.{State, StackFrame, is_live}
use Rattle.rl_defs.specs.Rows.{row}
use Rattle.machine_defs.specs.State.{instance_load}
use Rattle.machine_defs.specs.Steps.{Turn}
use Rattle.machine_defs.specs.Sound.{IsFrame, FramesPlaced}
use Rattle.machine_laws.specs.LedgerOf.{frame_entry, ledger_of}
use Rattle.machine_laws.specs.LedgerSound.{Grounded}
use Rattle.machine_laws.specs.Shape.{Laid}
use Rattle.machine_laws.proofs.Ranks.{BelowIn, RankedIn, is_entered, frame_entered}
use Rattle.machine_laws.proofs.Tops.{bottom, entries}
use Rattle.machine_laws.proofs.Present.{stack_within}
use Rattle.machine_laws.proofs.KeptSteps.{Kept}
use Rattle.machine_laws.proofs.SoundStacks.{entries_split, entries_some, frame_splits, ranked_from, below_from, grounded_from, rises_over}

module _ (L : LoadRows) (us : List Turn) (s : State) (laid : Laid L s) (kept : Kept L us (ledger_of L s)) where
  -- a frame is of one of the clients
  pub frame_within : (t : ℕ) (below : List StackFrame) (f : StackFrame) → IsFrame s t below f → (0 < t) × (t ≤ length L.clients)
  frame_within t below f here = stack_within L s laid kept.owned t below here.above f here.here

  -- a frame and those below it stand on their client's own
  grounded_at : (t : ℕ) (below : List StackFrame) (f : StackFrame) → IsFrame s t below f → Grounded L (instance_load s) (length s.instances + 1) s.next_call t (frame_entry f ∷ entries t below (row s.threads t))
  grounded_at t below f here =
      let w = frame_within t below f here in
      let r = frame_splits L s t below f here in
      let whole = subst (Grounded L (instance_load s) (length s.instances + 1) s.next_call t) r.1 (kept.placed.grounded t w.0 w.1) in
      grounded_from L (instance_load s) (length s.instances + 1) s.next_call t r.0 (frame_entry f) (entries t below (row s.threads t)) whole

  -- what is said of a frame that stands above another
  abbrev StandsAt : ℕ → StackFrame → Type 0
  StandsAt t f = ((i : ℕ) × (owner.Instance f.instance ≡ owner.Instance i) × (0 < i) × (i < length s.instances + 1) × (instance_load s i ≡ load_of_target L f.target)) × (f.call < s.next_call)

  stands_at : (t : ℕ) (below : List StackFrame) (f : StackFrame) → IsFrame s t below f → StandsAt t f
  stands_at t below f here =
      let some = entries_some below (bottom t (row s.threads t)) [] in
      let g = subst (λ fs. Grounded L (instance_load s) (length s.instances + 1) s.next_call t (frame_entry f ∷ fs)) some.2 (grounded_at t below f here) in
      (g.0, g.3)

  ranked_at : (t : ℕ) (below : List StackFrame) (f : StackFrame) → IsFrame s t below f → RankedIn L (instance_load s) (is_live s) (frame_entry f ∷ entries t below (row s.threads t))
  ranked_at t below f here =
      let w = frame_within t below f here in
      let r = frame_splits L s t below f here in
      ranked_from L (instance_load s) (is_live s) r.0 (frame_entry f ∷ entries t below (row s.threads t)) (subst (RankedIn L (instance_load s) (is_live s)) r.1 (kept.ranks.ranked t w.0 w.1))

  entered_at : (t : ℕ) (below : List StackFrame) (f : StackFrame) → IsFrame s t below f → is_entered f.instance ((ledger_of L s).stack t) ≡ true
  entered_at t below f here =
      let r = frame_splits L s t below f here in
      frame_entered f.instance ((ledger_of L s).stack t) (frame_entry f, r.0, entries t below (row s.threads t), r.1, refl)

  loads_at : (t : ℕ) (below : List StackFrame) (f : StackFrame) → IsFrame s t below f → instance_load s f.instance ≡ load_of_target L f.target
  loads_at t below f here =
      let g = (stands_at t below f here).0 in
      let e : f.instance ≡ g.0 = let is = g.1 in cc in
      ap (instance_load s) e ∙ g.4

  opened_at : (t : ℕ) (below : List StackFrame) (f : StackFrame) → IsFrame s t below f → (0 < f.instance) × (f.instance ≤ length s.instances)
  opened_at t below f here =
      let g = (stands_at t below f here).0 in
      let e : f.instance ≡ g.0 = let is = g.1 in cc in
      let pos = g.2 in
      let le = g.3 in
      (omega (arith, e, pos), omega (arith, e, le))

  -- a frame ranks below the live serial ones under it
  ranks_at : (t : ℕ) (below under : List StackFrame) (f g : StackFrame) → IsFrame s t below f → (above : List StackFrame) → below ≡ under ++ g ∷ above
      → is_serial L (load_of_target L f.target) ≡ true → is_live s g.instance ≡ true → is_serial L (instance_load s g.instance) ≡ true → load_of_target L f.target < instance_load s g.instance
  ranks_at t below under f g here above is serial lives deeper =
      let r = entries_split under above g (bottom t (row s.threads t) ∷ []) in
      let e = ap (λ fs. entries t fs (row s.threads t)) is ∙ r.1 in
      let rank = load_of_target L f.target in
      let all = subst (BelowIn L (instance_load s) (is_live s) rank) e ((ranked_at t below f here).0 serial) in
      let from = below_from L (instance_load s) (is_live s) rank r.0 (frame_entry g ∷ entries t under (row s.threads t)) all in
      from.0 g.instance refl lives deeper

  rising_at : (t : ℕ) (below under : List StackFrame) (f g : StackFrame) → IsFrame s t below f → (above : List StackFrame) → below ≡ under ++ g ∷ above → g.call < f.call
  rising_at t below under f g here above is =
      let r = entries_split under above g (bottom t (row s.threads t) ∷ []) in
      let e = ap (λ fs. entries t fs (row s.threads t)) is ∙ r.1 in
      let g' = subst (λ fs. Grounded L (instance_load s) (length s.instances + 1) s.next_call t (frame_entry f ∷ fs)) e (grounded_at t below f here) in
      rises_over L (instance_load s) (length s.instances + 1) s.next_call t (frame_entry f) r.0 (frame_entry g) (entries t under (row s.threads t)) g'

  -- Frames are of opened instances of their targets' loads, ranks and numbers go as calls do.
  pub frames_placed : FramesPlaced L s
  frames_placed = record {
    loads = loads_at;
    opened = opened_at;
    one_thread = λ t u below beside f g here there same lives serial. (
        let w = frame_within t below f here in
        let v = frame_within u beside g there in
        let other : is_entered f.instance ((ledger_of L s).stack u) ≡ true = subst (λ i. is_entered i ((ledger_of L s).stack u) ≡ true) (sym same) (entered_at u beside g there) in
        kept.ranks.alone t u f.instance w.0 w.1 v.0 v.1 lives serial (entered_at t below f here) other);
    ranks = ranks_at;
    numbers = λ t below f here. (stands_at t below f here).1;
    rising = rising_at;
  }
