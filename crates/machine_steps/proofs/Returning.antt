-- A frame returns: that is a step.
use Rattle.std.proofs.Common.{◌≡◌, ℕ, ◌+◌, ◌-◌, ◌<◌, ◌^◌, Bool, List, [], ◌∷◌, ◌++◌, length, map, slice_set, All, Option, Some, refl, sym, ap, subst, ◌∙◌, arith}
use Rattle.rl_defs.specs.declared.values.Value.{Value}
use Rattle.rl_defs.specs.Rows.{row}
use Rattle.machine_defs.specs.declared.entry.Entry.TheVariants as entry
use Rattle.machine_defs.specs.declared.frame.Action.{Action}
use Rattle.machine_defs.specs.declared.frame.Action.TheVariants as action
use Rattle.machine_defs.specs.declared.frame.Answer.{Answer}
use Rattle.machine_defs.specs.declared.frame.Answer.TheVariants as answer
use Rattle.machine_defs.specs.declared.values.Owner.{Owner}
use Rattle.machine_defs.specs.LogValue.{LogValue}
use Rattle.machine_defs.specs.Arguments.{objects_in}
use Rattle.machine_defs.specs.Calling.{with_fuel}
use Rattle.machine_defs.specs.CallRows.{after_return}
use Rattle.machine_defs.specs.Frames.{below_top, popped, acting}
use Rattle.machine_defs.specs.Seen.{types_of, change_row}
use Rattle.machine_defs.specs.State.{State, StackFrame, Thread, stack, top, frames_of}
use Rattle.machine_defs.specs.Steps.{Row}
use Rattle.machine_laws.proofs.OwnFits.{results_are_values}
use Rattle.machine_laws.proofs.ReturnSteps.{ReturnsWell, returns_well}
use Rattle.machine_laws.proofs.Rows.{row_set_same, row_within}
use Rattle.machine_laws.proofs.WaitingAnswers.{ReplySuits}
use Rattle.proxies.specs.Objects.{IsLent, IsUnlent, is_over_for, returned, handed_back}
use Rattle.rref_heap.specs.HeapValue.{HeapValue, MayOwn}
use Rattle.rref_heap.specs.Kept.{IsHeapOf}
use Rattle.rref_heap.specs.Leaving.{swept_rows, leaving_in}
use Rattle.trampolines.specs.Laid.{Laid}
use Rattle.trampolines.specs.Words as words
use Rattle.machine_steps.specs.declared.machine.Machine.TheInside.{Inside}
use Rattle.machine_steps.specs.declared.standing.Standing.{Standing}
use Rattle.machine_steps.specs.Kept.{MayStep}
use Rattle.machine_steps.specs.Inside.{state_of, kept, IsKept}
use Rattle.machine_steps.specs.Known.{Known}
use Rattle.machine_steps.specs.Acting.{WouldAct, at_standing}
use Rattle.machine_steps.specs.Replying.{actor_in, told_stacks, told_threads}
use Rattle.machine_steps.proofs.Stepping.{Stepped}
use Rattle.machine_steps.proofs.Acting.{OnTop, on_top_of, holds, ledger, same_parts}
use Rattle.machine_steps.proofs.Freeing.{Frees, sweep_goes}
use Rattle.machine_steps.proofs.FrameEnds.{FrameEnds, all_lent, all_unlent, ending_frees, ending_tells, ending_rooms}
use Rattle.machine_steps.proofs.Told.{told, told_replies, top_same, next_awaits}
use Rattle.machine_steps.proofs.Popping.{client, calling_place, popped_is, actor_is, actor_owns}

module _ (known : Known) {w : Inside} (k : IsKept w) (t i c : ℕ) (stand : Standing) (results : List Value) (may : MayStep (kept w) t) (would : WouldAct (kept w) t i (action.Ret results) stand)
    (of_call : (f : StackFrame) → top (stack (state_of w) t) ≡ Some f → c ≡ f.call) (frame : StackFrame) (gives : words.top (words.stack_of w.stacks.frames t) ≡ Some frame) where
  abbrev s : State
  s = state_of w

  abbrev on : OnTop w t i (action.Ret results) stand
  on = on_top_of k t i (action.Ret results) stand would

  abbrev a : Answer
  a = answer.Back results

  pub ret_on_top : top (stack s t) ≡ Some frame
  ret_on_top = sym (top_same s t) ∙ gives

  same_frame : on.frame ≡ frame
  same_frame = let e : ◌≡◌ {A = Option StackFrame} (Some on.frame) (Some frame) = sym on.on_top ∙ gives in cc

  pub ret_thread : (x : Thread) × (row s.threads t ≡ Some x)
  ret_thread = (on.acts.thread, on.acts.of)

  -- the results are those of the call's method
  pub ret_well : ReturnsWell w.load s frame results
  ret_well = subst (λ f. ReturnsWell w.load s f results) (on.same ∙ same_frame)
      (returns_well w.load s k.valid k.valid.tables (holds k).laid (ledger k).owned (holds k).fits t stand.fuel results (at_standing on.frame stand) on.acts)

  pub ret_suits : ReplySuits (types_of w.load s) ret_well.method.results a
  ret_suits = results_are_values (types_of w.load s) ret_well.method.results results ret_well.suits

  -- the state in which its caller has the results
  abbrev charged : Thread
  charged = with_fuel (stand.fuel - 1) on.acts.thread

  abbrev returned_state : State
  returned_state = after_return t stand.fuel on.acts.thread results s

  abbrev pub ret_made : State
  ret_made = told w.load t a returned_state

  charged_here : row returned_state.threads t ≡ Some charged
  charged_here = let b = row_within w.threads t on.acts.thread on.acts.of in row_set_same w.threads t charged b.0 b.1

  popped_here : stack returned_state t ≡ below_top (stack s t)
  popped_here = ap frames_of (row_set_same w.stacks.frames t (below_top (stack s t)) (client k t on.acts.thread on.acts.of).0 (client k t on.acts.thread on.acts.of).1)

  pub ret_makes : Row w.load s (entry.Ret t c results) ret_made
  ret_makes = record {
    thread = on.acts.thread;
    fuel = stand.fuel;
    frame = at_standing on.frame stand;
    of = on.acts.of;
    wants = on.wants;
    call = of_call frame ret_on_top ∙ sym (ap (λ (f : StackFrame). f.call) same_frame);
    replies = told_replies w.load returned_state t a charged charged_here
        (λ g there lives. (next_awaits k t frame ret_on_top a tt ret_well.method ret_well.row ret_suits g (ap top (sym popped_here) ∙ there) lives).0);
  }

  ret_ends : FrameEnds s ret_made frame.lent (objects_in results) (acting (popped t s) t)
  ret_ends = record {
    objects = refl;
    instances = refl;
    falls = λ o. known.loans w.load w.log.entries s ret_made (entry.Ret t c results) k.valid k.run may.enabled ret_makes o frame ret_on_top;
    free = λ o is. (let r = (known.roots w.load w.log.entries s ret_made (entry.Ret t c results) k.valid k.run may.enabled ret_makes).changed o is in (acting s t, r.0, r.1));
    among = known.returns w.load w.log.entries s ret_made (entry.Ret t c results) k.valid k.run may.enabled ret_makes frame ret_on_top;
  }

  pub ret_lent : IsHeapOf w.heap → All (IsLent w.heap.rows frame.lent) frame.lent
  ret_lent is_heap = all_lent w.load s w.heap.rows is_heap.numbered refl k.agrees frame.lent (λ o is. omega (arith, ret_ends.falls o)) (known.sound w.load w.log.entries s k.valid k.run).lent.roots

  -- behind the fuel, the client's place is as it was
  pub ret_place : (threads : List Thread) (fuel : ℕ) → threads ≡ change_row w.threads t (with_fuel fuel) (row w.threads t) → (x : Thread) → row threads t ≡ Some x → x.place + 1 < 2 ^ 32
  ret_place threads fuel set x there =
      let b = row_within w.threads t on.acts.thread on.acts.of in
      let is : threads ≡ slice_set w.threads (t - 1) (with_fuel fuel on.acts.thread) = set ∙ ap (change_row w.threads t (with_fuel fuel)) on.acts.of in
      let here : row threads t ≡ Some (with_fuel fuel on.acts.thread) = ap (λ ts. row ts t) is ∙ row_set_same w.threads t (with_fuel fuel on.acts.thread) b.0 b.1 in
      let e : ◌≡◌ {A = Option Thread} (Some (with_fuel fuel on.acts.thread)) (Some x) = sym here ∙ there in
      let same : with_fuel fuel on.acts.thread ≡ x = cc in
      subst (λ (y : Thread). y.place + 1 < 2 ^ 32) same (calling_place k t on.acts.thread on.acts.of frame ret_on_top on.acts.thread on.acts.of)

  -- what the frame was lent is given back
  module _ (is_heap : IsHeapOf w.heap) (lent : List ℕ) (lent_is : lent ≡ frame.lent) {first : HeapValue} (first_is : first ≡ record w.heap { rows = map (returned w.heap.rows w.instances lent) w.heap.rows }) where
    first_now : first ≡ record w.heap { rows = map (returned w.heap.rows w.instances frame.lent) w.heap.rows }
    first_now = first_is ∙ ap (λ os. record w.heap { rows = map (returned w.heap.rows w.instances os) w.heap.rows }) lent_is

    pub ret_unlent : All (IsUnlent first.rows) (objects_in results)
    ret_unlent = subst (λ (v : HeapValue). All (IsUnlent v.rows) (objects_in results)) (sym first_now)
        (all_unlent w.load s w.heap.rows is_heap.numbered refl k.agrees w.instances frame.lent (objects_in results) ret_ends.free)

    -- the results pass to who called
    module _ (frames : List (List StackFrame)) (pops : frames ≡ words.with_stack_of w.stacks.frames t (words.below_top (words.stack_of w.stacks.frames t))) (to : Owner) (to_is : to ≡ actor_in frames t) where
      to_now : to ≡ acting (popped t s) t
      to_now = to_is ∙ actor_is k t on.acts.thread on.acts.of frames pops

      pub ret_owns : MayOwn first to
      ret_owns = subst (MayOwn first) (sym to_now) (actor_owns known k t on.acts.thread on.acts.of frame ret_on_top first (ap (λ (v : HeapValue). v.clients) first_now) (ap (λ (v : HeapValue). v.instances) first_now))

      -- what is freed is what the heap lists
      module _ (given : List Value) (given_is : given ≡ results) (over : Bool) (over_is : over ≡ is_over_for w.instances to) {heap : HeapValue} (behind : IsHeapOf heap)
          (heap_is : heap ≡ record first { rows = map (handed_back (objects_in given) to over) first.rows }) where
        handed : heap ≡ record w.heap { rows = map (handed_back (objects_in results) (acting (popped t s) t) over) (map (returned w.heap.rows w.instances frame.lent) w.heap.rows) }
        handed =
            heap_is
            ∙ (ap (λ (v : HeapValue). record v { rows = map (handed_back (objects_in given) to over) v.rows }) first_now
            ∙ (ap (λ values. record w.heap { rows = map (handed_back (objects_in values) to over) (map (returned w.heap.rows w.instances frame.lent) w.heap.rows) }) given_is
            ∙ ap (λ v. record w.heap { rows = map (handed_back (objects_in results) v over) (map (returned w.heap.rows w.instances frame.lent) w.heap.rows) }) to_now))

        over_now : over ≡ is_over_for w.instances (acting (popped t s) t)
        over_now = over_is ∙ ap (is_over_for w.instances) to_now

        pub ret_frees : Frees ret_made heap.rows
        ret_frees = ending_frees known k (entry.Ret t c results) may ret_made ret_makes is_heap frame.lent (objects_in results) (acting (popped t s) t) over ret_ends over_now heap behind handed

        pub ret_goes : {logged log : LogValue} {swept : HeapValue} {popping stacks : Laid Action} {paid threads : List Thread} (fuel : ℕ) (told_values : List Value) (logged_values : List Value)
            → told_values ≡ results → logged_values ≡ results
            → logged.entries ≡ w.log.entries ++ entry.Ret t c logged_values ∷ [] → logged.spare + 1 ≡ w.log.spare
            → popping.frames ≡ frames → popping.instances ≡ w.stacks.instances
            → fuel ≡ stand.fuel - 1 → paid ≡ change_row w.threads t (with_fuel fuel) (row w.threads t)
            → stacks.frames ≡ told_stacks w.load w.instances t (answer.Back told_values) popping.frames (words.top (words.stack_of popping.frames t)) → stacks.instances ≡ popping.instances
            → threads ≡ told_threads w.load t (answer.Back told_values) paid (words.top (words.stack_of popping.frames t))
            → swept ≡ record heap { rows = swept_rows heap.rows } → log.entries ≡ logged.entries ++ map entry.Free (leaving_in heap.rows) → log.spare + length (leaving_in heap.rows) ≡ logged.spare
            → Stepped w (record w { log = log; heap = swept; stacks = stacks; threads = threads }) (entry.Ret t c results)
        ret_goes {popping = popping} {stacks = stacks} {paid = paid} {threads = threads} fuel told_values logged_values told_is logged_is entries spare pops' counts fuel_is pays answered kept_counts charges is_swept freed_entries freed_spare =
            let here : popping.frames ≡ slice_set w.stacks.frames (t - 1) (below_top (stack s t)) = pops' ∙ popped_is k t on.acts.thread on.acts.of frames pops in
            let paid_is : paid ≡ slice_set w.threads (t - 1) charged = pays ∙ (ap (λ n. change_row w.threads t (with_fuel n) (row w.threads t)) fuel_is ∙ ap (change_row w.threads t (with_fuel (stand.fuel - 1))) on.acts.of) in
            sweep_goes known k (entry.Ret t c results) may ret_made ret_makes ret_frees
            (ending_tells known k (entry.Ret t c results) may ret_made ret_makes is_heap frame.lent (objects_in results) (acting (popped t s) t) over ret_ends over_now heap behind handed)
            (ending_rooms known k (entry.Ret t c results) may ret_made ret_makes is_heap frame.lent (objects_in results) (acting (popped t s) t) over ret_ends over_now heap behind handed)
            (same_parts refl refl
            (answered ∙ (ap (λ values. told_stacks w.load w.instances t (answer.Back values) popping.frames (words.top (words.stack_of popping.frames t))) told_is
            ∙ ap (λ fs. told_stacks w.load w.instances t a fs (words.top (words.stack_of fs t))) here))
            (charges ∙ (ap (λ values. told_threads w.load t (answer.Back values) paid (words.top (words.stack_of popping.frames t))) told_is
            ∙ (ap (λ ts. told_threads w.load t a ts (words.top (words.stack_of popping.frames t))) paid_is ∙ ap (λ fs. told_threads w.load t a (slice_set w.threads (t - 1) charged) (words.top (words.stack_of fs t))) here)))
            refl refl refl refl)
            (kept_counts ∙ counts) (entries ∙ ap (λ values. w.log.entries ++ entry.Ret t c values ∷ []) logged_is) spare is_swept freed_entries freed_spare
