-- The frame of an ended instance is unwound: that is a step.
use Rattle.std.proofs.Common.{◌≡◌, ℕ, ◌+◌, true, false, not, List, [], ◌∷◌, ◌++◌, length, map, All, Option, Some, refl, sym, ap, subst, ◌∙◌, arith}
use Rattle.std.proofs.lemmas.List.{append-nil}
use Rattle.rl_defs.specs.Rows.{row}
use Rattle.machine_defs.specs.declared.entry.Entry.TheVariants as entry
use Rattle.machine_defs.specs.declared.frame.Action.{Action}
use Rattle.machine_defs.specs.declared.frame.Answer.{Answer}
use Rattle.machine_defs.specs.declared.frame.Answer.TheVariants as answer
use Rattle.machine_defs.specs.declared.values.Owner.TheVariants as owner
use Rattle.machine_defs.specs.declared.values.RpcCode.TheVariants as code
use Rattle.machine_defs.specs.LogValue.{LogValue}
use Rattle.machine_defs.specs.CallRows.{is_over}
use Rattle.machine_defs.specs.Frames.{below_top, popped}
use Rattle.machine_defs.specs.State.{State, StackFrame, Thread, stack, top, is_live, frames_of}
use Rattle.machine_defs.specs.Steps.{Row}
use Rattle.machine_laws.specs.Fitting.{CallFits}
use Rattle.machine_laws.proofs.CallSteps.{not_waiting}
use Rattle.machine_laws.proofs.EndSteps.{thread_there, top_call}
use Rattle.machine_laws.proofs.Rows.{row_set_same}
use Rattle.step_laws.specs.StepLaws.{FreesAmong}
use Rattle.proxies.specs.Objects.{IsLent, returned, handed_back}
use Rattle.rref_heap.specs.HeapValue.{HeapValue}
use Rattle.rref_heap.specs.Kept.{IsHeapOf}
use Rattle.rref_heap.specs.Leaving.{swept_rows, leaving_in}
use Rattle.trampolines.specs.Laid.{Laid}
use Rattle.trampolines.specs.Words as words
use Rattle.machine_steps.specs.declared.machine.Machine.TheInside.{Inside}
use Rattle.machine_steps.specs.Kept.{MayStep}
use Rattle.machine_steps.specs.Inside.{state_of, kept, IsKept}
use Rattle.machine_steps.specs.Known.{Known}
use Rattle.machine_steps.specs.Replying.{told_stacks, told_threads}
use Rattle.machine_steps.specs.Returning.{MayUnwind}
use Rattle.machine_steps.proofs.Stepping.{Stepped}
use Rattle.machine_steps.proofs.Acting.{holds, ledger, same_parts}
use Rattle.machine_steps.proofs.Freeing.{Frees, sweep_goes}
use Rattle.machine_steps.proofs.FrameEnds.{FrameEnds, all_lent, none_handed_back, none_given, ending_frees, ending_tells, ending_rooms}
use Rattle.machine_steps.proofs.Told.{told, told_replies, top_same, next_awaits}
use Rattle.machine_steps.proofs.Popping.{client, popped_is}

-- the answer to an unwound call
abbrev pub unwound : Answer
unwound = answer.Failed code.Unwound

module _ (known : Known) {w : Inside} (k : IsKept w) (t c : ℕ) (may : MayStep (kept w) t) (can : MayUnwind (kept w) t c) (frame : StackFrame) (gives : words.top (words.stack_of w.stacks.frames t) ≡ Some frame) where
  abbrev s : State
  s = state_of w

  pub unwound_on_top : top (stack s t) ≡ Some frame
  unwound_on_top = sym (top_same s t) ∙ gives

  same_frame : can.frame ≡ frame
  same_frame = let e : ◌≡◌ {A = Option StackFrame} (Some can.frame) (Some frame) = sym can.of.on_top ∙ unwound_on_top in cc

  pub unwound_thread : (x : Thread) × (row s.threads t ≡ Some x)
  unwound_thread = thread_there s t (not_waiting w.load s t may.enabled).0

  pub unwound_call : CallFits w.load s frame
  unwound_call = top_call w.load s k.valid k.valid.tables (holds k).laid (ledger k).owned (holds k).fits t frame unwound_on_top

  -- the state in which its caller has the code
  abbrev pub unwound_made : State
  unwound_made = told w.load t unwound (popped t s)

  popped_here : stack (popped t s) t ≡ below_top (stack s t)
  popped_here = ap frames_of (row_set_same w.stacks.frames t (below_top (stack s t)) (client k t unwound_thread.0 unwound_thread.1).0 (client k t unwound_thread.0 unwound_thread.1).1)

  pub unwound_makes : Row w.load s (entry.Unwound t c) unwound_made
  unwound_makes = record {
    frame = frame;
    of = record { on_top = unwound_on_top; dead = subst (λ (f : StackFrame). not (is_live s f.instance) ≡ true) same_frame (ap not can.of.dead); call = can.of.call ∙ ap (λ (f : StackFrame). f.call) same_frame };
    over = subst (λ f. is_over w.load s f ≡ true) same_frame can.over;
    replies = told_replies w.load (popped t s) t unwound unwound_thread.0 unwound_thread.1
        (λ g there lives. (next_awaits k t frame unwound_on_top unwound tt unwound_call.method unwound_call.row tt g (ap top (sym popped_here) ∙ there) lives).0);
  }

  unwound_ends : FrameEnds s unwound_made frame.lent [] (owner.Client 0)
  unwound_ends = record {
    objects = sym (none_given (owner.Client 0) s.objects);
    instances = refl;
    falls = λ o. known.loans w.load w.log.entries s unwound_made (entry.Unwound t c) k.valid k.run may.enabled unwound_makes o frame unwound_on_top;
    free = λ o is. absurd cc;
    among = subst (FreesAmong unwound_made) (sym (append-nil frame.lent)) (known.returns w.load w.log.entries s unwound_made (entry.Unwound t c) k.valid k.run may.enabled unwound_makes frame unwound_on_top);
  }

  pub unwound_lent : IsHeapOf w.heap → All (IsLent w.heap.rows frame.lent) frame.lent
  unwound_lent is_heap = all_lent w.load s w.heap.rows is_heap.numbered refl k.agrees frame.lent (λ o is. omega (arith, unwound_ends.falls o)) (known.sound w.load w.log.entries s k.valid k.run).lent.roots

  -- what is freed is what the heap lists
  module _ (is_heap : IsHeapOf w.heap) {heap : HeapValue} (behind : IsHeapOf heap) (lent : List ℕ) (lent_is : lent ≡ frame.lent) (heap_is : heap ≡ record w.heap { rows = map (returned w.heap.rows w.instances lent) w.heap.rows }) where
    handed : heap ≡ record w.heap { rows = map (handed_back [] (owner.Client 0) false) (map (returned w.heap.rows w.instances frame.lent) w.heap.rows) }
    handed =
        heap_is ∙ ap (λ rows. record w.heap { rows = rows })
        (ap (λ os. map (returned w.heap.rows w.instances os) w.heap.rows) lent_is ∙ sym (none_handed_back (owner.Client 0) (map (returned w.heap.rows w.instances frame.lent) w.heap.rows)))

    pub unwound_frees : Frees unwound_made heap.rows
    unwound_frees = ending_frees known k (entry.Unwound t c) may unwound_made unwound_makes is_heap frame.lent [] (owner.Client 0) false unwound_ends refl heap behind handed

    pub unwound_goes : {logged log : LogValue} {swept : HeapValue} {popping stacks : Laid Action} {threads : List Thread}
        → logged.entries ≡ w.log.entries ++ entry.Unwound t c ∷ [] → logged.spare + 1 ≡ w.log.spare
        → popping.frames ≡ words.with_stack_of w.stacks.frames t (words.below_top (words.stack_of w.stacks.frames t)) → popping.instances ≡ w.stacks.instances
        → stacks.frames ≡ told_stacks w.load w.instances t unwound popping.frames (words.top (words.stack_of popping.frames t)) → stacks.instances ≡ popping.instances
        → threads ≡ told_threads w.load t unwound w.threads (words.top (words.stack_of popping.frames t))
        → swept ≡ record heap { rows = swept_rows heap.rows } → log.entries ≡ logged.entries ++ map entry.Free (leaving_in heap.rows) → log.spare + length (leaving_in heap.rows) ≡ logged.spare
        → Stepped w (record w { log = log; heap = swept; stacks = stacks; threads = threads }) (entry.Unwound t c)
    unwound_goes {popping = popping} {stacks = stacks} {threads = threads} entries spare pops counts frames kept_counts charged is_swept freed_entries freed_spare =
        let here = popped_is k t unwound_thread.0 unwound_thread.1 popping.frames pops in
        sweep_goes known k (entry.Unwound t c) may unwound_made unwound_makes unwound_frees
        (ending_tells known k (entry.Unwound t c) may unwound_made unwound_makes is_heap frame.lent [] (owner.Client 0) false unwound_ends refl heap behind handed)
        (ending_rooms known k (entry.Unwound t c) may unwound_made unwound_makes is_heap frame.lent [] (owner.Client 0) false unwound_ends refl heap behind handed)
        (same_parts refl refl
        (frames ∙ ap (λ fs. told_stacks w.load w.instances t unwound fs (words.top (words.stack_of fs t))) here)
        (charged ∙ ap (λ fs. told_threads w.load t unwound w.threads (words.top (words.stack_of fs t))) here)
        refl refl refl refl)
        (kept_counts ∙ counts) entries spare is_swept freed_entries freed_spare
