-- A call of a frame is refused: that is a step.
use Rattle.std.proofs.Common.{◌≡◌, ℕ, ◌+◌, ◌-◌, true, List, [], ◌∷◌, ◌++◌, length, map, slice_set, Option, Some, refl, sym, ap, subst, ◌∙◌, inr, if◌then◌else◌}
use Rattle.std.specs.Option.{option_map_or}
use Rattle.std.proofs.lemmas.List.{set-set}
use Rattle.rl_defs.specs.DomainValue.{Domain}
use Rattle.rl_defs.specs.CodeKinds.{moved}
use Rattle.rl_defs.specs.Registers.{Registers}
use Rattle.rl_defs.specs.Rows.{row}
use Rattle.machine_defs.specs.declared.entry.Entry.TheVariants as entry
use Rattle.machine_defs.specs.declared.frame.Action.{Action}
use Rattle.machine_defs.specs.declared.frame.Action.TheVariants as action
use Rattle.machine_defs.specs.declared.frame.Answer.{Answer}
use Rattle.machine_defs.specs.declared.frame.Answer.TheVariants as answer
use Rattle.machine_defs.specs.declared.values.Arg.{Arg}
use Rattle.machine_defs.specs.declared.values.RpcCode.{RpcCode}
use Rattle.machine_defs.specs.LogValue.{LogValue}
use Rattle.machine_defs.specs.Arguments.{moved_of}
use Rattle.machine_defs.specs.Calling.{wish_of, refusal, with_fuel}
use Rattle.machine_defs.specs.CallRows.{numbered}
use Rattle.machine_defs.specs.CodeFits.{FitsWaiting}
use Rattle.machine_defs.specs.Frames.{below_top, with_top, with_body, waiting, instr_at, code_at, answered_code}
use Rattle.machine_defs.specs.Instructions.{all_given_up}
use Rattle.machine_defs.specs.Objects.{without}
use Rattle.machine_defs.specs.Seen.{types_of, change_row}
use Rattle.machine_defs.specs.State.{State, StackFrame, Thread, stack, top, frames_of, is_live, with_thread}
use Rattle.machine_defs.specs.Steps.{Row}
use Rattle.machine_defs.proofs.CodeAnswers.{gives_up}
use Rattle.machine_laws.proofs.Callers.{call_no_trap}
use Rattle.machine_laws.proofs.CodeDoing.{keeps_rules}
use Rattle.machine_laws.proofs.OwnFunctions.{instr_here}
use Rattle.machine_laws.proofs.Parts.{wish_in, moved_by_instr}
use Rattle.machine_laws.proofs.Rows.{row_set_same, row_within}
use Rattle.machine_laws.proofs.Stacks.{top_pushed, below_pushed}
use Rattle.code_machine.specs.Fitting.{standing, Awaits}
use Rattle.proxies.specs.Objects.{given_up}
use Rattle.rref_heap.specs.HeapValue.{HeapValue}
use Rattle.rref_heap.specs.Kept.{IsHeapOf}
use Rattle.rref_heap.specs.Leaving.{swept_rows, leaving_in}
use Rattle.trampolines.specs.Laid.{Laid}
use Rattle.trampolines.specs.Words as words
use Rattle.machine_steps.specs.declared.machine.Machine.TheInside.{Inside}
use Rattle.machine_steps.specs.declared.standing.Standing.{Standing}
use Rattle.machine_steps.specs.Kept.{MayStep}
use Rattle.machine_steps.specs.Inside.{state_of, kept, IsKept}
use Rattle.machine_steps.specs.Known.{Known}
use Rattle.machine_steps.specs.Acting.{WouldAct, at_standing, domain_in}
use Rattle.machine_steps.specs.Replying.{told_frame, told_stacks, told_threads}
use Rattle.machine_steps.proofs.Stepping.{Stepped}
use Rattle.machine_steps.proofs.Acting.{CodeActs, code_acts, holds, same_parts}
use Rattle.machine_steps.proofs.Freeing.{sweep_goes}
use Rattle.machine_steps.proofs.RefusedDrops.{refused_frees, refused_tells, refused_rooms}
use Rattle.machine_steps.proofs.Told.{told, told_replies, top_same, below_same}

module _ {w : Inside} (k : IsKept w) (t j x m : ℕ) (args : List Arg) (why : RpcCode) (stand : Standing) (may : MayStep (kept w) t) (would : WouldAct (kept w) t j (action.Call x m args) stand) (refused : refusal w.load (state_of w) t x ≡ Some why) where
  abbrev s : State
  s = state_of w

  abbrev a : Answer
  a = answer.Failed why

  abbrev pub call_acts : CodeActs w t j (action.Call x m args) stand
  call_acts = code_acts k t j (action.Call x m args) stand would (call_no_trap x m args)

  abbrev frame : StackFrame
  frame = call_acts.on.frame

  abbrev thread : Thread
  thread = call_acts.on.acts.thread

  -- the registers of an instance's frame that waits
  abbrev left_registers : ℕ → Registers
  left_registers i = all_given_up (option_map_or moved (instr_at (domain_in w.load w.instances i) stand.line) []) stand.registers

  lives_here : is_live s frame.instance ≡ true
  lives_here = subst (λ (f : StackFrame). is_live s f.instance ≡ true) call_acts.on.same call_acts.on.acts.lives

  -- a frame that waited for the call awaits the code
  pub call_awaits : (later : Standing) → later ≡ record stand { registers = left_registers j } → Awaits (domain_in w.load w.instances j) (standing later.line later.registers) a
  call_awaits later later_is = subst (λ (l : Standing). Awaits (domain_in w.load w.instances j) (standing l.line l.registers) a) (sym later_is) (record {
    types = types_of w.load s;
    instr = call_acts.instr;
    at = record { number = call_acts.here.number; here = call_acts.here.here };
    fits = inr waits;
    answer = call_acts.can.failed why;
  })
    where
      d : Domain
      d = domain_in w.load w.instances j

      lives_j : is_live s j ≡ true
      lives_j = subst (λ i. is_live s i ≡ true) (sym call_acts.on.inside) lives_here

      waits : FitsWaiting (types_of w.load s) d call_acts.instr (standing stand.line (left_registers j))
      waits = subst (λ i. FitsWaiting (types_of w.load s) d call_acts.instr (standing stand.line (all_given_up (moved_by_instr i) stand.registers)))
          (sym (instr_here d call_acts.instr (standing stand.line stand.registers) call_acts.here))
          (gives_up d (types_of w.load s) call_acts.instr (standing stand.line stand.registers) (keeps_rules w.load s j k.valid (holds k).fits lives_j) call_acts.here call_acts.fits)

  -- the state in which it goes on from the code
  abbrev charged : Thread
  charged = with_fuel (stand.fuel - 1) thread

  abbrev waiting_frame : StackFrame
  waiting_frame = waiting w.load s (moved_of args) (at_standing frame stand)

  abbrev charged_state : State
  charged_state = with_top t waiting_frame (with_thread s t charged)

  abbrev refused_state : State
  refused_state = numbered s.next_call (without (moved_of args) charged_state)

  abbrev pub frame_made : State
  frame_made = told w.load t a refused_state

  stack_here : stack refused_state t ≡ below_top (stack s t) ++ waiting_frame ∷ []
  stack_here = ap frames_of (row_set_same w.stacks.frames t (below_top (stack s t) ++ waiting_frame ∷ []) call_acts.on.client.0 call_acts.on.client.1)

  top_here : top (stack refused_state t) ≡ Some waiting_frame
  top_here = ap top stack_here ∙ top_pushed (below_top (stack s t)) waiting_frame

  charged_here : row refused_state.threads t ≡ Some charged
  charged_here = let b = row_within w.threads t thread call_acts.on.acts.of in row_set_same w.threads t charged b.0 b.1

  pub frame_makes : Row w.load s (entry.Refuse t s.next_call why x m args) frame_made
  frame_makes = record {
    charged = charged_state;
    wants = ap (wish_in w.load s t) call_acts.on.acts.of ∙ ap (wish_of w.load s t thread) call_acts.on.wants;
    refused = refused;
    number = refl;
    replies = told_replies w.load refused_state t a charged charged_here
        (λ g there lives'. (let e : ◌≡◌ {A = Option StackFrame} (Some waiting_frame) (Some g) = sym top_here ∙ there in let same : waiting_frame ≡ g = cc in ap (λ (f : StackFrame). words.is_code f.body) (sym same)));
  }

  -- the parts of that state
  told_top : words.top (words.stack_of refused_state.stacks t) ≡ Some waiting_frame
  told_top = top_same refused_state t ∙ top_here

  stacks_made : frame_made.stacks ≡ slice_set w.stacks.frames (t - 1) (below_top (stack s t) ++ told_frame w.load w.instances a waiting_frame ∷ [])
  stacks_made =
      ap (told_stacks w.load w.instances t a refused_state.stacks) told_top
      ∙ (ap (λ b. if b then words.with_stack_of refused_state.stacks t (words.below_top (words.stack_of refused_state.stacks t) ++ told_frame w.load w.instances a waiting_frame ∷ []) else refused_state.stacks) lives_here
      ∙ (ap (λ below. slice_set refused_state.stacks (t - 1) (below ++ told_frame w.load w.instances a waiting_frame ∷ [])) (below_same refused_state t ∙ (ap below_top stack_here ∙ below_pushed (below_top (stack s t)) waiting_frame))
      ∙ set-set w.stacks.frames (t - 1) (below_top (stack s t) ++ waiting_frame ∷ []) (below_top (stack s t) ++ told_frame w.load w.instances a waiting_frame ∷ [])))

  module _ (later : Standing) (later_is : later ≡ record stand { registers = left_registers j }) where
    frame_same : with_body frame (code_at (answered_code (domain_in w.load w.instances j) (standing later.line later.registers) a)) ≡ told_frame w.load w.instances a waiting_frame
    frame_same =
        ap (λ (l : Standing). with_body frame (code_at (answered_code (domain_in w.load w.instances j) (standing l.line l.registers) a))) later_is
        ∙ ap (λ i. with_body frame (code_at (answered_code (domain_in w.load w.instances i) (standing stand.line (left_registers i)) a))) call_acts.on.inside

    pub frame_goes : (known : Known) (is_heap : IsHeapOf w.heap) (given : List Arg) (given_is : given ≡ args) {heap : HeapValue} (behind : IsHeapOf heap) → heap ≡ record w.heap { rows = map (given_up (moved_of given)) w.heap.rows }
        → {logged log : LogValue} {swept : HeapValue} {stacks : Laid Action} {threads : List Thread} (logged_args : List Arg) → logged_args ≡ args
        → logged.entries ≡ w.log.entries ++ entry.Refuse t s.next_call why x m logged_args ∷ [] → logged.spare + 1 ≡ w.log.spare
        → ((f : StackFrame) → words.top (words.stack_of w.stacks.frames t) ≡ Some f → stacks.frames ≡ words.with_stack_of w.stacks.frames t (words.below_top (words.stack_of w.stacks.frames t)
        ++ with_body f (code_at (answered_code (domain_in w.load w.instances j) (standing later.line later.registers) a)) ∷ []))
        → stacks.instances ≡ w.stacks.instances → threads ≡ change_row w.threads t (with_fuel (later.fuel - 1)) (row w.threads t)
        → swept ≡ record heap { rows = swept_rows heap.rows } → log.entries ≡ logged.entries ++ map entry.Free (leaving_in heap.rows) → log.spare + length (leaving_in heap.rows) ≡ logged.spare
        → Stepped w (record w { log = log; heap = swept; stacks = stacks; threads = threads; next_call = w.next_call + 1 }) (entry.Refuse t s.next_call why x m args)
    frame_goes known is_heap given given_is {heap = heap} behind heap_is {stacks = stacks} {threads = threads} logged_args logged_is entries spare frames counts pays is_swept freed_entries freed_spare =
        sweep_goes known k (entry.Refuse t s.next_call why x m args) may frame_made frame_makes
        (refused_frees known k t s.next_call x m why args may frame_made frame_makes is_heap refl given given_is behind heap_is)
        (refused_tells known k t s.next_call x m why args may frame_made frame_makes is_heap refl given given_is behind heap_is)
        (refused_rooms known k t s.next_call x m why args may frame_made frame_makes is_heap refl given given_is behind heap_is)
        (same_parts refl refl
        (frames frame call_acts.on.on_top
        ∙ (ap (λ below. slice_set w.stacks.frames (t - 1) (below ++ with_body frame (code_at (answered_code (domain_in w.load w.instances j) (standing later.line later.registers) a)) ∷ [])) (below_same s t)
        ∙ (ap (λ f. slice_set w.stacks.frames (t - 1) (below_top (stack s t) ++ f ∷ [])) frame_same ∙ sym stacks_made)))
        (pays ∙ (ap (λ (l : Standing). change_row w.threads t (with_fuel (l.fuel - 1)) (row w.threads t)) later_is
        ∙ (ap (change_row w.threads t (with_fuel (stand.fuel - 1))) call_acts.on.acts.of ∙ sym (ap (told_threads w.load t a refused_state.threads) told_top))))
        refl refl refl refl)
        counts (entries ∙ ap (λ as'. w.log.entries ++ entry.Refuse t s.next_call why x m as' ∷ []) logged_is) spare is_swept freed_entries freed_spare
