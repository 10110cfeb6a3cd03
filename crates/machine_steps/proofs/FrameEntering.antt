-- A frame's call that enters is a step of the machine.
use Rattle.std.proofs.Common.{◌≡◌, ℕ, ◌+◌, ◌-◌, ◌<◌, ◌≤◌, List, [], ◌∷◌, ◌++◌, length, map, slice_set, Some, refl, ap, ◌∙◌, arith}
use Rattle.std.specs.Option.{option_map_or}
use Rattle.std.proofs.lemmas.List.{length_push}
use Rattle.machine_defs.specs.declared.values.Arg.{Arg}
use Rattle.machine_defs.specs.declared.values.Owner.TheVariants as owner
use Rattle.machine_defs.specs.declared.entry.Entry.TheVariants as entry
use Rattle.machine_defs.specs.declared.frame.Action.{Action}
use Rattle.machine_defs.specs.declared.frame.Action.TheVariants as action
use Rattle.machine_defs.specs.declared.frame.FrameBody.TheVariants as body
use Rattle.machine_defs.specs.LogValue.{LogValue}
use Rattle.rl_defs.specs.declared.load.LoadRows.{LoadRows}
use Rattle.rl_defs.specs.CodeKinds.{moved}
use Rattle.rl_defs.specs.Registers.{Registers}
use Rattle.rl_defs.specs.Rows.{row}
use Rattle.machine_defs.specs.State.{State, StackFrame, Thread, stack, with_thread}
use Rattle.machine_defs.specs.Arguments.{moved_of}
use Rattle.machine_defs.specs.Calling.{wish, wish_of, with_fuel}
use Rattle.machine_defs.specs.Seen.{change_row}
use Rattle.machine_defs.specs.Instructions.{all_given_up}
use Rattle.machine_defs.specs.Frames.{Begins, waiting, with_top, with_body, below_top, instr_at}
use Rattle.machine_laws.proofs.Parts.{wish_in}
use Rattle.machine_laws.proofs.Stacks.{top_splits}
use Rattle.trampolines.specs.Laid.{Laid}
use Rattle.trampolines.specs.Words as words
use Rattle.trampolines.proofs.Agreeing.{same_frames}
use Rattle.rref_heap.specs.HeapValue.{HeapValue}
use Rattle.rref_heap.specs.Kept.{IsHeapOf}
use Rattle.proxies.specs.Objects.{handed}
use Rattle.machine_steps.specs.declared.machine.Machine.TheInside.{Inside}
use Rattle.machine_steps.specs.declared.standing.Standing.{Standing}
use Rattle.machine_steps.specs.Kept.{MayStep}
use Rattle.machine_steps.specs.Inside.{state_of, kept, IsKept}
use Rattle.machine_steps.specs.Known.{Known}
use Rattle.machine_steps.specs.Acting.{WouldAct, at_standing, domain_in}
use Rattle.machine_steps.specs.Calls.{MayEnter}
use Rattle.machine_steps.proofs.Stepping.{Stepped}
use Rattle.machine_steps.proofs.Acting.{CodeActs, code_acts}
use Rattle.machine_steps.proofs.Stacked.{stack_set, below_is}
use Rattle.machine_steps.proofs.CallingSteps.{call_room, call_goes}

-- the registers of a frame that waits for its call
abbrev pub waiting_registers : Inside → ℕ → Standing → Registers
waiting_registers w j stand = all_given_up (option_map_or moved (instr_at (domain_in w.load w.instances j) stand.line) []) stand.registers

-- the client's stack, where its top frame waits
abbrev pub waiting_on : Inside → ℕ → ℕ → Standing → StackFrame → List (List StackFrame)
waiting_on w t j stand f = words.with_stack_of w.stacks.frames t (words.below_top (words.stack_of w.stacks.frames t) ++ with_body f (body.Code stand.line (waiting_registers w j stand)) ∷ [])

module _ {w : Inside} (k : IsKept w) (t j x m : ℕ) (args : List Arg) (stand : Standing) (would : WouldAct (kept w) t j (action.Call x m args) stand) where
  abbrev L : LoadRows
  L = w.load

  abbrev s : State
  s = state_of w

  pub call_acts : CodeActs w t j (action.Call x m args) stand
  call_acts = code_acts k t j (action.Call x m args) stand would (λ c same. cc)

  abbrev caller : StackFrame
  caller = call_acts.on.frame

  abbrev thread : Thread
  thread = call_acts.on.acts.thread

  -- the state, where the call is charged and the caller waits
  abbrev paid : State
  paid = with_top t (waiting L s (moved_of args) (at_standing caller stand)) (with_thread s t (with_fuel (stand.fuel - 1) thread))

  pub frame_wants : wish L s t ≡ Some (record { target = x; method = m; args = args; charged = paid })
  frame_wants = ap (wish_in L s t) call_acts.on.acts.of ∙ ap (wish_of L s t thread) call_acts.on.wants

  pub waits_is : with_body caller (body.Code stand.line (waiting_registers w j stand)) ≡ waiting L s (moved_of args) (at_standing caller stand)
  waits_is = ap (λ i. with_body caller (body.Code stand.line (all_given_up (option_map_or moved (instr_at (domain_in L w.instances i) stand.line) []) stand.registers))) call_acts.on.inside

  -- its stack
  waited : (stacks : List (List StackFrame)) → ((f : StackFrame) → words.top (words.stack_of w.stacks.frames t) ≡ Some f → stacks ≡ waiting_on w t j stand f) → stacks ≡ paid.stacks
  waited stacks waits = waits caller call_acts.on.on_top
      ∙ ap (λ below. words.with_stack_of w.stacks.frames t (below ++ with_body caller (body.Code stand.line (waiting_registers w j stand)) ∷ [])) (below_is w.stacks.frames t)
      ∙ ap (λ f. words.with_stack_of w.stacks.frames t (below_top (stack s t) ++ f ∷ [])) waits_is

  pub frame_client : (stacks : List (List StackFrame)) → ((f : StackFrame) → words.top (words.stack_of w.stacks.frames t) ≡ Some f → stacks ≡ waiting_on w t j stand f) → (0 < t) × (t ≤ length stacks)
  frame_client stacks waits = Rattle.machine_steps.proofs.Stacked.still_client w.stacks.frames stacks t _ (waits caller call_acts.on.on_top) call_acts.on.client

  pub frame_room : (i : ℕ) → MayStep (kept w) t → MayEnter (kept w) t x i → (stacks : List (List StackFrame)) → ((f : StackFrame) → words.top (words.stack_of w.stacks.frames t) ≡ Some f → stacks ≡ waiting_on w t j stand f) → length (words.stack_of stacks t) < 31
  frame_room i may enters stacks waits =
      let low = call_room k t x m i args paid may frame_wants enters in
      let waiter : StackFrame = with_body caller (body.Code stand.line (waiting_registers w j stand)) in
      let same : words.stack_of stacks t ≡ below_top (stack s t) ++ waiter ∷ [] = ap (λ frames. words.stack_of frames t) (waits caller call_acts.on.on_top)
      ∙ stack_set w.stacks.frames t (words.below_top (words.stack_of w.stacks.frames t) ++ waiter ∷ []) call_acts.on.client
      ∙ ap (λ below. below ++ waiter ∷ []) (below_is w.stacks.frames t) in
      let split : length (stack s t) ≡ length (below_top (stack s t) ++ call_acts.on.acts.f ∷ []) = ap length (top_splits (stack s t) call_acts.on.acts.f call_acts.on.acts.on_top) in
      omega (arith, low, split, ap length same, length_push (below_top (stack s t)) waiter, length_push (below_top (stack s t)) call_acts.on.acts.f)

  pub frame_goes : (i : ℕ) → MayStep (kept w) t → MayEnter (kept w) t x i → (known : Known) → IsHeapOf w.heap → (f : StackFrame) → ((made : State) → Begins L made w.next_call x i m args f)
      → {log : LogValue} {heap : HeapValue} {mid stacks : Laid Action} {threads : List Thread} {next : ℕ}
      → log.entries ≡ w.log.entries ++ entry.Call t w.next_call x i m args ∷ [] → log.spare + 1 ≡ w.log.spare
      → heap ≡ record w.heap { rows = map (handed f.args (owner.Instance f.instance)) w.heap.rows }
      → ((f : StackFrame) → words.top (words.stack_of w.stacks.frames t) ≡ Some f → mid.frames ≡ waiting_on w t j stand f) → mid.instances ≡ w.stacks.instances
      → stacks.frames ≡ words.with_stack_of mid.frames t (words.stack_of mid.frames t ++ f ∷ []) → stacks.instances ≡ mid.instances
      → threads ≡ change_row w.threads t (with_fuel (stand.fuel - 1)) (row w.threads t) → next ≡ w.next_call + 1
      → Stepped w (record w { log = log; heap = heap; stacks = stacks; threads = threads; next_call = next }) (entry.Call t w.next_call x i m args)
  frame_goes i may enters known kept' f begins {mid = mid} {stacks = stacks} entries spare handed' waits counts pushed counts' charges next' =
      call_goes k t x m i args paid may frame_wants enters known kept' (record { instances = refl; objects = refl; shadows = refl; blocks = refl; next_object = refl }) f begins entries spare
      (handed' ∙ ap (λ (g : StackFrame). record w.heap { rows = map (handed g.args (owner.Instance g.instance)) w.heap.rows }) (begins s).is)
      (pushed ∙ ap (λ (all : List (List StackFrame)). words.with_stack_of all t (words.stack_of all t ++ f ∷ [])) (waited mid.frames waits)
      ∙ ap (λ fs. slice_set paid.stacks (t - 1) (fs ++ f ∷ [])) (same_frames (row paid.stacks t)))
      (counts' ∙ counts)
      (charges ∙ ap (change_row w.threads t (with_fuel (stand.fuel - 1))) call_acts.on.acts.of)
      next'
