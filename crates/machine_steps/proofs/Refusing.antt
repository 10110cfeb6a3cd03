-- A call of a client is refused: that is a step.
use Rattle.std.proofs.Common.{◌≡◌, ℕ, ◌+◌, ◌-◌, ◌<◌, ◌≤◌, ◌^◌, List, [], ◌∷◌, ◌++◌, length, map, slice_set, slice_get, Option, Some, None, refl, sym, ap, subst, ◌∙◌}
use Rattle.std.proofs.lemmas.List.{set-set}
use Rattle.rl_defs.specs.declared.load.Command.{Command}
use Rattle.rl_defs.specs.declared.load.Command.TheVariants as command
use Rattle.rl_defs.specs.declared.load.ScriptArg.{ScriptArg}
use Rattle.rl_defs.specs.Rows.{row, commands_of}
use Rattle.machine_defs.specs.declared.entry.Entry.TheVariants as entry
use Rattle.machine_defs.specs.declared.frame.Answer.{Answer}
use Rattle.machine_defs.specs.declared.frame.Answer.TheVariants as answer
use Rattle.machine_defs.specs.declared.values.Arg.{Arg}
use Rattle.machine_defs.specs.declared.values.RpcCode.{RpcCode}
use Rattle.machine_defs.specs.LogValue.{LogValue}
use Rattle.machine_defs.specs.Arguments.{moved_of}
use Rattle.machine_defs.specs.Calling.{wish_of, client_wish, refusal, unless_moved, with_fuel}
use Rattle.machine_defs.specs.CallRows.{numbered}
use Rattle.machine_defs.specs.Frames.{after_command, results_in}
use Rattle.machine_defs.specs.Objects.{without}
use Rattle.machine_defs.specs.Seen.{change_row}
use Rattle.machine_defs.specs.State.{State, StackFrame, Thread, top, with_thread}
use Rattle.machine_defs.specs.Steps.{Row}
use Rattle.machine_defs.specs.Wants.{Names, arg_of}
use Rattle.machine_laws.specs.LedgerOf.{ledger_of}
use Rattle.machine_laws.specs.LedgerRows.{Runs}
use Rattle.machine_laws.proofs.CallSteps.{not_waiting}
use Rattle.machine_laws.proofs.NameKinds.{Commanding, commanding}
use Rattle.machine_laws.proofs.OwnRows.{at_most_once}
use Rattle.machine_laws.proofs.Parts.{wish_in}
use Rattle.machine_laws.proofs.Rows.{row_set_same, row_within}
use Rattle.machine_laws.proofs.Tops.{bottom, runs_client}
use Rattle.client_threads.specs.GivenUp.{AreHeldOnce, given_up_names}
use Rattle.proxies.specs.Objects.{given_up}
use Rattle.rref_heap.specs.HeapValue.{HeapValue}
use Rattle.rref_heap.specs.Kept.{IsHeapOf}
use Rattle.rref_heap.specs.Leaving.{swept_rows, leaving_in}
use Rattle.trampolines.specs.Words as words
use Rattle.machine_steps.specs.declared.machine.Machine.TheInside.{Inside}
use Rattle.machine_steps.specs.Kept.{MayStep}
use Rattle.machine_steps.specs.Inside.{state_of, kept, IsKept}
use Rattle.machine_steps.specs.Known.{Known}
use Rattle.machine_steps.specs.Calls.{ClientCalls}
use Rattle.machine_steps.specs.Replying.{told_stacks, told_threads}
use Rattle.machine_steps.specs.Returning.{given_in}
use Rattle.machine_steps.proofs.Stepping.{Stepped}
use Rattle.machine_steps.proofs.Acting.{holds, ledger, same_parts}
use Rattle.machine_steps.proofs.Freeing.{sweep_goes}
use Rattle.machine_steps.proofs.RefusedDrops.{refused_frees, refused_tells, refused_rooms}
use Rattle.machine_steps.proofs.Told.{told, told_replies, top_same}
use Rattle.machine_steps.proofs.Popping.{place_small}

-- what a call gives up of a client's names
abbrev pub MovedAreGivenUp : Type 0
MovedAreGivenUp = (names : Names) (args : List ScriptArg) → AreHeldOnce names → given_up_names args names ≡ map (unless_moved (moved_of (map (arg_of names) args))) names

module _ {w : Inside} (k : IsKept w) (t x m : ℕ) (args : List Arg) (why : RpcCode) (may : MayStep (kept w) t) (calls : ClientCalls (kept w) t x m args) (refused : refusal w.load (state_of w) t x ≡ Some why) (gives_up : MovedAreGivenUp) where
  abbrev s : State
  s = state_of w

  abbrev thread : Thread
  thread = calls.thread

  abbrev next : Command
  next = command.Call x m calls.given calls.names

  abbrev a : Answer
  a = answer.Failed why

  commands : Commanding w.load s t thread next
  commands = commanding w.load s t thread next calls.of calls.wants

  runs : Runs w.load (ledger_of w.load s) t (bottom t (Some thread)) []
  runs = runs_client w.load s t thread (holds k).laid calls.of (not_waiting w.load s t may.enabled).0 commands.alone

  -- the names without the objects that the call moves
  names_left : given_up_names calls.given thread.names ≡ map (unless_moved (moved_of args)) thread.names
  names_left =
      gives_up thread.names calls.given (λ o. at_most_once w.load (ledger_of w.load s) (ledger k).owned t (bottom t (Some thread)) [] runs o)
      ∙ ap (λ as'. map (unless_moved (moved_of as')) thread.names) (sym calls.args_are)

  abbrev charged : Thread
  charged = record thread { fuel = w.load.fuel - 1; names = map (unless_moved (moved_of args)) thread.names }

  abbrev refused_state : State
  refused_state = numbered s.next_call (without (moved_of args) (with_thread s t charged))

  -- the state in which its command is done
  abbrev pub client_made : State
  client_made = told w.load t a refused_state

  within : (0 < t) × (t ≤ length w.threads)
  within = row_within w.threads t thread calls.of

  no_frame : words.top (words.stack_of w.stacks.frames t) ≡ None
  no_frame = top_same s t ∙ ap top commands.alone

  pub client_makes : Row w.load s (entry.Refuse t s.next_call why x m args) client_made
  client_makes = record {
    charged = with_thread s t charged;
    wants = ap (wish_in w.load s t) calls.of ∙ (ap (wish_of w.load s t thread) calls.wants ∙ ap (λ as'. Some (client_wish w.load s t thread x m as')) (sym calls.args_are));
    refused = refused;
    number = refl;
    replies = told_replies w.load refused_state t a charged (row_set_same w.threads t charged within.0 within.1)
        (λ g there lives. absurd (let e : ◌≡◌ {A = Option StackFrame} None (Some g) = sym (ap top commands.alone) ∙ there in cc));
  }

  -- its thread once it has paid and given its moved objects up
  module _ {fueled gave : List Thread} (fuel : ℕ) (fuel_is : fuel ≡ w.load.fuel - 1) (pays : fueled ≡ change_row w.threads t (with_fuel fuel) (row w.threads t))
      (gives : gave ≡ change_row fueled t (λ y. record y { names = given_up_names (given_in (slice_get (commands_of (row w.load.clients t)) y.place)) y.names }) (row fueled t)) where
    gave_is : gave ≡ slice_set w.threads (t - 1) charged
    gave_is =
        let change : Thread → Thread = λ y. record y { names = given_up_names (given_in (slice_get (commands_of (row w.load.clients t)) y.place)) y.names } in
        let paid : Thread = with_fuel fuel thread in
        let fueled_is : fueled ≡ slice_set w.threads (t - 1) paid = pays ∙ ap (change_row w.threads t (with_fuel fuel)) calls.of in
        let here : row fueled t ≡ Some paid = ap (λ ts. row ts t) fueled_is ∙ row_set_same w.threads t paid within.0 within.1 in
        let left : change paid ≡ charged =
        ap (λ next'. record paid { names = given_up_names (given_in next') thread.names }) commands.here
        ∙ (ap (λ names. record paid { names = names }) names_left ∙ ap (λ n. record charged { fuel = n }) fuel_is) in
        gives
        ∙ (ap (change_row fueled t change) here
        ∙ (ap (λ ts. slice_set ts (t - 1) (change paid)) fueled_is
        ∙ (set-set w.threads (t - 1) paid (change paid) ∙ ap (slice_set w.threads (t - 1)) left)))

    pub client_place : (y : Thread) → row gave t ≡ Some y → y.place + 1 < 2 ^ 32
    client_place y there =
        let e : ◌≡◌ {A = Option Thread} (Some charged) (Some y) = sym (ap (λ ts. row ts t) gave_is ∙ row_set_same w.threads t charged within.0 within.1) ∙ there in
        let same : charged ≡ y = cc in
        subst (λ (z : Thread). z.place + 1 < 2 ^ 32) same (place_small w.load k.valid t thread.place next commands.here)

    pub client_goes : (known : Known) (is_heap : IsHeapOf w.heap) (given : List Arg) (given_is : given ≡ args) {heap : HeapValue} (behind : IsHeapOf heap) → heap ≡ record w.heap { rows = map (given_up (moved_of given)) w.heap.rows }
        → {logged log : LogValue} {swept : HeapValue} {threads : List Thread} (logged_args : List Arg) → logged_args ≡ args
        → logged.entries ≡ w.log.entries ++ entry.Refuse t s.next_call why x m logged_args ∷ [] → logged.spare + 1 ≡ w.log.spare
        → threads ≡ change_row gave t (λ y. after_command w.load t y (results_in a)) (row gave t)
        → swept ≡ record heap { rows = swept_rows heap.rows } → log.entries ≡ logged.entries ++ map entry.Free (leaving_in heap.rows) → log.spare + length (leaving_in heap.rows) ≡ logged.spare
        → Stepped w (record w { log = log; heap = swept; threads = threads; next_call = w.next_call + 1 }) (entry.Refuse t s.next_call why x m args)
    client_goes known is_heap given given_is {heap = heap} behind heap_is {threads = threads} logged_args logged_is entries spare ends is_swept freed_entries freed_spare =
        sweep_goes known k (entry.Refuse t s.next_call why x m args) may client_made client_makes
        (refused_frees known k t s.next_call x m why args may client_made client_makes is_heap refl given given_is behind heap_is)
        (refused_tells known k t s.next_call x m why args may client_made client_makes is_heap refl given given_is behind heap_is)
        (refused_rooms known k t s.next_call x m why args may client_made client_makes is_heap refl given given_is behind heap_is)
        (same_parts refl refl
        (sym (ap (told_stacks w.load w.instances t a w.stacks.frames) no_frame))
        (ends ∙ (ap (λ ts. change_row ts t (λ y. after_command w.load t y (results_in a)) (row ts t)) gave_is ∙ sym (ap (told_threads w.load t a (slice_set w.threads (t - 1) charged)) no_frame)))
        refl refl refl refl)
        refl (entries ∙ ap (λ as'. w.log.entries ++ entry.Refuse t s.next_call why x m as' ∷ []) logged_is) spare is_swept freed_entries freed_spare
