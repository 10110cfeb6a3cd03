-- A client's call that enters is a step of the machine.
use Rattle.std.proofs.Common.{◌≡◌, ℕ, ◌+◌, ◌-◌, List, [], ◌∷◌, ◌++◌, map, slice_set, slice_get, Some, refl, sym, ap, subst, ◌∙◌}
use Rattle.machine_defs.specs.declared.values.Arg.{Arg}
use Rattle.machine_defs.specs.declared.values.Owner.TheVariants as owner
use Rattle.machine_defs.specs.declared.entry.Entry.TheVariants as entry
use Rattle.machine_defs.specs.declared.frame.Action.{Action}
use Rattle.rl_defs.specs.declared.load.Command.TheVariants as command
use Rattle.rl_defs.specs.declared.load.ScriptArg.{ScriptArg}
use Rattle.machine_defs.specs.LogValue.{LogValue}
use Rattle.rl_defs.specs.declared.load.LoadRows.{LoadRows}
use Rattle.rl_defs.specs.Rows.{row, commands_of}
use Rattle.machine_defs.specs.State.{State, StackFrame, Thread, with_thread}
use Rattle.machine_defs.specs.Arguments.{moved_of}
use Rattle.machine_defs.specs.Wants.{Names, arg_of}
use Rattle.machine_defs.specs.Calling.{wish, wish_of, unless_moved, with_fuel, client_wish}
use Rattle.machine_defs.specs.Seen.{change_row}
use Rattle.machine_defs.specs.Frames.{Begins}
use Rattle.machine_laws.specs.LedgerOf.{ledger_of}
use Rattle.machine_laws.proofs.Parts.{wish_in}
use Rattle.machine_laws.proofs.Rows.{row_set_same, row_within}
use Rattle.machine_laws.proofs.NameKinds.{Commanding, commanding}
use Rattle.machine_laws.proofs.OwnRows.{at_most_once}
use Rattle.machine_laws.proofs.Tops.{bottom, runs_client}
use Rattle.machine_laws.proofs.CallSteps.{not_waiting}
use Rattle.client_threads.specs.GivenUp.{AreHeldOnce, given_up_names}
use Rattle.trampolines.specs.Laid.{Laid}
use Rattle.trampolines.specs.Words as words
use Rattle.trampolines.proofs.Agreeing.{same_frames}
use Rattle.rref_heap.specs.HeapValue.{HeapValue}
use Rattle.rref_heap.specs.Kept.{IsHeapOf}
use Rattle.proxies.specs.Objects.{handed}
use Rattle.machine_steps.specs.declared.machine.Machine.TheInside.{Inside}
use Rattle.machine_steps.specs.Kept.{MayStep}
use Rattle.machine_steps.specs.Inside.{state_of, kept, IsKept}
use Rattle.machine_steps.specs.Known.{Known}
use Rattle.machine_steps.specs.Calls.{ClientCalls, MayEnter}
use Rattle.machine_steps.proofs.Stepping.{Stepped}
use Rattle.machine_steps.proofs.Acting.{holds, ledger}
use Rattle.machine_steps.proofs.Stacked.{set_over}
use Rattle.machine_steps.proofs.CallingSteps.{HasPaid, call_goes}

-- what giving names up comes to
abbrev pub MovedAreGivenUp : Type 0
MovedAreGivenUp = (names : Names) (given : List ScriptArg) → AreHeldOnce names → given_up_names given names ≡ map (unless_moved (moved_of (map (arg_of names) given))) names

module _ {w : Inside} (k : IsKept w) (t x m : ℕ) (args : List Arg) (may : MayStep (kept w) t) (calls : ClientCalls (kept w) t x m args) where
  abbrev L : LoadRows
  L = w.load

  abbrev s : State
  s = state_of w

  abbrev thread : Thread
  thread = calls.thread

  -- the client, where it has paid and given up what it moves
  abbrev paid : Thread
  paid = record thread { fuel = L.fuel - 1; names = map (unless_moved (moved_of args)) thread.names }

  pub client_wants : wish L s t ≡ Some (record { target = x; method = m; args = args; charged = with_thread s t paid })
  client_wants = subst (λ passed. wish L s t ≡ Some (client_wish L s t thread x m passed)) (sym calls.args_are)
      (ap (wish_in L s t) calls.of ∙ ap (wish_of L s t thread) calls.wants)

  commands : Commanding L s t thread (command.Call x m calls.given calls.names)
  commands = commanding L s t thread (command.Call x m calls.given calls.names) calls.of calls.wants

  held_once : AreHeldOnce thread.names
  held_once o = at_most_once L (ledger_of L s) (ledger k).owned t (bottom t (Some thread)) []
      (runs_client L s t thread (holds k).laid calls.of (not_waiting L s t may.enabled).0 commands.alone) o

  pub client_has_paid : HasPaid s (with_thread s t paid)
  client_has_paid = record { instances = refl; objects = refl; shadows = refl; blocks = refl; next_object = refl }

  -- its thread, once it has been charged and its names have been given up
  pub client_threads : MovedAreGivenUp → {fuel : ℕ} {charged after : List Thread} → fuel ≡ L.fuel - 1 → charged ≡ change_row w.threads t (with_fuel fuel) (row w.threads t)
      → ((y : Thread) (target method : ℕ) (given : List ScriptArg) (names : List ℕ) → row charged t ≡ Some y → slice_get (commands_of (row L.clients t)) y.place ≡ Some (command.Call target method given names)
      → after ≡ change_row charged t (λ y. record y { names = given_up_names given y.names }) (row charged t))
      → after ≡ (with_thread s t paid).threads
  client_threads law {fuel} {charged} {after} is charges gives =
      let within = row_within w.threads t thread calls.of in
      let set : charged ≡ slice_set w.threads (t - 1) (with_fuel fuel thread) = charges ∙ ap (change_row w.threads t (with_fuel fuel)) calls.of in
      let here : row charged t ≡ Some (with_fuel fuel thread) = ap (λ (threads : List Thread). row threads t) set ∙ row_set_same w.threads t (with_fuel fuel thread) within.0 within.1 in
      let names' : given_up_names calls.given thread.names ≡ map (unless_moved (moved_of args)) thread.names = law thread.names calls.given held_once ∙ ap (λ passed. map (unless_moved (moved_of passed)) thread.names) (sym calls.args_are) in
      gives (with_fuel fuel thread) x m calls.given calls.names here commands.here
      ∙ ap (change_row charged t (λ y. record y { names = given_up_names calls.given y.names })) here
      ∙ ap (λ threads. slice_set threads (t - 1) (record thread { fuel = fuel; names = given_up_names calls.given thread.names })) set
      ∙ set_over w.threads (t - 1) (with_fuel fuel thread) (record thread { fuel = fuel; names = given_up_names calls.given thread.names })
      ∙ ap (λ n. slice_set w.threads (t - 1) (record thread { fuel = n; names = given_up_names calls.given thread.names })) is
      ∙ ap (λ held. slice_set w.threads (t - 1) (record thread { fuel = L.fuel - 1; names = held })) names'

  pub client_goes : (i : ℕ) → MayEnter (kept w) t x i → (known : Known) → IsHeapOf w.heap → (f : StackFrame) → ((made : State) → Begins L made w.next_call x i m args f)
      → {log : LogValue} {heap : HeapValue} {stacks : Laid Action} {threads : List Thread} {next : ℕ}
      → log.entries ≡ w.log.entries ++ entry.Call t w.next_call x i m args ∷ [] → log.spare + 1 ≡ w.log.spare
      → heap ≡ record w.heap { rows = map (handed f.args (owner.Instance f.instance)) w.heap.rows }
      → stacks.frames ≡ words.with_stack_of w.stacks.frames t (words.stack_of w.stacks.frames t ++ f ∷ []) → stacks.instances ≡ w.stacks.instances
      → threads ≡ (with_thread s t paid).threads → next ≡ w.next_call + 1
      → Stepped w (record w { log = log; heap = heap; stacks = stacks; threads = threads; next_call = next }) (entry.Call t w.next_call x i m args)
  client_goes i enters known kept' f begins entries spare handed' frames counts threads' next' =
      let is = (begins s).is in
      call_goes k t x m i args (with_thread s t paid) may client_wants enters known kept' client_has_paid f begins entries spare
      (handed' ∙ ap (λ (g : StackFrame). record w.heap { rows = map (handed g.args (owner.Instance g.instance)) w.heap.rows }) is)
      (frames ∙ ap (λ fs. slice_set w.stacks.frames (t - 1) (fs ++ f ∷ [])) (same_frames (row w.stacks.frames t)))
      counts threads' next'
