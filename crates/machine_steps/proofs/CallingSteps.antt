-- A call that enters is a step of the machine.
use Rattle.std.proofs.Common.{◌≡◌, ℕ, ◌+◌, ◌<◌, ◌≤◌, true, List, [], ◌∷◌, ◌++◌, length, map, Some, refl, sym, ap, subst, ◌∙◌, arith, leb-false}
use Rattle.std.proofs.lemmas.Bool.{false_from_ne_true}
use Rattle.machine_defs.specs.declared.values.Arg.{Arg}
use Rattle.machine_defs.specs.declared.values.Owner.TheVariants as owner
use Rattle.machine_defs.specs.declared.entry.Entry.TheVariants as entry
use Rattle.machine_defs.specs.declared.frame.Action.{Action}
use Rattle.machine_defs.specs.LogValue.{LogValue}
use Rattle.rl_defs.specs.declared.load.LoadRows.{LoadRows}
use Rattle.rl_defs.specs.Domains.{load_of_target}
use Rattle.rl_defs.specs.Rows.{domain_of_load, is_target}
use Rattle.machine_defs.specs.State.{State, StackFrame, Thread, stack, with_stack}
use Rattle.machine_defs.specs.Arguments.{has, moved_of, lent_of}
use Rattle.machine_defs.specs.Loans.{count, loans}
use Rattle.machine_defs.specs.Calling.{Wish, wish}
use Rattle.machine_defs.specs.Frames.{Begins}
use Rattle.machine_defs.specs.Seen.{types_of}
use Rattle.machine_defs.specs.CallRows.{call_entered}
use Rattle.machine_defs.specs.Steps.{Row}
use Rattle.machine_laws.proofs.Counts.{has_counted}
use Rattle.machine_laws.proofs.Rows.{row_within}
use Rattle.machine_laws.proofs.Instances.{live_there}
use Rattle.machine_laws.proofs.CallingRows.{unrefused}
use Rattle.machine_laws.proofs.CallSteps.{Called, called, not_waiting}
use Rattle.machine_laws.proofs.ClientCalls.{clients_call}
use Rattle.machine_laws.proofs.EndSteps.{ready_within}
use Rattle.machine_laws.proofs.BegunFits.{arguments_fit}
use Rattle.machine_laws.proofs.HasReply.{has_beginning}
use Rattle.code_machine.specs.Fitting.{Enters}
use Rattle.trampolines.specs.Laid.{Laid}
use Rattle.rref_heap.specs.HeapValue.{HeapValue, MayOwn}
use Rattle.rref_heap.specs.Kept.{IsHeapOf}
use Rattle.proxies.specs.Objects.{MayGive, handed}
use Rattle.machine_steps.specs.declared.machine.Machine.TheInside.{Inside}
use Rattle.machine_steps.specs.Kept.{MayStep}
use Rattle.machine_steps.specs.Inside.{state_of, kept, IsKept}
use Rattle.machine_steps.specs.Known.{Known}
use Rattle.machine_steps.specs.Calls.{MayEnter}
use Rattle.machine_steps.proofs.Stepping.{Stepped, goes_quietly}
use Rattle.machine_steps.proofs.Acting.{holds, ledger, same_parts}
use Rattle.machine_steps.proofs.HandingOver.{all_of, unlent_is_free, root_may_lend, objects_handed, agrees_handed}

-- the caller has paid and waits: nothing else has changed
pub record HasPaid (s charged : State) : Type 0 where
  pub instances : charged.instances ≡ s.instances
  pub objects : charged.objects ≡ s.objects
  pub shadows : charged.shadows ≡ s.shadows
  pub blocks : charged.blocks ≡ s.blocks
  pub next_object : charged.next_object ≡ s.next_object

module _ {w : Inside} (k : IsKept w) (t x m i : ℕ) (args : List Arg) (charged : State) (may : MayStep (kept w) t) (wants : wish w.load (state_of w) t ≡ Some (record { target = x; method = m; args = args; charged = charged })) (enters : MayEnter (kept w) t x i) where
  abbrev L : LoadRows
  L = w.load

  abbrev s : State
  s = state_of w

  abbrev wished : Wish
  wished = record { target = x; method = m; args = args; charged = charged }

  -- what is called
  call : Called L s t wished
  call = called L s t k.valid k.valid.tables (holds k).laid (ledger k).owned (holds k).fits (clients_call L s k.valid (holds k).laid (ledger k).owned (holds k).fits) (not_waiting L s t may.enabled).0 wished wants

  pub call_target : is_target L x ≡ true
  call_target = call.target

  pub call_enters : Enters (domain_of_load L (load_of_target L x)) m args
  call_enters = record {
    code = k.code (load_of_target L x);
    types = types_of L s;
    given = arguments_fit L x m args (types_of L s) call.method k.valid call.target call.row call.suits;
  }

  -- where it goes
  pub call_client : (0 < t) × (t ≤ length w.stacks.frames)
  call_client = ready_within L s t (holds k).laid (not_waiting L s t may.enabled).0

  pub call_room : length (stack s t) < 31
  call_room = leb-false 31 (length (stack s t)) (unrefused L s t x enters.unrefused).shallow

  within : (0 < i) × (i ≤ length w.instances)
  within = (let there = live_there s i enters.lives in row_within w.instances i there.0 there.1)

  pub call_counted : (f : StackFrame) → ((made : State) → Begins L made w.next_call x i m args f) → (0 < f.instance) × (f.instance ≤ w.stacks.instances)
  call_counted f begins = (let is : f.instance ≡ i = ap (λ (g : StackFrame). g.instance) (begins s).is in (omega (arith, is, within.0), omega (arith, is, within.1, k.rooms.counts)))

  pub call_owner : (f : StackFrame) → ((made : State) → Begins L made w.next_call x i m args f) → MayOwn w.heap (owner.Instance f.instance)
  call_owner f begins = (let is : f.instance ≡ i = ap (λ (g : StackFrame). g.instance) (begins s).is in omega (arith, is, within.1, k.rooms.owners))

  -- its row
  pub call_row : (f : StackFrame) → ((made : State) → Begins L made w.next_call x i m args f) → Row L s (entry.Call t w.next_call x i m args) (call_entered t w.next_call i args f charged)
  call_row f begins = record {
    charged = charged;
    frame = f;
    wants = wants;
    unrefused = enters.unrefused;
    into = enters.into;
    lives = enters.lives;
    number = refl;
    begins = begins (call_entered t w.next_call i args f charged);
    becomes = refl;
  }

  module _ (known : Known) where
    module _ (f : StackFrame) (begins : (made : State) → Begins L made w.next_call x i m args f) where
      abbrev made : State
      made = call_entered t w.next_call i args f charged

      call_loans : (o : ℕ) → loans made o ≡ loans s o + count o (lent_of args)
      call_loans = known.loans L w.log.entries s made (entry.Call t w.next_call x i m args) k.valid k.run may.enabled (call_row f begins)

    -- what it moves and lends
    gives : IsHeapOf w.heap → MayGive w.heap.rows args
    gives heap =
        let begins = has_beginning L k.valid w.next_call x i m args call.method call.target call.row in
        let row' = call_row begins.0 begins.1 in
        let roots = known.roots L w.log.entries s (made begins.0 begins.1) (entry.Call t w.next_call x i m args) k.valid k.run may.enabled row' in
        let few = known.rows_lend L w.log.entries s (made begins.0 begins.1) (entry.Call t w.next_call x i m args) k.valid k.run may.enabled row' in
        record {
          moved = all_of _ (moved_of args) (λ o is. (let r = roots.changed o is in unlent_is_free L s w.heap.rows heap.numbered refl k.agrees o _ r.0 r.1));
          lent = all_of _ (lent_of args) (λ o is. (
              let r = roots.seen o is in
              let n = few o in
              let more = call_loans begins.0 begins.1 o in
              root_may_lend L s w.heap.rows heap.numbered refl k.agrees (lent_of args) o r.0 r.1 (omega (arith, n, more))));
          apart = λ o is. false_from_ne_true (has (lent_of args) o) (λ is'. call.apart o (has_counted (moved_of args) o is) (has_counted (lent_of args) o is'));
        }

    pub call_gives : IsHeapOf w.heap → (f : StackFrame) → ((made : State) → Begins L made w.next_call x i m args f) → MayGive w.heap.rows f.args
    call_gives heap f begins' = subst (MayGive w.heap.rows) (sym (ap (λ (g : StackFrame). g.args) (begins' s).is)) (gives heap)

    pub call_goes : IsHeapOf w.heap → HasPaid s charged → (f : StackFrame) → ((made : State) → Begins L made w.next_call x i m args f)
        → {log : LogValue} {heap : HeapValue} {stacks : Laid Action} {threads : List Thread} {next : ℕ}
        → log.entries ≡ w.log.entries ++ entry.Call t w.next_call x i m args ∷ [] → log.spare + 1 ≡ w.log.spare
        → heap ≡ record w.heap { rows = map (handed args (owner.Instance i)) w.heap.rows }
        → stacks.frames ≡ (with_stack charged t (stack charged t ++ f ∷ [])).stacks → stacks.instances ≡ w.stacks.instances
        → threads ≡ charged.threads → next ≡ w.next_call + 1
        → Stepped w (record w { log = log; heap = heap; stacks = stacks; threads = threads; next_call = next }) (entry.Call t w.next_call x i m args)
    call_goes kept' paid f begins {log} {heap} {stacks} {threads} {next} entries spare handed' frames counts threads' next' =
        let rows : heap.rows ≡ map (handed args (owner.Instance i)) w.heap.rows = ap (λ (h : HeapValue). h.rows) handed' in
        let owners : heap.instances ≡ w.heap.instances = ap (λ (h : HeapValue). h.instances) handed' in
        let clients : heap.clients ≡ w.heap.clients = ap (λ (h : HeapValue). h.clients) handed' in
        let objects = ap Rattle.rref_heap.specs.HeapValue.heap_objects rows ∙ (objects_handed args (owner.Instance i) w.heap.rows ∙ ap (Rattle.machine_defs.specs.Objects.given_to (owner.Instance i) (moved_of args)) (sym paid.objects)) in
        let many : length heap.rows ≡ length w.heap.rows = ap length rows ∙ Rattle.std.proofs.lemmas.List.length-map w.heap.rows (handed args (owner.Instance i)) in
        goes_quietly known (entry.Call t w.next_call x i m args) (made f begins) k may (call_row f begins) refl
        (same_parts (sym paid.instances) objects frames threads' (sym paid.shadows) (sym paid.blocks) (ap (λ n. n + 1) many ∙ sym paid.next_object) next')
        (record { load = refl; proxies = refl; entries = entries; spare = omega (arith, spare); counts = omega (arith, counts, k.rooms.counts); clients = omega (arith, clients); owners = omega (arith, owners, k.rooms.owners) })
        (subst (Rattle.machine_steps.specs.Kept.Agrees L (made f begins)) (sym rows) (agrees_handed L s (made f begins) w.heap.rows args (owner.Instance i) kept'.numbered (call_loans f begins) k.agrees))
