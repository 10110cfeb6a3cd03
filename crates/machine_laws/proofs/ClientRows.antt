-- What clients do, and instances that end, are rows of the ledger.
use Rattle.std.proofs.Common.{◌≡◌, ℕ, suc, ◌+◌, ◌-◌, ◌<◌, Bool, true, false, List, [], ◌∷◌, Option, Some, None, slice_get, slice_set, refl, ap, ap₂, sym, ◌∙◌, arith, inl, inr, add-one}
use mathlib.Core.Path.{fun_ext}
use Rattle.std.proofs.lemmas.Bool.{cases_eq}
use Rattle.rl_defs.specs.declared.values.Value.{Value}
use Rattle.rl_defs.specs.declared.values.Value.TheVariants as value
use Rattle.machine_defs.specs.declared.values.Cause.{Cause}
use Rattle.machine_defs.specs.declared.values.Owner.{Owner}
use Rattle.machine_defs.specs.declared.values.Owner.TheVariants as owner
use Rattle.machine_defs.specs.declared.entry.Entry.TheVariants as entry
use Rattle.machine_defs.specs.declared.frame.Action.TheVariants as action
use Rattle.rl_defs.specs.declared.load.LoadRows.{LoadRows}
use Rattle.rl_defs.specs.declared.load.Command.{Command}
use Rattle.rl_defs.specs.declared.load.Command.TheVariants as command
use Rattle.machine_defs.specs.State.{State, StackFrame, Thread, Placement, Root, Hung, is_live, stack, with_thread}
use Rattle.rl_defs.specs.Rows.{row}
use Rattle.machine_defs.specs.Loans.{count}
use Rattle.machine_defs.specs.Wants.{Names, Finishes, Skips, Commands}
use Rattle.rl_defs.specs.Rows.{commands_of}
use Rattle.machine_defs.specs.Calling.{is_undone}
use Rattle.machine_defs.specs.Arguments.{has}
use Rattle.machine_defs.specs.Frames.{bind, names_of}
use Rattle.machine_defs.specs.Objects.{with_new}
use Rattle.machine_defs.specs.Seen.{ended}
use Rattle.rl_defs.specs.Rows.{is_target}
use Rattle.machine_defs.specs.Wants.{wanted}
use Rattle.machine_defs.specs.Calling.{with_fuel}
use Rattle.machine_defs.specs.CallRows.{Traps, Kills, command_done}
use Rattle.machine_defs.specs.ObjectRows.{ClientMakes, ClientDrops, without_name, Shows, SkipsCommand, FinishesScript}
use Rattle.machine_defs.specs.Arguments.{objects_in}
use Rattle.machine_laws.specs.Ledger.{LedgerFrame, Ledger, at}
use Rattle.machine_laws.specs.LedgerOf.{frame_entry, names_held, is_done, ledger_of}
use Rattle.machine_laws.specs.LedgerRows.{Exchanged, Row}
use Rattle.machine_laws.specs.Shape.{Laid}
use Rattle.machine_laws.proofs.Rows.{at_same, at_other, row_set_same, row_set_other}
use Rattle.machine_laws.proofs.Tops.{bottom, entries, client_within, thread_at, done_same, runs_client, runs_frame}
use Rattle.machine_laws.proofs.Acting.{acts_as, CommandsAs, commands_as}
use Rattle.machine_laws.proofs.Seats.{seats, seats_new, seats_without, remove_one}
use Rattle.machine_laws.proofs.Instances.{loads_kept, lives_ended, words_kept, slots_kept, count_kept}
use Rattle.machine_laws.proofs.Pushing.{Alike, thread_ledger, laid_thread}
use Rattle.machine_laws.proofs.Replying.{at_self}
use Rattle.machine_laws.proofs.CallingRows.{current_same}

-- results that are none bind nothing
pub bind_none : (ks : List ℕ) (names : Names) → bind ks [] names ≡ names
bind_none [] names = refl
bind_none (k ∷ ks) names = refl

-- a thread that changes nothing that the ledger reads
pub thread_alike : (L : LoadRows) (s : State) (t : ℕ) (old new : Thread) → Laid L s → row s.threads t ≡ Some old → Alike old new → ledger_of L (with_thread s t new) ≡ ledger_of L s
thread_alike L s t old new laid of alike =
    let w = client_within L s t old laid of in
    let all' = thread_at L s t new laid w.0 w.1 in
    let here : entries t (stack s t) (Some new) ≡ (ledger_of L s).stack t = rw (of, ← alike.names) refl in
    ap₂ (λ (st : ℕ → List LedgerFrame) (done : ℕ → Bool). record (ledger_of L s) { stack = st; done = done })
    (all' ∙ ap (λ fs. at t fs ((ledger_of L s).stack)) here ∙ at_self t ((ledger_of L s).stack))
    (done_same L s t old new of alike.done)

pub command_alike : (L : LoadRows) (t : ℕ) (thread : Thread) → Alike thread (command_done L t [] thread)
command_alike L t thread = record { names = bind_none (names_of (slice_get (commands_of (row L.clients t)) thread.place)) thread.names; done = refl }

-- an instance that ends
pub ended_ledger : (L : LoadRows) (s : State) (i : ℕ) → ledger_of L (ended i s) ≡ record (ledger_of L s) { live = at i false (is_live s) }
ended_ledger L s i = go (loads_kept s i _ (λ x. refl)) (lives_ended s i) (count_kept s i _) (words_kept s i _ (λ x. refl)) (slots_kept s i _ (λ x. refl))
  where
    go : {loads : ℕ → ℕ} {live live' : ℕ → Bool} {next : ℕ} {words : ℕ → ℕ → ℕ} {slots : ℕ → List (Option ℕ)} → loads ≡ (ledger_of L s).loads → live ≡ live' → next ≡ (ledger_of L s).next_instance → words ≡ (ledger_of L s).words → slots ≡ (ledger_of L s).slots
        → record (ledger_of L s) { loads = loads; live = live; next_instance = next; words = words; slots = slots } ≡ record (ledger_of L s) { live = live' }
    go a b n c d = rw (a, b, n, c, d) refl

module _ (L : LoadRows) (s z : State) (t : ℕ) (laid : Laid L s) (ready : is_undone (row s.threads t) ≡ true) where
  pub trap_row : (i : ℕ) (cause : Cause) → Traps L s t i cause z → Row L (ledger_of L s) (entry.Trap t i cause) (ledger_of L z)
  trap_row i cause r =
      let doing = acts_as L s t (action.Trap cause) r.fuel r.frame r.wants in
      let inside : owner.Instance doing.f.instance ≡ owner.Instance i = ap owner.Instance (sym (ap (λ (g : StackFrame). g.instance) doing.same) ∙ sym r.inside) in
      let before : State = with_thread s t (with_fuel r.fuel r.thread) in (
        frame_entry doing.f,
        Rattle.machine_laws.proofs.Tops.under s t,
        runs_frame L s t doing.thread doing.f laid doing.of ready doing.on_top doing.lives,
        inside,
        ap (ledger_of L) r.becomes ∙ ended_ledger L before i
            ∙ ap (λ (k : Ledger). record k { live = at i false k.live }) (thread_alike L s t r.thread (with_fuel r.fuel r.thread) laid r.of (record { names = refl; done = refl })),
      )

  -- a client that does a command runs
  pub commander : (next : Command) → wanted L s t ≡ Commands next → CommandsAs L s t (Commands next)
  commander next wants = commands_as L s t (Commands next) tt wants

  pub kill_row : (i : ℕ) (k : Kills L s t i z) → is_target L k.target ≡ true → Row L (ledger_of L s) (entry.Kill t i) (ledger_of L z)
  kill_row i k target =
      let doing = commander (command.Kill k.target) k.wants in
      let before : State = with_thread s t (command_done L t [] k.thread) in (
        bottom t (Some doing.thread),
        runs_client L s t doing.thread laid doing.of ready doing.alone,
        k.target,
        k.inside ∙ sym (current_same L s k.target target),
        ap (ledger_of L) k.becomes ∙ ended_ledger L before i
            ∙ ap (λ (k : Ledger). record k { live = at i false k.live }) (thread_alike L s t k.thread (command_done L t [] k.thread) laid k.of (command_alike L t k.thread)),
      )

  pub client_new_row : (w : Owner) (o ty : ℕ) (values : List ℕ) → o ≡ s.next_object → (m : ClientMakes L s t w o ty values z)
      → Exchanged (names_held (Some m.does.thread)) [] (o ∷ []) (names_held (Some (command_done L t (value.Obj o ∷ []) m.does.thread)))
      → Row L (ledger_of L s) (entry.New t w o ty values) (ledger_of L z)
  client_new_row w o ty values number m trades =
      let doing = commander m.next m.does.wants in
      let new : Thread = command_done L t (value.Obj o ∷ []) m.does.thread in
      let mid : State = with_thread s t new in
      let ledger = thread_ledger L s t m.does.thread new laid m.does.of refl doing.alone in
      let seat = seats_new L mid ty w values (laid_thread L s t new laid) in
      let next : s.next_object + 1 ≡ suc o = rw number (add-one s.next_object) in
      let seat' : seats (with_new L ty w values mid) ≡ at o (Some (Root w)) (seats s) = rw number seat in (
        bottom t (Some m.does.thread),
        [],
        names_held (Some new),
        runs_client L s t m.does.thread laid m.does.of ready doing.alone,
        m.mine,
        number,
        trades,
        ap (ledger_of L) m.does.becomes
            ∙ ap₂ (λ (seat : ℕ → Option Placement) (n : ℕ). record (ledger_of L mid) { seat = seat; next_object = n }) seat' next
            ∙ ap (λ (k : Ledger). record k { seat = at o (Some (Root w)) (seats s); next_object = suc o }) ledger,
      )

  pub client_drop_row : (o : ℕ) (d : ClientDrops L s t o z)
      → Exchanged (names_held (Some d.thread)) (o ∷ []) [] (names_held (Some (command_done L t [] (without_name d.name d.thread))))
      → Row L (ledger_of L s) (entry.Drop t o) (ledger_of L z)
  client_drop_row o d trades =
      let doing = commander (command.Drop d.name) d.wants in
      let new : Thread = command_done L t [] (without_name d.name d.thread) in
      let mid : State = with_thread s t new in
      let ledger = thread_ledger L s t d.thread new laid d.of refl doing.alone in
      let seat = seats_without L mid (o ∷ []) (laid_thread L s t new laid) in (
        bottom t (Some d.thread),
        [],
        names_held (Some new),
        runs_client L s t d.thread laid d.of ready doing.alone,
        trades,
        ap (ledger_of L) d.becomes
            ∙ ap (λ (seat : ℕ → Option Placement). record (ledger_of L mid) { seat = seat }) (seat ∙ remove_one o (seats s))
            ∙ ap (λ (k : Ledger). record k { seat = at o None (seats s) }) ledger,
      )

  pub show_row : (o : ℕ) (values : List Value) (d : Shows L s t o values z) → 0 < count o (names_held (Some d.thread))
      → ((v : ℕ) → has (objects_in values) v ≡ true → (k : ℕ) × (seats s v ≡ Some (Hung o k)))
      → Row L (ledger_of L s) (entry.Show t o values) (ledger_of L z)
  show_row o values d has_it hung =
      let doing = commander (command.Show d.name) d.does.wants in (
        bottom t (Some d.thread),
        runs_client L s t d.thread laid d.of ready doing.alone,
        has_it,
        hung,
        ap (ledger_of L) d.does.becomes ∙ thread_alike L s t d.does.thread (command_done L t [] d.does.thread) laid d.does.of (command_alike L t d.does.thread),
      )

  pub skip_row : (number : ℕ) → SkipsCommand L s t number z → Row L (ledger_of L s) (entry.Skip t number) (ledger_of L z)
  skip_row number r =
      let doing = commands_as L s t (Skips number) tt r.wants in (
        bottom t (Some r.thread),
        runs_client L s t r.thread laid r.of ready doing.alone,
        ap (ledger_of L) r.becomes ∙ thread_alike L s t r.thread (command_done L t [] r.thread) laid r.of (command_alike L t r.thread),
      )

  pub done_row : FinishesScript L s t z → Row L (ledger_of L s) (entry.Done t) (ledger_of L z)
  done_row r =
      let doing = commands_as L s t Finishes tt r.wants in
      let new : Thread = record r.thread { done = true } in
      let w = client_within L s t r.thread laid r.of in
      let stacks = thread_at L s t new laid w.0 w.1 in
      let here : entries t (stack s t) (Some new) ≡ (ledger_of L s).stack t = rw r.of refl in
      let done : ◌≡◌ {A = ℕ → Bool} (λ u. is_done (row (slice_set s.threads (t - 1) new) u)) (at t true (λ u. is_done (row s.threads u))) = fun_ext (λ u. elim (cases_eq u t) [
        | inl e ↦ let b = row_set_same s.threads t new w.0 (let e' = laid.threads in let le = w.1 in omega arith) in rw (e, b, at_same t true (λ u. is_done (row s.threads u))) refl
        | inr ne ↦ rw (row_set_other s.threads t u new w.0 ne, at_other t true (λ u. is_done (row s.threads u)) u ne) refl
      ]) in (
        bottom t (Some r.thread),
        runs_client L s t r.thread laid r.of ready doing.alone,
        ap (ledger_of L) r.becomes
            ∙ ap₂ (λ (st : ℕ → List LedgerFrame) (done : ℕ → Bool). record (ledger_of L s) { stack = st; done = done }) (stacks ∙ ap (λ fs. at t fs ((ledger_of L s).stack)) here ∙ at_self t ((ledger_of L s).stack)) done,
      )
