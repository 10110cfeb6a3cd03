-- What each row makes of its client's frames and names: the rows one by one.
use Rattle.std.proofs.Common.{◌≡◌, ℕ, zero, suc, ◌-◌, ◌==◌, true, cond, ◌⊎◌, List, [], ◌∷◌, ◌++◌, Some, None, slice_get, refl, ap, sym, subst, ◌∙◌, arith, inl, inr}
use Rattle.std.proofs.lemmas.Bool.{eq-eqb}
use Rattle.machine_defs.specs.declared.values.Arg.{Arg}
use Rattle.rl_defs.specs.declared.values.Value.{Value}
use Rattle.rl_defs.specs.declared.values.Value.TheVariants as value
use Rattle.machine_defs.specs.declared.values.Owner.{Owner}
use Rattle.machine_defs.specs.declared.values.Owner.TheVariants as owner
use Rattle.machine_defs.specs.declared.values.RpcCode.{RpcCode}
use Rattle.machine_defs.specs.declared.values.RpcCode.TheVariants as code
use Rattle.machine_defs.specs.declared.entry.Entry.{Entry}
use Rattle.machine_defs.specs.declared.entry.Entry.TheVariants as entry
use Rattle.machine_defs.specs.declared.frame.Action.TheVariants as action
use Rattle.machine_defs.specs.declared.frame.Answer.TheVariants as answer
use Rattle.rl_defs.specs.declared.tables.Kind.{Kind}
use Rattle.rl_defs.specs.declared.tables.Kind.TheVariants as kind
use Rattle.rl_defs.specs.declared.load.LoadRows.{LoadRows}
use Rattle.rl_defs.specs.declared.load.Command.{Command}
use Rattle.rl_defs.specs.declared.load.Command.TheVariants as command
use Rattle.rl_defs.specs.CodeNames.{results_of}
use Rattle.rl_defs.specs.Registers.{Typing}
use Rattle.rl_defs.specs.Domains.{method_of}
use Rattle.machine_defs.specs.State.{State, StackFrame, Thread, Root, Hung, stack, with_stack, with_thread}
use Rattle.rl_defs.specs.Rows.{bound_by, row}
use Rattle.machine_defs.specs.Loans.{object_of}
use Rattle.machine_defs.specs.Entries.{thread_of}
use Rattle.machine_defs.specs.Wants.{Skips}
use Rattle.rl_defs.specs.Rows.{commands_of}
use Rattle.machine_defs.specs.Calling.{Wish, is_undone}
use Rattle.machine_defs.specs.Arguments.{moved_of}
use Rattle.machine_defs.specs.Frames.{after_command}
use Rattle.machine_defs.specs.Objects.{cells_in, with_new, without, with_cells_of, overwritten, placed}
use Rattle.machine_defs.specs.Seen.{with_word, with_slot}
use Rattle.machine_defs.specs.NativeFits.{value_suits, values_suit}
use Rattle.machine_defs.specs.Seen.{types_of}
use Rattle.machine_defs.specs.Frames.{below_top, popped}
use Rattle.machine_defs.specs.Calling.{with_fuel}
use Rattle.machine_defs.specs.CallRows.{numbered, call_entered, after_return, command_done, Calls, Refuses, Returns, Unwinds, IssuesAgain, Reloads, Traps, Kills}
use Rattle.machine_defs.specs.ObjectRows.{Gives, ClientMakes, FrameMakes, ClientDrops, without_name, with_block, block, instead, same as same_state, SkipsCommand, FinishesScript}
use Rattle.rl_defs.specs.Rows.{BindsName}
use Rattle.machine_defs.specs.Steps.{Row}
use Rattle.machine_laws.specs.LedgerOf.{ledger_of}
use Rattle.machine_laws.specs.LedgerSound.{Owned}
use Rattle.machine_laws.specs.Shape.{Laid}
use Rattle.machine_laws.specs.Fitting.{Fitting}
use Rattle.machine_laws.specs.AtCall.{AtCall}
use Rattle.machine_laws.proofs.Stacks.{top_splits}
use Rattle.machine_laws.proofs.Acting.{acts_as, commands_as}
use Rattle.machine_laws.proofs.FrameSteps.{types_with}
use Rattle.machine_laws.proofs.EndSteps.{thread_there}
use Rattle.machine_laws.proofs.ReturnSteps.{returns_well}
use Rattle.machine_laws.proofs.NameCounts.{held_within}
use Rattle.machine_laws.proofs.NameKinds.{commanding, command_unused}
use Rattle.machine_laws.proofs.ClientAnswers.{back_suits}
use Rattle.machine_laws.proofs.Turning.{Turned, turned_start, turned_thread, turned_stack, turned_alike, turned_top, turned_popped, RepliedAs, ToClient, ToFrame, ToDead, replied_as}
use Rattle.machine_laws.proofs.AtCalls.{lowest_then, lowest_top, lowest_popped, stands_at}
use Rattle.machine_laws.proofs.Renaming.{renamed_same, renamed_then, renamed_bound, renamed_unbound}
use Rattle.machine_laws.proofs.Going.{Goes, renamed_command, goes_alone, goes_still, goes_does, goes_command, goes_failed, paid}
use Rattle.rl_defs.specs.Valid.{Valid, AreValidTables}

-- the types after an entry, of the objects that were there and the one that it makes
abbrev pub types_behind : LoadRows → State → Entry → Typing
types_behind L s (entry.New t w o ty values) = types_with L s o ty
types_behind L s e = types_of L s

module _ (L : LoadRows) (s : State) (plans : Valid L) (tables : AreValidTables L.tables) (laid : Laid L s) (owned : Owned L (ledger_of L s)) (fits : Fitting L s) (at : (u : ℕ) → AtCall L s u) where
  start : (t : ℕ) (old : Thread) → row s.threads t ≡ Some old → Turned s s t (stack s t) old
  start t old of = turned_start L s t old laid of

  call_goes : (t c x i m : ℕ) (args : List Arg) (z : State) → Calls L s t c x i m args z → Goes L s z t (types_of L s)
  call_goes t c x i m args z r =
      let w : Wish = record { target = x; method = m; args = args; charged = r.charged } in
      let p = paid L s laid at t (types_of L s) w r.wants in
      let mid : State = with_stack r.charged t (stack r.charged t ++ r.frame ∷ []) in
      let frames : List StackFrame = p.frames ++ r.frame ∷ [] in
      let pushed : Turned s mid t frames p.new = subst (λ fs. Turned s mid t (fs ++ r.frame ∷ []) p.new) p.turned.here (turned_stack s r.charged t p.frames (stack r.charged t ++ r.frame ∷ []) p.new p.turned) in
      record {
        old = p.old;
        of = p.of;
        frames = frames;
        new = p.new;
        turned = subst (λ y. Turned s y t frames p.new) (sym r.becomes) (turned_alike s mid (call_entered t c i args r.frame r.charged) t frames p.new refl refl pushed);
        stands = p.pushes r.frame (ap (λ (g : StackFrame). g.target) r.begins.is) (ap (λ (g : StackFrame). g.method) r.begins.is);
        renamed = p.renamed;
      }

  refuse_goes : (t c x m : ℕ) (why : RpcCode) (args : List Arg) (z : State) → Refuses L s t c why x m args z → Goes L s z t (types_of L s)
  refuse_goes t c x m why args z r =
      let w : Wish = record { target = x; method = m; args = args; charged = r.charged } in
      let p = paid L s laid at t (types_of L s) w r.wants in
      let mid : State = numbered c (without (moved_of args) r.charged) in
      goes_failed L s laid at t (types_of L s) mid z p.old p.new p.frames why p.of (turned_alike s r.charged mid t p.frames p.new refl refl p.turned) p.renamed p.place p.lowest r.replies

  return_goes : (t c : ℕ) (results : List Value) (z : State) → Returns L s t c results z → Goes L s z t (types_of L s)
  return_goes t c results z r = go (replied_as L s mid z t (answer.Back results) left new turned r.replies)
    where
      new : Thread
      new = with_fuel (r.fuel - 1) r.thread

      left : List StackFrame
      left = below_top (stack s t)

      mid : State
      mid = after_return t r.fuel r.thread results s

      turned : Turned s (after_return t r.fuel r.thread results s) t (below_top (stack s t)) (with_fuel (r.fuel - 1) r.thread)
      turned =
          let charged : Thread = with_fuel (r.fuel - 1) r.thread in
          turned_alike s (with_thread (popped t s) t charged) (after_return t r.fuel r.thread results s) t (below_top (stack s t)) charged refl refl
          (turned_thread s (popped t s) t (below_top (stack s t)) r.thread charged (turned_popped s s t (stack s t) r.thread (start t r.thread r.of)))

      go : RepliedAs L s z t (answer.Back results) (below_top (stack s t)) (with_fuel (r.fuel - 1) r.thread) → Goes L s z t (types_of L s)
      go (ToClient empty turned') =
          let charged : Thread = with_fuel (r.fuel - 1) r.thread in
          let acts = acts_as L s t (action.Ret results) r.fuel r.frame r.wants in
          let well = returns_well L s plans tables laid owned fits t r.fuel results r.frame acts in
          let alone : stack s t ≡ acts.f ∷ [] = top_splits (stack s t) acts.f acts.on_top ∙ ap (λ fs. fs ++ acts.f ∷ []) empty in
          let calls = (at t).calls acts.f [] r.thread alone r.of in
          let next : Command = command.Call acts.f.target acts.f.method calls.0 calls.1 in
          let unused = command_unused L t plans s r.thread (fits.names t r.thread r.of) next calls.2 in
          let suits : values_suit (types_of L s) (results_of (method_of L acts.f.target acts.f.method)) results ≡ true = subst (λ m. values_suit (types_of L s) (results_of m) results ≡ true) (sym well.row) well.suits in
          record {
            old = r.thread;
            of = r.of;
            frames = [];
            new = after_command L t charged results;
            turned = turned';
            stands = λ f above is. absurd cc;
            renamed = renamed_then L (types_of L s) t r.thread charged (after_command L t charged results) (renamed_same L (types_of L s) t r.thread charged refl (omega arith))
                (renamed_bound L (types_of L s) t charged next results plans calls.2 unused (λ i k v name here. back_suits L t plans r.thread acts.f.target acts.f.method calls (types_of L s) results suits i k v name here));
          }
      go (ToFrame f next on_top same turned') =
          let charged : Thread = with_fuel (r.fuel - 1) r.thread in
          let frames : List StackFrame = below_top (below_top (stack s t)) ++ next ∷ [] in
          let lowest = lowest_then (stack s t) (below_top (stack s t)) frames (lowest_popped (stack s t)) (lowest_top (below_top (stack s t)) f next on_top (ap (λ (g : StackFrame). g.target) same) (ap (λ (g : StackFrame). g.method) same)) in
          record {
            old = r.thread;
            of = r.of;
            frames = frames;
            new = charged;
            turned = turned';
            stands = stands_at L s t charged.place r.thread frames (at t) r.of refl lowest;
            renamed = renamed_same L (types_of L s) t r.thread charged refl (omega arith);
          }
      go (ToDead turned') =
          let charged : Thread = with_fuel (r.fuel - 1) r.thread in
          record {
            old = r.thread;
            of = r.of;
            frames = below_top (stack s t);
            new = charged;
            turned = turned';
            stands = stands_at L s t charged.place r.thread (below_top (stack s t)) (at t) r.of refl (lowest_popped (stack s t));
            renamed = renamed_same L (types_of L s) t r.thread charged refl (omega arith);
          }

  unwound_goes : (t c : ℕ) (z : State) → is_undone (row s.threads t) ≡ true → Unwinds L s t c z → Goes L s z t (types_of L s)
  unwound_goes t c z ready r =
      let th = thread_there s t ready in
      goes_failed L s laid at t (types_of L s) (popped t s) z th.0 th.0 (below_top (stack s t)) code.Unwound th.1 (turned_popped s s t (stack s t) th.0 (start t th.0 th.1)) (renamed_same L (types_of L s) t th.0 th.0 refl (omega arith)) refl (lowest_popped (stack s t)) r.replies

  again_goes : (t c x i : ℕ) (z : State) → is_undone (row s.threads t) ≡ true → IssuesAgain L s t c x i z → Goes L s z t (types_of L s)
  again_goes t c x i z ready r =
      let th = thread_there s t ready in
      let frames : List StackFrame = below_top (stack s t) ++ r.frame ∷ [] in
      let target : r.frame.target ≡ r.dead.target = ap (λ (g : StackFrame). g.target) r.begins.is ∙ r.through in
      record {
        old = th.0;
        of = th.1;
        frames = frames;
        new = th.0;
        turned = subst (λ y. Turned s y t frames th.0) (sym r.becomes) (turned_top s s t (stack s t) r.frame th.0 (start t th.0 th.1));
        stands = stands_at L s t th.0.place th.0 frames (at t) th.1 refl (lowest_top (stack s t) r.dead r.frame r.of.on_top target (ap (λ (g : StackFrame). g.method) r.begins.is));
        renamed = renamed_same L (types_of L s) t th.0 th.0 refl (omega arith);
      }

  reload_goes : (t x i left : ℕ) (z : State) → is_undone (row s.threads t) ≡ true → Reloads L s t x i left z → Goes L s z t (types_of L s)
  reload_goes t x i left z ready r =
      let th = thread_there s t ready in
      goes_still L s laid at t (types_of L s) z th.0 th.0 th.1 (turned_alike s s z t (stack s t) th.0 (ap (λ (y : State). y.stacks) r.becomes) (ap (λ (y : State). y.threads) r.becomes) (start t th.0 th.1)) refl refl

  trap_goes : (t i : ℕ) (cause : _) (z : State) → Traps L s t i cause z → Goes L s z t (types_of L s)
  trap_goes t i cause z r =
      let new : Thread = with_fuel r.fuel r.thread in
      let mid : State = with_thread s t new in
      goes_still L s laid at t (types_of L s) z r.thread new r.of (turned_alike s mid z t (stack s t) new (ap (λ (y : State). y.stacks) r.becomes) (ap (λ (y : State). y.threads) r.becomes) (turned_thread s s t (stack s t) r.thread new (start t r.thread r.of))) refl refl

  kill_goes : (t i : ℕ) (z : State) → Kills L s t i z → Goes L s z t (types_of L s)
  kill_goes t i z r =
      let new : Thread = command_done L t [] r.thread in
      let mid : State = with_thread s t new in
      let turned = turned_alike s mid z t (stack s t) new (ap (λ (y : State). y.stacks) r.becomes) (ap (λ (y : State). y.threads) r.becomes) (turned_thread s s t (stack s t) r.thread new (start t r.thread r.of)) in
      goes_alone L s laid at t (types_of L s) z r.thread new r.of (commanding L s t r.thread (command.Kill r.target) r.of r.wants).alone turned (renamed_command L (types_of L s) t r.thread)

  -- what `let` and `text` give suits the kind that they bind
  made_suits : (t place o ty : ℕ) (values : List ℕ) (next : Command) → Gives next ty values → slice_get (commands_of (row L.clients t)) place ≡ Some next → (i k : ℕ) (v : Value) → slice_get (bound_by next) i ≡ Some k → slice_get (value.Obj o ∷ []) i ≡ Some v
      → (of : Kind) × BindsName L t k of × (value_suits (types_with L s o ty) of v ≡ true)
  made_suits t place o ty values next gives here zero k v name is = by next gives here name
    where
      suits : (own : ℕ) → ty ≡ own → value_suits (types_with L s o ty) (kind.Own own) v ≡ true
      suits own same =
          let v_is : value.Obj o ≡ v = cc in
          let mine : (cond (o == o) ty ((types_of L s).struct_of o) == own) ≡ true = rw (eq-eqb o o refl) (eq-eqb ty own same) in
          subst (λ x. value_suits (types_with L s o ty) (kind.Own own) x ≡ true) v_is mine

      by : (next : Command) → Gives next ty values → slice_get (commands_of (row L.clients t)) place ≡ Some next → slice_get (bound_by next) zero ≡ Some k → (of : Kind) × BindsName L t k of × (value_suits (types_with L s o ty) of v ≡ true)
      by (command.Let n own given) g h b = (kind.Own own, record { place = place; next = command.Let n own given; here = h; at = zero; name = b; kind = refl }, suits own g.0)
      by (command.Text n own given) g h b = (kind.Own own, record { place = place; next = command.Text n own given; here = h; at = zero; name = b; kind = refl }, suits own g.0)
      by other g h b = absurd g
  made_suits t place o ty values next gives here (suc i) k v name is = absurd cc

  new_goes : (t : ℕ) (w : Owner) (o ty : ℕ) (values : List ℕ) (z : State) → is_undone (row s.threads t) ≡ true → ClientMakes L s t w o ty values z ⊎ FrameMakes L s t w o ty values z → Goes L s z t (types_with L s o ty)
  new_goes t w o ty values z ready (inl m) =
      let thread : Thread = m.does.thread in
      let charged : Thread = with_fuel (L.fuel - 1) thread in
      let does = commanding L s t thread m.next m.does.of m.does.wants in
      let unused = command_unused L t plans s thread (fits.names t thread m.does.of) m.next does.here in
      goes_command L s laid at t (types_with L s o ty) (with_new L ty w values) m.does (λ y. refl) (λ y. refl)
      (renamed_then L (types_with L s o ty) t thread charged (command_done L t (value.Obj o ∷ []) thread) (renamed_same L (types_with L s o ty) t thread charged refl (omega arith))
      (renamed_bound L (types_with L s o ty) t charged m.next (value.Obj o ∷ []) plans does.here unused (made_suits t thread.place o ty values m.next m.gives does.here)))
  new_goes t w o ty values z ready (inr m) = goes_does L s laid at t (types_with L s o ty) (with_new L ty w []) m.does ready (λ y. refl) (λ y. refl)

  drop_goes : (t o : ℕ) (z : State) → ClientDrops L s t o z → Goes L s z t (types_of L s)
  drop_goes t o z d =
      let less : Thread = without_name d.name d.thread in
      let new : Thread = command_done L t [] less in
      let mid : State = with_thread s t new in
      let turned = turned_alike s mid z t (stack s t) new (ap (λ (y : State). y.stacks) d.becomes) (ap (λ (y : State). y.threads) d.becomes) (turned_thread s s t (stack s t) d.thread new (start t d.thread d.of)) in
      goes_alone L s laid at t (types_of L s) z d.thread new d.of (commanding L s t d.thread (command.Drop d.name) d.of d.wants).alone turned
      (renamed_then L (types_of L s) t d.thread less new (renamed_unbound L (types_of L s) t d.name d.thread (held_within d.thread.names d.name (value.Obj o) d.object)) (renamed_command L (types_of L s) t less))

  skip_goes : (t number : ℕ) (z : State) → SkipsCommand L s t number z → Goes L s z t (types_of L s)
  skip_goes t number z r =
      let new : Thread = command_done L t [] r.thread in
      goes_alone L s laid at t (types_of L s) z r.thread new r.of (commands_as L s t (Skips number) tt r.wants).alone
      (subst (λ y. Turned s y t (stack s t) new) (sym r.becomes) (turned_thread s s t (stack s t) r.thread new (start t r.thread r.of))) (renamed_command L (types_of L s) t r.thread)

  done_goes : (t : ℕ) (z : State) → FinishesScript L s t z → Goes L s z t (types_of L s)
  done_goes t z r =
      let new : Thread = record r.thread { done = true } in
      goes_still L s laid at t (types_of L s) z r.thread new r.of (subst (λ y. Turned s y t (stack s t) new) (sym r.becomes) (turned_thread s s t (stack s t) r.thread new (start t r.thread r.of))) refl refl

  pub row_goes : (e : Entry) (z : State) → is_undone (row s.threads (thread_of e)) ≡ true → Row L s e z → Goes L s z (thread_of e) (types_behind L s e)
  row_goes (entry.Call t c x i m args) z ready r = call_goes t c x i m args z r
  row_goes (entry.Refuse t c why x m args) z ready r = refuse_goes t c x m why args z r
  row_goes (entry.Ret t c results) z ready r = return_goes t c results z r
  row_goes (entry.Unwound t c) z ready r = unwound_goes t c z ready r
  row_goes (entry.Reload t x i left) z ready r = reload_goes t x i left z ready r
  row_goes (entry.Again t c x i) z ready r = again_goes t c x i z ready r
  row_goes (entry.Trap t i cause) z ready r = trap_goes t i cause z r
  row_goes (entry.Kill t i) z ready r = kill_goes t i z r
  row_goes (entry.New t w o ty values) z ready r = new_goes t w o ty values z ready r.makes
  row_goes (entry.Drop t o) z ready (inl d) = drop_goes t o z d
  row_goes (entry.Drop t o) z ready (inr d) = goes_does L s laid at t (types_of L s) (without (o ∷ [])) d.1 ready (λ y. refl) (λ y. refl)
  row_goes (entry.Set t o k values) z ready r = goes_does L s laid at t (types_of L s) (with_cells_of o (overwritten k values)) r.1 ready (λ y. refl) (λ y. refl)
  row_goes (entry.Wput t i k v) z ready r = goes_does L s laid at t (types_of L s) (with_word i k v) r ready (λ y. refl) (λ y. refl)
  row_goes (entry.Take t i slot o) z ready r = goes_does L s laid at t (types_of L s) (with_slot i r.place None) r.does ready (λ y. refl) (λ y. refl)
  row_goes (entry.Put t i slot o) z ready r = goes_does L s laid at t (types_of L s) (with_slot i r.place (Some o)) r.does ready (λ y. refl) (λ y. refl)
  row_goes (entry.DevGet t o b) z ready r = goes_does L s laid at t (types_of L s) (with_cells_of o (instead (block s b))) r.1 ready (λ y. refl) (λ y. refl)
  row_goes (entry.DevPut t b o) z ready r = goes_does L s laid at t (types_of L s) (with_block b (cells_in (object_of s o))) r.1 ready (λ y. refl) (λ y. refl)
  row_goes (entry.Hang t o k v) z ready r = goes_does L s laid at t (types_of L s) (placed v (Hung o k)) r.does ready (λ y. refl) (λ y. refl)
  row_goes (entry.Unhang t o k v) z ready r = goes_does L s laid at t (types_of L s) (placed v (Root (owner.Instance r.inside))) r.does ready (λ y. refl) (λ y. refl)
  row_goes (entry.Show t o values) z ready r = goes_command L s laid at t (types_of L s) same_state r.does (λ y. refl) (λ y. refl) (renamed_command L (types_of L s) t r.does.thread)
  row_goes (entry.Skip t number) z ready r = skip_goes t number z r
  row_goes (entry.Done t) z ready r = done_goes t z r
  row_goes (entry.Free o) z ready r = absurd r
