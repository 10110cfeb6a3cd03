-- A step is determined by the state and its entry, but for the action that a native body chooses after it.
use Rattle.std.proofs.Common.{◌≡◌, ℕ, zero, suc, ◌<◌, ◌⊎◌, true, List, [], ◌∷◌, Some, None, refl, ap, ap₂, sym, false, subst, ◌∙◌, arith, inl, inr, true≢false}
use Rattle.std.proofs.lemmas.Bool.{cases_Bool}
use Rattle.rl_defs.specs.declared.values.Value.{Value}
use Rattle.rl_defs.specs.declared.values.Value.TheVariants as value
use Rattle.machine_defs.specs.declared.values.Arg.{Arg}
use Rattle.machine_defs.specs.declared.values.Owner.{Owner}
use Rattle.machine_defs.specs.declared.values.Owner.TheVariants as owner
use Rattle.machine_defs.specs.declared.values.RpcCode.{RpcCode}
use Rattle.machine_defs.specs.declared.values.RpcCode.TheVariants as code
use Rattle.machine_defs.specs.declared.values.Cause.{Cause}
use Rattle.machine_defs.specs.declared.entry.Entry.{Entry}
use Rattle.machine_defs.specs.declared.entry.Entry.TheVariants as entry
use Rattle.machine_defs.specs.declared.frame.Action.{Action}
use Rattle.machine_defs.specs.declared.frame.Action.TheVariants as action
use Rattle.machine_defs.specs.declared.frame.Answer.TheVariants as answer
use Rattle.rl_defs.specs.declared.load.LoadRows.{LoadRows}
use Rattle.rl_defs.specs.declared.load.Command.{Command}
use Rattle.rl_defs.specs.declared.load.Command.TheVariants as command
use Rattle.machine_defs.specs.State.{State, StackFrame, Thread, Root, Hung, stack, with_thread}
use Rattle.rl_defs.specs.Rows.{row}
use Rattle.machine_defs.specs.Loans.{object_of, freed, sweep}
use Rattle.machine_defs.specs.Wants.{Commands, Acts}
use Rattle.machine_defs.specs.State.{top}
use Rattle.machine_defs.specs.Calling.{Wish}
use Rattle.machine_defs.specs.Arguments.{moved_of}
use Rattle.machine_defs.specs.Entries.{thread_of}
use Rattle.machine_defs.specs.Objects.{cells_in, with_new, without, with_cells_of, overwritten, placed}
use Rattle.machine_defs.specs.Seen.{ended, with_word, with_slot}
use Rattle.machine_defs.specs.Wants.{wanted}
use Rattle.machine_defs.specs.Frames.{below_top, popped, Begins, Replies}
use Rattle.machine_defs.specs.Calling.{wish, is_enabled}
use Rattle.machine_defs.specs.CallRows.{Calls, Refuses, Returns, Unwinds, IssuesAgain, Reloads, Traps, Kills, numbered, passed_to, call_entered, after_return, command_done}
use Rattle.machine_defs.specs.ObjectRows.{Does, Commanded, ClientMakes, FrameMakes, Makes, Drops, Sets, PutsWord, Takes, Puts, GetsBlock, PutsBlock, Hangs, Unhangs, Shows, SkipsCommand, FinishesScript, block, instead, with_block, without_name}
use Rattle.machine_defs.specs.Steps.{Row}
use Rattle.machine_defs.specs.Laws.{unchosen, leaves_choice, StepsAreDetermined}
use Rattle.machine_laws.proofs.Unchosen.{Alike, top_alike, freed_alike, sweep_alike}
use Rattle.machine_laws.proofs.Alike.{begins_alike, replies_alike, same_acts, does_inside, does_alike}

module _ (L : LoadRows) (s : State) (t : ℕ) (m n : State) (some : 0 < t) where
  abbrev alike : m ≡ n → Alike t m n
  alike e = ap (unchosen t) e

  same_thread : (x y : Thread) → row s.threads t ≡ Some x → row s.threads t ≡ Some y → x ≡ y
  same_thread x y p q = let e : Some x ≡ Some y = sym p ∙ q in cc

  same_top : (f g : StackFrame) → top (stack s t) ≡ Some f → top (stack s t) ≡ Some g → f ≡ g
  same_top f g p q = let e : Some f ≡ Some g = sym p ∙ q in cc

  -- what a thread wishes to call, and the state in which it has paid for it
  same_charged : (x k : ℕ) (args : List Arg) (c d : State) → wish L s t ≡ Some (record { target = x; method = k; args = args; charged = c }) → wish L s t ≡ Some (record { target = x; method = k; args = args; charged = d }) → c ≡ d
  same_charged x k args c d p q =
      let e : Some (record { target = x; method = k; args = args; charged = c }) ≡ Some (record { target = x; method = k; args = args; charged = d }) = sym p ∙ q in
      let w : ◌≡◌ {A = Wish} (record { target = x; method = k; args = args; charged = c }) (record { target = x; method = k; args = args; charged = d }) = cc in
      ap (λ (v : Wish). v.charged) w

  calls_alike : (c x i k : ℕ) (args : List Arg) → Calls L s t c x i k args m → Calls L s t c x i k args n → Alike t m n
  calls_alike c x i k args p q =
      let paid = same_charged x k args p.charged q.charged p.wants q.wants in
      ap (unchosen t) p.becomes
      ∙ top_alike t p.charged (stack p.charged t) p.frame q.frame (λ w. numbered c (passed_to (owner.Instance i) (moved_of args) w)) some (λ w st. refl)
      (begins_alike L m n c x i k args p.frame q.frame p.begins q.begins)
      ∙ ap (λ w. unchosen t (call_entered t c i args q.frame w)) paid
      ∙ sym (ap (unchosen t) q.becomes)

  refuses_alike : (c : ℕ) (why : RpcCode) (x k : ℕ) (args : List Arg) → Refuses L s t c why x k args m → Refuses L s t c why x k args n → Alike t m n
  refuses_alike c why x k args p q =
      let paid = same_charged x k args p.charged q.charged p.wants q.wants in
      replies_alike L (numbered c (without (moved_of args) p.charged)) t (answer.Failed why) m n some p.replies
      (subst (λ w. Replies L (numbered c (without (moved_of args) w)) t (answer.Failed why) n) (sym paid) q.replies)

  returns_alike : (c : ℕ) (results : List Value) → Returns L s t c results m → Returns L s t c results n → Alike t m n
  returns_alike c results p q =
      let same = same_acts (wanted L s t) (action.Ret results) (action.Ret results) p.fuel q.fuel p.frame q.frame p.wants q.wants in
      let thread = same_thread p.thread q.thread p.of q.of in
      replies_alike L (after_return t p.fuel p.thread results s) t (answer.Back results) m n some p.replies
      (subst (λ (w : Thread). Replies L (after_return t p.fuel w results s) t (answer.Back results) n) (sym thread)
      (subst (λ k. Replies L (after_return t k q.thread results s) t (answer.Back results) n) (sym same.paying) q.replies))

  unwinds_alike : (c : ℕ) → Unwinds L s t c m → Unwinds L s t c n → Alike t m n
  unwinds_alike c p q = replies_alike L (popped t s) t (answer.Failed code.Unwound) m n some p.replies q.replies

  again_alike : (c x i : ℕ) → IssuesAgain L s t c x i m → IssuesAgain L s t c x i n → Alike t m n
  again_alike c x i p q =
      let dead = same_top p.dead q.dead p.of.on_top q.of.on_top in
      let begins = subst (λ (f : StackFrame). Begins L n c x i f.method f.args q.frame) (sym dead) q.begins in
      ap (unchosen t) p.becomes
      ∙ top_alike t s (below_top (stack s t)) p.frame q.frame (λ w. w) some (λ w st. refl) (begins_alike L m n c x i p.dead.method p.dead.args p.frame q.frame p.begins begins)
      ∙ sym (ap (unchosen t) q.becomes)

  reloads_same : (x i left : ℕ) → Reloads L s t x i left m → Reloads L s t x i left n → m ≡ n
  reloads_same x i left p q = p.becomes ∙ sym q.becomes

  traps_same : (i : ℕ) (cause : Cause) → Traps L s t i cause m → Traps L s t i cause n → m ≡ n
  traps_same i cause p q =
      let same = same_acts (wanted L s t) (action.Trap cause) (action.Trap cause) p.fuel q.fuel p.frame q.frame p.wants q.wants in
      p.becomes
      ∙ ap₂ (λ (k : ℕ) (w : Thread). ended i (with_thread s t (record w { fuel = k }))) same.paying (same_thread p.thread q.thread p.of q.of)
      ∙ sym q.becomes

  -- a client that does a command
  abbrev done : State → Thread → List Value → State
  done w thread results = with_thread w t (command_done L t results thread)

  kills_same : (i : ℕ) → Kills L s t i m → Kills L s t i n → m ≡ n
  kills_same i p q = p.becomes ∙ ap (λ w. ended i (done s w [])) (same_thread p.thread q.thread p.of q.of) ∙ sym q.becomes

  commanded_same : (next next' : Command) (results : List Value) (change : State → State) → Commanded L s t next results change m → Commanded L s t next' results change n → m ≡ n
  commanded_same next next' results change p q = p.becomes ∙ ap (λ w. change (done s w results)) (same_thread p.thread q.thread p.of q.of) ∙ sym q.becomes

  passes_same : (number : ℕ) → SkipsCommand L s t number m → SkipsCommand L s t number n → m ≡ n
  passes_same number p q = p.becomes ∙ ap (λ w. done s w []) (same_thread p.thread q.thread p.of q.of) ∙ sym q.becomes

  ends_same : FinishesScript L s t m → FinishesScript L s t n → m ≡ n
  ends_same p q = p.becomes ∙ ap (λ (w : Thread). with_thread s t (record w { done = true })) (same_thread p.thread q.thread p.of q.of) ∙ sym q.becomes

  no_client : (by : Owner) (inside : ℕ) → by ≡ owner.Client t → by ≡ owner.Instance inside → ⊥
  no_client by inside p q = let e : owner.Client t ≡ owner.Instance inside = sym p ∙ q in cc

  makes_alike : (by : Owner) (o ty : ℕ) (values : List ℕ) → Makes L s t by o ty values m → Makes L s t by o ty values n → Alike t m n
  makes_alike by o ty values p q = made p.makes q.makes
    where
      made : ClientMakes L s t by o ty values m ⊎ FrameMakes L s t by o ty values m → ClientMakes L s t by o ty values n ⊎ FrameMakes L s t by o ty values n → Alike t m n
      made (inl a) (inl b) = alike (commanded_same a.next b.next (value.Obj o ∷ []) (with_new L ty by values) a.does b.does)
      made (inr a) (inr b) = does_alike L s t a.inside b.inside (action.New ty) (answer.Made o) (with_new L ty by []) m n some (λ w st. refl) a.does b.does
      made (inl a) (inr b) = absurd (no_client by b.inside a.mine b.mine)
      made (inr a) (inl b) = absurd (no_client by a.inside b.mine a.mine)

  no_command : (next : Command) (act : Action) (fuel : ℕ) (f : StackFrame) → wanted L s t ≡ Commands next → wanted L s t ≡ Acts act fuel f → ⊥
  no_command next act fuel f p q = let e : Commands next ≡ Acts act fuel f = sym p ∙ q in cc

  drops_alike : (o : ℕ) → Drops L s t o m → Drops L s t o n → Alike t m n
  drops_alike o (inl a) (inl b) =
      let e : Commands (command.Drop a.name) ≡ Commands (command.Drop b.name) = sym a.wants ∙ b.wants in
      let name : a.name ≡ b.name = cc in
      alike (a.becomes ∙ ap₂ (λ (k : ℕ) (w : Thread). without (o ∷ []) (done s (without_name k w) [])) name (same_thread a.thread b.thread a.of b.of) ∙ sym b.becomes)
  drops_alike o (inr a) (inr b) = does_alike L s t a.0 b.0 (action.Drop o) answer.Went (without (o ∷ [])) m n some (λ w st. refl) a.1 b.1
  drops_alike o (inl a) (inr b) = absurd (no_command (command.Drop a.name) (action.Drop o) b.1.fuel b.1.frame a.wants b.1.wants)
  drops_alike o (inr a) (inl b) = absurd (no_command (command.Drop b.name) (action.Drop o) a.1.fuel a.1.frame b.wants a.1.wants)

  takes_alike : (i : ℕ) (slot : List ℕ) (o : ℕ) → Takes L s t i slot o m → Takes L s t i slot o n → Alike t m n
  takes_alike i slot o p q =
      let same = does_inside L s t i i (action.Take p.place) (action.Take q.place) (answer.Made o) (answer.Made o) (with_slot i p.place None) (with_slot i q.place None) m n p.does q.does in
      let place : q.place ≡ p.place = (let e = same.0 in cc) in
      does_alike L s t i i (action.Take p.place) (answer.Made o) (with_slot i p.place None) m n some (λ w st. refl) p.does
      (subst (λ k. Does L s t i (action.Take k) (answer.Made o) (with_slot i k None) n) place q.does)

  puts_alike : (i : ℕ) (slot : List ℕ) (o : ℕ) → Puts L s t i slot o m → Puts L s t i slot o n → Alike t m n
  puts_alike i slot o p q =
      let same = does_inside L s t i i (action.Put p.place o) (action.Put q.place o) answer.Went answer.Went (with_slot i p.place (Some o)) (with_slot i q.place (Some o)) m n p.does q.does in
      let place : q.place ≡ p.place = (let e = same.0 in cc) in
      does_alike L s t i i (action.Put p.place o) answer.Went (with_slot i p.place (Some o)) m n some (λ w st. refl) p.does
      (subst (λ k. Does L s t i (action.Put k o) answer.Went (with_slot i k (Some o)) n) place q.does)

  unhangs_alike : (o k v : ℕ) → Unhangs L s t o k v m → Unhangs L s t o k v n → Alike t m n
  unhangs_alike o k v p q =
      let out : ℕ → State → State = λ i. placed v (Root (owner.Instance i)) in
      let same = does_inside L s t p.inside q.inside (action.Unhang o k) (action.Unhang o k) (answer.Made v) (answer.Made v) (out p.inside) (out q.inside) m n p.does q.does in
      does_alike L s t p.inside q.inside (action.Unhang o k) (answer.Made v) (out p.inside) m n some (λ w st. refl) p.does
      (subst (λ i. Does L s t q.inside (action.Unhang o k) (answer.Made v) (out i) n) (sym same.1) q.does)

  -- each entry's row
  row_alike : (e : Entry) → leaves_choice e ≡ true → thread_of e ≡ t → Row L s e m → Row L s e n → Alike t m n
  row_alike (entry.Call u c x i k args) free is p q = calls_alike c x i k args (subst (λ v. Calls L s v c x i k args m) is p) (subst (λ v. Calls L s v c x i k args n) is q)
  row_alike (entry.Refuse u c why x k args) free is p q = refuses_alike c why x k args (subst (λ v. Refuses L s v c why x k args m) is p) (subst (λ v. Refuses L s v c why x k args n) is q)
  row_alike (entry.Ret u c results) free is p q = returns_alike c results (subst (λ v. Returns L s v c results m) is p) (subst (λ v. Returns L s v c results n) is q)
  row_alike (entry.Unwound u c) free is p q = unwinds_alike c (subst (λ v. Unwinds L s v c m) is p) (subst (λ v. Unwinds L s v c n) is q)
  row_alike (entry.Again u c x i) free is p q = again_alike c x i (subst (λ v. IssuesAgain L s v c x i m) is p) (subst (λ v. IssuesAgain L s v c x i n) is q)
  row_alike (entry.New u by o ty values) free is p q = makes_alike by o ty values (subst (λ v. Makes L s v by o ty values m) is p) (subst (λ v. Makes L s v by o ty values n) is q)
  row_alike (entry.Drop u o) free is p q = drops_alike o (subst (λ v. Drops L s v o m) is p) (subst (λ v. Drops L s v o n) is q)
  row_alike (entry.Set u o at values) free is p q =
      let a = subst (λ v. Sets L s v o at values m) is p in
      let b = subst (λ v. Sets L s v o at values n) is q in
      does_alike L s t a.0 b.0 (action.Set o at values) answer.Went (with_cells_of o (overwritten at values)) m n some (λ w st. refl) a.1 b.1
  row_alike (entry.Wput u i at v) free is p q =
      does_alike L s t i i (action.Wput at v) answer.Went (with_word i at v) m n some (λ w st. refl) (subst (λ k. PutsWord L s k i at v m) is p) (subst (λ k. PutsWord L s k i at v n) is q)
  row_alike (entry.Take u i slot o) free is p q = takes_alike i slot o (subst (λ v. Takes L s v i slot o m) is p) (subst (λ v. Takes L s v i slot o n) is q)
  row_alike (entry.Put u i slot o) free is p q = puts_alike i slot o (subst (λ v. Puts L s v i slot o m) is p) (subst (λ v. Puts L s v i slot o n) is q)
  row_alike (entry.DevGet u o b) free is p q =
      let a = subst (λ v. GetsBlock L s v o b m) is p in
      let c = subst (λ v. GetsBlock L s v o b n) is q in
      does_alike L s t a.0 c.0 (action.DevGet o b) answer.Went (with_cells_of o (instead (block s b))) m n some (λ w st. refl) a.1 c.1
  row_alike (entry.DevPut u b o) free is p q =
      let a = subst (λ v. PutsBlock L s v b o m) is p in
      let c = subst (λ v. PutsBlock L s v b o n) is q in
      does_alike L s t a.0 c.0 (action.DevPut b o) answer.Went (with_block b (cells_in (object_of s o))) m n some (λ w st. refl) a.1 c.1
  row_alike (entry.Hang u o k v) free is p q =
      let a = subst (λ w. Hangs L s w o k v m) is p in
      let b = subst (λ w. Hangs L s w o k v n) is q in
      does_alike L s t a.inside b.inside (action.Hang o k v) answer.Went (placed v (Hung o k)) m n some (λ w st. refl) a.does b.does
  row_alike (entry.Unhang u o k v) free is p q = unhangs_alike o k v (subst (λ w. Unhangs L s w o k v m) is p) (subst (λ w. Unhangs L s w o k v n) is q)
  row_alike (entry.Free o) free is p q = absurd p
  row_alike e free is p q = absurd (true≢false (sym free))

  -- where nothing is left to choose, the states are the same
  row_same : (e : Entry) → leaves_choice e ≡ false → thread_of e ≡ t → Row L s e m → Row L s e n → m ≡ n
  row_same (entry.Reload u x i left) set is p q = reloads_same x i left (subst (λ v. Reloads L s v x i left m) is p) (subst (λ v. Reloads L s v x i left n) is q)
  row_same (entry.Trap u i cause) set is p q = traps_same i cause (subst (λ v. Traps L s v i cause m) is p) (subst (λ v. Traps L s v i cause n) is q)
  row_same (entry.Kill u i) set is p q = kills_same i (subst (λ v. Kills L s v i m) is p) (subst (λ v. Kills L s v i n) is q)
  row_same (entry.Show u o values) set is p q =
      let a = subst (λ v. Shows L s v o values m) is p in
      let b = subst (λ v. Shows L s v o values n) is q in
      commanded_same (command.Show a.name) (command.Show b.name) [] (λ w. w) a.does b.does
  row_same (entry.Skip u number) set is p q = passes_same number (subst (λ v. SkipsCommand L s v number m) is p) (subst (λ v. SkipsCommand L s v number n) is q)
  row_same (entry.Done u) set is p q = ends_same (subst (λ v. FinishesScript L s v m) is p) (subst (λ v. FinishesScript L s v n) is q)
  row_same e set is p q = absurd (true≢false set)

-- an enabled thread is a client's
enabled_some : (L : LoadRows) (s : State) (t : ℕ) → is_enabled L s t ≡ true → 0 < t
enabled_some L s zero enabled = absurd (true≢false (sym enabled))
enabled_some L s (suc t) enabled = omega arith

pub steps_are_determined : StepsAreDetermined
steps_are_determined L s y z u v a b same = elim (cases_Bool (leaves_choice u.entry)) [
  | inl free ↦
      let made = row_alike L s t a.made b.made some u.entry free refl a.makes makes in (
        a.frees ∙ freed_alike t a.made b.made some made ∙ sym b.frees,
        rw free (ap (unchosen t) a.swept ∙ sweep_alike t a.made b.made some made ∙ sym (ap (unchosen t) b.swept)),
      )
  | inr set ↦
      let made = row_same L s t a.made b.made some u.entry set refl a.makes makes in (
        a.frees ∙ ap freed made ∙ sym b.frees,
        rw set (a.swept ∙ ap sweep made ∙ sym b.swept),
      )
]
  where
    t : ℕ
    t = thread_of u.entry

    some : 0 < thread_of u.entry
    some = enabled_some L s (thread_of u.entry) a.enabled

    makes : Row L s u.entry b.made
    makes = subst (λ e. Row L s e b.made) (sym same) b.makes
