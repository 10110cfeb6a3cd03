-- After each row, the calls of all frames fit.
use Rattle.std.proofs.Common.{◌≡◌, ℕ, ◌-◌, ◌<◌, true, List, [], ◌∷◌, ◌++◌, length, Some, refl, ap, sym, subst, ◌∙◌, arith, inl, inr}
use Rattle.machine_defs.specs.declared.values.RpcCode.TheVariants as code
use Rattle.machine_defs.specs.declared.entry.Entry.{Entry}
use Rattle.machine_defs.specs.declared.entry.Entry.TheVariants as entry
use Rattle.machine_defs.specs.declared.frame.Action.{Action}
use Rattle.machine_defs.specs.declared.frame.Answer.{Answer}
use Rattle.machine_defs.specs.declared.frame.Answer.TheVariants as answer
use Rattle.rl_defs.specs.declared.load.LoadRows.{LoadRows}
use Rattle.machine_defs.specs.State.{State, StackFrame, Root, stack, with_stack, with_thread}
use Rattle.rl_defs.specs.Rows.{row}
use Rattle.machine_defs.specs.Loans.{sweep as sweep_state}
use Rattle.machine_defs.specs.Entries.{thread_of}
use Rattle.machine_defs.specs.Calling.{Wish, is_undone}
use Rattle.machine_defs.specs.Arguments.{has, moved_of, lent_of}
use Rattle.machine_defs.specs.Seen.{types_of}
use Rattle.machine_defs.specs.Objects.{without}
use Rattle.machine_defs.specs.Frames.{below_top, popped, with_top, with_body, waiting, Begins}
use Rattle.machine_defs.specs.Calling.{wish, with_fuel, is_enabled}
use Rattle.machine_defs.specs.CallRows.{IssuesAgain, numbered, after_return}
use Rattle.machine_defs.specs.ObjectRows.{Does}
use Rattle.machine_defs.specs.Steps.{Row as RowOf}
use Rattle.machine_laws.specs.Ledger.{LedgerFrame, lent_in}
use Rattle.machine_laws.specs.LedgerOf.{ledger_of}
use Rattle.machine_laws.specs.LedgerSound.{Owned, Placed}
use Rattle.machine_laws.specs.Shape.{Laid}
use Rattle.machine_laws.specs.Fitting.{CallsFit, Fitting}
use Rattle.machine_laws.proofs.Acting.{acts_as}
use Rattle.machine_laws.proofs.Wishes.{wish_as}
use Rattle.machine_laws.proofs.Seats.{IsIn}
use Rattle.machine_laws.proofs.Present.{seated}
use Rattle.machine_laws.proofs.Owners.{top_root}
use Rattle.machine_laws.proofs.FrameRows.{answered_same, body_twice}
use Rattle.machine_laws.proofs.CallSteps.{Called, called, not_waiting}
use Rattle.machine_laws.proofs.StepRows.{ClientFacts}
use Rattle.machine_laws.proofs.CallsKnown.{Known, KnownIn, args_suiting, known_same, known_top, known_below, known_push, known_set, known_topped, known_stacks, known_replied, known_before, known_behind}
use Rattle.machine_laws.proofs.Sums.{sum_least}
use Rattle.machine_laws.proofs.Counts.{has_counted}
use Rattle.rl_defs.specs.Valid.{Valid, AreValidTables}

module _ (L : LoadRows) (s : State) (known : KnownIn L s s) where
  -- the frame that did something is on top with another body
  does_known : {t i : ℕ} {act : Action} {a : Answer} {change : State → State} {made : State} → Does L s t i act a change made → ((m : State) → (change m).stacks ≡ m.stacks) → KnownIn L s made
  does_known {t} {i} {act} {a} {change} {made} d stacks =
      let doing = acts_as L s t act d.fuel d.frame d.wants in
      let same = body_twice doing.f d.frame d.after doing.same (answered_same L made d.frame a d.frame.body d.after d.answers) in
      let mid : State = with_thread s t (with_fuel (d.fuel - 1) d.thread) in
      let before : KnownIn L s mid = known_stacks L s s mid refl known in
      let after : KnownIn L s (with_top t d.after mid) = known_topped L s mid t d.after before (known_same L s doing.f d.after same (known_top L s (stack s t) doing.f (known t) doing.on_top)) in
      known_stacks L s (with_top t d.after mid) made (ap (λ (y : State). y.stacks) d.becomes ∙ stacks (with_top t d.after mid)) after

  -- a caller that has paid waits with another body
  wish_known : (t : ℕ) (w : Wish) → wish L s t ≡ Some w → KnownIn L s w.charged
  wish_known t w wants = elim (wish_as L s t w wants) [
    | inl c ↦ known_stacks L s s w.charged (ap (λ (v : Wish). v.charged.stacks) c.is) known
    | inr f ↦
        let acts = acts_as L s t _ f.fuel f.frame f.wants in
        let mid : State = with_thread s t (with_fuel (f.fuel - 1) f.thread) in
        let waits : StackFrame = waiting L s (moved_of w.args) f.frame in
        let same : waits ≡ with_body acts.f waits.body = body_twice acts.f f.frame waits acts.same refl in
        let paid : w.charged ≡ with_top t waits mid = ap (λ (v : Wish). v.charged) f.is in
        subst (KnownIn L s) (sym paid) (known_topped L s mid t waits (known_stacks L s s mid refl known) (known_same L s acts.f waits same (known_top L s (stack s t) acts.f (known t) acts.on_top)))
  ]

  -- the dead frame's call begins again, with the same arguments
  again_known : (t c x i : ℕ) (made : State) → IssuesAgain L s t c x i made → KnownIn L s made
  again_known t c x i made r =
      let dead = known_top L s (stack s t) r.dead (known t) r.of.on_top in
      let target : r.frame.target ≡ r.dead.target = ap (λ (g : StackFrame). g.target) r.begins.is ∙ r.through in
      let method : r.frame.method ≡ r.dead.method = ap (λ (g : StackFrame). g.method) r.begins.is in
      let args : r.frame.args ≡ r.dead.args = ap (λ (g : StackFrame). g.args) r.begins.is in
      let lent : r.frame.lent ≡ lent_of r.dead.args = ap (λ (g : StackFrame). g.lent) r.begins.is in
      let begun : Known L s r.frame = record {
        fits = record {
          target = rw target dead.fits.target;
          method = dead.fits.method;
          row = rw (target, method) dead.fits.row;
          args = rw args dead.fits.args;
          lent = rw (lent, args) refl;
        };
        there = λ o h. dead.there o (subst (λ os. has os o ≡ true) (lent ∙ sym dead.fits.lent) h);
      } in
      subst (KnownIn L s) (sym r.becomes) (known_topped L s s t r.frame known begun)

module _ (L : LoadRows) (s : State) (laid : Laid L s) (owned : Owned L (ledger_of L s)) where
  -- what a caller lends is in the heap
  lent_there : (t : ℕ) (w : Wish) → Called L s t w → (o : ℕ) → has (lent_of w.args) o ≡ true → IsIn s o
  lent_there t w k o is = elim (k.passes.lent o (has_counted (lent_of w.args) o is)) [
    | inl mine ↦
        let kept = k.passes.moved o in
        seated s o (Root k.caller.f.party) (top_root L (ledger_of L s) owned t k.caller.f k.caller.fs k.caller.runs o (omega (arith, kept, mine)))
    | inr lent ↦
        let in_stack : 0 < lent_in o ((ledger_of L s).stack t) = subst (λ (fs : List LedgerFrame). 0 < lent_in o fs) (sym k.caller.runs.stack) (omega (arith, lent)) in
        let in_all = sum_least (λ u. lent_in o ((ledger_of L s).stack u)) (length L.clients) t k.caller.runs.some k.caller.runs.within in
        let root = owned.lent o (omega (arith, in_stack, in_all)) in
        seated s o (Root root.0) root.1
  ]

  -- the call that a frame begins fits
  begun_known : (t c i : ℕ) (w : Wish) (z : State) (f : StackFrame) → Called L s t w → Begins L z c w.target i w.method w.args f → Known L s f
  begun_known t c i w z f k begins =
      let target : f.target ≡ w.target = ap (λ (g : StackFrame). g.target) begins.is in
      let method : f.method ≡ w.method = ap (λ (g : StackFrame). g.method) begins.is in
      let args : f.args ≡ w.args = ap (λ (g : StackFrame). g.args) begins.is in
      let lent : f.lent ≡ lent_of w.args = ap (λ (g : StackFrame). g.lent) begins.is in
      record {
        fits = record {
          target = rw target k.target;
          method = k.method;
          row = rw (target, method) k.row;
          args = rw args (args_suiting (types_of L s) k.method.params w.args k.suits);
          lent = rw (lent, args) refl;
        };
        there = λ o h. lent_there t w k o (subst (λ os. has os o ≡ true) lent h);
      }

module _ (L : LoadRows) (s : State) (plans : Valid L) (tables : AreValidTables L.tables) (laid : Laid L s) (owned : Owned L (ledger_of L s)) (fits : Fitting L s) (clients : ClientFacts L s) where
  known : KnownIn L s s
  known = known_before L s laid owned fits.calls

  -- the frames of all stacks are known before the row
  pub known_row : (e : Entry) (made : State) → is_enabled L s (thread_of e) ≡ true → RowOf L s e made → KnownIn L s made
  known_row (entry.Call t c x i m args) made enabled r =
      let ready : is_undone (row s.threads t) ≡ true = (not_waiting L s t enabled).0 in
      let w : Wish = record { target = x; method = m; args = args; charged = r.charged } in
      let k = called L s t plans tables laid owned fits clients.calls ready w r.wants in
      let paid = wish_known L s known t w r.wants in
      let pushed : KnownIn L s (with_stack r.charged t (stack r.charged t ++ r.frame ∷ [])) = known_set L s r.charged t (stack r.charged t ++ r.frame ∷ []) paid (known_push L s (stack r.charged t) r.frame (paid t) (begun_known L s laid owned t c i w made r.frame k r.begins)) in
      known_stacks L s (with_stack r.charged t (stack r.charged t ++ r.frame ∷ [])) made (ap (λ (y : State). y.stacks) r.becomes) pushed
  known_row (entry.Refuse t c why x m args) made enabled r =
      let w : Wish = record { target = x; method = m; args = args; charged = r.charged } in
      let paid = wish_known L s known t w r.wants in
      let mid : State = numbered c (without (moved_of args) r.charged) in
      known_replied L s mid made t (answer.Failed why) (known_stacks L s r.charged mid refl paid) r.replies
  known_row (entry.Ret t c results) made enabled r =
      let left : KnownIn L s (popped t s) = known_set L s s t (below_top (stack s t)) known (known_below L s (stack s t) (known t)) in
      let mid : State = after_return t r.fuel r.thread results s in
      known_replied L s mid made t (answer.Back results) (known_stacks L s (popped t s) mid refl left) r.replies
  known_row (entry.Unwound t c) made enabled r =
      let left : KnownIn L s (popped t s) = known_set L s s t (below_top (stack s t)) known (known_below L s (stack s t) (known t)) in
      known_replied L s (popped t s) made t (answer.Failed code.Unwound) left r.replies
  known_row (entry.Again t c x i) made enabled r = again_known L s known t c x i made r
  known_row (entry.New t w o ty values) made enabled r = elim r.makes [
    | inl c ↦ known_stacks L s s made (ap (λ (y : State). y.stacks) c.does.becomes) known
    | inr f ↦ does_known L s known f.does (λ y. refl)
  ]
  known_row (entry.Drop t o) made enabled (inl d) = known_stacks L s s made (ap (λ (y : State). y.stacks) d.becomes) known
  known_row (entry.Drop t o) made enabled (inr d) = does_known L s known d.1 (λ y. refl)
  known_row (entry.Set t o k values) made enabled r = does_known L s known r.1 (λ y. refl)
  known_row (entry.Wput t i k v) made enabled r = does_known L s known r (λ y. refl)
  known_row (entry.Take t i slot o) made enabled r = does_known L s known r.does (λ y. refl)
  known_row (entry.Put t i slot o) made enabled r = does_known L s known r.does (λ y. refl)
  known_row (entry.DevGet t o b) made enabled r = does_known L s known r.1 (λ y. refl)
  known_row (entry.DevPut t b o) made enabled r = does_known L s known r.1 (λ y. refl)
  known_row (entry.Hang t o k v) made enabled r = does_known L s known r.does (λ y. refl)
  known_row (entry.Unhang t o k v) made enabled r = does_known L s known r.does (λ y. refl)
  known_row (entry.Show t o values) made enabled r = known_stacks L s s made (ap (λ (y : State). y.stacks) r.does.becomes) known
  known_row (entry.Free o) made enabled r = absurd r
  known_row other made enabled r = known_stacks L s s made (ap (λ (y : State). y.stacks) r.becomes) known

-- the calls of all frames fit after a row and its sweep
pub calls_kept : (L : LoadRows) (s : State) (e : Entry) (made : State) → Valid L → AreValidTables L.tables → Laid L s → Owned L (ledger_of L s) → Placed L (ledger_of L s) → Fitting L s → ClientFacts L s → RowOf L s e made → is_enabled L s (thread_of e) ≡ true → Owned L (ledger_of L (sweep_state made))
    → (u : ℕ) → CallsFit L (sweep_state made) (stack (sweep_state made) u)
calls_kept L s e made plans tables laid owned placed fits clients r enabled owned' =
    known_behind L s e made laid owned placed r owned' (known_row L s plans tables laid owned fits clients e made enabled r)
