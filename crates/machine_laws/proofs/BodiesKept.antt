-- Stacks fit after every row.
use Rattle.std.proofs.Common.{◌≡◌, ℕ, ◌<◌, true, ◌⊎◌, List, [], ◌∷◌, refl, ap, arith, inl, inr}
use Rattle.machine_defs.specs.declared.values.RpcCode.TheVariants as code
use Rattle.machine_defs.specs.declared.entry.Entry.{Entry}
use Rattle.machine_defs.specs.declared.entry.Entry.TheVariants as entry
use Rattle.rl_defs.specs.declared.values.Value.{Value}
use Rattle.machine_defs.specs.declared.frame.Action.TheVariants as action
use Rattle.machine_defs.specs.declared.frame.Answer.TheVariants as answer
use Rattle.rl_defs.specs.declared.load.LoadRows.{LoadRows}
use Rattle.machine_defs.specs.State.{State, StackFrame, stack}
use Rattle.rl_defs.specs.Rows.{row}
use Rattle.machine_defs.specs.Loans.{count, sweep as sweep_state}
use Rattle.machine_defs.specs.Calling.{is_undone}
use Rattle.machine_defs.specs.Entries.{thread_of}
use Rattle.machine_defs.specs.Objects.{without}
use Rattle.machine_defs.specs.Seen.{with_word}
use Rattle.machine_defs.specs.Seen.{types_of}
use Rattle.machine_defs.specs.Frames.{popped}
use Rattle.machine_defs.specs.Calling.{is_enabled}
use Rattle.machine_defs.specs.CallRows.{Returns, Unwinds, after_return}
use Rattle.machine_defs.specs.ObjectRows.{ClientMakes, FrameMakes, ClientDrops, Does}
use Rattle.machine_defs.specs.Arguments.{objects_in}
use Rattle.machine_defs.specs.Sound.{own_of}
use Rattle.machine_defs.specs.Steps.{Row as RowOf}
use Rattle.machine_laws.specs.LedgerOf.{ledger_of}
use Rattle.machine_laws.specs.LedgerSound.{Owned, Placed}
use Rattle.machine_laws.specs.Shape.{Laid}
use Rattle.machine_laws.specs.Fitting.{StackFits, Fitting}
use Rattle.machine_laws.proofs.Instances.{loads_kept}
use Rattle.machine_laws.proofs.Acting.{acts_as}
use Rattle.machine_laws.proofs.Tops.{runs_frame}
use Rattle.machine_laws.proofs.OwnFits.{results_are_values}
use Rattle.machine_laws.proofs.CallSteps.{ClientsCall, not_waiting}
use Rattle.machine_laws.proofs.ReturnSteps.{returns_well, own_unlent}
use Rattle.machine_laws.proofs.EndSteps.{thread_there, loads_by, reply_instances, top_call}
use Rattle.machine_laws.proofs.DoneFits.{still_fits, went_fits, take_fits, unhang_fits, new_fits}
use Rattle.machine_laws.proofs.RepliedFits.{replied_fits}
use Rattle.machine_laws.proofs.CalledFits.{called_fits}
use Rattle.machine_laws.proofs.RefusedFits.{refused_fits}
use Rattle.machine_laws.proofs.AgainFits.{again_fits}
use Rattle.rl_defs.specs.Valid.{Valid, AreValidTables}

module _ (L : LoadRows) (s : State) (plans : Valid L) (tables : AreValidTables L.tables) (laid : Laid L s) (owned : Owned L (ledger_of L s)) (placed' : Placed L (ledger_of L s)) (fits : Fitting L s) (clients : ClientsCall L s) where
  -- the stacks of a state fit
  abbrev pub AllFit : State → Type 0
  AllFit made = (u : ℕ) → StackFits L (sweep_state made) (stack (sweep_state made) u)

  return_fits : (t c : ℕ) (results : List Value) (made : State) → is_undone (row s.threads t) ≡ true → Returns L s t c results made → Owned L (ledger_of L (sweep_state made)) → AllFit made
  return_fits t c results made ready r owned' =
      let doing = acts_as L s t (action.Ret results) r.fuel r.frame r.wants in
      let f : StackFrame = doing.f in
      let well = returns_well L s plans tables laid owned fits t r.fuel results r.frame doing in
      let runs = runs_frame L s t doing.thread f laid doing.of ready doing.on_top doing.lives in
      let s' : State = after_return t r.fuel r.thread results s in
      let some : (p : ℕ) → 0 < count p (objects_in results) → 0 < count p (own_of f) = λ p h. (let e = well.all p in omega (arith, e, h)) in
      replied_fits L s (entry.Ret t c results) made plans tables laid owned placed' fits r owned' (λ n. n) t r.thread r.of f doing.on_top s' refl refl (answer.Back results) tt well.method well.row
      (results_are_values (types_of L s) well.method.results results well.suits)
      (λ g below above here p h. own_unlent L s plans tables laid owned fits t p f g below above runs (some p h) here)
      (loads_by s made (reply_instances L s' made t (answer.Back results) r.replies)) r.replies

  unwind_fits : (t c : ℕ) (made : State) → is_undone (row s.threads t) ≡ true → Unwinds L s t c made → Owned L (ledger_of L (sweep_state made)) → AllFit made
  unwind_fits t c made ready r owned' =
      let th = thread_there s t ready in
      let call = top_call L s plans tables laid owned fits t r.frame r.of.on_top in
      replied_fits L s (entry.Unwound t c) made plans tables laid owned placed' fits r owned' (λ n. n) t th.0 th.1 r.frame r.of.on_top (popped t s) refl refl (answer.Failed code.Unwound) tt call.method call.row tt
      (λ g below above here p h. absurd (omega (arith, h)))
      (loads_by s made (reply_instances L (popped t s) made t (answer.Failed code.Unwound) r.replies)) r.replies

  pub bodies_kept : (e : Entry) (made : State) → is_enabled L s (thread_of e) ≡ true → RowOf L s e made → Owned L (ledger_of L (sweep_state made)) → AllFit made
  bodies_kept (entry.Call t c x i m args) made enabled r owned' = called_fits L s plans tables laid owned placed' fits clients t c x i m args made enabled r owned'
  bodies_kept (entry.Refuse t c why x m args) made enabled r owned' = refused_fits L s plans tables laid owned placed' fits t c x m why args made (not_waiting L s t enabled).0 r owned'
  bodies_kept (entry.Ret t c results) made enabled r owned' = return_fits t c results made (not_waiting L s t enabled).0 r owned'
  bodies_kept (entry.Unwound t c) made enabled r owned' = unwind_fits t c made (not_waiting L s t enabled).0 r owned'
  bodies_kept (entry.Again t c x i) made enabled r owned' = again_fits L s plans tables laid owned placed' fits t c x i made (not_waiting L s t enabled).0 r owned'
  bodies_kept (entry.New t w o ty values) made enabled r owned' = by_maker r.makes
    where
      by_maker : ClientMakes L s t w o ty values made ⊎ FrameMakes L s t w o ty values made → AllFit made
      by_maker (inl m) = still_fits L s (entry.New t w o ty values) made plans tables laid owned placed' fits r owned' (ap (λ (v : State). v.stacks) m.does.becomes)
      by_maker (inr m) = new_fits L s t w o ty values made plans tables laid owned placed' fits r owned' (not_waiting L s t enabled).0 m
  bodies_kept (entry.Drop t o) made enabled r owned' = by_dropper r
    where
      by_dropper : ClientDrops L s t o made ⊎ ((i : ℕ) × Does L s t i (action.Drop o) answer.Went (without (o ∷ [])) made) → AllFit made
      by_dropper (inl d) = still_fits L s (entry.Drop t o) made plans tables laid owned placed' fits r owned' (ap (λ (v : State). v.stacks) d.becomes)
      by_dropper (inr d) = went_fits L s (entry.Drop t o) made plans tables laid owned placed' fits r owned' t (not_waiting L s t enabled).0 d.1 tt (λ n. n) (λ m. refl) (λ m. refl)
  bodies_kept (entry.Set t o k values) made enabled r owned' = went_fits L s (entry.Set t o k values) made plans tables laid owned placed' fits r owned' t (not_waiting L s t enabled).0 r.1 tt (λ n. n) (λ m. refl) (λ m. refl)
  bodies_kept (entry.Wput t i k v) made enabled r owned' = went_fits L s (entry.Wput t i k v) made plans tables laid owned placed' fits r owned' t (not_waiting L s t enabled).0 {change = with_word i k v} r tt (λ n. n) (λ m. loads_kept m i _ (λ x. refl)) (λ m. refl)
  bodies_kept (entry.Take t i slot o) made enabled r owned' = take_fits L s (entry.Take t i slot o) made plans tables laid owned placed' fits r owned' t (not_waiting L s t enabled).0 i o slot r (λ n. n)
  bodies_kept (entry.Put t i slot o) made enabled r owned' = went_fits L s (entry.Put t i slot o) made plans tables laid owned placed' fits r owned' t (not_waiting L s t enabled).0 r.does tt (λ n. n) (λ m. loads_kept m i _ (λ x. refl)) (λ m. refl)
  bodies_kept (entry.DevGet t o b) made enabled r owned' = went_fits L s (entry.DevGet t o b) made plans tables laid owned placed' fits r owned' t (not_waiting L s t enabled).0 r.1 tt (λ n. n) (λ m. refl) (λ m. refl)
  bodies_kept (entry.DevPut t b o) made enabled r owned' = went_fits L s (entry.DevPut t b o) made plans tables laid owned placed' fits r owned' t (not_waiting L s t enabled).0 r.1 tt (λ n. n) (λ m. refl) (λ m. refl)
  bodies_kept (entry.Hang t o k v) made enabled r owned' = went_fits L s (entry.Hang t o k v) made plans tables laid owned placed' fits r owned' t (not_waiting L s t enabled).0 r.does tt (λ n. n) (λ m. refl) (λ m. refl)
  bodies_kept (entry.Unhang t o k v) made enabled r owned' = unhang_fits L s (entry.Unhang t o k v) made plans tables laid owned placed' fits r owned' t (not_waiting L s t enabled).0 o k v r (λ n. n)
  bodies_kept (entry.Show t o values) made enabled r owned' = still_fits L s (entry.Show t o values) made plans tables laid owned placed' fits r owned' (ap (λ (v : State). v.stacks) r.does.becomes)
  bodies_kept (entry.Free o) made enabled r owned' = absurd r
  bodies_kept other made enabled r owned' = still_fits L s other made plans tables laid owned placed' fits r owned' (ap (λ (v : State). v.stacks) r.becomes)
