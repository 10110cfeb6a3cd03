-- A call that is made is a row of the ledger.
use Rattle.std.proofs.Common.{◌≡◌, ℕ, zero, suc, ◌-◌, ◌<◌, true, false, not, ◌&&◌, List, [], ◌∷◌, ◌++◌, length, map, filter, replicate, Some, None, refl, ap, ap₂, sym, subst, ◌∙◌, arith, inl, inr}
use Rattle.std.specs.List.{filter_map}
use Rattle.std.proofs.lemmas.Bool.{eq-eqb, and_parts, or_parts, not-true, false_from_ne_true}
use Rattle.machine_defs.specs.declared.values.Arg.{Arg}
use Rattle.machine_defs.specs.declared.values.Arg.TheVariants as arg
use Rattle.rl_defs.specs.declared.tables.MethodRow.{MethodRow}
use Rattle.machine_defs.specs.declared.entry.Entry.TheVariants as entry
use Rattle.machine_defs.specs.declared.frame.FrameBody.{FrameBody}
use Rattle.machine_defs.specs.declared.frame.FrameBody.TheVariants as body
use Rattle.machine_defs.specs.declared.frame.Action.{Action}
use Rattle.rl_defs.specs.declared.load.LoadRows.{LoadRows}
use Rattle.rl_defs.specs.Domains.{method_of}
use Rattle.machine_defs.specs.State.{State, StackFrame, Root, is_live, current, stack}
use Rattle.rl_defs.specs.Rows.{row}
use Rattle.machine_defs.specs.Loans.{count}
use Rattle.machine_defs.specs.State.{top}
use Rattle.machine_defs.specs.Calling.{Wish, is_undone, is_taken}
use Rattle.machine_defs.specs.Arguments.{has, moved_of, lent_of, value_of, entry_registers}
use Rattle.machine_defs.specs.NativeFits.{args_suit}
use Rattle.machine_defs.specs.Seen.{types_of}
use Rattle.rl_defs.specs.Rows.{is_target}
use Rattle.machine_defs.specs.Frames.{frame_of, BeginsBody, Begins}
use Rattle.machine_defs.specs.Calling.{wish, refusal, would_enter, would_reenter, waits, is_enabled}
use Rattle.machine_defs.specs.CallRows.{Calls}
use Rattle.machine_defs.specs.Sound.{object_held, own_of_body}
use Rattle.machine_laws.specs.LedgerOf.{frame_entry, ledger_of}
use Rattle.machine_laws.specs.LedgerSound.{Owned}
use Rattle.machine_laws.specs.LedgerRows.{MayPass, callee, Row}
use Rattle.machine_laws.specs.Shape.{Laid}
use Rattle.machine_laws.specs.Fitting.{Fitting}
use Rattle.machine_laws.proofs.Seats.{IsIn}
use Rattle.machine_laws.proofs.Present.{seated}
use Rattle.machine_laws.proofs.CallerRanks.{and_false, free_to_enter}
use Rattle.machine_laws.proofs.Wishes.{ClientWish, FrameWish, wish_as}
use Rattle.machine_laws.proofs.CallingRows.{Caller, call_row}
use Rattle.machine_laws.proofs.Callers.{frame_caller, calls_well}
use Rattle.machine_laws.proofs.Owners.{top_root}
use Rattle.machine_laws.proofs.Counts.{has_counted, counted_has}
use Rattle.machine_laws.proofs.Parts.{is_none_code}
use Rattle.rl_defs.specs.Valid.{Valid, AreValidTables}

-- A wished call, whoever makes it: its caller in the ledger, and what it is of.
pub record Called (L : LoadRows) (s : State) (t : ℕ) (w : Wish) : Type 0 where
  pub caller : Caller L s t w.charged
  pub target : is_target L w.target ≡ true
  pub method : MethodRow
  pub row : method_of L w.target w.method ≡ Some method
  pub suits : args_suit (types_of L s) method.params w.args ≡ true
  pub passes : MayPass caller.f w.args caller.own
  pub apart : (o : ℕ) → 0 < count o (moved_of w.args) → 0 < count o (lent_of w.args) → ⊥

pub frame_called : (L : LoadRows) (s : State) (t : ℕ) → Valid L → AreValidTables L.tables → Laid L s → Owned L (ledger_of L s) → Fitting L s → is_undone (row s.threads t) ≡ true → (w : Wish) → FrameWish L s t w → Called L s t w
frame_called L s t plans tables laid owned fits ready w wished =
    let well = calls_well L s t plans tables laid owned fits ready w wished in
    record {
      caller = frame_caller L s t plans tables laid owned fits ready w wished;
      target = well.target;
      method = well.method;
      row = well.row;
      suits = well.suits;
      passes = well.passes;
      apart = well.apart;
    }

-- what a client's call needs besides, from its script
abbrev pub ClientsCall : LoadRows → State → Type 0
ClientsCall L s = (t : ℕ) (w : Wish) → is_undone (row s.threads t) ≡ true → ClientWish L s t w → Called L s t w

pub called : (L : LoadRows) (s : State) (t : ℕ) → Valid L → AreValidTables L.tables → Laid L s → Owned L (ledger_of L s) → Fitting L s → ClientsCall L s → is_undone (row s.threads t) ≡ true → (w : Wish) → wish L s t ≡ Some w → Called L s t w
called L s t plans tables laid owned fits clients ready w wants = elim (wish_as L s t w wants) [
  | inl by_client ↦ clients t w ready by_client
  | inr by_frame ↦ frame_called L s t plans tables laid owned fits ready w by_frame
]

-- a frame begins with what its call moved as its own
own_args : (lent : List ℕ) (args : List Arg) (n : ℕ) → ((o : ℕ) → 0 < count o (moved_of args) → has lent o ≡ false) → ((o : ℕ) → 0 < count o (lent_of args) → has lent o ≡ true)
    → filter (λ o. not (has lent o)) (filter_map object_held (map (λ a. Some (value_of a)) args ++ replicate n None)) ≡ moved_of args
own_args lent [] zero moved lends = refl
own_args lent [] (suc n) moved lends = own_args lent [] n moved lends
own_args lent (arg.Num k ∷ args) n moved lends = own_args lent args n moved lends
own_args lent (arg.Cap x ∷ args) n moved lends = own_args lent args n moved lends
own_args lent (arg.Moved p ∷ args) n moved lends =
    let out = moved p (rw (eq-eqb p p refl) (omega arith)) in
    rw out (ap (λ os. p ∷ os) (own_args lent args n (λ o some. moved o (omega (arith, some))) lends))
own_args lent (arg.Lent p ∷ args) n moved lends =
    let is = lends p (rw (eq-eqb p p refl) (omega arith)) in
    rw is (own_args lent args n moved (λ o some. lends o (omega (arith, some))))

pub own_begun : (args : List Arg) (at : ℕ) → ((o : ℕ) → 0 < count o (moved_of args) → 0 < count o (lent_of args) → ⊥) → own_of_body (lent_of args) (body.Code at (entry_registers args)) ≡ moved_of args
own_begun args at apart = own_args (lent_of args) args (32 - length args) (λ o some. false_from_ne_true (has (lent_of args) o) (λ is. apart o some (has_counted (lent_of args) o is))) (λ o some. counted_has (lent_of args) o some)

pub begun_entry : (L : LoadRows) (z : State) (c x i m : ℕ) (args : List Arg) (f : StackFrame) → ((o : ℕ) → 0 < count o (moved_of args) → 0 < count o (lent_of args) → ⊥) → Begins L z c x i m args f → frame_entry f ≡ callee c x i m args
begun_entry L z c x i m args f apart begins = go f.body refl begins.is begins.body
  where
    go : (b : FrameBody Action) → f.body ≡ b → f ≡ frame_of c x i m args f.body → BeginsBody L z f f.body → frame_entry f ≡ callee c x i m args
    go (body.Code at regs) is same begins' =
        let known : BeginsBody L z f (body.Code at regs) = subst (BeginsBody L z f) is begins' in
        let args_is : f.args ≡ args = ap (λ (g : StackFrame). g.args) same in
        let regs_is : regs ≡ entry_registers args = known.2 ∙ ap entry_registers args_is in
        let f_is : f ≡ frame_of c x i m args (body.Code at (entry_registers args)) = same ∙ ap (frame_of c x i m args) (is ∙ ap (body.Code at) regs_is) in
        ap frame_entry f_is ∙ ap (λ os. record (callee c x i m args) { own = os }) (own_begun args at apart)
    go (body.Native held act) is same begins' =
        let known : BeginsBody L z f (body.Native held act) = subst (BeginsBody L z f) is begins' in
        let held_is : held ≡ moved_of args = known.1 ∙ ap moved_of (ap (λ (g : StackFrame). g.args) same) in
        let f_is : f ≡ frame_of c x i m args (body.Native (moved_of args) act) = same ∙ ap (frame_of c x i m args) (is ∙ ap (λ h. body.Native h act) held_is) in
        ap frame_entry f_is

-- an enabled thread doesn't wait
pub not_waiting : (L : LoadRows) (s : State) (t : ℕ) → is_enabled L s t ≡ true → (is_undone (row s.threads t) ≡ true) × (waits L s t ≡ false)
not_waiting L s t enabled = let parts = and_parts (is_undone (row s.threads t)) (not (waits L s t)) enabled in (parts.0, not-true (waits L s t) parts.1)

pub enters_free : (L : LoadRows) (s : State) (t : ℕ) (w : Wish) → is_enabled L s t ≡ true → wish L s t ≡ Some w → refusal L s t w.target ≡ None → is_live s (current L s w.target) ≡ true → is_taken L s t (current L s w.target) ≡ false
enters_free L s t w enabled wants none lives =
    let no_wait = (not_waiting L s t enabled).1 in
    let split = or_parts (would_enter L s t (wish L s t)) (would_reenter L s t (top (stack s t))) no_wait in
    let e : would_enter L s t (Some w) ≡ false = rw wants at split.0 in
    let both : (is_live s (current L s w.target) && is_none_code (refusal L s t w.target)) ≡ true = ap₂ (λ a b. a && is_none_code b) lives none in
    and_false (is_live s (current L s w.target) && is_none_code (refusal L s t w.target)) (is_taken L s t (current L s w.target)) e both

-- what a caller moves is in the heap
pub moved_there : (L : LoadRows) (s charged : State) (t : ℕ) (args : List Arg) → Owned L (ledger_of L s) → (caller : Caller L s t charged) → MayPass caller.f args caller.own → (o : ℕ) → has (moved_of args) o ≡ true → IsIn s o
moved_there L s charged t args owned caller passes o is =
    let gone = passes.moved o in
    let some = has_counted (moved_of args) o is in
    seated s o (Root caller.f.party) (top_root L (ledger_of L s) owned t caller.f caller.fs caller.runs o (omega (arith, gone, some)))

module _ (L : LoadRows) (s : State) (plans : Valid L) (tables : AreValidTables L.tables) (laid : Laid L s) (owned : Owned L (ledger_of L s)) (fits : Fitting L s) (clients : ClientsCall L s) where
  pub calls : (t c x i m : ℕ) (args : List Arg) (z : State) → is_enabled L s t ≡ true → Calls L s t c x i m args z → Row L (ledger_of L s) (entry.Call t c x i m args) (ledger_of L z)
  calls t c x i m args z enabled r =
      let ready = (not_waiting L s t enabled).0 in
      let w : Wish = record { target = x; method = m; args = args; charged = r.charged } in
      let k = called L s t plans tables laid owned fits clients ready w r.wants in
      let into = r.into in
      let lives : is_live s (current L s x) ≡ true = subst (λ n. is_live s n ≡ true) into r.lives in
      let free = enters_free L s t w enabled r.wants r.unrefused lives in
      let free' = free_to_enter L s t i (subst (λ n. is_taken L s t n ≡ false) (sym into) free) in
      subst (λ y. Row L (ledger_of L s) (entry.Call t c x i m args) (ledger_of L y)) (sym r.becomes)
      (call_row L s r.charged t laid k.caller c x i m args r.frame k.target r.unrefused into r.lives r.number free' k.passes (begun_entry L z c x i m args r.frame k.apart r.begins) (moved_there L s r.charged t args owned k.caller k.passes))
