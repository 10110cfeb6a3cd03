-- A call that is entered or refused is its row of the ledger.
use Rattle.std.proofs.Common.{◌≡◌, ℕ, suc, ◌<◌, ◌==◌, true, false, not, ◌&&◌, List, [], ◌∷◌, ◌++◌, length, Option, Some, None, refl, ap, ap₂, sym, subst, ◌∙◌, arith, inl, inr, leb-false, leb-true, add-one}
use Rattle.std.specs.List.{list_any}
use Rattle.std.proofs.lemmas.Bool.{cases_Bool, eqb-true, and_parts, not-true}
use Rattle.machine_defs.specs.declared.values.Arg.{Arg}
use Rattle.machine_defs.specs.declared.values.Owner.TheVariants as owner
use Rattle.machine_defs.specs.declared.values.RpcCode.{RpcCode}
use Rattle.machine_defs.specs.declared.values.RpcCode.TheVariants as code
use Rattle.machine_defs.specs.declared.entry.Entry.TheVariants as entry
use Rattle.rl_defs.specs.declared.load.LoadRows.{LoadRows}
use Rattle.rl_defs.specs.Domains.{load_of_target, is_serial}
use Rattle.machine_defs.specs.State.{State, StackFrame, Placement, is_live, current, stack, with_stack}
use Rattle.machine_defs.specs.Arguments.{has, moved_of}
use Rattle.machine_defs.specs.Calling.{outranks, is_deep, breaks_order}
use Rattle.rl_defs.specs.Rows.{is_target}
use Rattle.machine_defs.specs.Calling.{restarts_left, is_gone, refusal}
use Rattle.machine_defs.specs.CallRows.{call_entered}
use Rattle.machine_laws.specs.Ledger.{LedgerFrame, Ledger, at}
use Rattle.machine_laws.specs.LedgerOf.{frame_entry, ledger_of}
use Rattle.machine_laws.specs.LedgerRows.{Runs, callee, MayPass, IsBelow, IsOutranked, IsFree, IsRefused, with_own, give, Row}
use Rattle.machine_laws.specs.Shape.{Laid}
use Rattle.machine_laws.proofs.Rows.{at_same}
use Rattle.machine_laws.proofs.Seats.{seats, IsIn, seats_given}
use Rattle.machine_laws.proofs.Pushing.{at_twice, pushed_ledger}

-- The caller of a wished call: its own frame in the ledger, those under it, and the state in which it has paid and waits with these objects.
pub record Caller (L : LoadRows) (s : State) (t : ℕ) (charged : State) : Type 0 where
  pub f : LedgerFrame
  pub fs : List LedgerFrame
  pub own : List ℕ
  pub runs : Runs L (ledger_of L s) t f fs
  pub ledger : ledger_of L charged ≡ record (ledger_of L s) { stack = with_own t f own fs ((ledger_of L s).stack) }
  pub laid : Laid L charged
  pub objects : charged.objects ≡ s.objects
  pub height : length fs ≡ length (stack s t)
  pub below : (rank : ℕ) → list_any (outranks L s rank) (stack s t) ≡ false → IsBelow L (ledger_of L s) rank (f ∷ fs)
  pub above : (rank : ℕ) → list_any (outranks L s rank) (stack s t) ≡ true → IsOutranked L (ledger_of L s) rank (f ∷ fs)

-- what a refusal that isn't there tells, and one that is
pub record Unrefused (L : LoadRows) (s : State) (t x : ℕ) : Type 0 where
  pub shallow : is_deep s t ≡ false
  pub stays : is_gone L s x ≡ false
  pub in_order : breaks_order L s t x ≡ false

pub unrefused : (L : LoadRows) (s : State) (t x : ℕ) → refusal L s t x ≡ None → Unrefused L s t x
unrefused L s t x none = elim (cases_Bool (is_deep s t)) [
  | inl a ↦ absurd (let e : Some code.Deep ≡ None = rw a at none in cc)
  | inr a ↦ elim (cases_Bool (is_gone L s x)) [
    | inl b ↦ absurd (let e : Some code.Gone ≡ None = rw (a, b) at none in cc)
    | inr b ↦ elim (cases_Bool (breaks_order L s t x)) [
      | inl c ↦ absurd (let e : Some code.Order ≡ None = rw (a, b, c) at none in cc)
      | inr c ↦ record { shallow = a; stays = b; in_order = c }
    ]
  ]
]

abbrev pub Reason : LoadRows → State → ℕ → ℕ → RpcCode → Type 0
Reason L s t x code.Deep = is_deep s t ≡ true
Reason L s t x code.Gone = is_gone L s x ≡ true
Reason L s t x code.Order = breaks_order L s t x ≡ true
Reason L s t x code.Unwound = ⊥

pub refused_for : (L : LoadRows) (s : State) (t x : ℕ) (why : RpcCode) → refusal L s t x ≡ Some why → Reason L s t x why
refused_for L s t x why is = elim (cases_Bool (is_deep s t)) [
  | inl a ↦ let e : Some code.Deep ≡ Some why = rw a at is in let same : code.Deep ≡ why = cc in subst (Reason L s t x) same a
  | inr a ↦ elim (cases_Bool (is_gone L s x)) [
    | inl b ↦ let e : Some code.Gone ≡ Some why = rw (a, b) at is in let same : code.Gone ≡ why = cc in subst (Reason L s t x) same b
    | inr b ↦ elim (cases_Bool (breaks_order L s t x)) [
      | inl c ↦ let e : Some code.Order ≡ Some why = rw (a, b, c) at is in let same : code.Order ≡ why = cc in subst (Reason L s t x) same c
      | inr c ↦ absurd (let e : None ≡ Some why = rw (a, b, c) at is in cc)
    ]
  ]
]

pub current_same : (L : LoadRows) (s : State) (x : ℕ) → is_target L x ≡ true → (ledger_of L s).current x ≡ current L s x
current_same L s x is = rw is refl

module _ (L : LoadRows) (s charged : State) (t : ℕ) (laid : Laid L s) (caller : Caller L s t charged) where
  pub room : is_deep s t ≡ false → length caller.fs < 31
  room shallow = let lt = leb-false 31 (length (stack s t)) shallow in let h = caller.height in omega (arith, lt, h)

  pub in_rank : (x : ℕ) → breaks_order L s t x ≡ false → is_serial L (load_of_target L x) ≡ true → IsBelow L (ledger_of L s) (load_of_target L x) (caller.f ∷ caller.fs)
  in_rank x none serial = caller.below (load_of_target L x) (let e : (true && list_any (outranks L s (load_of_target L x)) (stack s t)) ≡ false = rw serial at none in e)

  pub call_row : (c x i m : ℕ) (args : List Arg) (g : StackFrame) → is_target L x ≡ true → refusal L s t x ≡ None → i ≡ current L s x → is_live s i ≡ true → c ≡ s.next_call
      → IsFree L (ledger_of L s) t i → MayPass caller.f args caller.own → frame_entry g ≡ callee c x i m args → ((o : ℕ) → has (moved_of args) o ≡ true → IsIn s o)
      → Row L (ledger_of L s) (entry.Call t c x i m args) (ledger_of L (call_entered t c i args g charged))
  call_row c x i m args g target none into lives number free passes begins there =
      let no' = unrefused L s t x none in
      let pushed : State = with_stack charged t (stack charged t ++ g ∷ []) in
      let there' : (o : ℕ) → has (moved_of args) o ≡ true → IsIn pushed o = λ o h. (let r = there o h in (r.0, ap (Rattle.machine_laws.proofs.Objects.found o) caller.objects ∙ r.1)) in
      let seat = seats_given pushed (owner.Instance i) (moved_of args) there' in
      let same_seat : seats charged ≡ seats s = ap (λ (k : Ledger). k.seat) caller.ledger in
      let push = pushed_ledger L charged t g caller.laid caller.runs.some caller.runs.within in
      let stack_here : (ledger_of L charged).stack ≡ with_own t caller.f caller.own caller.fs ((ledger_of L s).stack) = ap (λ (k : Ledger). k.stack) caller.ledger in
      let stack_top : (ledger_of L charged).stack t ≡ record caller.f { own = caller.own } ∷ caller.fs = ap (λ (st : ℕ → List LedgerFrame). st t) stack_here ∙ at_same t (record caller.f { own = caller.own } ∷ caller.fs) ((ledger_of L s).stack) in
      let stack_after : at t (frame_entry g ∷ (ledger_of L charged).stack t) ((ledger_of L charged).stack) ≡ at t (callee c x i m args ∷ record caller.f { own = caller.own } ∷ caller.fs) ((ledger_of L s).stack)
      = ap₂ (λ (fs : List LedgerFrame) (st : ℕ → List LedgerFrame). at t fs st) (ap₂ (λ (h : LedgerFrame) (hs : List LedgerFrame). h ∷ hs) begins stack_top) stack_here
      ∙ at_twice t (callee c x i m args ∷ record caller.f { own = caller.own } ∷ caller.fs) (record caller.f { own = caller.own } ∷ caller.fs) ((ledger_of L s).stack) in (
        caller.f,
        caller.fs,
        caller.own,
        record {
          runs = caller.runs;
          number = number;
          into = into ∙ sym (current_same L s x target);
          lives = lives;
          room = room no'.shallow;
          rank = in_rank x no'.in_order;
          free = free;
          passes = passes;
        },
        ap₂ (λ (seat : ℕ → Option Placement) (n : ℕ). record (ledger_of L pushed) { seat = seat; next_call = n }) (seat ∙ ap (give (moved_of args) (owner.Instance i)) same_seat) (add-one c)
            ∙ ap (λ (k : Ledger). record k { seat = give (moved_of args) (owner.Instance i) (seats s); next_call = suc c }) push
            ∙ ap₂ (λ (st : ℕ → List LedgerFrame) (k : Ledger). record k { stack = st; seat = give (moved_of args) (owner.Instance i) (seats s); next_call = suc c }) stack_after caller.ledger,
      )

  pub refused_in : (x : ℕ) (why : RpcCode) → is_target L x ≡ true → Reason L s t x why → IsRefused L (ledger_of L s) x why (caller.f ∷ caller.fs)
  refused_in x code.Deep target is = let le = leb-true 31 (length (stack s t)) is in let h = caller.height in omega (arith, le, h)
  refused_in x code.Gone target is =
      let parts = and_parts (not (is_live s (current L s x))) (restarts_left L s x == 0) is in (
        target,
        rw (current_same L s x target) (not-true (is_live s (current L s x)) parts.0),
        eqb-true (restarts_left L s x) 0 parts.1,
      )
  refused_in x code.Order target is =
      let parts = and_parts (is_serial L (load_of_target L x)) (list_any (outranks L s (load_of_target L x)) (stack s t)) is in
      (parts.0, caller.above (load_of_target L x) parts.1)
  refused_in x code.Unwound target is = is
