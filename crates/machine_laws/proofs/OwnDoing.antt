-- What a frame that does something has of its own before and behind it, whether it runs code or a native body.
use Rattle.std.proofs.Common.{◌≡◌, ℕ, zero, suc, ◌<◌, ◌≤◌, ◌==◌, nat_lt, true, ◌⊎◌, List, [], ◌∷◌, length, refl, ap, sym, subst, ◌∙◌, arith, inl, inr}
use Rattle.std.proofs.lemmas.Bool.{cases_Bool, eqb-true}
use Rattle.machine_defs.specs.declared.values.Cause.TheVariants as cause
use Rattle.machine_defs.specs.declared.frame.Action.{Action}
use Rattle.machine_defs.specs.declared.frame.Action.TheVariants as action
use Rattle.machine_defs.specs.declared.frame.Answer.{Answer}
use Rattle.machine_defs.specs.declared.frame.Answer.TheVariants as answer
use Rattle.machine_defs.specs.declared.frame.FrameBody.{FrameBody}
use Rattle.machine_defs.specs.declared.frame.FrameBody.TheVariants as body
use Rattle.rl_defs.specs.declared.load.LoadRows.{LoadRows}
use Rattle.rl_defs.specs.CodeKinds.{kinds_at}
use Rattle.rl_defs.specs.Registers.{Typing}
use Rattle.machine_defs.specs.CodeFits.{FitsAnswer}
use Rattle.rl_defs.specs.Registers.{Registers}
use Rattle.machine_defs.specs.State.{State, StackFrame}
use Rattle.rl_defs.specs.Rows.{row}
use Rattle.machine_defs.specs.Loans.{count}
use Rattle.machine_defs.specs.Wants.{Acts}
use Rattle.machine_defs.specs.State.{instance_load}
use Rattle.machine_defs.specs.Arguments.{has}
use Rattle.machine_defs.specs.Calling.{is_undone}
use Rattle.machine_defs.specs.Seen.{domain_of_instance}
use Rattle.machine_defs.specs.NativeFits.{CanChoose}
use Rattle.machine_defs.specs.Seen.{types_of}
use Rattle.machine_defs.specs.Wants.{by_body}
use Rattle.machine_defs.specs.Frames.{Answers, AnswersBody, held_after}
use Rattle.machine_defs.specs.ObjectRows.{Does}
use Rattle.machine_defs.specs.Sound.{own_of, own_of_body}
use Rattle.machine_laws.specs.LedgerOf.{frame_entry, ledger_of}
use Rattle.machine_laws.specs.LedgerSound.{Owned}
use Rattle.machine_laws.specs.LedgerRows.{Exchanged}
use Rattle.machine_laws.specs.Shape.{Laid}
use Rattle.machine_laws.specs.Registers.{Retyped, own, given_away, used, shown, received}
use Rattle.machine_laws.specs.Fitting.{BodyFits, Fitting}
use Rattle.machine_laws.proofs.Tops.{under}
use Rattle.machine_laws.proofs.FrameRows.{doing, actor, actor_runs}
use Rattle.machine_laws.proofs.OwnRows.{at_most_once}
use Rattle.machine_laws.proofs.OwnAnswers.{Unlent}
use Rattle.machine_laws.proofs.CodeDoing.{NotTrap, CodeDoes, body_fits, code_does}
use Rattle.machine_laws.proofs.Doing.{CodeAfter, code_after}
use Rattle.machine_laws.proofs.Counting.{count_append, taken}
use Rattle.machine_laws.proofs.Counts.{has_counted}
use Rattle.rl_defs.specs.Valid.{Valid, AreValidTables}

-- the actions that are answered at once, with their answers
abbrev pub IsDone : Action → Answer → Type 0
IsDone (action.New ty) (answer.Made o) = Unit {0}
IsDone (action.Drop o) answer.Went = Unit {0}
IsDone (action.Set o k values) answer.Went = Unit {0}
IsDone (action.Wput k v) answer.Went = Unit {0}
IsDone (action.Take k) (answer.Made o) = Unit {0}
IsDone (action.Put k o) answer.Went = Unit {0}
IsDone (action.DevGet o b) answer.Went = Unit {0}
IsDone (action.DevPut b o) answer.Went = Unit {0}
IsDone (action.Hang q k o) answer.Went = Unit {0}
IsDone (action.Unhang q k) (answer.Made o) = Unit {0}
IsDone act a = ⊥

pub done_no_trap : (act : Action) (a : Answer) → IsDone act a → NotTrap act
done_no_trap (action.Trap k) a done c e = absurd done
done_no_trap other a done c e = cc

-- a native body that does something does what it had chosen
pub native_kept : (L : LoadRows) (s : State) (f : StackFrame) (fuel : ℕ) (held : List ℕ) (kept act : Action) (rest : ℕ) (frame : StackFrame) → by_body L s fuel f (body.Native held kept) ≡ Acts act rest frame → NotTrap act → (frame ≡ f) × (act ≡ kept)
native_kept L s f zero held kept act rest frame e no_trap = absurd (no_trap cause.Fuel (let h : action.Trap cause.Fuel ≡ act = cc in sym h))
native_kept L s f (suc fuel) held (action.New ty) act rest frame e no_trap = elim (cases_Bool (nat_lt (length s.objects) 65536)) [
  | inl room ↦ let e' : Acts (action.New ty) (suc fuel) f ≡ Acts act rest frame = rw room at e in (cc, cc)
  | inr full ↦ let e' : Acts (action.Trap cause.HeapFull) (suc fuel) f ≡ Acts act rest frame = rw full at e in absurd (no_trap cause.HeapFull (let h : action.Trap cause.HeapFull ≡ act = cc in sym h))
]
native_kept L s f (suc fuel) held other act rest frame e no_trap = (cc, cc)

-- What a frame has of its own changes by what it gives away and receives; it has what it uses, and what it shows or it was lent that.
pub record DoesOwn (f after : StackFrame) (act : Action) (a : Answer) : Type 0 where
  pub trades : Exchanged (own_of f) (given_away act) (received a) (own_of after)
  pub uses : (p : ℕ) → 0 < count p (used act) → 0 < count p (own_of f)
  pub keeps : (p : ℕ) → 0 < count p (used act) → 0 < count p (own_of after)
  pub shows : (p : ℕ) → 0 < count p (shown act) → (0 < count p (own_of f)) ⊎ (has f.lent p ≡ true)

-- the same of a list of held objects
record Held (held : List ℕ) (act : Action) (a : Answer) : Type 0 where
  trades : Exchanged held (given_away act) (received a) (held_after act a held)
  uses : (p : ℕ) → 0 < count p (used act) → 0 < count p held
  keeps : (p : ℕ) → 0 < count p (used act) → 0 < count p (held_after act a held)
  shows : (p : ℕ) → 0 < count p (shown act) → ⊥

native_does : (L : LoadRows) (s z : State) (f after : StackFrame) (held : List ℕ) (act : Action) (a : Answer) → f.body ≡ body.Native held act → IsDone act a → CanChoose L s f held act → ((p : ℕ) → count p held ≤ 1) → Answers L z f a after → DoesOwn f after act a
native_does L s z f after held act a is done can once gets =
    let got : AnswersBody L z f a (body.Native held act) after = subst (λ b. AnswersBody L z f a b after) is gets in
    let own_f : own_of f ≡ held = ap (own_of_body f.lent) is in
    let own_after : own_of after ≡ held_after act a held = ap own_of got.1 in
    let one = go act a done can in
    record {
      trades = λ p. rw (own_f, own_after) (one.trades p);
      uses = λ p some. rw own_f (one.uses p some);
      keeps = λ p some. rw own_after (one.keeps p some);
      shows = λ p some. absurd (one.shows p some);
    }
  where
    one_of : (o p : ℕ) (xs : List ℕ) → has xs o ≡ true → 0 < count p (o ∷ []) → 0 < count p xs
    one_of o p xs h some = elim (cases_Bool (o == p)) [
      | inl e ↦ let same = eqb-true o p e in subst (λ n. 0 < count n xs) same (has_counted xs o h)
      | inr e ↦ absurd (let z : count p (o ∷ []) ≡ 0 = rw e refl in omega (arith, some, z))
    ]

    within : (o p : ℕ) → has held o ≡ true → count p (o ∷ []) ≤ count p held
    within o p h = elim (cases_Bool (o == p)) [
      | inl e ↦ let same = eqb-true o p e in let some = subst (λ n. 0 < count n held) same (has_counted held o h) in let one : count p (o ∷ []) ≡ 1 = rw e refl in omega (arith, some, one)
      | inr e ↦ let z : count p (o ∷ []) ≡ 0 = rw e refl in omega (arith, z)
    ]

    go : (act : Action) (a : Answer) → IsDone act a → CanChoose L s f held act → Held held act a
    go (action.New ty) (answer.Made o) done can = record { trades = λ p. (let c = count_append p held (o ∷ []) in omega (arith, c)); uses = λ p some. absurd (omega (arith, some)); keeps = λ p some. absurd (omega (arith, some)); shows = λ p some. omega (arith, some) }
    go (action.Drop o) answer.Went done can = record { trades = λ p. (let c = taken (o ∷ []) p held (once p) (within o p can) in omega (arith, c)); uses = λ p some. absurd (omega (arith, some)); keeps = λ p some. absurd (omega (arith, some)); shows = λ p some. omega (arith, some) }
    go (action.Set o k values) answer.Went done can = record { trades = λ p. omega arith; uses = λ p some. one_of o p held can.holds some; keeps = λ p some. one_of o p held can.holds some; shows = λ p some. omega (arith, some) }
    go (action.Wput k v) answer.Went done can = record { trades = λ p. omega arith; uses = λ p some. absurd (omega (arith, some)); keeps = λ p some. absurd (omega (arith, some)); shows = λ p some. omega (arith, some) }
    go (action.Take k) a done can = absurd can
    go (action.Put k o) a done can = absurd can
    go (action.DevGet o b) a done can = absurd can
    go (action.DevPut b o) a done can = absurd can
    go (action.Hang q k o) a done can = absurd can
    go (action.Unhang q k) a done can = absurd can
    go act a done can = absurd done

-- what code needs to know of the answer: a typing that agrees with the state's on the registers, by which the answer fits
pub record CodeAnswer (L : LoadRows) (s : State) (f : StackFrame) (act : Action) (a : Answer) (at fuel rest : ℕ) (regs : Registers) (frame : StackFrame) (c : CodeDoes L s f at fuel regs act rest frame) : Type 0 where
  pub types : Typing
  pub re : Retyped (types_of L s) types c.at_rest.stand.regs
  pub fits : FitsAnswer types (domain_of_instance L s f.instance) (kinds_at (domain_of_instance L s f.instance) c.at_rest.stand.at) c.instr a

module _ {L : LoadRows} {s : State} {t i : ℕ} {act : Action} {a : Answer} {change : State → State} {z : State} (plans : Valid L) (tables : AreValidTables L.tables) (laid : Laid L s) (owned : Owned L (ledger_of L s)) (fits : Fitting L s)
    (ready : is_undone (row s.threads t) ≡ true) (d : Does L s t i act a change z) (done : IsDone act a) (load' : instance_load z (actor laid ready d).instance ≡ instance_load s (actor laid ready d).instance) where
  -- the frame that acts, at its code
  abbrev pub acting_code : (at : ℕ) (regs : Registers) → (actor laid ready d).body ≡ body.Code at regs → CodeDoes L s (actor laid ready d) at (doing laid ready d).thread.fuel regs act d.fuel d.frame
  acting_code at regs is = code_does L s plans tables laid fits t act d.fuel d.frame (doing laid ready d) at regs is (done_no_trap act a done)

  -- what is asked of its answer, where it runs code
  abbrev pub Answered : Type 0
  Answered = (at : ℕ) (regs : Registers) → (is : (actor laid ready d).body ≡ body.Code at regs) → CodeAnswer L s (actor laid ready d) act a at (doing laid ready d).thread.fuel d.fuel regs d.frame (acting_code at regs is)

  pub code_went : (answered : Answered) → Unlent (actor laid ready d).lent (received a) → (at : ℕ) (regs : Registers) → (is : (actor laid ready d).body ≡ body.Code at regs)
      → CodeAfter (answered at regs is).types L (domain_of_instance L s (actor laid ready d).instance) (actor laid ready d) d.after act a regs
  code_went answered unlent at regs is =
      let c = acting_code at regs is in
      let ans = answered at regs is in
      code_after L s z plans tables fits (actor laid ready d) d.after d.frame act a at (doing laid ready d).thread.fuel d.fuel regs (doing laid ready d).lives (done_no_trap act a done) c load' ans.types ans.re ans.fits unlent d.answers

  native_chosen : (held : List ℕ) (kept : Action) → (actor laid ready d).body ≡ body.Native held kept → (d.frame ≡ actor laid ready d) × (act ≡ kept)
  native_chosen held kept is =
      native_kept L s (actor laid ready d) (doing laid ready d).thread.fuel held kept act d.fuel d.frame (subst (λ b. by_body L s (doing laid ready d).thread.fuel (actor laid ready d) b ≡ Acts act d.fuel d.frame) is (doing laid ready d).by) (done_no_trap act a done)

  pub native_went : (held : List ℕ) (kept : Action) → (actor laid ready d).body ≡ body.Native held kept → (act ≡ kept) × CanChoose L s (actor laid ready d) held act × Answers L z (actor laid ready d) a d.after
  native_went held kept is =
      let same = native_chosen held kept is in
      let can = (subst (BodyFits L s (actor laid ready d) []) is (body_fits L s plans tables laid fits t act d.fuel d.frame (doing laid ready d))).1 in
      (same.1, subst (CanChoose L s (actor laid ready d) held) (sym same.1) can, subst (λ g. Answers L z g a d.after) same.0 d.answers)

  pub does_own : Answered → Unlent (actor laid ready d).lent (received a) → DoesOwn (actor laid ready d) d.after act a
  does_own answered unlent = go (actor laid ready d).body refl
    where
      go : (b : FrameBody Action) → (actor laid ready d).body ≡ b → DoesOwn (actor laid ready d) d.after act a
      go (body.Code at regs) is =
          let went = code_went answered unlent at regs is in
          let before : own_of (actor laid ready d) ≡ own (actor laid ready d).lent regs = ap (own_of_body (actor laid ready d).lent) is in
          let behind : own_of d.after ≡ own (actor laid ready d).lent went.stand.regs = ap own_of went.after_is in
          record {
            trades = λ p. rw (before, behind) (went.trades p);
            uses = λ p some. rw before (went.uses p some);
            keeps = λ p some. rw behind (went.keeps p some);
            shows = λ p some. rw before (went.shows p some);
          }
      go (body.Native held kept) is =
          let went = native_went held kept is in
          let once : (p : ℕ) → count p held ≤ 1 = λ p. (let most = at_most_once L (ledger_of L s) owned t (frame_entry (actor laid ready d)) (under s t) (actor_runs laid ready d) p in subst (λ b. count p (own_of_body (actor laid ready d).lent b) ≤ 1) is most) in
          native_does L s z (actor laid ready d) d.after held act a (is ∙ ap (body.Native held) (sym went.0)) done went.1 once went.2
