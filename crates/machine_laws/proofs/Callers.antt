-- A frame that calls: its own frame in the ledger while it waits, and what its call is of.
use Rattle.std.proofs.Common.{◌≡◌, ℕ, suc, ◌+◌, ◌-◌, ◌<◌, ◌≤◌, ◌==◌, Bool, true, false, cond, not, ◌||◌, List, [], ◌∷◌, length, filter, Some, None, slice_get, refl, ap, sym, subst, ◌∙◌, arith, inl, inr}
use Rattle.std.specs.List.{list_all}
use Rattle.std.proofs.lemmas.Bool.{cases_Bool, cases_eq, eqb-true, and_parts, not-true, or_cases}
use Rattle.std.proofs.lemmas.Option.{slice_get_past}
use Rattle.machine_defs.specs.declared.values.Arg.{Arg}
use Rattle.rl_defs.specs.declared.tables.MethodRow.{MethodRow}
use Rattle.machine_defs.specs.declared.frame.Action.{Action}
use Rattle.machine_defs.specs.declared.frame.Action.TheVariants as action
use Rattle.machine_defs.specs.declared.frame.FrameBody.{FrameBody}
use Rattle.machine_defs.specs.declared.frame.FrameBody.TheVariants as body
use Rattle.rl_defs.specs.declared.load.LoadRows.{LoadRows}
use Rattle.rl_defs.specs.DomainValue.{Domain}
use Rattle.rl_defs.specs.Domains.{method_of}
use Rattle.rl_defs.specs.CodeNames.{rows_of, methods_of}
use Rattle.rl_defs.specs.Registers.{Registers}
use Rattle.machine_defs.specs.State.{State, StackFrame, Thread, stack}
use Rattle.rl_defs.specs.Rows.{row}
use Rattle.machine_defs.specs.Loans.{count}
use Rattle.machine_defs.specs.Wants.{Acts}
use Rattle.machine_defs.specs.State.{instance_load}
use Rattle.machine_defs.specs.Calling.{Wish, is_undone}
use Rattle.machine_defs.specs.Arguments.{has, moved_of, lent_of}
use Rattle.machine_defs.specs.Seen.{domain_of_instance}
use Rattle.machine_defs.specs.NativeFits.{args_suit, are_distinct, CanCall, CanChoose}
use Rattle.machine_defs.specs.Seen.{types_of}
use Rattle.rl_defs.specs.Rows.{trait_if, is_target}
use Rattle.machine_defs.specs.Wants.{by_body}
use Rattle.machine_defs.specs.Frames.{with_body, waiting_body, waiting, instr_at}
use Rattle.machine_defs.specs.Calling.{with_fuel}
use Rattle.machine_defs.specs.Sound.{own_of, own_of_body}
use Rattle.rl_defs.proofs.ValidFacts.{bind_at, domain_tables, method_by_trait as trait_method}
use Rattle.machine_laws.specs.LedgerOf.{frame_entry, ledger_of}
use Rattle.machine_laws.specs.LedgerSound.{Owned}
use Rattle.machine_laws.specs.LedgerRows.{MayPass, IsBelow, IsOutranked}
use Rattle.machine_laws.specs.Shape.{Laid}
use Rattle.machine_laws.specs.Registers.{own}
use Rattle.machine_laws.specs.Fitting.{BodyFits, Fitting}
use Rattle.machine_laws.proofs.Tops.{bottom, entries, under, entries_top, runs_frame}
use Rattle.machine_laws.proofs.Acting.{ActsAs, acts_as}
use Rattle.machine_laws.proofs.Wishes.{FrameWish}
use Rattle.machine_laws.proofs.FrameRows.{gone_on, laid_on}
use Rattle.machine_laws.proofs.Pushing.{gone_ledger}
use Rattle.machine_laws.proofs.CallerRanks.{entries_length, all_below, below_client, some_outranks}
use Rattle.machine_laws.proofs.CallingRows.{Caller}
use Rattle.machine_laws.proofs.CodeDoing.{NotTrap, CodeDoes, body_fits, code_does}
use Rattle.machine_laws.proofs.OwnDoing.{native_kept}
use Rattle.machine_laws.proofs.OwnRows.{at_most_once}
use Rattle.machine_laws.proofs.OwnActs.{Pays}
use Rattle.machine_laws.proofs.OwnActs.{waiting as waiting_stand}
use Rattle.machine_laws.proofs.OwnFunctions.{instr_here}
use Rattle.machine_laws.proofs.Counting.{taken}
use Rattle.machine_laws.proofs.Counts.{has_counted, counted_has, none_counted}
use Rattle.machine_laws.proofs.Parts.{moved_by_instr}
use Rattle.rl_defs.specs.Valid.{Valid, AreValidTables}

-- the methods of a target are those of its trait
pub method_by_trait : (L : LoadRows) (x m : ℕ) → Valid L → is_target L x ≡ true → method_of L x m ≡ slice_get (methods_of L.tables (trait_if L (is_target L x) x)) m
method_by_trait L x m plans target = trait_method L plans x m target

-- what has a method is a target
pub target_by_method : (L : LoadRows) (x m : ℕ) (method : MethodRow) → slice_get (methods_of L.tables (trait_if L (is_target L x) x)) m ≡ Some method → is_target L x ≡ true
target_by_method L x m method is = elim (cases_Bool (is_target L x)) [
  | inl yes' ↦ yes'
  | inr no' ↦
      let past : slice_get L.tables.traits (length L.tables.traits) ≡ None = slice_get_past L.tables.traits (length L.tables.traits) (omega arith) in
      let e : slice_get (methods_of L.tables (trait_if L false x)) m ≡ Some method = rw no' at is in
      absurd (let e' : slice_get (rows_of None) m ≡ Some method = rw past at e in cc)
]

-- What a frame's call is of: a target and one of its methods, with arguments that suit; and how it leaves the frame.
pub record CallsWell (L : LoadRows) (s : State) (f waits : StackFrame) (x m : ℕ) (args : List Arg) : Type 0 where
  pub target : is_target L x ≡ true
  pub method : MethodRow
  pub row : method_of L x m ≡ Some method
  pub suits : args_suit (types_of L s) method.params args ≡ true
  pub passes : MayPass (frame_entry f) args (own_of waits)
  pub apart : (o : ℕ) → 0 < count o (moved_of args) → 0 < count o (lent_of args) → ⊥

pub call_no_trap : (x m : ℕ) (args : List Arg) → NotTrap (action.Call x m args)
call_no_trap x m args c e = cc

-- numbers that are distinct stand once each
pub distinct_once : (os : List ℕ) (p : ℕ) → are_distinct os ≡ true → count p os ≤ 1
distinct_once [] p is = omega arith
distinct_once (o ∷ os) p is =
    let parts = and_parts (not (has os o)) (are_distinct os) is in
    let deeper = distinct_once os p parts.1 in
    elim (cases_Bool (o == p)) [
      | inl e ↦
          let same = eqb-true o p e in
          let none : count p os ≡ 0 = elim (cases_eq (count p os) 0) [
            | inl z ↦ z
            | inr some ↦ absurd (let h = counted_has os p (omega (arith, some)) in let h' : has os o ≡ true = subst (λ n. has os n ≡ true) (sym same) h in let out = parts.0 in both (has os o) h' out)
          ] in
          rw e (omega (arith, none))
      | inr e ↦ rw e (omega (arith, deeper))
    ]
  where
    both : (b : Bool) → b ≡ true → not b ≡ true → ⊥
    both true e h = cc
    both false e h = cc

each_has : (xs os : List ℕ) → list_all (has xs) os ≡ true → (o : ℕ) → 0 < count o os → has xs o ≡ true
each_has xs [] is o some = absurd (omega (arith, some))
each_has xs (p ∷ os) is o some =
    let parts = and_parts (has xs p) (list_all (has xs) os) is in
    elim (cases_Bool (p == o)) [
      | inl e ↦ subst (λ n. has xs n ≡ true) (eqb-true p o e) parts.0
      | inr e ↦ each_has xs os parts.1 o (let z : count o (p ∷ os) ≡ 0 + count o os = ap (λ b. cond b 1 0 + count o os) e in omega (arith, some, z))
    ]

each_either : (P : ℕ → Bool) (os : List ℕ) → list_all P os ≡ true → (o : ℕ) → 0 < count o os → P o ≡ true
each_either P [] is o some = absurd (omega (arith, some))
each_either P (p ∷ os) is o some =
    let parts = and_parts (P p) (list_all P os) is in
    elim (cases_Bool (p == o)) [
      | inl e ↦ subst (λ n. P n ≡ true) (eqb-true p o e) parts.0
      | inr e ↦ each_either P os parts.1 o (let z : count o (p ∷ os) ≡ 0 + count o os = ap (λ b. cond b 1 0 + count o os) e in omega (arith, some, z))
    ]

module _ (L : LoadRows) (s : State) (t : ℕ) (plans : Valid L) (tables : AreValidTables L.tables) (laid : Laid L s) (owned : Owned L (ledger_of L s)) (fits : Fitting L s) (ready : is_undone (row s.threads t) ≡ true) (w : Wish) (wished : FrameWish L s t w) where
  abbrev pub calling : ActsAs L s t (action.Call w.target w.method w.args) wished.fuel wished.frame
  calling = acts_as L s t (action.Call w.target w.method w.args) wished.fuel wished.frame wished.wants

  abbrev pub caller_frame : StackFrame
  caller_frame = calling.f

  abbrev pub waits : StackFrame
  waits = waiting L s (moved_of w.args) wished.frame

  pub waits_same : waits ≡ with_body caller_frame waits.body
  waits_same = ap (λ (g : StackFrame). with_body g (waiting_body (domain_of_instance L s g.instance) (moved_of w.args) g.body)) calling.same ∙ ap (with_body caller_frame) (sym (ap (λ (g : StackFrame). waiting_body (domain_of_instance L s g.instance) (moved_of w.args) g.body) calling.same))

  -- code that calls
  pub code_calls : (at : ℕ) (regs : Registers) → caller_frame.body ≡ body.Code at regs → CodeDoes L s caller_frame at calling.thread.fuel regs (action.Call w.target w.method w.args) wished.fuel wished.frame
  code_calls at regs is = code_does L s plans tables laid fits t (action.Call w.target w.method w.args) wished.fuel wished.frame calling at regs is (call_no_trap w.target w.method w.args)

  pub code_waits : (at : ℕ) (regs : Registers) → (is : caller_frame.body ≡ body.Code at regs) → waits ≡ with_body caller_frame (body.Code (code_calls at regs is).at_rest.stand.at (waiting_stand (code_calls at regs is).instr (code_calls at regs is).at_rest.stand).regs)
  code_waits at regs is =
      let c = code_calls at regs is in
      let d : Domain = domain_of_instance L s caller_frame.instance in
      let instr : instr_at d c.at_rest.stand.at ≡ Some c.instr = instr_here d c.instr c.at_rest.stand c.here in
      ap (waiting L s (moved_of w.args)) c.at_rest.frame_is
      ∙ ap (λ i. with_body caller_frame (body.Code c.at_rest.stand.at (Rattle.machine_defs.specs.Instructions.all_given_up (moved_by_instr i) c.at_rest.stand.regs))) instr

  -- a native body that calls
  pub native_calls : (held : List ℕ) (kept : Action) → caller_frame.body ≡ body.Native held kept → (wished.frame ≡ caller_frame) × CanCall L s caller_frame held w.target w.method w.args
  native_calls held kept is =
      let by = subst (λ b. by_body L s calling.thread.fuel caller_frame b ≡ Acts (action.Call w.target w.method w.args) wished.fuel wished.frame) is calling.by in
      let same = native_kept L s caller_frame calling.thread.fuel held kept (action.Call w.target w.method w.args) wished.fuel wished.frame by (call_no_trap w.target w.method w.args) in
      let can = (subst (BodyFits L s caller_frame []) is (body_fits L s plans tables laid fits t (action.Call w.target w.method w.args) wished.fuel wished.frame calling)).1 in
      (same.0, subst (CanChoose L s caller_frame held) (sym same.1) can)

  pub calls_well : CallsWell L s caller_frame waits w.target w.method w.args
  calls_well = go caller_frame.body refl
    where
      of_code : (at : ℕ) (regs : Registers) → caller_frame.body ≡ body.Code at regs → CallsWell L s caller_frame waits w.target w.method w.args
      of_code at regs is =
          let c = code_calls at regs is in
          let same = domain_tables L plans (instance_load s caller_frame.instance) in
          let found : slice_get (methods_of L.tables (trait_if L (is_target L w.target) w.target)) w.method ≡ Some c.can.method = subst (λ tb. slice_get (methods_of tb (trait_if L (is_target L w.target) w.target)) w.method ≡ Some c.can.method) same c.can.row in
          let target = target_by_method L w.target w.method c.can.method found in
          let pays : Pays caller_frame.lent c.at_rest.stand.regs (waiting_stand c.instr c.at_rest.stand).regs (action.Call w.target w.method w.args) = c.acts.pays in
          let own_f : own_of caller_frame ≡ own caller_frame.lent regs = ap (own_of_body caller_frame.lent) is in
          let own_w : own_of waits ≡ own caller_frame.lent (waiting_stand c.instr c.at_rest.stand).regs = ap own_of (code_waits at regs is) in
          record {
            target = target;
            method = c.can.method;
            row = method_by_trait L w.target w.method plans target ∙ found;
            suits = c.can.suits;
            passes = record {
              moved = λ p. rw (own_f, own_w) (let gone = pays.gone p in let e = c.same p in omega (arith, gone, e));
              lent = λ p some. elim (pays.shows p some) [ inl mine ↦ inl (rw own_w mine) | inr lent ↦ inr (has_counted caller_frame.lent p lent) ];
            };
            apart = λ o moved lent.
                let once = at_most_once L (ledger_of L s) owned t (frame_entry caller_frame) (under s t) (runs_frame L s t calling.thread caller_frame laid calling.of ready calling.on_top calling.lives) o in
                let once' : count o (own caller_frame.lent regs) ≤ 1 = rw own_f at once in
                Rattle.machine_laws.proofs.OwnActs.gives_or_shows caller_frame.lent c.at_rest.stand.regs (waiting_stand c.instr c.at_rest.stand).regs (action.Call w.target w.method w.args) o pays (let e = c.same o in omega (arith, e, once')) moved lent;
          }

      of_native : (held : List ℕ) (kept : Action) → caller_frame.body ≡ body.Native held kept → CallsWell L s caller_frame waits w.target w.method w.args
      of_native held kept is =
          let calls = native_calls held kept is in
          let can = calls.1 in
          let own_f : own_of caller_frame ≡ held = ap (own_of_body caller_frame.lent) is in
          let own_w : own_of waits ≡ filter (λ o. not (has (moved_of w.args) o)) held = ap (λ (g : StackFrame). own_of (waiting L s (moved_of w.args) g)) calls.0 ∙ ap (λ b. own_of_body caller_frame.lent (waiting_body (domain_of_instance L s caller_frame.instance) (moved_of w.args) b)) is in
          let once : (o : ℕ) → count o held ≤ 1 = λ o. (let most = at_most_once L (ledger_of L s) owned t (frame_entry caller_frame) (under s t) (runs_frame L s t calling.thread caller_frame laid calling.of ready calling.on_top calling.lives) o in subst (λ os. count o os ≤ 1) own_f most) in
          let among : (o : ℕ) → count o (moved_of w.args) ≤ count o held = λ o. (elim (cases_eq (count o (moved_of w.args)) 0) [
            | inl z ↦ omega (arith, z)
            | inr some ↦ let h = has_counted held o (each_has held (moved_of w.args) can.moves o (omega (arith, some))) in let d = distinct_once (moved_of w.args) o can.once in omega (arith, h, d)
          ]) in
          let kept_own : (o : ℕ) → count o (filter (λ p. not (has (moved_of w.args) p)) held) + count o (moved_of w.args) ≡ count o held = λ o. taken (moved_of w.args) o held (once o) (among o) in
          let apart' : (o : ℕ) → 0 < count o (lent_of w.args) → count o (moved_of w.args) ≡ 0 = λ o lent. (let out = each_either (λ p. not (has (moved_of w.args) p)) (lent_of w.args) can.apart o lent in none_counted (moved_of w.args) o (not-true (has (moved_of w.args) o) out)) in
          record {
            target = (bind_at L plans (instance_load s caller_frame.instance) can.import w.target can.bound).2.target;
            method = can.method;
            row = can.row;
            suits = can.suits;
            passes = record {
              moved = λ o. rw (own_f, own_w) (let e = kept_own o in omega (arith, e));
              lent = λ o some. elim (or_cases (has held o) (has caller_frame.lent o) (each_either (λ p. has held p || has caller_frame.lent p) (lent_of w.args) can.lends o some)) [
                | inl mine ↦ inl (rw own_w (let e = kept_own o in let z = apart' o some in let h = has_counted held o mine in omega (arith, e, z, h)))
                | inr lent ↦ inr (has_counted caller_frame.lent o lent)
              ];
            };
            apart = λ o moved lent. (let z = apart' o lent in omega (arith, z, moved));
          }

      go : (b : FrameBody Action) → caller_frame.body ≡ b → CallsWell L s caller_frame waits w.target w.method w.args
      go (body.Code at regs) is = of_code at regs is
      go (body.Native held kept) is = of_native held kept is

  abbrev pub frame_caller : Caller L s t w.charged
  frame_caller =
      let thread : Thread = wished.thread in
      let charged_is : w.charged ≡ gone_on s t waits (with_fuel (wished.fuel - 1) thread) = ap (λ (v : Wish). v.charged) wished.is in
      record {
        f = frame_entry caller_frame;
        fs = under s t;
        own = own_of waits;
        runs = runs_frame L s t calling.thread caller_frame laid calling.of ready calling.on_top calling.lives;
        ledger = ap (ledger_of L) charged_is ∙ gone_ledger L s t caller_frame waits thread (with_fuel (wished.fuel - 1) thread) laid wished.of (record { names = refl; done = refl }) waits_same;
        laid = subst (Laid L) (sym charged_is) (laid_on L s t waits (with_fuel (wished.fuel - 1) thread) laid);
        objects = ap (λ (v : State). v.objects) charged_is;
        height =
            let a = entries_top s t caller_frame calling.on_top in
            let b = entries_length (stack s t) (bottom t (row s.threads t) ∷ []) in
            let e : length (entries t (stack s t) (row s.threads t)) ≡ suc (length (under s t)) = ap (λ fs. length fs) a in
            omega (arith, b, e);
        below = λ rank none. subst (IsBelow L (ledger_of L s) rank) (entries_top s t caller_frame calling.on_top) (all_below L s rank (stack s t) (bottom t (row s.threads t) ∷ []) none (below_client L s rank t (row s.threads t)));
        above = λ rank some. subst (IsOutranked L (ledger_of L s) rank) (entries_top s t caller_frame calling.on_top) (some_outranks L s rank (stack s t) (bottom t (row s.threads t) ∷ []) some);
      }
