-- What is known of a frame of domain code that would make an action, and how it goes on from the answer.
use Rattle.std.proofs.Common.{◌≡◌, ℕ, ◌-◌, ◌<◌, ◌≤◌, true, List, [], ◌∷◌, ◌++◌, length, slice_set, Option, Some, refl, sym, ap, subst, ◌∙◌, inl}
use Rattle.machine_defs.specs.declared.frame.Action.{Action}
use Rattle.machine_defs.specs.declared.frame.Answer.{Answer}
use Rattle.machine_defs.specs.declared.frame.FrameBody.{FrameBody}
use Rattle.machine_defs.specs.declared.frame.FrameBody.TheVariants as body
use Rattle.rl_defs.specs.declared.load.LoadRows.{LoadRows}
use Rattle.rl_defs.specs.declared.code.Instr.{Instr}
use Rattle.rl_defs.specs.Rows.{row, domain_of_load}
use Rattle.rl_defs.specs.Registers.{Registers, Stand}
use Rattle.rl_defs.specs.CodeKinds.{kinds_at}
use Rattle.machine_defs.specs.CodeLaws.{StandsAt}
use Rattle.machine_defs.specs.State.{State, Instance, Object, Shadow, StackFrame, Thread, top, instance_load, with_thread}
use Rattle.std.specs.Option.{unwrap_or}
use Rattle.machine_defs.specs.CodeFits.{FitsStand, FitsAnswer, stand_of}
use Rattle.machine_defs.specs.Seen.{types_of, seen, change_row}
use Rattle.machine_defs.specs.Wants.{Acts, wanted, by_body}
use Rattle.machine_defs.specs.Calling.{with_fuel}
use Rattle.machine_defs.specs.Frames.{with_body, with_top, code_at, answered_code, below_top}
use Rattle.machine_defs.specs.History.{turns_of}
use Rattle.machine_defs.specs.ObjectRows.{Does}
use Rattle.machine_laws.specs.LedgerOf.{ledger_of}
use Rattle.machine_laws.proofs.Holds.{Holds}
use Rattle.machine_laws.proofs.EachRun.{holds_run}
use Rattle.machine_laws.proofs.LedgerRuns.{ledger_kept}
use Rattle.machine_laws.proofs.PlansOf.{plan_of}
use Rattle.machine_laws.proofs.KeptSteps.{Kept as KeptLedger}
use Rattle.machine_laws.proofs.Acting.{ActsAs, acts_as}
use Rattle.machine_laws.proofs.CodeDoing.{CodeDoes, NotTrap, code_does}
use Rattle.machine_laws.proofs.OwnFits.{FitsAct}
use Rattle.machine_laws.proofs.OwnDoing.{native_kept}
use Rattle.machine_laws.proofs.Tops.{client_stack}
use Rattle.code_machine.specs.Fitting.{standing, Awaits}
use Rattle.trampolines.specs.Words as words
use Rattle.trampolines.proofs.Agreeing.{same_top, same_below, same_frames}
use Rattle.machine_steps.specs.declared.machine.Machine.TheInside.{Inside}
use Rattle.machine_steps.specs.declared.standing.Standing.{Standing}
use Rattle.machine_steps.specs.Inside.{state_of, kept, IsKept}
use Rattle.machine_steps.specs.Acting.{WouldAct, at_standing, domain_in}

-- ---- what is known of each state

module _ {w : Inside} (k : IsKept w) where
  pub holds : Holds w.load (turns_of w.log.entries) (state_of w)
  holds = holds_run w.load k.valid k.valid.tables w.log.entries (state_of w) k.run

  pub ledger : KeptLedger w.load (turns_of w.log.entries) (ledger_of w.load (state_of w))
  ledger = (ledger_kept w.load (turns_of w.log.entries) (ledger_of w.load (state_of w)) (plan_of w.load k.valid) holds.run).0

-- ---- a frame that acts

some_same : {A : Type 0} {x y : A} → ◌≡◌ {A = Option A} (Some x) (Some y) → x ≡ y
some_same {A} {x} same = ap (λ (o : Option A). unwrap_or o x) same

line_same : {at bt : ℕ} {regs rest : Registers} → ◌≡◌ {A = FrameBody Action} (body.Code at regs) (body.Code bt rest) → ◌≡◌ {A = Stand} (record { at = at; regs = regs }) (record { at = bt; regs = rest })
line_same same = ap stand_of same

-- the frame on top, and its thread
pub record OnTop (w : Inside) (t i : ℕ) (act : Action) (stand : Standing) : Type 0 where
  pub frame : StackFrame
  pub acts : ActsAs w.load (state_of w) t act stand.fuel (at_standing frame stand)
  pub same : acts.f ≡ frame
  pub inside : i ≡ frame.instance
  pub client : (0 < t) × (t ≤ length w.stacks.frames)
  pub on_top : words.top (words.stack_of w.stacks.frames t) ≡ Some frame
  pub wants : wanted w.load (state_of w) t ≡ Acts act stand.fuel (at_standing frame stand)

module _ {w : Inside} (k : IsKept w) (t i : ℕ) (act : Action) (stand : Standing) (would : WouldAct (kept w) t i act stand) where
  pub on_top_of : OnTop w t i act stand
  on_top_of =
      let acts = acts_as w.load (state_of w) t act stand.fuel (at_standing would.frame stand) would.wants in
      record {
        frame = would.frame;
        acts = acts;
        same = some_same (sym acts.on_top ∙ would.on_top);
        inside = would.inside;
        client = client_stack w.load (state_of w) t acts.thread (holds k).laid acts.of;
        on_top = same_top (words.stack_of w.stacks.frames t) ∙ (ap top (same_frames (row w.stacks.frames t)) ∙ would.on_top);
        wants = would.wants;
      }

-- what code knows of its action, where it stands before it
pub record CodeActs (w : Inside) (t i : ℕ) (act : Action) (stand : Standing) : Type 0 where
  pub on : OnTop w t i act stand
  pub code : words.stands_in_code (words.top (words.stack_of w.stacks.frames t)) ≡ true
  pub instr : Instr
  pub here : StandsAt (domain_in w.load w.instances i) instr (standing stand.line stand.registers)
  pub fits : FitsStand (types_of w.load (state_of w)) (domain_in w.load w.instances i) (standing stand.line stand.registers)
  pub can : FitsAct (types_of w.load (state_of w)) (domain_in w.load w.instances i) stand.line (seen w.load (state_of w) i) (length (state_of w).objects) (kinds_at (domain_in w.load w.instances i) stand.line) instr act

module _ {w : Inside} (k : IsKept w) (t i : ℕ) (act : Action) (stand : Standing) (would : WouldAct (kept w) t i act stand) where
  abbrev here_on : OnTop w t i act stand
  here_on = on_top_of k t i act stand would

  pub code_acts : NotTrap act → CodeActs w t i act stand
  code_acts no_trap = go here_on.acts.f.body refl
    where
      L : LoadRows
      L = w.load

      s : State
      s = state_of w

      inside : here_on.acts.f.instance ≡ i
      inside = ap (λ f. f.instance) here_on.same ∙ sym here_on.inside

      go : (b : FrameBody Action) → here_on.acts.f.body ≡ b → CodeActs w t i act stand
      go (body.Code at regs) is =
          let c : CodeDoes L s here_on.acts.f at here_on.acts.thread.fuel regs act stand.fuel (at_standing here_on.frame stand) = code_does L s k.valid k.valid.tables (holds k).laid (holds k).fits t act stand.fuel (at_standing here_on.frame stand) here_on.acts at regs is no_trap in
          let same : c.at_rest.stand ≡ standing stand.line stand.registers = sym (line_same (ap (λ f. f.body) c.at_rest.frame_is)) in
          record {
            on = here_on;
            code = ap words.stands_in_code here_on.on_top ∙ (ap (λ f. words.is_code f.body) (sym here_on.same) ∙ ap words.is_code is);
            instr = c.instr;
            here = subst (λ x. StandsAt (domain_in L w.instances i) c.instr x) same (subst (λ j. StandsAt (domain_in L w.instances j) c.instr c.at_rest.stand) inside c.here);
            fits = subst (λ x. FitsStand (types_of L s) (domain_in L w.instances i) x) same (subst (λ j. FitsStand (types_of L s) (domain_in L w.instances j) c.at_rest.stand) inside c.fits);
            can = subst (λ x. FitsAct (types_of L s) (domain_in L w.instances i) x.at (seen L s i) (length s.objects) (kinds_at (domain_in L w.instances i) x.at) c.instr act) same
                (subst (λ j. FitsAct (types_of L s) (domain_in L w.instances j) c.at_rest.stand.at (seen L s j) (length s.objects) (kinds_at (domain_in L w.instances j) c.at_rest.stand.at) c.instr act) inside c.can);
          }
      go (body.Native held chosen') is =
          let kept' = native_kept L s here_on.acts.f here_on.acts.thread.fuel held chosen' act stand.fuel (at_standing here_on.frame stand) (subst (λ b. by_body L s here_on.acts.thread.fuel here_on.acts.f b ≡ Acts act stand.fuel (at_standing here_on.frame stand)) is here_on.acts.by) no_trap in
          absurd (let e : ◌≡◌ {A = FrameBody Action} (body.Code stand.line stand.registers) (body.Native held chosen') = ap (λ f. f.body) kept'.0 ∙ is in cc)

-- ---- how it goes on

-- the frame, behind an answer
abbrev pub answered_frame : Inside → ℕ → Standing → StackFrame → Answer → StackFrame
answered_frame w i stand f a = with_body f (code_at (answered_code (domain_in w.load w.instances i) (standing stand.line stand.registers) a))

-- the state, where the action is charged and the frame has its answer
abbrev pub answered_state : (w : Inside) {t i : ℕ} {act : Action} {stand : Standing} → OnTop w t i act stand → Answer → State
answered_state w {t} {i} {act} {stand} on a = with_top t (answered_frame w i stand on.frame a) (with_thread (state_of w) t (with_fuel (stand.fuel - 1) on.acts.thread))

module _ {w : Inside} {t i : ℕ} {act : Action} {stand : Standing} (c : CodeActs w t i act stand) (a : Answer) where
  pub does : (change : State → State) → ((m : State) → instance_load (change m) ≡ instance_load m) → Does w.load (state_of w) t i act a change (change (answered_state w c.on a))
  does change loads = record {
    thread = c.on.acts.thread;
    fuel = stand.fuel;
    frame = at_standing c.on.frame stand;
    after = answered_frame w i stand c.on.frame a;
    of = c.on.acts.of;
    wants = c.on.wants;
    inside = c.on.inside;
    answers = ap (λ load. with_body c.on.frame (code_at (answered_code (domain_of_load w.load load) (standing stand.line stand.registers) a)))
        (ap (λ (load : ℕ → ℕ). load i) (sym (loads (answered_state w c.on a))) ∙ ap (instance_load (change (answered_state w c.on a))) c.on.inside);
    becomes = refl;
  }

  -- what the fit of the answer is to it
  pub awaits : FitsAnswer (types_of w.load (state_of w)) (domain_in w.load w.instances i) (kinds_at (domain_in w.load w.instances i) stand.line) c.instr a → Awaits (domain_in w.load w.instances i) (standing stand.line stand.registers) a
  awaits fits = record { types = types_of w.load (state_of w); instr = c.instr; at = c.here; fits = inl c.fits; answer = fits }

  pub threads_same : (threads : List Thread) → threads ≡ change_row w.threads t (with_fuel (stand.fuel - 1)) (row w.threads t) → threads ≡ (answered_state w c.on a).threads
  threads_same threads is = is ∙ ap (change_row w.threads t (with_fuel (stand.fuel - 1))) c.on.acts.of

  pub stacks_same : (stacks : List (List StackFrame))
      → ((f : StackFrame) → words.top (words.stack_of w.stacks.frames t) ≡ Some f → stacks ≡ words.with_stack_of w.stacks.frames t (words.below_top (words.stack_of w.stacks.frames t) ++ answered_frame w i stand f a ∷ []))
      → stacks ≡ (answered_state w c.on a).stacks
  stacks_same stacks is = is c.on.frame c.on.on_top
      ∙ ap (λ below. slice_set w.stacks.frames (t - 1) (below ++ answered_frame w i stand c.on.frame a ∷ [])) (same_below (words.stack_of w.stacks.frames t) ∙ ap below_top (same_frames (row w.stacks.frames t)))

-- ---- states by their parts

pub same_parts : {i i' : List Instance} {o o' : List Object} {f f' : List (List StackFrame)} {t t' : List Thread} {x x' : List Shadow} {b b' : List (List ℕ)} {n n' c c' : ℕ}
    → i ≡ i' → o ≡ o' → f ≡ f' → t ≡ t' → x ≡ x' → b ≡ b' → n ≡ n' → c ≡ c'
    → ◌≡◌ {A = State} (record { instances = i; objects = o; stacks = f; threads = t; shadows = x; blocks = b; next_object = n; next_call = c })
    (record { instances = i'; objects = o'; stacks = f'; threads = t'; shadows = x'; blocks = b'; next_object = n'; next_call = c' })
same_parts i o f t x b n c = rw (i, o, f, t, x, b, n, c) refl
