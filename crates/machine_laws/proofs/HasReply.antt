-- What a step needs is there: whoever is answered gets the answer, a call has a frame to begin with, and what a frame does is answered.
use Rattle.std.proofs.Common.{◌≡◌, ℕ, ◌-◌, Bool, true, false, List, Option, Some, None, slice_get, refl, ap, sym, subst, ◌∙◌, inl, inr}
use Rattle.std.proofs.lemmas.Bool.{cases_Bool}
use Rattle.rl_defs.specs.declared.tables.MethodRow.{MethodRow}
use Rattle.rl_defs.specs.declared.load.LoadRows.{LoadRows}
use Rattle.machine_defs.specs.declared.values.Arg.{Arg}
use Rattle.machine_defs.specs.declared.values.Cause.TheVariants as cause
use Rattle.machine_defs.specs.declared.frame.Action.{Action}
use Rattle.machine_defs.specs.declared.frame.Action.TheVariants as action
use Rattle.machine_defs.specs.declared.frame.Answer.{Answer}
use Rattle.machine_defs.specs.declared.frame.FrameBody.{FrameBody}
use Rattle.machine_defs.specs.declared.frame.FrameBody.TheVariants as body
use Rattle.rl_defs.specs.DomainValue.{Domain}
use Rattle.rl_defs.specs.Domains.{method_of, load_of_target, is_native, body_of_function}
use Rattle.rl_defs.specs.CodeNames.{methods_of, domain_trait, entry_of, entry_at}
use Rattle.rl_defs.specs.Rows.{row, domain_of_load, is_target, trait_if}
use Rattle.machine_defs.specs.State.{State, StackFrame, Thread, stack, top, is_live, instance_load, with_thread}
use Rattle.machine_defs.specs.Arguments.{moved_of, entry_registers}
use Rattle.machine_defs.specs.Seen.{domain_of_instance}
use Rattle.machine_defs.specs.Wants.{Acts, wanted}
use Rattle.machine_defs.specs.Frames.{with_top, with_body, frame_of, code_at, answered_code, held_after, after_command, results_in, Begins, AnswersBody, AnswersFrame, AnswersTop, Replies}
use Rattle.machine_defs.specs.Calling.{with_fuel}
use Rattle.machine_defs.specs.ObjectRows.{Does}
use Rattle.rl_defs.proofs.ValidFacts.{domain_tables, method_by_trait as trait_method}
use Rattle.rl_defs.specs.Valid.{Valid}

-- An answered frame: code goes on, and a native body may always give up next.
abbrev pub given_body : LoadRows → State → StackFrame → Answer → FrameBody Action → StackFrame
given_body L s f a (body.Code at regs) = with_body f (code_at (answered_code (domain_of_instance L s f.instance) (record { at = at; regs = regs }) a))
given_body L s f a (body.Native held act) = with_body f (body.Native (held_after act a held) (action.Trap cause.Io))

given : (L : LoadRows) (s z : State) (f : StackFrame) (a : Answer) (b : FrameBody Action) → instance_load z f.instance ≡ instance_load s f.instance → AnswersBody L z f a b (given_body L s f a b)
given L s z f a (body.Code at regs) load = ap (λ k. with_body f (code_at (answered_code (domain_of_load L k) (record { at = at; regs = regs }) a))) (sym load)
given L s z f a (body.Native held act) load = (action.Trap cause.Io, refl, refl)

-- whoever is answered gets the answer
pub has_reply : (L : LoadRows) (s : State) (t : ℕ) (a : Answer) (thread : Thread) → row s.threads t ≡ Some thread → (z : State) × Replies L s t a z
has_reply L s t a thread of = by_top (top (stack s t))
  where
    by_live : (f : StackFrame) (b : Bool) → (z : State) × AnswersFrame L s t f a b z
    by_live f false = (s, refl)
    by_live f true =
        let g : StackFrame = given_body L s f a f.body in
        (with_top t g s, record { frame = g; answers = given L s (with_top t g s) f a f.body refl; becomes = refl })

    by_top : (found : Option StackFrame) → (z : State) × AnswersTop L s t a found z
    by_top None = (with_thread s t (after_command L t thread (results_in a)), record { thread = thread; of = of; becomes = refl })
    by_top (Some f) = by_live f (is_live s f.instance)

-- the call of a method of a target has a frame to begin with, in whatever state
pub has_beginning : (L : LoadRows) → Valid L → (c x i m : ℕ) (args : List Arg) (method : MethodRow) → is_target L x ≡ true → method_of L x m ≡ Some method → (f : StackFrame) × ((z : State) → Begins L z c x i m args f)
has_beginning L plans c x i m args method target is = elim (cases_Bool (is_native d.lines)) [
  | inl native ↦ (frame_of c x i m args (body.Native (moved_of args) (action.Trap cause.Io)), λ z. record { is = refl; body = (native, refl, refl) })
  | inr code ↦ (frame_of c x i m args (body.Code (body_of_function d.lines method.name) (entry_registers args)), λ z. record { is = refl; body = (code, entry, refl) })
]
  where
    d : Domain
    d = domain_of_load L (load_of_target L x)

    found : slice_get (methods_of d.tables (domain_trait d)) m ≡ Some method
    found =
        let tables : d.tables ≡ L.tables = domain_tables L plans (load_of_target L x) in
        let trait : trait_if L (is_target L x) x ≡ domain_trait d = rw target refl in
        subst (λ tb. slice_get (methods_of tb (domain_trait d)) m ≡ Some method) (sym tables)
        (sym (ap (λ t. slice_get (methods_of L.tables t) m) trait) ∙ sym (trait_method L plans x m target) ∙ is)

    entry : entry_at d m ≡ Some (body_of_function d.lines method.name)
    entry = ap (entry_of d) found

-- what a frame does is answered, whatever it changes, where no instance gets another load
pub has_done : (L : LoadRows) (s : State) (t : ℕ) (thread : Thread) (act : Action) (fuel : ℕ) (frame : StackFrame) (a : Answer) (change : State → State) → row s.threads t ≡ Some thread → wanted L s t ≡ Acts act fuel frame
    → ((m : State) → instance_load (change m) ≡ instance_load m) → (z : State) × Does L s t frame.instance act a change z
has_done L s t thread act fuel frame a change of wants loads =
    let after : StackFrame = given_body L s frame a frame.body in
    let mid : State = with_top t after (with_thread s t (with_fuel (fuel - 1) thread)) in (
      change mid,
      record {
        thread = thread;
        fuel = fuel;
        frame = frame;
        after = after;
        of = of;
        wants = wants;
        inside = refl;
        answers = given L s (change mid) frame a frame.body (ap (λ (f : ℕ → ℕ). f frame.instance) (loads mid));
        becomes = refl;
      },
    )
