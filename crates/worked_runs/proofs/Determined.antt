-- Where code alone runs, two rows from one state with the same entry lead to the same state.
use Rattle.std.proofs.Common.{◌≡◌, ℕ, ◌-◌, Bool, true, false, List, [], Option, Some, None, ◌⊎◌, refl, sym, ◌∙◌, ap, subst, inl, inr}
use Rattle.std.proofs.lemmas.Bool.{false≢true}
use Rattle.std.proofs.lemmas.Option.{same_Some}
use Rattle.rl_defs.specs.declared.values.Value.{Value}
use Rattle.machine_defs.specs.declared.values.Arg.{Arg}
use Rattle.machine_defs.specs.declared.values.Owner.{Owner}
use Rattle.machine_defs.specs.declared.frame.FrameBody.{FrameBody}
use Rattle.machine_defs.specs.declared.frame.FrameBody.TheVariants as body
use Rattle.machine_defs.specs.declared.frame.Action.{Action}
use Rattle.machine_defs.specs.declared.frame.Answer.{Answer}
use Rattle.machine_defs.specs.declared.frame.Answer.TheVariants as answer
use Rattle.rl_defs.specs.declared.load.LoadRows.{LoadRows}
use Rattle.rl_defs.specs.Domains.{load_of_target, is_native}
use Rattle.rl_defs.specs.CodeNames.{entry_at}
use Rattle.machine_defs.specs.State.{State, StackFrame, Thread, Instance, is_live, stack, with_thread}
use Rattle.rl_defs.specs.Rows.{row}
use Rattle.machine_defs.specs.Wants.{Want, Acts}
use Rattle.machine_defs.specs.State.{top}
use Rattle.std.specs.Option.{option_map_or}
use Rattle.machine_defs.specs.Calling.{Wish}
use Rattle.machine_defs.specs.Arguments.{entry_registers}
use Rattle.machine_defs.specs.Frames.{after_command}
use Rattle.rl_defs.specs.Rows.{domain_of_load}
use Rattle.machine_defs.specs.Seen.{ended}
use Rattle.machine_defs.specs.Wants.{wanted}
use Rattle.machine_defs.specs.Frames.{Begins, BeginsBody, AnswersBody, AnswersLive, AnswersFrame, AnswersTop, Replies, frame_of, with_top, with_body, code_at, answered_code, results_in}
use Rattle.machine_defs.specs.Calling.{with_fuel}
use Rattle.machine_defs.specs.CallRows.{Calls, Returns, Kills, Reloads, call_entered, after_return, command_done}
use Rattle.machine_defs.specs.ObjectRows.{Does, Makes, ClientMakes, FrameMakes}

-- the domain of a target is code
abbrev pub TargetsCode : LoadRows → ℕ → Type 0
TargetsCode L x = is_native (domain_of_load L (load_of_target L x)).lines ≡ false

abbrev place_or : Option ℕ → ℕ
place_or None = 0
place_or (Some at) = at

-- a frame of code begins in one way
abbrev code_body : LoadRows → ℕ → ℕ → List Arg → FrameBody Action
code_body L x m args = body.Code (place_or (entry_at (domain_of_load L (load_of_target L x)) m)) (entry_registers args)

code_begins : (L : LoadRows) (z : State) (c x i m : ℕ) (args : List Arg) (b : FrameBody Action) → TargetsCode L x → BeginsBody L z (frame_of c x i m args b) b → b ≡ code_body L x m args
code_begins L z c x i m args (body.Code at regs) code begins =
    ap (λ n. body.Code n regs) (sym (ap place_or begins.1)) ∙ ap (λ rs. body.Code (place_or (entry_at (domain_of_load L (load_of_target L x)) m)) rs) begins.2
code_begins L z c x i m args (body.Native held next) code begins = absurd (false≢true (sym code ∙ begins.0))

begins_code : {L : LoadRows} {z : State} {c x i m : ℕ} {args : List Arg} {f : StackFrame} → TargetsCode L x → Begins L z c x i m args f → f ≡ frame_of c x i m args (code_body L x m args)
begins_code {L} {z} {c} {x} {i} {m} {args} {f} code b =
    b.is ∙ ap (λ own. frame_of c x i m args own) (code_begins L z c x i m args f.body code (subst (λ g. BeginsBody L z g f.body) b.is b.body))

pub same_call : {L : LoadRows} {s y z : State} {t c x i m : ℕ} {args : List Arg} → TargetsCode L x → Calls L s t c x i m args y → Calls L s t c x i m args z → y ≡ z
same_call {t} {c} {i} {args} code a b =
    let same_frame = begins_code code a.begins ∙ sym (begins_code code b.begins) in
    let same_charged : a.charged ≡ b.charged = ap (λ (w : Wish). w.charged) (same_Some _ _ (sym a.wants ∙ b.wants)) in
    a.becomes ∙ (ap (λ f. call_entered t c i args f a.charged) same_frame ∙ (ap (λ s. call_entered t c i args b.frame s) same_charged ∙ sym b.becomes))

pub same_kill : {L : LoadRows} {s y z : State} {t i : ℕ} → Kills L s t i y → Kills L s t i z → y ≡ z
same_kill {L} {s} {t} {i} a b =
    a.becomes ∙ (ap (λ thread. ended i (with_thread s t (command_done L t [] thread))) (same_Some _ _ (sym a.of ∙ b.of)) ∙ sym b.becomes)

pub same_reload : {L : LoadRows} {s y z : State} {t x i left : ℕ} → Reloads L s t x i left y → Reloads L s t x i left z → y ≡ z
same_reload a b = a.becomes ∙ sym b.becomes

-- what a frame would do: with which fuel, and as what frame
abbrev fuel_in : Want → ℕ
fuel_in (Acts act fuel f) = fuel
fuel_in _ = 0

abbrev frame_in : StackFrame → Want → StackFrame
frame_in g (Acts act fuel f) = f
frame_in g _ = g

abbrev is_code : FrameBody Action → Bool
is_code (body.Code at regs) = true
is_code (body.Native held act) = false

-- a thread wants an action of code
abbrev wants_code : Want → Bool
wants_code (Acts act fuel f) = is_code f.body
wants_code _ = false

-- code gets an answer in one way, whatever else has changed, where the instances are these
abbrev among : LoadRows → List Instance → StackFrame → Answer → FrameBody Action → StackFrame
among L instances f a (body.Code at regs) = with_body f (code_at (answered_code (domain_of_load L (option_map_or (λ instance. instance.load) (row instances f.instance) 0)) (record { at = at; regs = regs }) a))
among L instances f a (body.Native held act) = f

answers_code : (L : LoadRows) (z : State) (f : StackFrame) (a : Answer) (b : FrameBody Action) (g : StackFrame) → is_code b ≡ true → AnswersBody L z f a b g → g ≡ among L z.instances f a b
answers_code L z f a (body.Code at regs) g code answers = answers
answers_code L z f a (body.Native held act) g code answers = absurd (false≢true code)

-- an action changes no instance
abbrev KeepsInstances : (State → State) → Type 0
KeepsInstances change = (s : State) → (change s).instances ≡ s.instances

abbrev done_by : LoadRows → State → ℕ → Answer → (State → State) → Thread → ℕ → StackFrame → State
done_by L s t a change thread fuel f = change (with_top t (among L s.instances f a f.body) (with_thread s t (with_fuel (fuel - 1) thread)))

does_code : {L : LoadRows} {s z : State} {t i : ℕ} {act : Action} {a : Answer} {change : State → State} → KeepsInstances change → wants_code (wanted L s t) ≡ true → (d : Does L s t i act a change z) → z ≡ done_by L s t a change d.thread d.fuel d.frame
does_code {L} {s} {z} {t} {a} {change} keeps code d =
    let charged = with_thread s t (with_fuel (d.fuel - 1) d.thread) in
    let same_instances : z.instances ≡ s.instances = ap (λ (y : State). y.instances) d.becomes ∙ keeps (with_top t d.after charged) in
    let same_after : d.after ≡ among L s.instances d.frame a d.frame.body =
    answers_code L z d.frame a d.frame.body d.after (sym (ap wants_code d.wants) ∙ code) d.answers ∙ ap (λ instances. among L instances d.frame a d.frame.body) same_instances in
    d.becomes ∙ ap (λ f. change (with_top t f charged)) same_after

same_does : {L : LoadRows} {s y z : State} {t i j : ℕ} {act : Action} {a : Answer} {change : State → State} → KeepsInstances change → wants_code (wanted L s t) ≡ true → Does L s t i act a change y → Does L s t j act a change z → y ≡ z
same_does {L} {s} {t} {a} {change} keeps code d e =
    let wants = sym d.wants ∙ e.wants in
    let by = done_by L s t a change in
    does_code keeps code d
    ∙ (ap (λ thread. by thread d.fuel d.frame) (same_Some _ _ (sym d.of ∙ e.of))
    ∙ (ap (λ fuel. by e.thread fuel d.frame) (ap fuel_in wants)
    ∙ (ap (λ f. by e.thread e.fuel f) (ap (frame_in d.frame) wants)
    ∙ sym (does_code keeps code e))))

same_making : {L : LoadRows} {s y z : State} {t o ty : ℕ} {w : Owner} {values : List ℕ} → wants_code (wanted L s t) ≡ true → ClientMakes L s t w o ty values y ⊎ FrameMakes L s t w o ty values y → ClientMakes L s t w o ty values z ⊎ FrameMakes L s t w o ty values z → y ≡ z
same_making code (inl a) b = absurd (false≢true (sym (ap wants_code a.does.wants) ∙ code))
same_making code (inr a) (inl b) = absurd (false≢true (sym (ap wants_code b.does.wants) ∙ code))
same_making code (inr a) (inr b) = same_does (λ s. refl) code a.does b.does

pub same_new : {L : LoadRows} {s y z : State} {t o ty : ℕ} {w : Owner} {values : List ℕ} → wants_code (wanted L s t) ≡ true → Makes L s t w o ty values y → Makes L s t w o ty values z → y ≡ z
same_new code a b = same_making code a.makes b.makes

-- whoever gets the answer of a call that has ended is a client or code
abbrev pub top_is_code : Option StackFrame → Bool
top_is_code None = true
top_is_code (Some f) = is_code f.body

live_code : {L : LoadRows} {s z : State} {t : ℕ} {f : StackFrame} {a : Answer} → is_code f.body ≡ true → AnswersLive L s t f a z → z ≡ with_top t (among L s.instances f a f.body) s
live_code {L} {s} {z} {t} {f} {a} code live =
    let same_frame : live.frame ≡ among L s.instances f a f.body =
    answers_code L z f a f.body live.frame code live.answers ∙ ap (λ instances. among L instances f a f.body) (ap (λ (x : State). x.instances) live.becomes) in
    live.becomes ∙ ap (λ g. with_top t g s) same_frame

same_answer : (L : LoadRows) (s y z : State) (t : ℕ) (f : StackFrame) (a : Answer) (lives : Bool) → is_code f.body ≡ true → AnswersFrame L s t f a lives y → AnswersFrame L s t f a lives z → y ≡ z
same_answer L s y z t f a true code p q = live_code code p ∙ sym (live_code code q)
same_answer L s y z t f a false code p q = p ∙ sym q

same_reply : (L : LoadRows) (s y z : State) (t : ℕ) (a : Answer) (o : Option StackFrame) → top_is_code o ≡ true → AnswersTop L s t a o y → AnswersTop L s t a o z → y ≡ z
same_reply L s y z t a None code p q =
    p.becomes ∙ (ap (λ thread. with_thread s t (after_command L t thread (results_in a))) (same_Some _ _ (sym p.of ∙ q.of)) ∙ sym q.becomes)
same_reply L s y z t a (Some f) code p q = same_answer L s y z t f a (is_live s f.instance) code p q

pub same_return : {L : LoadRows} {s y z : State} {t c : ℕ} {results : List Value} → (a : Returns L s t c results y) → top_is_code (top (stack (after_return t a.fuel a.thread results s) t)) ≡ true → Returns L s t c results z → y ≡ z
same_return {L} {s} {y} {z} {t} {c} {results} a code b =
    let same_thread = ap (λ thread. after_return t b.fuel thread results s) (same_Some b.thread a.thread (sym b.of ∙ a.of)) in
    let same_fuel = ap (λ fuel. after_return t fuel a.thread results s) (ap fuel_in (sym b.wants ∙ a.wants)) in
    let replies = subst (λ x. Replies L x t (answer.Back results) z) (same_thread ∙ same_fuel) b.replies in
    let after = after_return t a.fuel a.thread results s in
    same_reply L after y z t (answer.Back results) (top (stack after t)) code a.replies replies
