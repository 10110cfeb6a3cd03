-- What frames get and how they begin is determined by the state, but for the choice of a native body.
use Rattle.std.proofs.Common.{◌≡◌, ℕ, ◌-◌, ◌<◌, Bool, true, false, List, Option, Some, None, refl, ap, sym, subst, ◌∙◌, true≢false}
use Rattle.machine_defs.specs.declared.values.Arg.{Arg}
use Rattle.machine_defs.specs.declared.frame.FrameBody.{FrameBody}
use Rattle.machine_defs.specs.declared.frame.FrameBody.TheVariants as body
use Rattle.machine_defs.specs.declared.frame.Action.{Action}
use Rattle.machine_defs.specs.declared.frame.Answer.{Answer}
use Rattle.rl_defs.specs.declared.load.LoadRows.{LoadRows}
use Rattle.machine_defs.specs.State.{State, StackFrame, Thread, is_live, stack, with_thread}
use Rattle.machine_defs.specs.Frames.{after_command}
use Rattle.machine_defs.specs.Wants.{Want, Acts}
use Rattle.machine_defs.specs.State.{top, instance_load}
use Rattle.rl_defs.specs.Rows.{domain_of_load}
use Rattle.machine_defs.specs.Wants.{wanted}
use Rattle.machine_defs.specs.Frames.{below_top, with_top, with_body, frame_of, code_at, answered_code, results_in, BeginsBody, Begins, AnswersBody, Answers, AnswersFrame, AnswersTop, Replies}
use Rattle.machine_defs.specs.Calling.{with_fuel}
use Rattle.machine_defs.specs.ObjectRows.{Does}
use Rattle.machine_defs.specs.Laws.{unchosen_body, unchosen}
use Rattle.machine_laws.proofs.Unchosen.{unchosen_frame, Alike, IsBlind, top_alike}

-- a frame of a call begins the same but for its choice, whatever the states it begins in
pub begins_alike : (L : LoadRows) (m n : State) (c x i o : ℕ) (args : List Arg) (f g : StackFrame) → Begins L m c x i o args f → Begins L n c x i o args g → unchosen_frame f ≡ unchosen_frame g
begins_alike L m n c x i o args f g a b =
    ap unchosen_frame a.is ∙ ap (λ y. frame_of c x i o args y) (bodies f.body g.body in_m in_n) ∙ sym (ap unchosen_frame b.is)
  where
    in_m : BeginsBody L m (frame_of c x i o args f.body) f.body
    in_m = subst (λ h. BeginsBody L m h f.body) a.is a.body

    in_n : BeginsBody L n (frame_of c x i o args g.body) g.body
    in_n = subst (λ h. BeginsBody L n h g.body) b.is b.body

    bodies : (y z : FrameBody Action) → BeginsBody L m (frame_of c x i o args f.body) y → BeginsBody L n (frame_of c x i o args g.body) z → unchosen_body y ≡ unchosen_body z
    bodies (body.Code at regs) (body.Code at' regs') p q =
        let line : at ≡ at' = (let e = p.1 in let e' = q.1 in cc) in
        let same : regs ≡ regs' = (let e = p.2 in let e' = q.2 in cc) in
        cc
    bodies (body.Code at regs) (body.Native held next) p q = absurd (true≢false (sym q.0 ∙ p.0))
    bodies (body.Native held next) (body.Code at regs) p q = absurd (true≢false (sym p.0 ∙ q.0))
    bodies (body.Native held next) (body.Native held' next') p q = let same : held ≡ held' = (let e = p.1 in let e' = q.1 in cc) in cc

-- a frame of the same load in both states gets the same answer
pub answers_alike : (L : LoadRows) (m n : State) (f : StackFrame) (a : Answer) (g h : StackFrame) → instance_load m f.instance ≡ instance_load n f.instance → Answers L m f a g → Answers L n f a h → unchosen_frame g ≡ unchosen_frame h
answers_alike L m n f a g h load p q = by_body f.body p q
  where
    by_body : (b : FrameBody Action) → AnswersBody L m f a b g → AnswersBody L n f a b h → unchosen_frame g ≡ unchosen_frame h
    by_body (body.Code at regs) p' q' =
        ap unchosen_frame p'
        ∙ ap (λ k. unchosen_frame (with_body f (code_at (answered_code (domain_of_load L k) (record { at = at; regs = regs }) a)))) load
        ∙ sym (ap unchosen_frame q')
    by_body (body.Native held act) p' q' = ap unchosen_frame p'.1 ∙ sym (ap unchosen_frame q'.1)

-- the caller of a call that has ended gets the same answer
pub replies_alike : (L : LoadRows) (s : State) (t : ℕ) (a : Answer) (m n : State) → 0 < t → Replies L s t a m → Replies L s t a n → Alike t m n
replies_alike L s t a m n some p q = by_top (top (stack s t)) p q
  where
    by_life : (f : StackFrame) (lives : Bool) → AnswersFrame L s t f a lives m → AnswersFrame L s t f a lives n → Alike t m n
    by_life f false p' q' = ap (unchosen t) (p' ∙ sym q')
    by_life f true p' q' =
        let load : instance_load m f.instance ≡ instance_load n f.instance = ap (λ (z : State). instance_load z f.instance) p'.becomes ∙ sym (ap (λ (z : State). instance_load z f.instance) q'.becomes) in
        ap (unchosen t) p'.becomes
        ∙ top_alike t s (below_top (stack s t)) p'.frame q'.frame (λ z. z) some (λ w st. refl) (answers_alike L m n f a p'.frame q'.frame load p'.answers q'.answers)
        ∙ sym (ap (unchosen t) q'.becomes)

    by_top : (found : Option StackFrame) → AnswersTop L s t a found m → AnswersTop L s t a found n → Alike t m n
    by_top None p' q' =
        let same : p'.thread ≡ q'.thread = (let e = p'.of in let e' = q'.of in cc) in
        ap (unchosen t) (p'.becomes ∙ ap (λ (thread : Thread). with_thread s t (after_command L t thread (results_in a))) same ∙ sym q'.becomes)
    by_top (Some f) p' q' = by_life f (is_live s f.instance) p' q'

-- what a thread wants is one action of one frame
pub record SameActs (act act' : Action) (fuel fuel' : ℕ) (f f' : StackFrame) : Type 0 where
  pub doing : act ≡ act'
  pub paying : fuel ≡ fuel'
  pub frame : f ≡ f'

pub same_acts : (want : Want) (act act' : Action) (fuel fuel' : ℕ) (f f' : StackFrame) → want ≡ Acts act fuel f → want ≡ Acts act' fuel' f' → SameActs act act' fuel fuel' f f'
same_acts want act act' fuel fuel' f f' p q = let e : Acts act fuel f ≡ Acts act' fuel' f' = sym p ∙ q in record { doing = cc; paying = cc; frame = cc }

pub does_inside : (L : LoadRows) (s : State) (t i j : ℕ) (act act' : Action) (a a' : Answer) (change change' : State → State) (m n : State) → Does L s t i act a change m → Does L s t j act' a' change' n → (act ≡ act') × (i ≡ j)
does_inside L s t i j act act' a a' change change' m n p q =
    let same = same_acts (wanted L s t) act act' p.fuel q.fuel p.frame q.frame p.wants q.wants in
    (same.doing, p.inside ∙ ap (λ (f : StackFrame). f.instance) same.frame ∙ sym q.inside)

-- a top frame that makes an action is the same after it, but for its choice
pub does_alike : (L : LoadRows) (s : State) (t i j : ℕ) (act : Action) (a : Answer) (change : State → State) (m n : State) → 0 < t → IsBlind change → Does L s t i act a change m → Does L s t j act a change n → Alike t m n
does_alike L s t i j act a change m n some blind p q =
    let same = same_acts (wanted L s t) act act p.fuel q.fuel p.frame q.frame p.wants q.wants in
    let thread : q.thread ≡ p.thread = (let e = p.of in let e' = q.of in cc) in
    let paid : State = with_thread s t (with_fuel (p.fuel - 1) p.thread) in
    let answers : Answers L n p.frame a q.after = subst (λ f. Answers L n f a q.after) (sym same.frame) q.answers in
    let becomes : n ≡ change (with_top t q.after paid) = q.becomes ∙ ap (λ k. change (with_top t q.after (with_thread s t (with_fuel (k - 1) q.thread)))) (sym same.paying) ∙ ap (λ (k : Thread). change (with_top t q.after (with_thread s t (with_fuel (p.fuel - 1) k)))) thread in
    let load : instance_load m p.frame.instance ≡ instance_load n p.frame.instance =
    ap (λ (z : State). instance_load z p.frame.instance) (p.becomes ∙ blind paid ((with_top t p.after paid).stacks))
    ∙ sym (ap (λ (z : State). instance_load z p.frame.instance) (becomes ∙ blind paid ((with_top t q.after paid).stacks))) in
    ap (unchosen t) p.becomes
    ∙ top_alike t paid (below_top (stack s t)) p.after q.after change some blind (answers_alike L m n p.frame a p.after q.after load p.answers answers)
    ∙ sym (ap (unchosen t) becomes)
