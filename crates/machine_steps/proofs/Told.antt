-- Who called gets its answer in the state, as in each part of the machine.
use Rattle.std.proofs.Common.{◌≡◌, ℕ, ◌-◌, Bool, true, false, List, [], ◌∷◌, ◌++◌, slice_set, Option, Some, None, refl, sym, ap, subst, ◌∙◌, inr, append_assoc, true≢false, if◌then◌else◌}
use Rattle.rl_defs.specs.declared.load.LoadRows.{LoadRows}
use Rattle.rl_defs.specs.declared.tables.MethodRow.{MethodRow}
use Rattle.rl_defs.specs.declared.code.Instr.TheVariants as instr
use Rattle.rl_defs.specs.CodeNames.{results_of}
use Rattle.rl_defs.specs.CodeKinds.{kinds_at}
use Rattle.rl_defs.specs.Domains.{method_of}
use Rattle.rl_defs.specs.Registers.{Registers}
use Rattle.rl_defs.specs.Rows.{row}
use Rattle.machine_defs.specs.declared.frame.Action.{Action}
use Rattle.machine_defs.specs.declared.frame.Answer.{Answer}
use Rattle.machine_defs.specs.declared.frame.Answer.TheVariants as answer
use Rattle.machine_defs.specs.declared.frame.FrameBody.{FrameBody}
use Rattle.machine_defs.specs.declared.frame.FrameBody.TheVariants as body
use Rattle.machine_defs.specs.CodeFits.{FitsAnswer, are_values, stand_of}
use Rattle.machine_defs.specs.State.{State, StackFrame, Thread, stack, top, is_live, with_thread}
use Rattle.machine_defs.specs.Seen.{types_of, domain_of_instance, change_row}
use Rattle.machine_defs.specs.Frames.{below_top, with_top, with_body, code_at, answered_code, after_command, results_in, AnswersBody, AnswersFrame, AnswersTop, Replies}
use Rattle.machine_laws.specs.Fitting.{BodyFits, CodeWaits, StackFits}
use Rattle.machine_laws.proofs.Stacks.{top_splits}
use Rattle.machine_laws.proofs.StackFits.{fits_split}
use Rattle.machine_laws.proofs.WaitingAnswers.{IsReply, ReplySuits}
use Rattle.code_machine.specs.Fitting.{Awaits}
use Rattle.trampolines.specs.Words as words
use Rattle.trampolines.proofs.Agreeing.{same_top, same_below, same_frames}
use Rattle.machine_steps.specs.declared.machine.Machine.TheInside.{Inside}
use Rattle.machine_steps.specs.Inside.{state_of, IsKept}
use Rattle.machine_steps.specs.Replying.{told_frame, told_stacks, told_threads, MayBeTold}
use Rattle.machine_steps.proofs.Acting.{holds}

-- the state in which client t's top frame, or the client, has its answer
abbrev pub told : LoadRows → ℕ → Answer → State → State
told L t a s = record s {
  stacks = told_stacks L s.instances t a s.stacks (words.top (words.stack_of s.stacks t));
  threads = told_threads L t a s.threads (words.top (words.stack_of s.stacks t));
}

pub top_same : (s : State) (t : ℕ) → words.top (words.stack_of s.stacks t) ≡ top (stack s t)
top_same s t = same_top (words.stack_of s.stacks t) ∙ ap top (same_frames (row s.stacks t))

pub below_same : (s : State) (t : ℕ) → words.below_top (words.stack_of s.stacks t) ≡ below_top (stack s t)
below_same s t = same_below (words.stack_of s.stacks t) ∙ ap below_top (same_frames (row s.stacks t))

module _ (L : LoadRows) (s : State) (t : ℕ) (a : Answer) (thread : Thread) (of : row s.threads t ≡ Some thread) where
  abbrev told_so : Option StackFrame → State
  told_so found = record s { stacks = told_stacks L s.instances t a s.stacks found; threads = told_threads L t a s.threads found }

  -- the frame goes on
  live_told : (f : StackFrame) (at : ℕ) (regs : Registers) → f.body ≡ body.Code at regs → AnswersFrame L s t f a true (with_top t (told_frame L s.instances a f) s)
  live_told f at regs is = record {
    frame = told_frame L s.instances a f;
    answers = subst (λ b. AnswersBody L (with_top t (told_frame L s.instances a f) s) f a b (told_frame L s.instances a f)) (sym is)
        (ap (λ (b : FrameBody Action). with_body f (code_at (answered_code (domain_of_instance L s f.instance) (stand_of b) a))) is);
    becomes = refl;
  }

  frame_told : (f : StackFrame) → (is_live s f.instance ≡ true → words.is_code f.body ≡ true) → (lives : Bool) → is_live s f.instance ≡ lives
      → AnswersFrame L s t f a lives (record s { stacks = if lives then words.with_stack_of s.stacks t (words.below_top (words.stack_of s.stacks t) ++ told_frame L s.instances a f ∷ []) else s.stacks })
  frame_told f code false dead = refl
  frame_told f code true lives = go f.body refl (code lives)
    where
      same : with_top t (told_frame L s.instances a f) s ≡ record s { stacks = words.with_stack_of s.stacks t (words.below_top (words.stack_of s.stacks t) ++ told_frame L s.instances a f ∷ []) }
      same = ap (λ below. record s { stacks = slice_set s.stacks (t - 1) (below ++ told_frame L s.instances a f ∷ []) }) (sym (below_same s t))

      go : (b : FrameBody Action) → f.body ≡ b → words.is_code b ≡ true → AnswersFrame L s t f a true (record s { stacks = words.with_stack_of s.stacks t (words.below_top (words.stack_of s.stacks t) ++ told_frame L s.instances a f ∷ []) })
      go (body.Code at regs) is c = subst (AnswersFrame L s t f a true) same (live_told f at regs is)
      go (body.Native held next) is c = absurd cc

  pub told_replies : ((f : StackFrame) → top (stack s t) ≡ Some f → is_live s f.instance ≡ true → words.is_code f.body ≡ true) → Replies L s t a (told L t a s)
  told_replies code = go (words.top (words.stack_of s.stacks t)) refl
    where
      go : (found : Option StackFrame) → words.top (words.stack_of s.stacks t) ≡ found → AnswersTop L s t a (top (stack s t)) (told_so (words.top (words.stack_of s.stacks t)))
      go None is =
          subst (λ f. AnswersTop L s t a f (told_so (words.top (words.stack_of s.stacks t)))) (sym is ∙ top_same s t) (subst (λ f. AnswersTop L s t a None (told_so f)) (sym is)
          (record { thread = thread; of = of; becomes = ap (λ x. record s { threads = change_row s.threads t (λ y. after_command L t y (results_in a)) x }) of }))
      go (Some f) is =
          subst (λ g. AnswersTop L s t a g (told_so (words.top (words.stack_of s.stacks t)))) (sym is ∙ top_same s t) (subst (λ g. AnswersTop L s t a (Some f) (told_so g)) (sym is)
          (frame_told f (code f (sym (top_same s t) ∙ is)) (is_live s f.instance) refl))

-- ---- the frame that made a call awaits its answer

-- what a call is answered fits it
reply_fits : (L : LoadRows) (s : State) (f g : StackFrame) (at : ℕ) (regs : Registers) (w : CodeWaits L s g at regs f) (method : MethodRow) → method_of L f.target f.method ≡ Some method → (a : Answer) → IsReply a
    → ReplySuits (types_of L s) method.results a
    → FitsAnswer (types_of L s) (domain_of_instance L s g.instance) (kinds_at (domain_of_instance L s g.instance) at) (instr.Call w.target w.name w.args w.results w.failed w.label) a
reply_fits L s f g at regs w method called (answer.Back values) reply suits = subst (λ kinds. are_values (types_of L s) kinds values ≡ true) (sym (ap results_of (w.calls ∙ called))) suits
reply_fits L s f g at regs w method called (answer.Failed why) reply suits = tt
reply_fits L s f g at regs w method called (answer.Made o) reply suits = absurd reply
reply_fits L s f g at regs w method called answer.Went reply suits = absurd reply

module _ {w : Inside} (k : IsKept w) (t : ℕ) (f : StackFrame) (on_top : top (stack (state_of w) t) ≡ Some f) where
  abbrev left : List StackFrame
  left = below_top (stack (state_of w) t)

  pub next_split : (g : StackFrame) → top left ≡ Some g → stack (state_of w) t ≡ below_top left ++ g ∷ (f ∷ [])
  next_split g is = top_splits (stack (state_of w) t) f on_top ∙ (ap (λ fs. fs ++ f ∷ []) (top_splits left g is) ∙ append_assoc (below_top left) (g ∷ []) (f ∷ []))

  next_fits : (g : StackFrame) → top left ≡ Some g → is_live (state_of w) g.instance ≡ true → BodyFits w.load (state_of w) g (f ∷ []) g.body
  next_fits g is lives = (fits_split w.load (state_of w) (below_top left) (f ∷ []) g (subst (StackFits w.load (state_of w)) (next_split g is) ((holds k).fits.bodies t))).0 lives

  -- where the frames below are those of other lists, each word on them is the same
  pub next_awaits : (a : Answer) → IsReply a → (method : MethodRow) → method_of w.load f.target f.method ≡ Some method → ReplySuits (types_of w.load (state_of w)) method.results a
      → (g : StackFrame) → top left ≡ Some g → MayBeTold w.load w.instances a g
  next_awaits a reply method called suits g is lives = go g.body refl (next_fits g is lives)
    where
      go : (b : FrameBody Action) → g.body ≡ b → BodyFits w.load (state_of w) g (f ∷ []) b → (words.is_code g.body ≡ true) × Awaits (domain_of_instance w.load (state_of w) g.instance) (stand_of g.body) a
      go (body.Code at regs) body waits = (
        ap words.is_code body,
        subst (λ b. Awaits (domain_of_instance w.load (state_of w) g.instance) (stand_of b) a) (sym body) (record {
          types = types_of w.load (state_of w);
          instr = instr.Call waits.1.target waits.1.name waits.1.args waits.1.results waits.1.failed waits.1.label;
          at = record { number = waits.1.fits.number; here = waits.1.fits.here };
          fits = inr waits.1.fits;
          answer = reply_fits w.load (state_of w) f g at regs waits.1 method called a reply suits;
        }),
      )
      go (body.Native held next) body waits = absurd (true≢false (sym waits.0 ∙ k.code ((Rattle.machine_defs.specs.State.instance_load (state_of w) g.instance))))
