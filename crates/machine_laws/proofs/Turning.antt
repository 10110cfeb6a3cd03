-- What a step makes of the stack and the thread of one client. Those of the others stay.
use Rattle.std.proofs.Common.{◌≡◌, ◌≢◌, ℕ, ◌-◌, ◌<◌, ◌≤◌, Bool, true, false, List, [], ◌∷◌, ◌++◌, length, Option, Some, None, refl, ap, sym, subst, ◌∙◌, arith}
use Rattle.std.proofs.lemmas.List.{length-set}
use Rattle.machine_defs.specs.declared.frame.Answer.{Answer}
use Rattle.rl_defs.specs.declared.load.LoadRows.{LoadRows}
use Rattle.machine_defs.specs.State.{State, StackFrame, Thread, is_live, stack, frames_of, with_stack, with_thread}
use Rattle.rl_defs.specs.Rows.{row}
use Rattle.machine_defs.specs.State.{top}
use Rattle.machine_defs.specs.Frames.{after_command}
use Rattle.machine_defs.specs.Frames.{below_top, popped, with_top, with_body, results_in, AnswersClient, AnswersFrame, AnswersTop, Replies}
use Rattle.machine_laws.specs.Shape.{Laid}
use Rattle.machine_laws.proofs.Rows.{row_within, row_set_same, row_set_other}
use Rattle.machine_laws.proofs.Stacks.{top_none}
use Rattle.machine_laws.proofs.FrameRows.{answered_same}

pub record Turned (s z : State) (t : ℕ) (frames : List StackFrame) (new : Thread) : Type 0 where
  pub some : 0 < t
  pub stacks : t ≤ length z.stacks
  pub threads : t ≤ length z.threads
  pub here : stack z t ≡ frames
  pub thread : row z.threads t ≡ Some new
  pub other_stacks : (u : ℕ) → u ≢ t → stack z u ≡ stack s u
  pub other_threads : (u : ℕ) → u ≢ t → row z.threads u ≡ row s.threads u

pub turned_start : (L : LoadRows) (s : State) (t : ℕ) (old : Thread) → Laid L s → row s.threads t ≡ Some old → Turned s s t (stack s t) old
turned_start L s t old laid of =
    let w = row_within s.threads t old of in
    record {
      some = w.0;
      stacks = (let a = laid.stacks in let b = laid.threads in let c = w.1 in omega (arith, a, b, c));
      threads = w.1;
      here = refl;
      thread = of;
      other_stacks = λ u ne. refl;
      other_threads = λ u ne. refl;
    }

-- the thread changes, the stack, or neither
pub turned_thread : (s m : State) (t : ℕ) (frames : List StackFrame) (old new : Thread) → Turned s m t frames old → Turned s (with_thread m t new) t frames new
turned_thread s m t frames old new is = record {
  some = is.some;
  stacks = is.stacks;
  threads = (let le = is.threads in let n = length-set m.threads (t - 1) new in omega (arith, le, n));
  here = is.here;
  thread = row_set_same m.threads t new is.some is.threads;
  other_stacks = is.other_stacks;
  other_threads = λ u ne. row_set_other m.threads t u new is.some ne ∙ is.other_threads u ne;
}

pub turned_stack : (s m : State) (t : ℕ) (frames new : List StackFrame) (thread : Thread) → Turned s m t frames thread → Turned s (with_stack m t new) t new thread
turned_stack s m t frames new thread is = record {
  some = is.some;
  stacks = (let le = is.stacks in let n = length-set m.stacks (t - 1) new in omega (arith, le, n));
  threads = is.threads;
  here = ap frames_of (row_set_same m.stacks t new is.some is.stacks);
  thread = is.thread;
  other_stacks = λ u ne. ap frames_of (row_set_other m.stacks t u new is.some ne) ∙ is.other_stacks u ne;
  other_threads = is.other_threads;
}

pub turned_alike : (s m z : State) (t : ℕ) (frames : List StackFrame) (thread : Thread) → z.stacks ≡ m.stacks → z.threads ≡ m.threads → Turned s m t frames thread → Turned s z t frames thread
turned_alike s m z t frames thread stacks threads is = record {
  some = is.some;
  stacks = rw stacks is.stacks;
  threads = rw threads is.threads;
  here = ap (λ ss. frames_of (row ss t)) stacks ∙ is.here;
  thread = ap (λ ts. row ts t) threads ∙ is.thread;
  other_stacks = λ u ne. ap (λ ss. frames_of (row ss u)) stacks ∙ is.other_stacks u ne;
  other_threads = λ u ne. ap (λ ts. row ts u) threads ∙ is.other_threads u ne;
}

pub turned_top : (s m : State) (t : ℕ) (frames : List StackFrame) (f : StackFrame) (thread : Thread) → Turned s m t frames thread → Turned s (with_top t f m) t (below_top frames ++ f ∷ []) thread
turned_top s m t frames f thread is = subst (λ fs. Turned s (with_top t f m) t (below_top fs ++ f ∷ []) thread) is.here (turned_stack s m t frames (below_top (stack m t) ++ f ∷ []) thread is)

pub turned_popped : (s m : State) (t : ℕ) (frames : List StackFrame) (thread : Thread) → Turned s m t frames thread → Turned s (popped t m) t (below_top frames) thread
turned_popped s m t frames thread is = subst (λ fs. Turned s (popped t m) t (below_top fs) thread) is.here (turned_stack s m t frames (below_top (stack m t)) thread is)

-- Whoever gets the answer of a call that has ended: a client after its command, a frame that goes on, or a dead one that stays.
pub data RepliedAs (L : LoadRows) (s z : State) (t : ℕ) (a : Answer) (frames : List StackFrame) (thread : Thread) : Type 0 where
  ToClient : frames ≡ [] → Turned s z t [] (after_command L t thread (results_in a)) → RepliedAs L s z t a frames thread
  ToFrame : (f next : StackFrame) → top frames ≡ Some f → next ≡ with_body f next.body → Turned s z t (below_top frames ++ next ∷ []) thread → RepliedAs L s z t a frames thread
  ToDead : Turned s z t frames thread → RepliedAs L s z t a frames thread

pub replied_as : (L : LoadRows) (s m z : State) (t : ℕ) (a : Answer) (frames : List StackFrame) (thread : Thread) → Turned s m t frames thread → Replies L m t a z → RepliedAs L s z t a frames thread
replied_as L s m z t a frames thread is replies = go (top (stack m t)) refl replies
  where
    client : top (stack m t) ≡ None → AnswersClient L m t a z → RepliedAs L s z t a frames thread
    client none r =
        let same : r.thread ≡ thread = (let e = r.of in let e' = is.thread in cc (e, e')) in
        let empty : frames ≡ [] = sym is.here ∙ top_none (stack m t) none in
        let becomes : z ≡ with_thread m t (after_command L t thread (results_in a)) = r.becomes ∙ ap (λ (x : Thread). with_thread m t (after_command L t x (results_in a))) same in
        ToClient empty (subst (λ fs. Turned s z t fs (after_command L t thread (results_in a))) empty
        (subst (λ y. Turned s y t frames (after_command L t thread (results_in a))) (sym becomes) (turned_thread s m t frames thread (after_command L t thread (results_in a)) is)))

    frame : (f : StackFrame) → top (stack m t) ≡ Some f → (b : Bool) → AnswersFrame L m t f a b z → RepliedAs L s z t a frames thread
    frame f on_top true r = ToFrame f r.frame (ap top (sym is.here) ∙ on_top) (answered_same L z f a f.body r.frame r.answers) (subst (λ y. Turned s y t (below_top frames ++ r.frame ∷ []) thread) (sym r.becomes) (turned_top s m t frames r.frame thread is))
    frame f on_top false r = ToDead (subst (λ y. Turned s y t frames thread) (sym r) is)

    go : (f : Option StackFrame) → top (stack m t) ≡ f → AnswersTop L m t a f z → RepliedAs L s z t a frames thread
    go None e r = client e r
    go (Some f) e r = frame f e (is_live m f.instance) r
