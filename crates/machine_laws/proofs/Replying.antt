-- Whoever gets the answer of a call that has ended, in the ledger.
use Rattle.std.proofs.Common.{◌≡◌, ℕ, List, [], ◌∷◌, Some, None, refl, ap, sym, ◌∙◌, inl, inr}
use mathlib.Core.Path.{fun_ext}
use Rattle.std.proofs.lemmas.Bool.{cases_eq}
use Rattle.machine_defs.specs.declared.frame.Answer.{Answer}
use Rattle.rl_defs.specs.declared.load.LoadRows.{LoadRows}
use Rattle.machine_defs.specs.State.{State, StackFrame, Thread, stack, with_thread}
use Rattle.rl_defs.specs.Rows.{row}
use Rattle.machine_defs.specs.State.{top}
use Rattle.machine_defs.specs.Frames.{after_command}
use Rattle.machine_defs.specs.Frames.{AnswersLive, AnswersClient, acting, with_top, results_in}
use Rattle.machine_defs.specs.Sound.{own_of}
use Rattle.machine_laws.specs.Ledger.{LedgerFrame, at}
use Rattle.machine_laws.specs.LedgerOf.{frame_entry, names_held, ledger_of}
use Rattle.machine_laws.specs.LedgerRows.{with_own}
use Rattle.machine_laws.specs.Shape.{Laid}
use Rattle.machine_laws.proofs.Rows.{at_same, at_other, row_set_self}
use Rattle.machine_laws.proofs.Stacks.{top_none}
use Rattle.machine_laws.proofs.Tops.{bottom, under, entries_top}
use Rattle.machine_laws.proofs.FrameRows.{answered_same}
use Rattle.machine_laws.proofs.Pushing.{gone_ledger, thread_ledger}
use Rattle.machine_laws.proofs.Parts.{owner_acting}

pub at_self : {A : Type 0} (k : ℕ) (f : ℕ → A) → at k (f k) f ≡ f
at_self k f = fun_ext (λ j. elim (cases_eq j k) [
  | inl e ↦ rw (e, at_same k (f k) f) refl
  | inr ne ↦ rw (at_other k (f k) f j ne) refl
])

pub thread_self : (s : State) (t : ℕ) (thread : Thread) → row s.threads t ≡ Some thread → with_thread s t thread ≡ s
thread_self s t thread is = ap (λ (ts : List Thread). record s { threads = ts }) (row_set_self s.threads t thread is)

-- Who gets the answer has these frames in the ledger, and these objects after it. A client's are those of its names, a live frame's those of the
-- frame that goes on, and a dead frame's stay.
pub record Replied (L : LoadRows) (s : State) (t : ℕ) (a : Answer) (z : State) : Type 0 where
  pub g : LedgerFrame
  pub fs : List LedgerFrame
  pub own : List ℕ
  pub here : (ledger_of L s).stack t ≡ g ∷ fs
  pub party : g.party ≡ acting s t
  pub ledger : ledger_of L z ≡ record (ledger_of L s) { stack = with_own t g own fs ((ledger_of L s).stack) }

module _ (L : LoadRows) (s : State) (t : ℕ) (thread : Thread) (a : Answer) (z : State) (laid : Laid L s) (of : row s.threads t ≡ Some thread) where
  -- a client that gets the answer
  abbrev pub client_replied : top (stack s t) ≡ None → AnswersClient L s t a z → Replied L s t a z
  client_replied none answers =
      let alone = top_none (stack s t) none in
      let same : answers.thread ≡ thread = (let e = answers.of in cc (e, of)) in
      record {
        g = bottom t (Some answers.thread);
        fs = [];
        own = names_held (Some (after_command L t answers.thread (results_in a)));
        here = rw (alone, answers.of) refl;
        party = ap (owner_acting t) (sym none);
        ledger = ap (ledger_of L) answers.becomes ∙ thread_ledger L s t answers.thread (after_command L t answers.thread (results_in a)) laid answers.of refl alone;
      }

  -- a live frame that gets it
  abbrev pub frame_replied : (f : StackFrame) → top (stack s t) ≡ Some f → AnswersLive L s t f a z → Replied L s t a z
  frame_replied f on_top answers = record {
    g = frame_entry f;
    fs = under s t;
    own = own_of answers.frame;
    here = entries_top s t f on_top;
    party = ap (owner_acting t) (sym on_top);
    ledger =
        let same : with_thread s t thread ≡ s = thread_self s t thread of in
        ap (ledger_of L) answers.becomes
        ∙ ap (λ (w : State). ledger_of L (with_top t answers.frame w)) (sym same)
        ∙ gone_ledger L s t f answers.frame thread thread laid of (record { names = refl; done = refl }) (answered_same L z f a f.body answers.frame answers.answers);
  }

  -- a dead frame that gets nothing
  abbrev pub dead_replied : (f : StackFrame) → top (stack s t) ≡ Some f → z ≡ s → Replied L s t a z
  dead_replied f on_top stays = record {
    g = frame_entry f;
    fs = under s t;
    own = own_of f;
    here = entries_top s t f on_top;
    party = ap (owner_acting t) (sym on_top);
    ledger =
        let here = entries_top s t f on_top in
        ap (ledger_of L) stays
        ∙ ap (λ (st : ℕ → List LedgerFrame). record (ledger_of L s) { stack = st }) (sym (ap (λ fs. at t fs ((ledger_of L s).stack)) (sym here) ∙ at_self t ((ledger_of L s).stack)));
  }
