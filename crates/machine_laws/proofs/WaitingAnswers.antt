-- A frame that waited for a call, and gets its answer.
use Rattle.std.proofs.Common.{◌≡◌, ℕ, ◌+◌, ◌<◌, ◌≤◌, true, List, [], ◌∷◌, length, Some, refl, ap, sym, subst, ◌∙◌, arith}
use Rattle.std.specs.List.{filter_map}
use Rattle.rl_defs.specs.declared.code.Instr.{Instr}
use Rattle.rl_defs.specs.declared.code.Instr.TheVariants as instr
use Rattle.rl_defs.specs.declared.tables.MethodRow.{MethodRow}
use Rattle.machine_defs.specs.declared.frame.Action.{Action}
use Rattle.machine_defs.specs.declared.frame.Action.TheVariants as action
use Rattle.machine_defs.specs.declared.frame.Answer.{Answer}
use Rattle.machine_defs.specs.declared.frame.Answer.TheVariants as answer
use Rattle.machine_defs.specs.declared.frame.FrameBody.{FrameBody}
use Rattle.machine_defs.specs.declared.frame.FrameBody.TheVariants as body
use Rattle.rl_defs.specs.declared.load.LoadRows.{LoadRows}
use Rattle.rl_defs.specs.DomainValue.{Domain}
use Rattle.rl_defs.specs.Domains.{method_of}
use Rattle.rl_defs.specs.CodeNames.{results_of, method_at, method_of_function}
use Rattle.rl_defs.specs.declared.tables.Kind.{Kind}
use Rattle.rl_defs.specs.CodeKinds.{kinds_at, kind_in, method_called}
use Rattle.machine_defs.specs.CodeLaws.{StandsAt}
use Rattle.rl_defs.specs.Registers.{Typing}
use Rattle.machine_defs.specs.CodeFits.{FitsStand, FitsAnswer, are_values}
use Rattle.machine_defs.specs.Instructions.{after_answer}
use Rattle.rl_defs.specs.Registers.{Stand, Registers}
use Rattle.machine_defs.specs.State.{State, StackFrame, is_live, stack, frames_of}
use Rattle.machine_defs.specs.Loans.{count}
use Rattle.machine_defs.specs.Arguments.{object_of_value}
use Rattle.machine_defs.specs.State.{instance_load}
use Rattle.rl_defs.specs.Rows.{domain_of_load}
use Rattle.machine_defs.specs.Seen.{domain_of_instance}
use Rattle.machine_defs.specs.Seen.{types_of}
use Rattle.machine_defs.specs.Frames.{below_top, popped, Answers, AnswersBody, with_body, answered_code, code_at, held_after}
use Rattle.machine_defs.specs.Sound.{own_of, own_of_body}
use Rattle.machine_laws.specs.LedgerRows.{Exchanged}
use Rattle.machine_laws.specs.Shape.{Laid}
use Rattle.machine_laws.specs.Registers.{Parted, own, received}
use Rattle.machine_laws.specs.Fitting.{CodeWaits, BodyFits, Fitting}
use Rattle.machine_laws.proofs.Rows.{row_set_same}
use Rattle.machine_laws.proofs.OwnAnswers.{Unlent, waiting_gains}
use Rattle.machine_laws.proofs.OwnFunctions.{answer_function}
use Rattle.machine_laws.proofs.CodeDoing.{has_tables, keeps_rules}
use Rattle.machine_laws.proofs.Counting.{count_append}
use Rattle.machine_laws.proofs.Parts.{stand_after}
use Rattle.rl_defs.specs.Valid.{Valid, AreValidTables}

-- what a call is answered in the end
abbrev pub IsReply : Answer → Type 0
IsReply (answer.Back values) = Unit {0}
IsReply (answer.Failed why) = Unit {0}
IsReply a = ⊥

-- the values of a reply are those of a method's results
abbrev pub ReplySuits : Typing → List Kind → Answer → Type 0
ReplySuits types results (answer.Back values) = are_values types results values ≡ true
ReplySuits types results a = Unit {0}

-- Code that waited, after its reply.
pub record CodeReplied (types : Typing) (L : LoadRows) (d : Domain) (g after : StackFrame) (a : Answer) (regs : Registers) : Type 0 where
  pub stand : Stand
  pub after_is : after ≡ with_body g (body.Code stand.at stand.regs)
  pub fits : FitsStand types d stand
  pub parted : Parted g.lent (kinds_at d stand.at) stand.regs
  pub method : method_at d stand.at ≡ method_of L g.target g.method
  pub gains : (p : ℕ) → count p (own g.lent stand.regs) ≡ count p (own g.lent regs) + count p (received a)

module _ (L : LoadRows) (s z : State) (plans : Valid L) (tables : AreValidTables L.tables) (fits : Fitting L s) (f g after : StackFrame) (a : Answer) (reply : IsReply a) (lives : is_live s g.instance ≡ true)
    (load' : instance_load z g.instance ≡ instance_load s g.instance) (method : MethodRow) (called : method_of L f.target f.method ≡ Some method) (suits : ReplySuits (types_of L s) method.results a) (unlent : Unlent g.lent (received a)) (gets : Answers L z g a after) where
  abbrev d : Domain
  d = domain_of_instance L s g.instance

  abbrev here : ℕ → Registers → Stand
  here at regs = record { at = at; regs = regs }

  abbrev call : (at : ℕ) (regs : Registers) → CodeWaits L s g at regs f → Instr
  call at regs w = instr.Call w.target w.name w.args w.results w.failed w.label

  reply_fits : (at : ℕ) (regs : Registers) (w : CodeWaits L s g at regs f) (a : Answer) → IsReply a → ReplySuits (types_of L s) method.results a → FitsAnswer (types_of L s) d (kinds_at d at) (call at regs w) a
  reply_fits at regs w (answer.Back values) r su = (
      let results : results_of (method_called d.tables (kind_in (kinds_at d at) w.target) w.name) ≡ method.results = ap results_of (w.calls ∙ called) in
      subst (λ ks. are_values (types_of L s) ks values ≡ true) (sym results) su)
  reply_fits at regs w (answer.Failed why) r su = tt
  reply_fits at regs w (answer.Made o) r su = absurd r
  reply_fits at regs w answer.Went r su = absurd r

  goes : (at : ℕ) (regs : Registers) → g.body ≡ body.Code at regs → (w : CodeWaits L s g at regs f) → after ≡ with_body g (code_at (after_answer d (here at regs) (call at regs w) a))
  goes at regs is w =
      let got : AnswersBody L z g a (body.Code at regs) after = subst (λ b. AnswersBody L z g a b after) is gets in
      let domain : domain_of_instance L z g.instance ≡ d = ap (domain_of_load L) load' in
      got ∙ ap (λ x. with_body g (code_at (answered_code x (here at regs) a))) domain ∙ ap (λ i. with_body g (code_at (stand_after d (here at regs) a i))) w.here

  pub code_replied : (at : ℕ) (regs : Registers) → g.body ≡ body.Code at regs → CodeWaits L s g at regs f → CodeReplied (types_of L s) L d g after a regs
  code_replied at regs is w =
      let keeps = keeps_rules L s g.instance plans fits lives in
      let answers = reply_fits at regs w a reply suits in
      let gained = waiting_gains d (types_of L s) g.lent (call at regs w) a (here at regs) keeps (has_tables L (instance_load s g.instance) plans tables) w.fits w.parted answers unlent in
      let stands : StandsAt d (call at regs w) (here at regs) = record { number = w.fits.number; here = w.fits.here } in
      let function = answer_function d (types_of L s) (call at regs w) a (here at regs) keeps w.fits.inside stands answers in
      record {
        stand = after_answer d (here at regs) (call at regs w) a;
        after_is = goes at regs is w;
        fits = gained.fits;
        parted = gained.parted;
        method = ap (method_of_function d) function ∙ w.method;
        gains = gained.counts;
      }

  native_replied : (held : List ℕ) (act : Action) → g.body ≡ body.Native held act → act ≡ action.Call f.target f.method f.args → (p : ℕ) → count p (own_of after) ≡ count p held + count p (received a)
  native_replied held act is call p =
      let got : AnswersBody L z g a (body.Native held act) after = subst (λ b. AnswersBody L z g a b after) is gets in
      let own' : own_of after ≡ held_after act a held = ap own_of got.1 in
      rw own' (subst (λ x. count p (held_after x a held) ≡ count p held + count p (received a)) (sym call) (go a reply))
    where
      go : (a : Answer) → IsReply a → count p (held_after (action.Call f.target f.method f.args) a held) ≡ count p held + count p (received a)
      go (answer.Back values) r = count_append p held (filter_map object_of_value values)
      go (answer.Failed why) r = omega arith
      go (answer.Made o) r = absurd r
      go answer.Went r = absurd r

  -- it has the objects of its results besides
  pub replied_own : BodyFits L s g (f ∷ []) g.body → Exchanged (own_of g) [] (received a) (own_of after)
  replied_own fits' = go g.body refl fits'
    where
      go : (b : FrameBody Action) → g.body ≡ b → BodyFits L s g (f ∷ []) b → Exchanged (own_of g) [] (received a) (own_of after)
      go (body.Code at regs) is fits'' =
          let r = code_replied at regs is fits''.1 in
          let before : own_of g ≡ own g.lent regs = ap (own_of_body g.lent) is in
          let behind : own_of after ≡ own g.lent r.stand.regs = ap own_of r.after_is in
          λ p. rw (before, behind) (let e = r.gains p in omega (arith, e))
      go (body.Native held act) is fits'' =
          let before : own_of g ≡ held = ap (own_of_body g.lent) is in
          λ p. rw before (let e = native_replied held act is fits''.1 p in omega (arith, e))

-- the stack of a thread whose top frame was popped
pub popped_stack : (L : LoadRows) (s : State) (t : ℕ) → Laid L s → 0 < t → t ≤ length L.clients → stack (popped t s) t ≡ below_top (stack s t)
popped_stack L s t laid pos le = ap frames_of (row_set_same s.stacks t (below_top (stack s t)) pos (let e = laid.stacks in omega (arith, e, le)))
