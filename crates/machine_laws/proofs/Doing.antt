-- What a frame has of its own after an action that it is answered at once.
use Rattle.std.proofs.Common.{◌≡◌, ℕ, ◌<◌, true, ◌⊎◌, List, Some, refl, ap, subst, ◌∙◌, arith, inl, inr}
use Rattle.machine_defs.specs.declared.frame.Action.{Action}
use Rattle.machine_defs.specs.declared.frame.Action.TheVariants as action
use Rattle.machine_defs.specs.declared.frame.Answer.{Answer}
use Rattle.machine_defs.specs.declared.frame.FrameBody.TheVariants as body
use Rattle.rl_defs.specs.declared.load.LoadRows.{LoadRows}
use Rattle.rl_defs.specs.DomainValue.{Domain}
use Rattle.rl_defs.specs.Domains.{method_of}
use Rattle.rl_defs.specs.CodeNames.{method_at, method_of_function}
use Rattle.rl_defs.specs.CodeKinds.{kinds_at}
use Rattle.rl_defs.specs.Registers.{Typing}
use Rattle.machine_defs.specs.CodeFits.{FitsStand, FitsAnswer}
use Rattle.machine_defs.specs.Instructions.{after_answer}
use Rattle.rl_defs.specs.Registers.{Stand, Registers}
use Rattle.machine_defs.specs.State.{State, StackFrame, is_live}
use Rattle.machine_defs.specs.Loans.{count}
use Rattle.machine_defs.specs.State.{instance_load}
use Rattle.machine_defs.specs.Arguments.{has}
use Rattle.rl_defs.specs.Rows.{domain_of_load}
use Rattle.machine_defs.specs.Seen.{domain_of_instance}
use Rattle.machine_defs.specs.Seen.{types_of}
use Rattle.machine_defs.specs.Frames.{Answers, AnswersBody, with_body, instr_at, answered_code, code_at}
use Rattle.machine_laws.specs.LedgerRows.{Exchanged}
use Rattle.machine_laws.specs.Registers.{Parted, Retyped, own, given_away, used, shown, received}
use Rattle.machine_laws.specs.Fitting.{Fitting}
use Rattle.machine_laws.proofs.OwnEntries.{stand_retyped}
use Rattle.machine_laws.proofs.OwnActs.{Pays, PaysAct, waiting}
use Rattle.machine_laws.proofs.OwnAnswers.{Unlent, GainsOwn, answer_gains}
use Rattle.machine_laws.proofs.OwnFunctions.{instr_here, answer_function}
use Rattle.machine_laws.proofs.CodeDoing.{NotTrap, CodeDoes, has_tables, keeps_rules}
use Rattle.machine_laws.proofs.Parts.{stand_after}
use Rattle.rl_defs.specs.Valid.{Valid, AreValidTables}

pub pays_of : (lent : List ℕ) (old new : Registers) (act : Action) → NotTrap act → PaysAct lent old new act → Pays lent old new act
pays_of lent old new (action.Trap c) no_trap pays = absurd (no_trap c refl)
pays_of lent old new other no_trap pays = pays

-- Code after an answer: where it stands, and what it has.
pub record CodeAfter (types : Typing) (L : LoadRows) (d : Domain) (f after : StackFrame) (act : Action) (a : Answer) (regs : Registers) : Type 0 where
  pub stand : Stand
  pub after_is : after ≡ with_body f (body.Code stand.at stand.regs)
  pub fits : FitsStand types d stand
  pub parted : Parted f.lent (kinds_at d stand.at) stand.regs
  pub method : method_at d stand.at ≡ method_of L f.target f.method
  pub trades : Exchanged (own f.lent regs) (given_away act) (received a) (own f.lent stand.regs)
  pub uses : (p : ℕ) → 0 < count p (used act) → 0 < count p (own f.lent regs)
  pub keeps : (p : ℕ) → 0 < count p (used act) → 0 < count p (own f.lent stand.regs)
  pub shows : (p : ℕ) → 0 < count p (shown act) → (0 < count p (own f.lent regs)) ⊎ (has f.lent p ≡ true)

module _ (L : LoadRows) (s z : State) (plans : Valid L) (tables : AreValidTables L.tables) (fits : Fitting L s) (f after frame : StackFrame) (act : Action) (a : Answer) (at fuel rest : ℕ) (regs : Registers) (lives : is_live s f.instance ≡ true)
    (no_trap : NotTrap act) (c : CodeDoes L s f at fuel regs act rest frame) (load' : instance_load z f.instance ≡ instance_load s f.instance) (types : Typing) (re : Retyped (types_of L s) types c.at_rest.stand.regs)
    (answers : FitsAnswer types (domain_of_instance L s f.instance) (kinds_at (domain_of_instance L s f.instance) c.at_rest.stand.at) c.instr a) (unlent : Unlent f.lent (received a)) (gets : Answers L z frame a after) where
  abbrev d : Domain
  d = domain_of_instance L s f.instance

  abbrev stand : Stand
  stand = c.at_rest.stand

  gains : GainsOwn types f.lent d (waiting c.instr stand).regs (received a) (after_answer d stand c.instr a)
  gains = answer_gains d types f.lent c.instr a stand (keeps_rules L s f.instance plans fits lives) (has_tables L (instance_load s f.instance) plans tables) c.here
      (stand_retyped (types_of L s) types d stand re c.fits) c.parted answers unlent

  goes : after ≡ with_body f (code_at (after_answer d stand c.instr a))
  goes =
      let frame_is = c.at_rest.frame_is in
      let got : AnswersBody L z (with_body f (body.Code stand.at stand.regs)) a (body.Code stand.at stand.regs) after = subst (λ (g : StackFrame). AnswersBody L z g a g.body after) frame_is gets in
      let domain : domain_of_instance L z f.instance ≡ d = ap (domain_of_load L) load' in
      let instr : instr_at d stand.at ≡ Some c.instr = instr_here d c.instr stand c.here in
      got ∙ ap (λ x. with_body f (code_at (answered_code x stand a))) domain ∙ ap (λ i. with_body f (code_at (stand_after d stand a i))) instr

  pub code_after : CodeAfter types L d f after act a regs
  code_after =
      let pays = pays_of f.lent stand.regs (waiting c.instr stand).regs act no_trap c.acts.pays in
      let function = answer_function d types c.instr a stand (keeps_rules L s f.instance plans fits lives) c.fits.inside c.here answers in
      record {
        stand = after_answer d stand c.instr a;
        after_is = goes;
        fits = gains.fits;
        parted = gains.parted;
        method = ap (method_of_function d) function ∙ c.method;
        trades = λ p. (let one = gains.counts p in let two = pays.gone p in let three = c.same p in omega (arith, one, two, three));
        uses = λ p some. (let use' = pays.uses p some in let two = pays.gone p in let three = c.same p in omega (arith, use', two, three));
        keeps = λ p some. (let use' = pays.uses p some in let one = gains.counts p in omega (arith, use', one));
        shows = λ p some. elim (pays.shows p some) [
          | inl mine ↦ inl (let two = pays.gone p in let three = c.same p in omega (arith, mine, two, three))
          | inr lent ↦ inr lent
        ];
      }
