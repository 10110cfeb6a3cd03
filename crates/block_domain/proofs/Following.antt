-- Each step leaves every `read` of the driver in one of its three stages.
use Rattle.std.proofs.Common.{◌≡◌, ℕ, ◌<◌, ◌≤◌, Bool, true, false, List, [], ◌∷◌, ◌++◌, length, Option, Some, None, slice_index_or, refl, ap, sym, subst, ◌∙◌, codes}
use Rattle.rl_defs.specs.declared.code.Instr.TheVariants as instr
use Rattle.rl_defs.specs.declared.code.RegKind.TheVariants as held
use Rattle.rl_defs.specs.declared.load.LoadRows.{LoadRows}
use Rattle.rl_defs.specs.CodeKinds.{kinds_at}
use Rattle.rl_defs.specs.Domains.{load_of_target, is_native, method_name}
use Rattle.rl_defs.specs.DomainValue.{Domain}
use Rattle.rl_defs.specs.Rows.{domain_of_load}
use Rattle.machine_defs.specs.declared.frame.Action.{Action}
use Rattle.machine_defs.specs.declared.frame.Action.TheVariants as action
use Rattle.machine_defs.specs.declared.frame.Answer.{Answer}
use Rattle.machine_defs.specs.declared.frame.FrameBody.{FrameBody}
use Rattle.machine_defs.specs.declared.frame.FrameBody.TheVariants as body
use Rattle.machine_defs.specs.Frames.{AnswersFrame, AnswersTop, Replies, below_top, with_body, with_top, instr_at}
use Rattle.machine_defs.specs.Loans.{count}
use Rattle.machine_defs.specs.Seen.{domain_of_instance}
use Rattle.machine_defs.specs.Sound.{own_of, own_of_body}
use Rattle.machine_defs.specs.State.{State, StackFrame, frames_of, instance_load, is_live, stack, top}
use Rattle.machine_defs.specs.Steps.{Turn}
use Rattle.machine_laws.specs.Fitting.{BodyFits, CodeRuns, StackFits}
use Rattle.machine_laws.proofs.Agreeing.{stands}
use Rattle.machine_laws.proofs.FrameRows.{answered_same}
use Rattle.machine_laws.proofs.Rows.{row_set_same}
use Rattle.machine_laws.proofs.StackFits.{fits_split}
use Rattle.machine_laws.proofs.Stacks.{top_pushed, top_splits}
use Rattle.block_domain.specs.Driver.{RunsDriver}
use Rattle.block_domain.proofs.Holding.{Facts, knows_own, own_in_register}
use Rattle.block_domain.proofs.Lines.{driver, never_calls, not_native, read_registers}
use Rattle.block_domain.proofs.Reading.{Reads, Stage, Wants, WantsTrap, WantsNew, WantsBlock, WantsRet, object_read, numbers, tables, domain_is}

-- each `read` of the driver on top of a stack, in a live instance, is in one of its stages
abbrev pub AllStaged : LoadRows → List Turn → State → Type 0
AllStaged L us s = (t : ℕ) (f : StackFrame) → top (stack s t) ≡ Some f → is_live s f.instance ≡ true → Reads L f → Stage L us t f

-- frames of one call
pub reads_same : (L : LoadRows) (f g : StackFrame) → g ≡ with_body f g.body → Reads L g → Reads L f
reads_same L f g same reads =
    let target : g.target ≡ f.target = ap (λ (h : StackFrame). h.target) same in
    let method : g.method ≡ f.method = ap (λ (h : StackFrame). h.method) same in
    record {
      driver = subst (λ x. RunsDriver L (load_of_target L x)) target reads.driver;
      method = subst (λ m. method_name L f.target m ≡ codes "read") method (subst (λ x. method_name L x g.method ≡ codes "read") target reads.method);
    }

-- the frames and facts of a state of a run
module _ (L : LoadRows) (us : List Turn) (s : State) (facts : Facts L us s) where
  pub placed_load : (t : ℕ) (below above : List StackFrame) (f : StackFrame) → stack s t ≡ below ++ f ∷ above → instance_load s f.instance ≡ load_of_target L f.target
  placed_load t below above f here = (stands L s facts.laid facts.kept.owned facts.kept.placed t below above f here).load

  pub opened : (t : ℕ) (below above : List StackFrame) (f : StackFrame) → stack s t ≡ below ++ f ∷ above → f.instance ≤ length s.instances
  opened t below above f here = (stands L s facts.laid facts.kept.owned facts.kept.placed t below above f here).opened

  -- no frame of the driver waits for a call
  pub none_waits : (t : ℕ) (below above : List StackFrame) (g h : StackFrame) → stack s t ≡ below ++ g ∷ (h ∷ above) → is_live s g.instance ≡ true → Reads L g → ⊥
  none_waits t below above g h here lives reads = go g.body refl fits
    where
      fits : BodyFits L s g (h ∷ above) g.body
      fits = (fits_split L s below (h ∷ above) g (subst (StackFits L s) here (facts.fits.bodies t))).0 lives

      is : domain_of_instance L s g.instance ≡ driver (numbers L g reads) (tables L g reads)
      is = ap (domain_of_load L) (placed_load t below (h ∷ above) g here) ∙ domain_is L g reads

      go : (b : FrameBody Action) → g.body ≡ b → BodyFits L s g (h ∷ above) g.body → ⊥
      go (body.Code at regs) e fits' =
          let waits = (subst (BodyFits L s g (h ∷ above)) e fits').1 in
          never_calls (numbers L g reads) (tables L g reads) at waits.target waits.name waits.args waits.results waits.failed waits.label (subst (λ d. instr_at d at ≡ Some (instr.Call waits.target waits.name waits.args waits.results waits.failed waits.label)) is waits.here)
      go (body.Native held act) e fits' =
          let waits = subst (BodyFits L s g (h ∷ above)) e fits' in
          not_native (numbers L g reads) (tables L g reads) (subst (λ (d : Domain). is_native d.lines ≡ true) is waits.0)

  -- at its last line a `read` has its object of its own
  pub own_object : (t o : ℕ) (f : StackFrame) → top (stack s t) ≡ Some f → is_live s f.instance ≡ true → Reads L f → f.body ≡ body.Code 8 (read_registers f.args o) → 0 < count o (own_of f)
  own_object t o f on_top lives reads is =
      let here = top_splits (stack s t) f on_top in
      let fits = (fits_split L s (below_top (stack s t)) [] f (subst (StackFits L s) here (facts.fits.bodies t))).0 lives in
      let runs : CodeRuns L s f 8 (read_registers f.args o) = (subst (BodyFits L s f []) is fits).1 in
      let domain : domain_of_instance L s f.instance ≡ driver (numbers L f reads) (tables L f reads) = ap (domain_of_load L) (placed_load t (below_top (stack s t)) [] f here) ∙ domain_is L f reads in
      let known = ap (λ d. slice_index_or (kinds_at d 8) 1 held.Empty) domain ∙ knows_own (numbers L f reads) (tables L f reads) in
      let unlent = runs.parted.own 1 _ o known (object_read f.args o) in
      let counted = own_in_register f.lent (read_registers f.args o) 1 o (object_read f.args o) unlent in
      subst (λ b. 0 < count o (own_of_body f.lent b)) (sym is) counted

-- the driver makes, gets, returns and traps, and nothing else
abbrev pub of_driver : Action → Bool
of_driver (action.New ty) = true
of_driver (action.DevGet o b) = true
of_driver (action.Ret results) = true
of_driver (action.Trap c) = true
of_driver _ = false

pub wants_these : (L : LoadRows) (us : List Turn) (t : ℕ) (f : StackFrame) (act : Action) → Wants L us t f act → of_driver act ≡ true
wants_these L us t f act (WantsTrap trap) = ap of_driver trap.1
wants_these L us t f act (WantsNew is ty eq) = ap of_driver eq
wants_these L us t f act (WantsBlock o b is asked eq) = ap of_driver eq
wants_these L us t f act (WantsRet o b asked got cells eq) = ap of_driver eq

-- a state in which a frame lies on top of those below another's top one
pub top_with : (L : LoadRows) (m : State) (t : ℕ) (f : StackFrame) → 0 < t → t ≤ length m.stacks → top (stack (with_top t f m) t) ≡ Some f
top_with L m t f some within = ap top (ap frames_of (row_set_same m.stacks t (below_top (stack m t) ++ f ∷ []) some within)) ∙ top_pushed (below_top (stack m t)) f

-- who gets an answer was on top, and keeps its call
pub record GotBy (m : State) (t : ℕ) (f : StackFrame) : Type 0 where
  pub g : StackFrame
  pub on_top : top (stack m t) ≡ Some g
  pub same : f ≡ with_body g f.body

pub replied_top : (L : LoadRows) (m z : State) (t : ℕ) (a : Answer) (f : StackFrame) → 0 < t → t ≤ length m.stacks → Replies L m t a z → top (stack z t) ≡ Some f → GotBy m t f
replied_top L m z t a f some within replies on_top = by_top (top (stack m t)) refl replies
  where
    by_live : (g : StackFrame) → top (stack m t) ≡ Some g → (b : Bool) → AnswersFrame L m t g a b z → GotBy m t f
    by_live g is true answers =
        let e : Some answers.frame ≡ Some f = sym (ap (λ (st : State). top (stack st t)) answers.becomes ∙ top_with L m t answers.frame some within) ∙ on_top in
        let same : answers.frame ≡ f = cc in
        let kept = answered_same L z g a g.body answers.frame answers.answers in
        record { g = g; on_top = is; same = subst (λ (h : StackFrame). h ≡ with_body g h.body) same kept }
    by_live g is false answers =
        let e : Some g ≡ Some f = sym is ∙ ap (λ (st : State). top (stack st t)) (sym answers) ∙ on_top in
        let same : g ≡ f = cc in
        record { g = g; on_top = is; same = sym same ∙ ap (λ (h : StackFrame). with_body g h.body) same }

    by_top : (found : Option StackFrame) → top (stack m t) ≡ found → AnswersTop L m t a found z → GotBy m t f
    by_top None is answers = absurd (let e : None ≡ Some f = sym is ∙ ap (λ (st : State). top (stack st t)) (sym answers.becomes) ∙ on_top in cc)
    by_top (Some g) is answers = by_live g is (is_live m g.instance) answers
