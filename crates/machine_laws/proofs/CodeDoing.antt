-- A code frame that acts: where it stands, what it may do, and what it has of its own before and after its action.
use Rattle.std.proofs.Common.{◌≡◌, ℕ, zero, suc, ◌<◌, ◌≤◌, true, [], length, Some, refl, ap, ap₂, sym, subst, ◌∙◌, arith, inl, inr}
use Rattle.rl_defs.specs.declared.code.Instr.{Instr}
use Rattle.machine_defs.specs.declared.values.Cause.{Cause}
use Rattle.machine_defs.specs.declared.frame.Action.{Action}
use Rattle.machine_defs.specs.declared.frame.Action.TheVariants as action
use Rattle.machine_defs.specs.declared.frame.FrameBody.TheVariants as body
use Rattle.rl_defs.specs.declared.load.LoadRows.{LoadRows}
use Rattle.rl_defs.specs.DomainValue.{Domain}
use Rattle.machine_defs.specs.Sight.{Sight}
use Rattle.machine_defs.specs.declared.values.Cause.TheVariants as cause
use Rattle.rl_defs.specs.declared.load.LoadRow.{LoadRow}
use Rattle.rl_defs.specs.Domains.{load_row, method_of}
use Rattle.rl_defs.specs.CodeNames.{method_at, method_of_function, function_at}
use Rattle.rl_defs.specs.CodeKinds.{kinds_at}
use Rattle.machine_defs.specs.CodeLaws.{StandsAt, Acts as ActsAt}
use Rattle.rl_defs.specs.CodeRules.{KeepsRules}
use Rattle.machine_defs.specs.CodeFits.{FitsStand}
use Rattle.rl_defs.specs.Registers.{Stand, Registers}
use Rattle.machine_defs.specs.Instructions.{Would, Settled, Nowhere, Before, settle, work}
use Rattle.machine_defs.specs.State.{State, StackFrame, is_live, stack}
use Rattle.machine_defs.specs.Loans.{count}
use Rattle.machine_defs.specs.Wants.{Acts}
use Rattle.machine_defs.specs.State.{instance_load}
use Rattle.rl_defs.specs.Rows.{domain_of_load}
use Rattle.machine_defs.specs.Seen.{domain_of_instance, seen}
use Rattle.machine_defs.specs.Seen.{types_of}
use Rattle.machine_defs.specs.Wants.{by_body, settled}
use Rattle.machine_defs.specs.Frames.{below_top, with_body}
use Rattle.rl_defs.proofs.ValidFacts.{domain_at, domain_tables}
use Rattle.machine_laws.specs.Shape.{Laid}
use Rattle.machine_laws.specs.Registers.{Parted, own}
use Rattle.machine_laws.specs.Fitting.{CodeRuns, BodyFits, StackFits, Fitting}
use Rattle.machine_laws.proofs.Stacks.{top_splits}
use Rattle.machine_laws.proofs.Instances.{live_there}
use Rattle.machine_laws.proofs.Acting.{ActsAs}
use Rattle.machine_laws.proofs.StackFits.{fits_split}
use Rattle.machine_laws.proofs.Sights.{sees}
use Rattle.machine_laws.proofs.OwnWork.{settle_keeps}
use Rattle.machine_laws.proofs.OwnActs.{ActsOwn, acts_own}
use Rattle.machine_laws.proofs.OwnFits.{FitsAct, act_fits}
use Rattle.machine_laws.proofs.OwnFunctions.{settle_function}
use Rattle.machine_laws.proofs.Rows.{item_there}
use Rattle.machine_laws.proofs.Parts.{load_of_instance}
use Rattle.rl_defs.specs.Valid.{Valid, AreValidTables}

-- what the rules of interfaces leave in the tables
pub has_tables : (L : LoadRows) (k : ℕ) → Valid L → AreValidTables L.tables → AreValidTables (domain_of_load L k).tables
has_tables L k plans tables = subst AreValidTables (sym (domain_tables L plans k)) tables

-- where register work has come to
pub record Settles (L : LoadRows) (s : State) (f : StackFrame) (at fuel : ℕ) (regs : Registers) (act : Action) (rest : ℕ) (frame : StackFrame) : Type 0 where
  pub stand : Stand
  pub settles : settle (domain_of_instance L s f.instance) (seen L s f.instance) (length s.objects) fuel (record { at = at; regs = regs }) ≡ Before act rest stand
  pub frame_is : frame ≡ with_body f (body.Code stand.at stand.regs)

pub settles_so : (L : LoadRows) (s : State) (f : StackFrame) (at fuel : ℕ) (regs : Registers) (act : Action) (rest : ℕ) (frame : StackFrame) → by_body L s fuel f (body.Code at regs) ≡ Acts act rest frame → Settles L s f at fuel regs act rest frame
settles_so L s f at fuel regs act rest frame e = go (settle (domain_of_instance L s f.instance) (seen L s f.instance) (length s.objects) fuel (record { at = at; regs = regs })) refl e
  where
    go : (found : Settled) → settle (domain_of_instance L s f.instance) (seen L s f.instance) (length s.objects) fuel (record { at = at; regs = regs }) ≡ found → settled f found ≡ Acts act rest frame → Settles L s f at fuel regs act rest frame
    go Nowhere is h = absurd cc
    go (Before act' rest' stand) is h =
        let a : act' ≡ act = cc in
        let r : rest' ≡ rest = cc in
        let g : with_body f (body.Code stand.at stand.regs) ≡ frame = cc in
        record { stand = stand; settles = is ∙ ap₂ (λ x y. Before x y stand) a r; frame_is = sym g }

-- a load of 1 to the count of loads has its row
pub load_there : (L : LoadRows) (k : ℕ) → 0 < k → k ≤ length L.loads → (l : LoadRow) × (load_row L k ≡ Some l)
load_there L zero pos le = absurd (omega arith)
load_there L (suc k) pos le = item_there L.loads k (omega arith)

-- the domain of a live instance keeps the rules
pub keeps_rules : (L : LoadRows) (s : State) (i : ℕ) → Valid L → Fitting L s → is_live s i ≡ true → KeepsRules (domain_of_instance L s i)
keeps_rules L s i plans fits lives =
    let x = live_there s i lives in
    let f = fits.instances i x.0 x.1 in
    let load' : instance_load s i ≡ x.0.load = ap load_of_instance x.1 in
    let row' = load_there L (instance_load s i) (rw load' f.some) (rw load' f.within) in
    (domain_at L plans (instance_load s i) row'.0 row'.1).is.keeps

-- A code frame that acts by something else than a trap stands at an instruction that would do so.
pub record CodeDoes (L : LoadRows) (s : State) (f : StackFrame) (at fuel : ℕ) (regs : Registers) (act : Action) (rest : ℕ) (frame : StackFrame) : Type 0 where
  pub at_rest : Settles L s f at fuel regs act rest frame
  pub fits : FitsStand (types_of L s) (domain_of_instance L s f.instance) at_rest.stand
  pub parted : Parted f.lent (kinds_at (domain_of_instance L s f.instance) at_rest.stand.at) at_rest.stand.regs
  pub same : (o : ℕ) → count o (own f.lent at_rest.stand.regs) ≡ count o (own f.lent regs)
  pub instr : Instr
  pub here : StandsAt (domain_of_instance L s f.instance) instr at_rest.stand
  pub acts : ActsOwn (types_of L s) f.lent (domain_of_instance L s f.instance) instr at_rest.stand act
  pub can : FitsAct (types_of L s) (domain_of_instance L s f.instance) at_rest.stand.at (seen L s f.instance) (length s.objects) (kinds_at (domain_of_instance L s f.instance) at_rest.stand.at) instr act
  pub function : function_at (domain_of_instance L s f.instance).lines at_rest.stand.at ≡ function_at (domain_of_instance L s f.instance).lines at
  pub method : method_at (domain_of_instance L s f.instance) at_rest.stand.at ≡ method_of L f.target f.method

abbrev pub NotTrap : Action → Type 0
NotTrap act = (c : Cause) → act ≡ action.Trap c → ⊥

module _ (L : LoadRows) (s : State) (plans : Valid L) (tables : AreValidTables L.tables) (laid : Laid L s) (fits : Fitting L s) (t : ℕ) (act : Action) (rest : ℕ) (frame : StackFrame) (doing : ActsAs L s t act rest frame) where
  pub body_fits : BodyFits L s doing.f [] doing.f.body
  body_fits =
      let split = top_splits (stack s t) doing.f doing.on_top in
      let all' = subst (StackFits L s) split (fits.bodies t) in
      (fits_split L s (below_top (stack s t)) [] doing.f all').0 doing.lives

  pub code_does : (at : ℕ) (regs : Registers) → doing.f.body ≡ body.Code at regs → NotTrap act → CodeDoes L s doing.f at doing.thread.fuel regs act rest frame
  code_does at regs is no_trap =
      let f : StackFrame = doing.f in
      let d : Domain = domain_of_instance L s f.instance in
      let keeps = keeps_rules L s f.instance plans fits doing.lives in
      let tables' = has_tables L (instance_load s f.instance) plans tables in
      let sight = sees L s f.instance plans laid fits doing.lives in
      let by : by_body L s doing.thread.fuel f (body.Code at regs) ≡ Acts act rest frame = subst (λ b. by_body L s doing.thread.fuel f b ≡ Acts act rest frame) is doing.by in
      let at_rest = settles_so L s f at doing.thread.fuel regs act rest frame by in
      let runs : CodeRuns L s f at regs = (subst (BodyFits L s f []) is body_fits).1 in
      let settled' = settle_keeps d (types_of L s) f.lent (seen L s f.instance) (length s.objects) doing.thread.fuel (record { at = at; regs = regs }) act rest at_rest.stand keeps sight runs.stands runs.parted at_rest.settles in
      let work' = would d (seen L s f.instance) (length s.objects) at_rest.stand settled'.acts in
      let function = settle_function d (types_of L s) (seen L s f.instance) (length s.objects) doing.thread.fuel (record { at = at; regs = regs }) act rest at_rest.stand keeps sight runs.stands at_rest.settles in
      record {
        at_rest = at_rest;
        fits = settled'.fits;
        parted = settled'.parted;
        same = settled'.same;
        instr = settled'.instr;
        here = settled'.at;
        acts = acts_own d (types_of L s) f.lent (seen L s f.instance) (length s.objects) settled'.instr at_rest.stand act keeps tables' settled'.fits settled'.parted settled'.at work';
        can = act_fits d (types_of L s) (seen L s f.instance) (length s.objects) settled'.instr at_rest.stand act keeps sight settled'.fits settled'.at work';
        function = function;
        method = ap (method_of_function d) function ∙ runs.method;
      }
    where
      would : (d : Domain) (sight : Sight) (live : ℕ) (stand : Stand) → ActsAt d sight live rest stand act → work d sight live stand ≡ Would act
      would d sight live stand (inl a) = absurd (no_trap cause.Fuel a.1)
      would d sight live stand (inr w) = w
