-- Stacks fit after a call that is made: its caller waits, and its frame begins.
use Rattle.std.proofs.Common.{slice_get, ◌≡◌, ◌≢◌, ℕ, ◌<◌, ◌≤◌, true, List, [], ◌∷◌, ◌++◌, length, Some, refl, ap, ap₂, sym, subst, ◌∙◌, arith, inl, inr, append_assoc}
use Rattle.machine_defs.specs.declared.values.Arg.{Arg}
use Rattle.rl_defs.specs.declared.code.Register.{Register}
use Rattle.rl_defs.specs.declared.code.CallArg.{CallArg}
use Rattle.rl_defs.specs.declared.code.Instr.{Instr}
use Rattle.rl_defs.specs.declared.code.Instr.TheVariants as instr
use Rattle.rl_defs.specs.declared.tables.MethodRow.{MethodRow}
use Rattle.machine_defs.specs.declared.entry.Entry.{Entry}
use Rattle.machine_defs.specs.declared.entry.Entry.TheVariants as entry
use Rattle.rl_defs.specs.declared.load.Command.TheVariants as command
use Rattle.machine_defs.specs.declared.frame.Action.{Action}
use Rattle.machine_defs.specs.declared.frame.Action.TheVariants as action
use Rattle.machine_defs.specs.declared.frame.FrameBody.{FrameBody}
use Rattle.machine_defs.specs.declared.frame.FrameBody.TheVariants as body
use Rattle.rl_defs.specs.declared.load.LoadRows.{LoadRows}
use Rattle.rl_defs.specs.DomainValue.{Domain}
use Rattle.rl_defs.specs.Domains.{load_of_target, method_of}
use Rattle.rl_defs.specs.CodeKinds.{Kinds, kinds_at, kind_in, left, method_called}
use Rattle.machine_defs.specs.CodeFits.{FitsWaiting}
use Rattle.rl_defs.specs.CodeNames.{methods_of}
use Rattle.rl_defs.specs.Registers.{Registers}
use Rattle.machine_defs.specs.State.{State, StackFrame, is_live, current, stack, frames_of}
use Rattle.rl_defs.specs.Rows.{row}
use Rattle.machine_defs.specs.Loans.{sweep as sweep_state}
use Rattle.machine_defs.specs.Calling.{Wish, is_undone}
use Rattle.machine_defs.specs.Arguments.{moved_of}
use Rattle.machine_defs.specs.State.{instance_load}
use Rattle.machine_defs.specs.Wants.{Commands, Acts}
use Rattle.machine_defs.specs.Seen.{domain_of_instance}
use Rattle.machine_defs.specs.Seen.{types_of}
use Rattle.rl_defs.specs.Rows.{trait_if, is_target}
use Rattle.machine_defs.specs.Wants.{by_body}
use Rattle.machine_defs.specs.Frames.{below_top, with_body, instr_at, waiting, waiting_body}
use Rattle.machine_defs.specs.Calling.{is_enabled}
use Rattle.machine_defs.specs.CallRows.{Calls}
use Rattle.rl_defs.proofs.ValidFacts.{domain_tables}
use Rattle.machine_laws.specs.LedgerOf.{ledger_of}
use Rattle.machine_laws.specs.LedgerSound.{Owned, Placed}
use Rattle.machine_laws.specs.Shape.{Laid}
use Rattle.machine_laws.specs.Registers.{Parted}
use Rattle.machine_laws.specs.Fitting.{BodyFits, CodeWaits, StackFits, Fitting}
use Rattle.machine_laws.proofs.Rows.{row_set_same, row_set_other}
use Rattle.machine_laws.proofs.Stacks.{top_splits}
use Rattle.machine_laws.proofs.Acting.{commands_as}
use Rattle.machine_laws.proofs.Wishes.{ClientWish, FrameWish, wish_as}
use Rattle.machine_laws.proofs.CodeDoing.{body_fits}
use Rattle.machine_laws.proofs.OwnFits.{called_by}
use Rattle.machine_laws.proofs.OwnActs.{waiting as waiting_stand}
use Rattle.machine_laws.proofs.OwnFunctions.{instr_here}
use Rattle.machine_laws.proofs.Callers.{method_by_trait, call_no_trap, calling, caller_frame, waits, waits_same, code_calls, code_waits, native_calls, calls_well}
use Rattle.machine_laws.proofs.CallSteps.{ClientsCall, called, not_waiting}
use Rattle.machine_laws.proofs.Retyping.{body_kept}
use Rattle.machine_laws.proofs.Present.{present}
use Rattle.machine_laws.proofs.OwnDoing.{native_kept}
use Rattle.machine_laws.proofs.CallingRows.{current_same}
use Rattle.machine_laws.proofs.LaidRows.{laid_row}
use Rattle.machine_laws.proofs.Agreeing.{laid_z, all_fit, changed_fits}
use Rattle.machine_laws.proofs.DoneFits.{types_kept}
use Rattle.machine_laws.proofs.BegunFits.{begun_fits}
use Rattle.machine_laws.proofs.EndSteps.{ready_within}
use Rattle.machine_laws.proofs.Charged.{stack_charged, instances_charged, others_charged, count_charged}
use Rattle.machine_laws.proofs.Parts.{load_of_instance, words_in}
use Rattle.rl_defs.specs.Valid.{Valid, AreValidTables}

-- an instruction that calls a method
pub record IsCall (d : Domain) (kinds : Kinds) (i : Instr) (method : MethodRow) : Type 0 where
  pub target : Register
  pub name : List ℕ
  pub args : List CallArg
  pub results : List Register
  pub failed : Register
  pub label : List ℕ
  pub is : i ≡ instr.Call target name args results failed label
  pub calls : method_called d.tables (kind_in kinds target) name ≡ Some method

pub is_call : (d : Domain) (kinds : Kinds) (i : Instr) (method : MethodRow) → called_by d kinds i ≡ Some method → IsCall d kinds i method
is_call d kinds (instr.Call c name args results failed label) method e = record { target = c; name = name; args = args; results = results; failed = failed; label = label; is = refl; calls = e }
is_call d kinds other method e = absurd cc

module _ (L : LoadRows) (s : State) (plans : Valid L) (tables : AreValidTables L.tables) (laid : Laid L s) (owned : Owned L (ledger_of L s)) (fits : Fitting L s) (t : ℕ) (ready : is_undone (row s.threads t) ≡ true) (w : Wish) (wished : FrameWish L s t w) where
  abbrev caller : StackFrame
  caller = caller_frame L s t plans tables laid owned fits ready w wished

  abbrev waiting_caller : StackFrame
  waiting_caller = waits L s t plans tables laid owned fits ready w wished

  -- a caller that is code waits at its call
  code_waits_for : (g : StackFrame) → g.target ≡ w.target → g.method ≡ w.method → (at : ℕ) (regs : Registers) → (is : caller.body ≡ body.Code at regs)
      → (b : FrameBody Action) → CodeWaits L s (with_body caller b) (code_calls L s t plans tables laid owned fits ready w wished at regs is).at_rest.stand.at (waiting_stand (code_calls L s t plans tables laid owned fits ready w wished at regs is).instr (code_calls L s t plans tables laid owned fits ready w wished at regs is).at_rest.stand).regs g
  code_waits_for g target method at regs is b =
      let c = code_calls L s t plans tables laid owned fits ready w wished at regs is in
      let d : Domain = domain_of_instance L s caller.instance in
      let well = calls_well L s t plans tables laid owned fits ready w wished in
      let call = is_call d (kinds_at d c.at_rest.stand.at) c.instr c.can.method c.can.is in
      let instr' : instr_at d c.at_rest.stand.at ≡ Some c.instr = instr_here d c.instr c.at_rest.stand c.here in
      let found : slice_get (methods_of L.tables (trait_if L (is_target L w.target) w.target)) w.method ≡ Some c.can.method = subst (λ tb. slice_get (methods_of tb (trait_if L (is_target L w.target) w.target)) w.method ≡ Some c.can.method) (domain_tables L plans (instance_load s caller.instance)) c.can.row in
      let same_row : method_of L w.target w.method ≡ Some c.can.method = method_by_trait L w.target w.method plans well.target ∙ found in
      record {
        target = call.target;
        name = call.name;
        args = call.args;
        results = call.results;
        failed = call.failed;
        label = call.label;
        here = instr' ∙ ap (λ i. Some i) call.is;
        fits = subst (λ i. FitsWaiting (types_of L s) d i (record { at = c.at_rest.stand.at; regs = (waiting_stand c.instr c.at_rest.stand).regs })) call.is c.acts.fits;
        parted = subst (λ i. Parted caller.lent (left (kinds_at d c.at_rest.stand.at) i) (waiting_stand c.instr c.at_rest.stand).regs) call.is c.acts.parted;
        method = c.method;
        calls = call.calls ∙ sym same_row ∙ sym (ap₂ (method_of L) target method);
      }

  -- a caller waits below the frame of its call
  pub waits_here : (g : StackFrame) → g.target ≡ w.target → g.method ≡ w.method → g.args ≡ w.args → BodyFits L s waiting_caller (g ∷ []) waiting_caller.body
  waits_here g target method args = go caller.body refl (body_fits L s plans tables laid fits t (action.Call w.target w.method w.args) wished.fuel wished.frame (calling L s t plans tables laid owned fits ready w wished))
    where
      go : (b : FrameBody Action) → caller.body ≡ b → BodyFits L s caller [] caller.body → BodyFits L s waiting_caller (g ∷ []) waiting_caller.body
      go (body.Code at regs) is before =
          let before' = subst (BodyFits L s caller []) is before in
          subst (λ (h : StackFrame). BodyFits L s h (g ∷ []) h.body) (sym (code_waits L s t plans tables laid owned fits ready w wished at regs is)) (before'.0, code_waits_for g target method at regs is _)
      go (body.Native held kept) is before =
          let before' = subst (BodyFits L s caller []) is before in
          let calls = native_calls L s t plans tables laid owned fits ready w wished held kept is in
          let by = subst (λ b. by_body L s (calling L s t plans tables laid owned fits ready w wished).thread.fuel caller b ≡ Acts (action.Call w.target w.method w.args) wished.fuel wished.frame) is (calling L s t plans tables laid owned fits ready w wished).by in
          let same = native_kept L s caller (calling L s t plans tables laid owned fits ready w wished).thread.fuel held kept (action.Call w.target w.method w.args) wished.fuel wished.frame by (call_no_trap w.target w.method w.args) in
          let waits_is : waiting_caller ≡ with_body caller (waiting_body (domain_of_instance L s caller.instance) (moved_of w.args) (body.Native held kept)) = ap (waiting L s (moved_of w.args)) calls.0 ∙ ap (λ b. with_body caller (waiting_body (domain_of_instance L s caller.instance) (moved_of w.args) b)) is in
          let wants : kept ≡ action.Call g.target g.method g.args = sym same.1 ∙ sym (ap₂ (λ h k. action.Call h k g.args) target method ∙ ap (action.Call w.target w.method) args) in
          subst (λ (h : StackFrame). BodyFits L s h (g ∷ []) h.body) (sym waits_is) (before'.0, wants)

module _ (L : LoadRows) (s : State) (plans : Valid L) (tables : AreValidTables L.tables) (laid : Laid L s) (owned : Owned L (ledger_of L s)) (placed : Placed L (ledger_of L s)) (fits : Fitting L s) (clients : ClientsCall L s) (t c x i m : ℕ) (args : List Arg) (made : State)
    (enabled : is_enabled L s t ≡ true) (r : Calls L s t c x i m args made) (owned' : Owned L (ledger_of L (sweep_state made))) where
  abbrev z : State
  z = sweep_state made

  abbrev w : Wish
  w = record { target = x; method = m; args = args; charged = r.charged }

  ready : is_undone (row s.threads t) ≡ true
  ready = (not_waiting L s t enabled).0

  abbrev entry' : Entry
  entry' = entry.Call t c x i m args

  abbrev begun : StackFrame
  begun = r.frame

  within : (0 < t) × (t ≤ length s.stacks)
  within = ready_within L s t laid ready

  -- the stacks of the state in which the call is charged, and of the one after it
  module _ (front : List StackFrame) (here : stack r.charged t ≡ front) (there : (u : ℕ) → u ≢ t → stack r.charged u ≡ stack s u) (long : length r.charged.stacks ≡ length s.stacks) (instances : r.charged.instances ≡ s.instances) where
    stack_here : stack made t ≡ front ++ begun ∷ []
    stack_here = ap (λ (v : State). stack v t) r.becomes ∙ ap frames_of (row_set_same r.charged.stacks t (stack r.charged t ++ begun ∷ []) within.0 (let e = within.1 in omega (arith, long, e))) ∙ ap (λ fs. fs ++ begun ∷ []) here

    stack_there : (u : ℕ) → u ≢ t → stack made u ≡ stack s u
    stack_there u ne = ap (λ (v : State). stack v u) r.becomes ∙ ap frames_of (row_set_other r.charged.stacks t u (stack r.charged t ++ begun ∷ []) within.0 ne) ∙ there u ne

    instances' : made.instances ≡ s.instances
    instances' = ap (λ (v : State). v.instances) r.becomes ∙ instances

    begun_here : is_live z begun.instance ≡ true → BodyFits L z begun [] begun.body
    begun_here =
        let k = called L s t plans tables laid owned fits clients ready w r.wants in
        let stands' : instance_load s (current L s x) ≡ load_of_target L x = ap (instance_load s) (sym (current_same L s x k.target)) ∙ (placed.current_of x).1 in
        let load' : instance_load made i ≡ load_of_target L x = ap (λ is'. load_of_instance (row is' i)) instances' ∙ ap (instance_load s) r.into ∙ stands' in
        begun_fits L made plans (laid_row L s entry' made laid r) (laid_z L s entry' made laid owned placed r owned') owned' t c x i m args begun front (types_of L s) k.method r.begins stack_here k.target k.row k.suits
        (λ o in_z. types_kept L s entry' made plans tables laid owned placed fits r owned' (λ n. n) o in_z) (λ y. refl) k.apart load'

  -- a frame that calls
  module _ (wished : FrameWish L s t w) where
    abbrev caller' : StackFrame
    caller' = caller L s plans tables laid owned fits t ready w wished

    abbrev waits' : StackFrame
    waits' = waiting_caller L s plans tables laid owned fits t ready w wished

    abbrev below : List StackFrame
    below = below_top (stack s t)

    charged_here : stack r.charged t ≡ below ++ waits' ∷ []
    charged_here = stack_charged L s plans tables laid owned fits t ready w wished

    charged_there : (u : ℕ) → u ≢ t → stack r.charged u ≡ stack s u
    charged_there = others_charged L s plans tables laid owned fits t ready w wished

    long : length r.charged.stacks ≡ length s.stacks
    long = count_charged L s plans tables laid owned fits t ready w wished

    instances : r.charged.instances ≡ s.instances
    instances = instances_charged L s plans tables laid owned fits t ready w wished

    here : stack z t ≡ below ++ waits' ∷ (begun ∷ [])
    here = stack_here (below ++ waits' ∷ []) charged_here charged_there long instances ∙ append_assoc below (waits' ∷ []) (begun ∷ [])

    waits_fit : is_live z waits'.instance ≡ true → BodyFits L z waits' (begun ∷ []) waits'.body
    waits_fit lives =
        let is : begun ≡ _ = r.begins.is in
        let old = waits_here L s plans tables laid owned fits t ready w wished begun (ap (λ (g : StackFrame). g.target) is) (ap (λ (g : StackFrame). g.method) is) (ap (λ (g : StackFrame). g.args) is) in
        let same : made.instances ≡ s.instances = instances' (below ++ waits' ∷ []) charged_here charged_there long instances in
        body_kept L s z waits' (record {
          structs = λ o some. types_kept L s entry' made plans tables laid owned placed fits r owned' (λ n. n) o (present L z (laid_z L s entry' made laid owned placed r owned') owned' t o below (begun ∷ []) waits' here lives some);
          load = ap (λ is'. load_of_instance (row is' waits'.instance)) same;
          words = ap (λ is'. length (words_in (row is' waits'.instance))) same;
        }) (begun ∷ []) waits'.body refl old

    by_frame : (u : ℕ) → StackFits L z (stack z u)
    by_frame = all_fit L s entry' made laid owned placed r owned' t
        (changed_fits L s entry' made laid owned placed r owned' t caller' waits' below [] (begun ∷ []) (top_splits (stack s t) caller' (calling L s t plans tables laid owned fits ready w wished).on_top) here (waits_same L s t plans tables laid owned fits ready w wished) (fits.bodies t)
        (waits_fit, (begun_here (below ++ waits' ∷ []) charged_here charged_there long instances, tt)))
        (stack_there (below ++ waits' ∷ []) charged_here charged_there long instances) fits.bodies

  -- a client that calls
  by_client : ClientWish L s t w → (u : ℕ) → StackFits L z (stack z u)
  by_client wished =
      let charged : r.charged ≡ _ = ap (λ (v : Wish). v.charged) wished.is in
      let stacks' : r.charged.stacks ≡ s.stacks = ap (λ (v : State). v.stacks) charged in
      let alone : stack s t ≡ [] = (commands_as L s t (Commands (command.Call w.target w.method wished.given wished.names)) tt wished.wants).alone in
      let here : stack r.charged t ≡ [] = ap (λ st. frames_of (row st t)) stacks' ∙ alone in
      let there : (u : ℕ) → u ≢ t → stack r.charged u ≡ stack s u = λ u ne. ap (λ st. frames_of (row st u)) stacks' in
      let long : length r.charged.stacks ≡ length s.stacks = ap (λ xs. length xs) stacks' in
      let instances : r.charged.instances ≡ s.instances = ap (λ (v : State). v.instances) charged in
      all_fit L s entry' made laid owned placed r owned' t (subst (StackFits L z) (sym (stack_here [] here there long instances)) (begun_here [] here there long instances, tt)) (stack_there [] here there long instances) fits.bodies

  pub called_fits : (u : ℕ) → StackFits L z (stack z u)
  called_fits u = elim (wish_as L s t w r.wants) [
    | inl wished ↦ by_client wished u
    | inr wished ↦ by_frame wished u
  ]
