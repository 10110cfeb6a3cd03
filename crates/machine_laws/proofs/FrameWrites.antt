-- What a frame puts into cells, slots and blocks fits there, whether it runs code or a native body.
use Rattle.std.proofs.Common.{◌≡◌, ℕ, zero, suc, ◌+◌, ◌<◌, ◌==◌, nat_lt, Bool, true, false, List, [], ◌∷◌, drop, Option, Some, None, slice_get, refl, ap, sym, subst, ◌∙◌, inl, inr, ltb-true}
use Rattle.std.proofs.lemmas.Bool.{cases_Bool}
use Rattle.machine_defs.specs.declared.values.Cause.TheVariants as cause
use Rattle.rl_defs.specs.declared.code.Instr.{Instr}
use Rattle.rl_defs.specs.declared.tables.Width.TheVariants as width
use Rattle.rl_defs.specs.declared.tables.Kind.{Kind}
use Rattle.rl_defs.specs.declared.tables.Kind.TheVariants as kind
use Rattle.machine_defs.specs.declared.frame.Action.{Action}
use Rattle.machine_defs.specs.declared.frame.Action.TheVariants as action
use Rattle.machine_defs.specs.declared.frame.FrameBody.{FrameBody}
use Rattle.machine_defs.specs.declared.frame.FrameBody.TheVariants as body
use Rattle.rl_defs.specs.declared.load.LoadRows.{LoadRows}
use Rattle.rl_defs.specs.DomainValue.{Domain}
use Rattle.machine_defs.specs.Sight.{Sight}
use Rattle.rl_defs.specs.CodeNames.{cells_of, struct_number, type_at, slots as slots_declared}
use Rattle.rl_defs.specs.CodeKinds.{Kinds, kinds_at, hung_in as hung_kind_in}
use Rattle.machine_defs.specs.CodeLaws.{Acts as ActsAt}
use Rattle.rl_defs.specs.NativeShapes.{has_cells}
use Rattle.rl_defs.specs.Registers.{Stand}
use Rattle.machine_defs.specs.Instructions.{Would, work}
use Rattle.machine_defs.specs.State.{State, StackFrame}
use Rattle.machine_defs.specs.Loans.{object_of}
use Rattle.machine_defs.specs.Wants.{Acts}
use Rattle.machine_defs.specs.State.{instance_load}
use Rattle.machine_defs.specs.Objects.{kinds_of}
use Rattle.machine_defs.specs.Seen.{domain_of_instance, blocks_seen, seen}
use Rattle.machine_defs.specs.NativeFits.{CanChoose}
use Rattle.machine_defs.specs.Seen.{types_of}
use Rattle.rl_defs.specs.Widths.{numbers_suit}
use Rattle.machine_defs.specs.Wants.{by_body}
use Rattle.rl_defs.proofs.ValidFacts.{domain_tables}
use Rattle.machine_laws.specs.Shape.{Laid}
use Rattle.machine_laws.specs.Fitting.{CodeRuns, BodyFits, Fitting}
use Rattle.machine_laws.proofs.Acting.{ActsAs}
use Rattle.machine_laws.proofs.Retyping.{kinds_by_struct}
use Rattle.machine_laws.proofs.Sights.{sees}
use Rattle.machine_laws.proofs.OwnWork.{settle_keeps}
use Rattle.machine_laws.proofs.OwnFits.{FitsAct, act_fits}
use Rattle.machine_laws.proofs.OwnWrites.{WriteFits, act_writes}
use Rattle.machine_laws.proofs.OwnDoing.{native_kept}
use Rattle.machine_laws.proofs.CodeDoing.{NotTrap, settles_so, keeps_rules, body_fits}
use Rattle.rl_defs.specs.Valid.{Valid, AreValidTables}

-- what an action of a frame of instance i puts somewhere fits there
abbrev pub PutsFit : LoadRows → State → ℕ → Action → Type 0
PutsFit L s i (action.Set o place values) = numbers_suit (drop place (kinds_of L (object_of s o))) values ≡ true
PutsFit L s i (action.Put k o) = (types_of L s).struct_of o ≡ struct_number L.tables (type_at (slots_declared (domain_of_instance L s i).lines) (Some k))
PutsFit L s i (action.DevGet o b) = (has_cells 64 width.W64 (kinds_of L (object_of s o)) ≡ true) × (b < L.blocks)
PutsFit L s i (action.DevPut b o) = has_cells 64 width.W64 (kinds_of L (object_of s o)) ≡ true
PutsFit L s i (action.Hang q place o) = slice_get (kinds_of L (object_of s q)) place ≡ Some (kind.Own ((types_of L s).struct_of o))
PutsFit L s i act = Unit {0}

-- a cell for an object
hung_kind : (k : Option Kind) (s : ℕ) → hung_kind_in k ≡ Some s → k ≡ Some (kind.Own s)
hung_kind None s is = absurd cc
hung_kind (Some (kind.Own t)) s is = let e : t ≡ s = cc in rw e refl
hung_kind (Some (kind.Num w)) s is = absurd cc
hung_kind (Some (kind.Lent t)) s is = absurd cc
hung_kind (Some (kind.Cap t)) s is = absurd cc

-- a block that is seen is one of the device
block_within : (L : LoadRows) (k b : ℕ) → nat_lt b (blocks_seen L k) ≡ true → b < L.blocks
block_within L k b is = elim (cases_Bool (k == L.device_load)) [
  | inl e ↦ let h : nat_lt b L.blocks ≡ true = rw e at is in ltb-true b L.blocks h
  | inr e ↦ absurd (let h : nat_lt b 0 ≡ true = rw e at is in let lt = ltb-true b 0 h in omega (Rattle.std.proofs.Common.arith, lt))
]

module _ (L : LoadRows) (s : State) (plans : Valid L) (tables : AreValidTables L.tables) (laid : Laid L s) (fits : Fitting L s) (t : ℕ) (act : Action) (rest : ℕ) (frame : StackFrame) (doing : ActsAs L s t act rest frame) (no_trap : NotTrap act) where
  abbrev d : Domain
  d = domain_of_instance L s doing.f.instance

  cells_same : (o : ℕ) → cells_of d.tables ((types_of L s).struct_of o) ≡ kinds_of L (object_of s o)
  cells_same o = ap (λ tables. cells_of tables ((types_of L s).struct_of o)) (domain_tables L plans (instance_load s doing.f.instance)) ∙ sym (kinds_by_struct L s o)

  from_code : (n live : ℕ) (kinds : Kinds) (i : Instr) (a : Action) → WriteFits (types_of L s) d a → FitsAct (types_of L s) d n (seen L s doing.f.instance) live kinds i a → PutsFit L s doing.f.instance a
  from_code n live kinds i (action.Set o place values) w can = subst (λ ks. numbers_suit (drop place ks) values ≡ true) (cells_same o) w
  from_code n live kinds i (action.Put k o) w can = can.1 ∙ ap (λ tables. struct_number tables (type_at (slots_declared d.lines) (Some k))) (domain_tables L plans (instance_load s doing.f.instance))
  from_code n live kinds i (action.DevGet o b) w can = (subst (λ ks. has_cells 64 width.W64 ks ≡ true) (cells_same o) w, block_within L (instance_load s doing.f.instance) b can.0)
  from_code n live kinds i (action.DevPut b o) w can = subst (λ ks. has_cells 64 width.W64 ks ≡ true) (cells_same o) w
  from_code n live kinds i (action.Hang q place o) w can = subst (λ ks. slice_get ks place ≡ Some (kind.Own ((types_of L s).struct_of o))) (cells_same q) (hung_kind (slice_get (cells_of d.tables ((types_of L s).struct_of q)) place) ((types_of L s).struct_of o) can.1)
  from_code n live kinds i other w can = tt

  from_native : (holds : List ℕ) (a : Action) → CanChoose L s doing.f holds a → PutsFit L s doing.f.instance a
  from_native holds (action.Set o place values) can = can.suits
  from_native holds (action.Put k o) can = absurd can
  from_native holds (action.DevGet o b) can = absurd can
  from_native holds (action.DevPut b o) can = absurd can
  from_native holds (action.Hang q place o) can = absurd can
  from_native holds other can = tt

  pub puts_fit : PutsFit L s doing.f.instance act
  puts_fit = go doing.f.body refl
    where
      go : (b : FrameBody Action) → doing.f.body ≡ b → PutsFit L s doing.f.instance act
      go (body.Code at regs) is =
          let f : StackFrame = doing.f in
          let keeps = keeps_rules L s f.instance plans fits doing.lives in
          let sight = sees L s f.instance plans laid fits doing.lives in
          let by : by_body L s doing.thread.fuel f (body.Code at regs) ≡ Acts act rest frame = subst (λ b. by_body L s doing.thread.fuel f b ≡ Acts act rest frame) is doing.by in
          let at_rest = settles_so L s f at doing.thread.fuel regs act rest frame by in
          let runs : CodeRuns L s f at regs = (subst (BodyFits L s f []) is (body_fits L s plans tables laid fits t act rest frame doing)).1 in
          let settled = settle_keeps d (types_of L s) f.lent (seen L s f.instance) _ doing.thread.fuel (record { at = at; regs = regs }) act rest at_rest.stand keeps sight runs.stands runs.parted at_rest.settles in
          let works = would (seen L s f.instance) _ at_rest.stand settled.acts in
          from_code at_rest.stand.at _ (kinds_at d at_rest.stand.at) settled.instr act
          (act_writes d (types_of L s) (seen L s f.instance) _ settled.instr at_rest.stand act keeps sight settled.fits settled.at works)
          (act_fits d (types_of L s) (seen L s f.instance) _ settled.instr at_rest.stand act keeps sight settled.fits settled.at works)
        where
          would : (sight : Sight) (live : ℕ) (stand : Stand) → ActsAt d sight live rest stand act → work d sight live stand ≡ Would act
          would sight live stand (inl a) = absurd (no_trap cause.Fuel a.1)
          would sight live stand (inr w) = w
      go (body.Native holds kept) is =
          let kept' = native_kept L s doing.f doing.thread.fuel holds kept act rest frame (subst (λ b. by_body L s doing.thread.fuel doing.f b ≡ Acts act rest frame) is doing.by) no_trap in
          let can = (subst (BodyFits L s doing.f []) is (body_fits L s plans tables laid fits t act rest frame doing)).1 in
          from_native holds act (subst (CanChoose L s doing.f holds) (sym kept'.1) can)
