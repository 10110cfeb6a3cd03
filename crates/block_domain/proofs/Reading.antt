-- How far a `read` of the driver has come, and what its frame wants then.
use Rattle.std.proofs.Common.{◌≡◌, ℕ, ◌<◌, inl, inr, true, List, [], ◌∷◌, length, Option, Some, None, slice_get, slice_set, slice_index_or, refl, ap, sym, subst, ◌∙◌, arith, codes}
use Rattle.std.specs.Option.{option_map}
use Rattle.rl_defs.specs.declared.load.LoadRows.{LoadRows}
use Rattle.rl_defs.specs.declared.tables.Tables.{Tables}
use Rattle.rl_defs.specs.declared.tables.MethodRow.{MethodRow}
use Rattle.rl_defs.specs.declared.values.Value.{Value}
use Rattle.rl_defs.specs.declared.values.Value.TheVariants as value
use Rattle.rl_defs.specs.CodeNames.{methods_of, domain_trait}
use Rattle.rl_defs.specs.DomainValue.{Domain}
use Rattle.rl_defs.specs.Domains.{load_of_target, method_row_name, is_native, body_of_function}
use Rattle.rl_defs.specs.Registers.{Registers, Stand, value_in}
use Rattle.rl_defs.specs.Rows.{domain_of_load, trait_if, is_target}
use Rattle.rl_defs.specs.Valid.{Valid}
use Rattle.rl_defs.proofs.ValidFacts.{domain_tables, method_by_trait}
use Rattle.machine_defs.specs.declared.frame.Action.{Action}
use Rattle.machine_defs.specs.declared.frame.Action.TheVariants as action
use Rattle.machine_defs.specs.declared.frame.FrameBody.{FrameBody}
use Rattle.machine_defs.specs.declared.frame.FrameBody.TheVariants as body
use Rattle.machine_defs.specs.declared.values.Arg.{Arg}
use Rattle.machine_defs.specs.declared.values.Arg.TheVariants as arg
use Rattle.machine_defs.specs.Arguments.{entry_registers}
use Rattle.machine_defs.specs.State.{State, StackFrame, instance_load}
use Rattle.machine_defs.specs.Seen.{domain_of_instance, seen}
use Rattle.machine_defs.specs.Wants.{Acts, by_body}
use Rattle.machine_defs.specs.Frames.{Begins, BeginsBody, with_body}
use Rattle.machine_defs.specs.Steps.{Turn}
use Rattle.machine_defs.specs.Instructions.{Before, settle}
use Rattle.machine_laws.specs.LedgerOf.{frame_entry}
use Rattle.machine_laws.specs.Fitting.{CallFits}
use Rattle.machine_laws.proofs.Calls.{call_of}
use Rattle.machine_laws.proofs.CodeDoing.{settles_so}
use Rattle.block_domain.specs.Driver.{r0, r1}
use Rattle.block_domain.specs.Store.{cells_at, block_at}
use Rattle.block_domain.specs.Laws.{IsRead, Got}
use Rattle.block_domain.proofs.Lines.{driver, numbers_of, is_driver, not_native, read_begins, IsTrap, read_registers, wants_new, wants_block, wants_ret}

-- a frame is of a `read` of the driver
abbrev pub Reads : LoadRows → StackFrame → Type 0
Reads L f = IsRead L (call_of (frame_entry f))

-- It is to make its object; has made it, and is to get the block; or has got it, and is to return the object.
pub data Stage (L : LoadRows) (us : List Turn) (t : ℕ) (f : StackFrame) : Type 0 where
  Makes : f.body ≡ body.Code 6 (entry_registers f.args) → Stage L us t f
  Gets : (o : ℕ) → f.body ≡ body.Code 7 (read_registers f.args o) → Stage L us t f
  Gives : (o b : ℕ) → f.body ≡ body.Code 8 (read_registers f.args o) → slice_get f.args 0 ≡ Some (arg.Num b) → (got : Got L us t o b) → cells_at L us o ≡ block_at L got.earlier b → Stage L us t f

-- the registers of a frame
more_than_one : (args : List Arg) → 1 < length (entry_registers args)
more_than_one [] = omega arith
more_than_one (a ∷ []) = omega arith
more_than_one (a ∷ b ∷ args) = omega arith

value_set : (xs : List (Option Value)) (v : Option Value) → 1 < length xs → slice_index_or (slice_set xs 1 v) 1 None ≡ v
value_set [] v lt = absurd (omega (arith, lt))
value_set (x ∷ []) v lt = absurd (omega (arith, lt))
value_set (x ∷ y ∷ xs) v lt = refl

value_kept : (xs : List (Option Value)) (v : Option Value) → slice_index_or (slice_set xs 1 v) 0 None ≡ slice_index_or xs 0 None
value_kept [] v = refl
value_kept (x ∷ []) v = refl
value_kept (x ∷ y ∷ xs) v = refl

pub object_read : (args : List Arg) (o : ℕ) → value_in (read_registers args o) r1 ≡ Some (value.Obj o)
object_read args o = value_set (entry_registers args) (Some (value.Obj o)) (more_than_one args)

-- a number in the first register is the first argument
first_argument : (args : List Arg) (o b : ℕ) → value_in (read_registers args o) r0 ≡ Some (value.Num b) → slice_get args 0 ≡ Some (arg.Num b)
first_argument args o b is = go args (sym (value_kept (entry_registers args) (Some (value.Obj o))) ∙ is)
  where
    go : (args : List Arg) → slice_index_or (entry_registers args) 0 None ≡ Some (value.Num b) → slice_get args 0 ≡ Some (arg.Num b)
    go [] e = absurd cc
    go (arg.Num n ∷ args') e = let same : n ≡ b = cc in ap (λ n. Some (arg.Num n)) same
    go (arg.Moved q ∷ args') e = absurd cc
    go (arg.Lent q ∷ args') e = absurd cc
    go (arg.Cap x ∷ args') e = absurd cc

-- What it wants in each stage, but for a trap.
pub data Wants (L : LoadRows) (us : List Turn) (t : ℕ) (f : StackFrame) (act : Action) : Type 0 where
  WantsTrap : IsTrap act → Wants L us t f act
  WantsNew : f.body ≡ body.Code 6 (entry_registers f.args) → (ty : ℕ) → act ≡ action.New ty → Wants L us t f act
  WantsBlock : (o b : ℕ) → f.body ≡ body.Code 7 (read_registers f.args o) → slice_get f.args 0 ≡ Some (arg.Num b) → act ≡ action.DevGet o b → Wants L us t f act
  WantsRet : (o b : ℕ) → slice_get f.args 0 ≡ Some (arg.Num b) → (got : Got L us t o b) → cells_at L us o ≡ block_at L got.earlier b → act ≡ action.Ret (value.Obj o ∷ []) → Wants L us t f act

module _ (L : LoadRows) (f : StackFrame) (reads : Reads L f) where
  abbrev pub numbers : List ℕ
  numbers = numbers_of (domain_of_load L (load_of_target L f.target)).lines

  abbrev pub tables : Tables
  tables = (domain_of_load L (load_of_target L f.target)).tables

  pub domain_is : domain_of_load L (load_of_target L f.target) ≡ driver numbers tables
  domain_is = is_driver L (load_of_target L f.target) reads.driver

  -- a call begins at the first line of its function, whoever it is in
  pub begins_read : (z made : State) (c x i m : ℕ) (args : List Arg) → Valid L → CallFits L z f → Begins L made c x i m args f → f.body ≡ body.Code 6 (entry_registers f.args)
  begins_read z made c x i m args valid call begins = go f.body refl begins.body
    where
      named : call.method.name ≡ codes "read"
      named = ap method_row_name (sym call.row) ∙ reads.method

      trait : trait_if L (is_target L f.target) f.target ≡ domain_trait (domain_of_load L (load_of_target L f.target))
      trait = rw call.target refl

      found : slice_get (methods_of L.tables (domain_trait (domain_of_load L (load_of_target L f.target)))) f.method ≡ Some call.method
      found = sym (ap (λ t. slice_get (methods_of L.tables t) f.method) trait) ∙ sym (method_by_trait L valid f.target f.method call.target) ∙ call.row

      here : slice_get (methods_of (domain_of_load L (load_of_target L f.target)).tables (domain_trait (domain_of_load L (load_of_target L f.target)))) f.method ≡ Some call.method
      here = subst (λ tb. slice_get (methods_of tb (domain_trait (domain_of_load L (load_of_target L f.target)))) f.method ≡ Some call.method) (sym (domain_tables L valid (load_of_target L f.target))) found

      first : body_of_function (domain_of_load L (load_of_target L f.target)).lines call.method.name ≡ 6
      first = ap (body_of_function (domain_of_load L (load_of_target L f.target)).lines) named ∙ ap (λ (e : Domain). body_of_function e.lines (codes "read")) domain_is ∙ read_begins numbers tables

      go : (b : FrameBody Action) → f.body ≡ b → BeginsBody L made f b → f.body ≡ body.Code 6 (entry_registers f.args)
      go (body.Code at regs) is begun =
          let at_is : option_map (λ (r : MethodRow). body_of_function (domain_of_load L (load_of_target L f.target)).lines r.name) (Some call.method) ≡ Some at = rw here at begun.1 in
          let at_first : at ≡ 6 = (let e : body_of_function (domain_of_load L (load_of_target L f.target)).lines call.method.name ≡ at = cc in sym e ∙ first) in
          is ∙ ap (λ n. body.Code n regs) at_first ∙ ap (body.Code 6) begun.2
      go (body.Native held next) is begun = absurd (not_native numbers tables (subst (λ (d : Domain). is_native d.lines ≡ true) domain_is begun.0))

  -- what it wants in each of the three stages
  module _ (s : State) (fuel : ℕ) (act : Action) (rest : ℕ) (frame : StackFrame) (placed : instance_load s f.instance ≡ load_of_target L f.target) where
    here_is : domain_of_instance L s f.instance ≡ driver numbers tables
    here_is = ap (domain_of_load L) placed ∙ domain_is

    settled_here : (at : ℕ) (regs : Registers) → by_body L s fuel f (body.Code at regs) ≡ Acts act rest frame
        → (stand : Stand) × (settle (driver numbers tables) (seen L s f.instance) (length s.objects) fuel (record { at = at; regs = regs }) ≡ Before act rest stand) × (frame ≡ with_body f (body.Code stand.at stand.regs))
    settled_here at regs by =
        let r = settles_so L s f at fuel regs act rest frame by in
        (r.stand, subst (λ d. settle d (seen L s f.instance) (length s.objects) fuel (record { at = at; regs = regs }) ≡ Before act rest r.stand) here_is r.settles, r.frame_is)

    settled_in : (at : ℕ) (regs : Registers) → f.body ≡ body.Code at regs → by_body L s fuel f f.body ≡ Acts act rest frame
        → (stand : Stand) × (settle (driver numbers tables) (seen L s f.instance) (length s.objects) fuel (record { at = at; regs = regs }) ≡ Before act rest stand) × (frame ≡ with_body f (body.Code stand.at stand.regs))
    settled_in at regs is by = settled_here at regs (subst (λ b. by_body L s fuel f b ≡ Acts act rest frame) is by)

    -- the frame stays, since it stands before its action already
    stays : (at : ℕ) (regs : Registers) (stand : Stand) → f.body ≡ body.Code at regs → frame ≡ with_body f (body.Code stand.at stand.regs) → stand ≡ record { at = at; regs = regs } → frame ≡ f
    stays at regs stand is frame_is here = frame_is ∙ ap (λ (st : Stand). with_body f (body.Code st.at st.regs)) here ∙ ap (with_body f) (sym is)

    pub wants_in : (us : List Turn) (t : ℕ) → Stage L us t f → by_body L s fuel f f.body ≡ Acts act rest frame → (frame ≡ f) × Wants L us t f act
    wants_in us t (Makes is) by =
        let r = settled_in 6 (entry_registers f.args) is by in
        let w = wants_new numbers tables (seen L s f.instance) (length s.objects) fuel act rest r.0 (entry_registers f.args) r.1 in (
          stays 6 (entry_registers f.args) r.0 is r.2 w.0,
          elim w.1 [
            | inl trap ↦ WantsTrap trap
            | inr new ↦ WantsNew is new.0 new.1
          ],
        )
    wants_in us t (Gets o is) by =
        let regs : Registers = read_registers f.args o in
        let r = settled_in 7 regs is by in
        let w = wants_block numbers tables (seen L s f.instance) (length s.objects) fuel act rest r.0 regs o (object_read f.args o) r.1 in (
          stays 7 regs r.0 is r.2 w.0,
          elim w.1 [
            | inl trap ↦ WantsTrap trap
            | inr get ↦ WantsBlock o get.0 is (first_argument f.args o get.0 get.1) get.2
          ],
        )
    wants_in us t (Gives o b is asked got cells) by =
        let regs : Registers = read_registers f.args o in
        let r = settled_in 8 regs is by in
        let w = wants_ret numbers tables (seen L s f.instance) (length s.objects) fuel act rest r.0 regs o (object_read f.args o) r.1 in (
          stays 8 regs r.0 is r.2 w.0,
          elim w.1 [
            | inl trap ↦ WantsTrap trap
            | inr ret ↦ WantsRet o b asked got cells ret
          ],
        )
