-- A frame that begins fits.
use Rattle.std.proofs.Common.{◌≡◌, ℕ, ◌<◌, true, false, List, [], ◌∷◌, ◌++◌, length, Some, slice_get, refl, ap, ap₂, sym, subst, ◌∙◌}
use Rattle.machine_defs.specs.declared.values.Arg.{Arg}
use Rattle.machine_defs.specs.declared.values.Owner.TheVariants as owner
use Rattle.rl_defs.specs.declared.tables.MethodRow.{MethodRow}
use Rattle.machine_defs.specs.declared.frame.Action.{Action}
use Rattle.machine_defs.specs.declared.frame.FrameBody.{FrameBody}
use Rattle.machine_defs.specs.declared.frame.FrameBody.TheVariants as body
use Rattle.rl_defs.specs.declared.load.LoadRows.{LoadRows}
use Rattle.rl_defs.specs.DomainValue.{Domain}
use Rattle.rl_defs.specs.Domains.{load_of_target, method_of, is_native}
use Rattle.rl_defs.specs.CodeNames.{methods_of, method_number, domain_trait, row_at, method_at, method_of_function}
use Rattle.rl_defs.specs.Registers.{Typing}
use Rattle.machine_defs.specs.CodeLaws.{FitsArguments}
use Rattle.machine_defs.specs.State.{State, StackFrame, Root, is_live, stack}
use Rattle.machine_defs.specs.Loans.{count, sweep as sweep_state}
use Rattle.machine_defs.specs.Arguments.{has, moved_of, lent_of, entry_registers}
use Rattle.machine_defs.specs.State.{instance_load}
use Rattle.rl_defs.specs.CodeNames.{entry_at}
use Rattle.rl_defs.specs.Rows.{domain_of_load}
use Rattle.machine_defs.specs.Seen.{domain_of_instance}
use Rattle.machine_defs.specs.NativeFits.{args_suit}
use Rattle.machine_defs.specs.Seen.{types_of}
use Rattle.rl_defs.specs.Rows.{trait_if, is_target}
use Rattle.machine_defs.specs.Frames.{with_body, BeginsBody, Begins}
use Rattle.machine_defs.specs.Sound.{own_of}
use Rattle.rl_defs.proofs.ValidFacts.{domain_at, domain_tables, method_by_trait as trait_method, method_numbered, shadow_loads, target_there, target_within}
use Rattle.machine_laws.specs.LedgerOf.{ledger_of}
use Rattle.machine_laws.specs.LedgerSound.{Owned}
use Rattle.machine_laws.specs.Shape.{Laid}
use Rattle.machine_laws.specs.Fitting.{BodyFits}
use Rattle.machine_laws.proofs.Seats.{IsIn}
use Rattle.machine_laws.proofs.Present.{own_root, lent_root, seated}
use Rattle.machine_laws.proofs.Retyping.{args_same}
use Rattle.machine_laws.proofs.OwnEntries.{begins_own}
use Rattle.machine_laws.proofs.OwnFits.{args_are_values, args_pass}
use Rattle.machine_laws.proofs.OwnFunctions.{entry_function}
use Rattle.machine_laws.proofs.CodeDoing.{load_there}
use Rattle.machine_laws.proofs.CallSteps.{begun_entry}
use Rattle.machine_laws.proofs.DoingFits.{code_on_top, native_on_top}
use Rattle.machine_laws.proofs.Counts.{has_counted}
use Rattle.rl_defs.specs.Valid.{Valid}

-- the arguments of a method, over the tables of the domain that has it
abbrev pub arguments_fit : (L : LoadRows) (x m : ℕ) (args : List Arg) (types : Typing) (method : MethodRow) → Valid L → is_target L x ≡ true → method_of L x m ≡ Some method → args_suit types method.params args ≡ true → FitsArguments types (domain_of_load L (load_of_target L x)) m args
arguments_fit L x m args types method plans target row suits =
    let d : Domain = domain_of_load L (load_of_target L x) in
    let tables : d.tables ≡ L.tables = domain_tables L plans (load_of_target L x) in
    let trait : trait_if L (is_target L x) x ≡ domain_trait d = rw target refl in
    let found : slice_get (methods_of L.tables (domain_trait d)) m ≡ Some method = sym (ap (λ t. slice_get (methods_of L.tables t) m) trait) ∙ sym (trait_method L plans x m target) ∙ row in
    record {
      method = method;
      named = subst (λ tb. method_number tb (domain_trait d) method.name ≡ Some m) (sym tables) (method_numbered L.tables plans.tables (domain_trait d) m method found);
      row = subst (λ tb. slice_get (methods_of tb (domain_trait d)) m ≡ Some method) (sym tables) found;
      values = args_are_values types method.params args suits;
    }

-- the function at which a call begins is that of its method
method_begun : (L : LoadRows) (x m place : ℕ) (args : List Arg) (types : Typing) (method : MethodRow) → (given : FitsArguments types (domain_of_load L (load_of_target L x)) m args) → method_of L x m ≡ Some method → given.method ≡ method → entry_at (domain_of_load L (load_of_target L x)) m ≡ Some place → place < length (domain_of_load L (load_of_target L x)).lines
    → method_at (domain_of_load L (load_of_target L x)) place ≡ method_of L x m
method_begun L x m place args types method given row same at lt =
    let d : Domain = domain_of_load L (load_of_target L x) in
    let function = entry_function d types m place args given at lt in
    ap (method_of_function d) function ∙ ap (row_at (methods_of d.tables (domain_trait d))) given.named ∙ given.row ∙ ap (λ r. Some r) same ∙ sym row

module _ (L : LoadRows) (made : State) (plans : Valid L) (laid : Laid L made) (laid' : Laid L (sweep_state made)) (owned' : Owned L (ledger_of L (sweep_state made))) (t c x i m : ℕ) (args : List Arg) (f : StackFrame) (below : List StackFrame) (types : Typing) (method : MethodRow)
    (begins : Begins L made c x i m args f) (here : stack made t ≡ below ++ f ∷ []) (target : is_target L x ≡ true) (row : method_of L x m ≡ Some method) (suits : args_suit types method.params args ≡ true)
    (typed : (o : ℕ) → IsIn (sweep_state made) o → (types_of L (sweep_state made)).struct_of o ≡ types.struct_of o) (traits : (y : ℕ) → (types_of L (sweep_state made)).trait_of y ≡ types.trait_of y)
    (apart : (o : ℕ) → 0 < count o (moved_of args) → 0 < count o (lent_of args) → ⊥) (load' : instance_load made i ≡ load_of_target L x) where
  abbrev z : State
  z = sweep_state made

  args_is : f.args ≡ args
  args_is = ap (λ (g : StackFrame). g.args) begins.is

  lent_is : f.lent ≡ lent_of args
  lent_is = ap (λ (g : StackFrame). g.lent) begins.is

  inside_is : f.instance ≡ i
  inside_is = ap (λ (g : StackFrame). g.instance) begins.is

  target_is : f.target ≡ x
  target_is = ap (λ (g : StackFrame). g.target) begins.is

  method_is : f.method ≡ m
  method_is = ap (λ (g : StackFrame). g.method) begins.is

  suits_now : is_live z f.instance ≡ true → args_suit (types_of L z) method.params args ≡ true
  suits_now lives = args_same types (types_of L z) method.params args
      (λ o some. typed o (
      let own' : own_of f ≡ moved_of args = ap (λ (g : Rattle.machine_laws.specs.Ledger.LedgerFrame). g.own) (begun_entry L made c x i m args f apart begins) in
      let counted : 0 < count o (own_of f) = subst (λ os. 0 < count o os) (sym own') (has_counted (moved_of args) o some) in
      seated z o (Root (owner.Instance f.instance)) (own_root L z laid' owned' t o below [] f here lives counted)))
      (λ o some. typed o (let r = lent_root L z laid' owned' t o below [] f here (subst (λ os. has os o ≡ true) (sym lent_is) some) in seated z o (Root r.0) r.1))
      traits suits

  pub begun_fits : is_live z f.instance ≡ true → BodyFits L z f [] f.body
  begun_fits lives = go f.body refl begins.body
    where
      d : Domain
      d = domain_of_load L (load_of_target L x)

      domain : domain_of_instance L made f.instance ≡ domain_of_load L (load_of_target L x)
      domain = ap (domain_of_load L) (ap (instance_load made) inside_is ∙ load')

      go : (b : FrameBody Action) → f.body ≡ b → BeginsBody L made f f.body → BodyFits L z f [] f.body
      go (body.Code at regs) is begins' =
          let known : BeginsBody L made f (body.Code at regs) = subst (BeginsBody L made f) is begins' in
          let at_is : entry_at (domain_of_load L (load_of_target L x)) m ≡ Some at = subst (λ y. entry_at (domain_of_load L (load_of_target L y)) m ≡ Some at) target_is (subst (λ n. entry_at (domain_of_load L (load_of_target L f.target)) n ≡ Some at) method_is known.1) in
          let native : is_native (domain_of_load L (load_of_target L x)).lines ≡ false = subst (λ y. is_native (domain_of_load L (load_of_target L y)).lines ≡ false) target_is known.0 in
          let regs_is : regs ≡ entry_registers args = known.2 ∙ ap entry_registers args_is in
          let suits' = suits_now lives in
          let given = arguments_fit L x m args (types_of L z) method plans target row suits' in
          let l = load_there L (load_of_target L x) (target_there L (shadow_loads L plans) x target) (target_within L (shadow_loads L plans) x) in
          let keeps = (domain_at L plans (load_of_target L x) l.0 l.1).is.keeps in
          let begun = begins_own (domain_of_load L (load_of_target L x)) (types_of L z) m at args keeps native given at_is (args_pass (types_of L z) method.params args suits') apart in
          let is' : f ≡ with_body f (body.Code at (entry_registers args)) = ap (with_body f) (is ∙ ap (body.Code at) regs_is) in
          code_on_top L z t below f f (types_of L z) (domain_of_load L (load_of_target L x)) at (entry_registers args) laid' owned' is' here lives domain native begun.fits (subst (λ os. Rattle.machine_laws.specs.Registers.Parted os (Rattle.rl_defs.specs.CodeKinds.kinds_at (domain_of_load L (load_of_target L x)) at) (entry_registers args)) (sym lent_is) begun.parted)
          (method_begun L x m at args (types_of L z) method given row refl at_is begun.fits.within ∙ sym (ap₂ (method_of L) target_is method_is)) (λ o there. refl) (λ y. refl)
      go (body.Native held next) is begins' =
          let known : BeginsBody L made f (body.Native held next) = subst (BeginsBody L made f) is begins' in
          let native : is_native (domain_of_instance L made f.instance).lines ≡ true = subst (λ y. is_native y.lines ≡ true) (sym (domain ∙ ap (λ y. domain_of_load L (load_of_target L y)) (sym target_is))) known.0 in
          native_on_top L made t below f f held next laid laid' owned' (ap (with_body f) is) here lives native known.2
