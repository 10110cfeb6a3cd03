-- A frame that did something fits after it, and so does its stack.
use Rattle.std.proofs.Common.{◌≡◌, ◌≢◌, ℕ, ◌-◌, ◌<◌, ◌≤◌, true, false, List, [], ◌∷◌, ◌++◌, length, slice_set, refl, ap, sym, subst, ◌∙◌}
use Rattle.std.proofs.lemmas.Bool.{or_left}
use Rattle.machine_defs.specs.declared.entry.Entry.{Entry}
use Rattle.machine_defs.specs.declared.frame.Action.{Action}
use Rattle.machine_defs.specs.declared.frame.Action.TheVariants as action
use Rattle.machine_defs.specs.declared.frame.Answer.{Answer}
use Rattle.machine_defs.specs.declared.frame.FrameBody.{FrameBody}
use Rattle.machine_defs.specs.declared.frame.FrameBody.TheVariants as body
use Rattle.rl_defs.specs.declared.load.LoadRows.{LoadRows}
use Rattle.rl_defs.specs.DomainValue.{Domain}
use Rattle.rl_defs.specs.Domains.{method_of, is_native}
use Rattle.rl_defs.specs.CodeNames.{method_at}
use Rattle.rl_defs.specs.CodeKinds.{kinds_at}
use Rattle.rl_defs.specs.Registers.{Typing}
use Rattle.machine_defs.specs.CodeFits.{FitsStand}
use Rattle.rl_defs.specs.Registers.{Registers}
use Rattle.machine_defs.specs.State.{State, StackFrame, is_live, stack, frames_of}
use Rattle.rl_defs.specs.Rows.{row}
use Rattle.machine_defs.specs.Loans.{sweep as sweep_state}
use Rattle.machine_defs.specs.Arguments.{has}
use Rattle.machine_defs.specs.Calling.{is_undone}
use Rattle.machine_defs.specs.State.{instance_load}
use Rattle.rl_defs.specs.Rows.{domain_of_load}
use Rattle.machine_defs.specs.Seen.{domain_of_instance}
use Rattle.machine_defs.specs.NativeFits.{CanChoose}
use Rattle.machine_defs.specs.Seen.{types_of}
use Rattle.machine_defs.specs.Frames.{below_top, with_body, held_after, AnswersBody}
use Rattle.machine_defs.specs.ObjectRows.{Does}
use Rattle.machine_defs.specs.Steps.{Row as RowOf}
use Rattle.machine_laws.specs.LedgerOf.{ledger_of}
use Rattle.machine_laws.specs.LedgerSound.{Owned, Placed}
use Rattle.machine_laws.specs.Shape.{Laid}
use Rattle.machine_laws.specs.Registers.{Parted, Retyped, received}
use Rattle.machine_laws.specs.Fitting.{BodyFits, StackFits, Fitting}
use Rattle.machine_laws.proofs.Rows.{row_set_same, row_set_other}
use Rattle.machine_laws.proofs.Stacks.{top_splits}
use Rattle.machine_laws.proofs.Seats.{IsIn}
use Rattle.machine_laws.proofs.Tops.{client_stack}
use Rattle.machine_laws.proofs.Types.{AnyHow, structs_same, stays_sweep}
use Rattle.machine_laws.proofs.Retyping.{body_objects, has_object, register_has, choice_kept}
use Rattle.machine_laws.proofs.Present.{present}
use Rattle.machine_laws.proofs.FrameRows.{doing, actor, actor_after}
use Rattle.machine_laws.proofs.LaidRows.{laid_row}
use Rattle.machine_laws.proofs.OwnEntries.{stand_retyped}
use Rattle.machine_laws.proofs.OwnAnswers.{Unlent}
use Rattle.machine_laws.proofs.CodeDoing.{body_fits}
use Rattle.machine_laws.proofs.OwnDoing.{IsDone, Answered, code_went, native_went}
use Rattle.machine_laws.proofs.Agreeing.{laid_z, all_fit, changed_fits}
use Rattle.rl_defs.specs.Valid.{Valid, AreValidTables}

-- the same choice, whatever the frame's body
pub choice_moved : (L : LoadRows) (s : State) (f : StackFrame) (b : FrameBody Action) (held : List ℕ) (act : Action) → CanChoose L s f held act → CanChoose L s (with_body f b) held act
choice_moved L s f b held (action.Wput k v) can = record { inside = can.inside; width = can.width }
choice_moved L s f b held (action.Call x m args) can = record { import = can.import; bound = can.bound; method = can.method; row = can.row; suits = can.suits; moves = can.moves; lends = can.lends; once = can.once; apart = can.apart; room = can.room }
choice_moved L s f b held (action.Ret results) can = record { method = can.method; row = can.row; suits = can.suits; all = can.all }
choice_moved L s f b held other can = can

-- A frame with new code on top of a stack of the new state fits there, where its registers fit a typing that agrees.
pub code_on_top : (L : LoadRows) (z : State) (t : ℕ) (below : List StackFrame) (f after : StackFrame) (types : Typing) (d : Domain) (at : ℕ) (regs : Registers) → Laid L z → Owned L (ledger_of L z) → after ≡ with_body f (body.Code at regs) → stack z t ≡ below ++ after ∷ [] → is_live z after.instance ≡ true
    → domain_of_instance L z f.instance ≡ d → is_native d.lines ≡ false → FitsStand types d (record { at = at; regs = regs }) → Parted f.lent (kinds_at d at) regs → method_at d at ≡ method_of L f.target f.method
    → ((o : ℕ) → IsIn z o → (types_of L z).struct_of o ≡ types.struct_of o) → ((x : ℕ) → (types_of L z).trait_of x ≡ types.trait_of x) → BodyFits L z after [] after.body
code_on_top L z t below f after types d at regs laid owned is here lives domain native fits parted method typed traits =
    subst (λ (g : StackFrame). BodyFits L z g [] g.body) (sym is) (
      by_domain (domain_of_instance L z f.instance) domain native',
      record {
        stands = subst (λ x. FitsStand (types_of L z) x (record { at = at; regs = regs })) (sym domain) (stand_retyped types (types_of L z) d (record { at = at; regs = regs }) re fits);
        parted = subst (λ x. Parted f.lent (kinds_at x at) regs) (sym domain) parted;
        method = subst (λ x. method_at x at ≡ method_of L f.target f.method) (sym domain) method;
      },
    )
  where
    native' : is_native d.lines ≡ false
    native' = native

    by_domain : (x : Domain) → x ≡ d → is_native d.lines ≡ false → is_native x.lines ≡ false
    by_domain x e n = subst (λ y. is_native y.lines ≡ false) (sym e) n

    re : Retyped types (types_of L z) regs
    re = record {
      objects = λ r o h. typed o (present L z laid owned t o below [] after here lives (subst (λ (g : StackFrame). has_object g o ≡ true) (sym is) (or_left (has (body_objects (body.Code at regs)) o) (has f.lent o) (register_has regs r o h))));
      targets = traits;
    }

-- A frame with a new native body on top of a stack of the new state fits there, where what it wants fitted before the sweep.
pub native_on_top : (L : LoadRows) (made : State) (t : ℕ) (below : List StackFrame) (f after : StackFrame) (held : List ℕ) (next : Action) → Laid L made → Laid L (sweep_state made) → Owned L (ledger_of L (sweep_state made)) → after ≡ with_body f (body.Native held next) → stack made t ≡ below ++ after ∷ [] → is_live made after.instance ≡ true
    → is_native (domain_of_instance L made f.instance).lines ≡ true → CanChoose L made f held next → BodyFits L (sweep_state made) after [] after.body
native_on_top L made t below f after held next laid laid' owned is here lives native can =
    subst (λ (g : StackFrame). BodyFits L (sweep_state made) g [] g.body) (sym is) (
      native,
      choice_moved L (sweep_state made) f (body.Native held next) held next (choice_kept L made (sweep_state made) f held next
          (λ o some. structs_same L AnyHow made (sweep_state made) o (stays_sweep AnyHow (λ x. tt) L made laid) (present L (sweep_state made) laid' owned t o below [] after here lives (subst (λ (g : StackFrame). has_object g o ≡ true) (sym is) some)))
          refl refl can),
    )

module _ (L : LoadRows) (s : State) (e : Entry) (made : State) (plans : Valid L) (tables : AreValidTables L.tables) (laid : Laid L s) (owned : Owned L (ledger_of L s)) (placed : Placed L (ledger_of L s)) (fits : Fitting L s) (r : RowOf L s e made) (owned' : Owned L (ledger_of L (sweep_state made)))
    (t : ℕ) (ready : is_undone (row s.threads t) ≡ true) where
  abbrev z : State
  z = sweep_state made

  -- what a frame did leaves its stack fitting
  module _ {i : ℕ} {act : Action} {a : Answer} {change : State → State} (d : Does L s t i act a change made) (done : IsDone act a) (load' : instance_load made (actor laid ready d).instance ≡ instance_load s (actor laid ready d).instance)
      (stacks : (m : State) → (change m).stacks ≡ m.stacks) (answered : Answered plans tables laid owned fits ready d done load') (unlent : Unlent (actor laid ready d).lent (received a))
      (typed : (at : ℕ) (regs : Registers) → (is : (actor laid ready d).body ≡ body.Code at regs) → (o : ℕ) → IsIn z o → (types_of L z).struct_of o ≡ (answered at regs is).types.struct_of o) where
    abbrev f : StackFrame
    f = actor laid ready d

    abbrev below : List StackFrame
    below = below_top (stack s t)

    within : (0 < t) × (t ≤ length s.stacks)
    within = client_stack L s t d.thread laid d.of

    pub stacks_made : made.stacks ≡ slice_set s.stacks (t - 1) (below ++ d.after ∷ [])
    stacks_made = ap (λ (m : State). m.stacks) d.becomes ∙ stacks _

    pub stack_here : stack z t ≡ below ++ d.after ∷ []
    stack_here = ap (λ st. frames_of (row st t)) stacks_made ∙ ap frames_of (row_set_same s.stacks t (below ++ d.after ∷ []) within.0 within.1)

    pub stack_there : (u : ℕ) → u ≢ t → stack z u ≡ stack s u
    stack_there u ne = ap (λ st. frames_of (row st u)) stacks_made ∙ ap frames_of (row_set_other s.stacks t u (below ++ d.after ∷ []) within.0 ne)

    after_fits : is_live z d.after.instance ≡ true → BodyFits L z d.after [] d.after.body
    after_fits lives = go f.body refl
      where
        domain_same : domain_of_instance L z f.instance ≡ domain_of_instance L s f.instance
        domain_same = ap (domain_of_load L) load'

        before : BodyFits L s f [] f.body
        before = body_fits L s plans tables laid fits t act d.fuel d.frame (doing laid ready d)

        traits : (x : ℕ) → (types_of L z).trait_of x ≡ (types_of L s).trait_of x
        traits x = refl

        go : (b : FrameBody Action) → f.body ≡ b → BodyFits L z d.after [] d.after.body
        go (body.Code at regs) is =
            let went = code_went plans tables laid owned fits ready d done load' answered unlent at regs is in
            let native : is_native (domain_of_instance L s f.instance).lines ≡ false = (subst (BodyFits L s f []) is before).0 in
            code_on_top L z t below f d.after (answered at regs is).types (domain_of_instance L s f.instance) went.stand.at went.stand.regs (laid_z L s e made laid owned placed r owned') owned' went.after_is stack_here lives domain_same native went.fits went.parted went.method (typed at regs is) (λ x. sym ((answered at regs is).re.targets x))
        go (body.Native held kept) is =
            let went = native_went plans tables laid owned fits ready d done load' held kept is in
            let got : AnswersBody L made f a (body.Native held kept) d.after = subst (λ b. AnswersBody L made f a b d.after) is went.2 in
            let native : is_native (domain_of_instance L made f.instance).lines ≡ true = subst (λ x. is_native x.lines ≡ true) (sym domain_same) (subst (BodyFits L s f []) is before).0 in
            native_on_top L made t below f d.after (held_after kept a held) got.0 (laid_row L s e made laid r) (laid_z L s e made laid owned placed r owned') owned' got.1 stack_here lives native got.2

    pub doing_fits : (u : ℕ) → StackFits L z (stack z u)
    doing_fits = all_fit L s e made laid owned placed r owned' t
        (changed_fits L s e made laid owned placed r owned' t f d.after below [] [] (top_splits (stack s t) f (doing laid ready d).on_top) stack_here (actor_after laid ready d) (fits.bodies t) (after_fits, tt))
        stack_there fits.bodies
