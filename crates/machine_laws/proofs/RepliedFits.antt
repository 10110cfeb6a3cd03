-- Stacks fit after a return and an unwound call.
use Rattle.std.proofs.Common.{◌≡◌, ◌≢◌, ℕ, ◌-◌, ◌<◌, ◌≤◌, Bool, true, false, List, [], ◌∷◌, ◌++◌, length, Option, Some, None, slice_set, refl, ap, sym, subst, ◌∙◌, arith, append_assoc}
use Rattle.std.proofs.lemmas.List.{length-set}
use Rattle.machine_defs.specs.declared.entry.Entry.{Entry}
use Rattle.rl_defs.specs.declared.tables.MethodRow.{MethodRow}
use Rattle.machine_defs.specs.declared.frame.Action.{Action}
use Rattle.machine_defs.specs.declared.frame.Answer.{Answer}
use Rattle.machine_defs.specs.declared.frame.FrameBody.{FrameBody}
use Rattle.machine_defs.specs.declared.frame.FrameBody.TheVariants as body
use Rattle.rl_defs.specs.declared.load.LoadRows.{LoadRows}
use Rattle.rl_defs.specs.Domains.{method_of, is_native}
use Rattle.machine_defs.specs.State.{State, StackFrame, Thread, is_live, stack, frames_of}
use Rattle.rl_defs.specs.Rows.{row}
use Rattle.machine_defs.specs.Loans.{count, sweep as sweep_state}
use Rattle.machine_defs.specs.Arguments.{has}
use Rattle.machine_defs.specs.State.{top, instance_load}
use Rattle.rl_defs.specs.Rows.{domain_of_load}
use Rattle.machine_defs.specs.Seen.{domain_of_instance}
use Rattle.machine_defs.specs.Seen.{types_of}
use Rattle.machine_defs.specs.Frames.{below_top, AnswersBody, Replies, AnswersTop, AnswersFrame, AnswersLive, held_after}
use Rattle.machine_defs.specs.Steps.{Row as RowOf}
use Rattle.machine_laws.specs.LedgerOf.{ledger_of}
use Rattle.machine_laws.specs.LedgerSound.{Owned, Placed}
use Rattle.machine_laws.specs.Shape.{Laid}
use Rattle.machine_laws.specs.Registers.{received}
use Rattle.machine_laws.specs.Fitting.{BodyFits, StackFits, Fitting}
use Rattle.machine_laws.proofs.Rows.{row_set_same, row_set_other}
use Rattle.machine_laws.proofs.Stacks.{top_none, top_splits}
use Rattle.machine_laws.proofs.Tops.{client_stack}
use Rattle.machine_laws.proofs.FrameRows.{answered_same}
use Rattle.machine_laws.proofs.StackFits.{fits_split}
use Rattle.machine_laws.proofs.Moves.{IsNew}
use Rattle.machine_laws.proofs.LaidRows.{laid_row}
use Rattle.machine_laws.proofs.StaysRows.{instances_row}
use Rattle.machine_laws.proofs.Agreeing.{stands, laid_z, all_fit, changed_fits}
use Rattle.machine_laws.proofs.DoingFits.{code_on_top, native_on_top}
use Rattle.machine_laws.proofs.DoneFits.{types_kept}
use Rattle.machine_laws.proofs.WaitingAnswers.{IsReply, ReplySuits, code_replied}
use Rattle.rl_defs.specs.Valid.{Valid, AreValidTables}

module _ (L : LoadRows) (s : State) (e : Entry) (made : State) (plans : Valid L) (tables : AreValidTables L.tables) (laid : Laid L s) (owned : Owned L (ledger_of L s)) (placed : Placed L (ledger_of L s)) (fits : Fitting L s) (r : RowOf L s e made) (owned' : Owned L (ledger_of L (sweep_state made))) (old : IsNew e → ⊥)
    (t : ℕ) (thread : Thread) (of : row s.threads t ≡ Some thread) (f : StackFrame) (on_top : top (stack s t) ≡ Some f) (s' : State) (stacks' : s'.stacks ≡ slice_set s.stacks (t - 1) (below_top (stack s t))) (instances' : s'.instances ≡ s.instances)
    (a : Answer) (reply : IsReply a) (method : MethodRow) (called : method_of L f.target f.method ≡ Some method) (suits : ReplySuits (types_of L s) method.results a) (unlent : (g : StackFrame) (below above : List StackFrame) → stack s t ≡ below ++ g ∷ above → (p : ℕ) → 0 < count p (received a) → has g.lent p ≡ false)
    (load' : (i : ℕ) → instance_load made i ≡ instance_load s i) (replies : Replies L s' t a made) where
  abbrev z : State
  z = sweep_state made

  abbrev left : List StackFrame
  left = below_top (stack s t)

  within : (0 < t) × (t ≤ length s.stacks)
  within = client_stack L s t thread laid of

  popped_here : stack s' t ≡ left
  popped_here = ap (λ st. frames_of (row st t)) stacks' ∙ ap frames_of (row_set_same s.stacks t left within.0 within.1)

  popped_there : (u : ℕ) → u ≢ t → stack s' u ≡ stack s u
  popped_there u ne = ap (λ st. frames_of (row st u)) stacks' ∙ ap frames_of (row_set_other s.stacks t u left within.0 ne)

  next_split : (g : StackFrame) → top left ≡ Some g → stack s t ≡ below_top left ++ g ∷ (f ∷ [])
  next_split g is = top_splits (stack s t) f on_top ∙ ap (λ fs. fs ++ f ∷ []) (top_splits left g is) ∙ append_assoc (below_top left) (g ∷ []) (f ∷ [])

  -- a client that gets the reply, or a frame that gets nothing, since its instance has ended
  none_fits : top left ≡ None → made.stacks ≡ s'.stacks → (u : ℕ) → StackFits L z (stack z u)
  none_fits none same = all_fit L s e made laid owned placed r owned' t
      (let here : stack z t ≡ [] = ap (λ st. frames_of (row st t)) same ∙ popped_here ∙ top_none left none in subst (StackFits L z) (sym here) tt)
      (λ u ne. ap (λ st. frames_of (row st u)) same ∙ popped_there u ne) fits.bodies

  dead_fits : (g : StackFrame) → top left ≡ Some g → is_live s g.instance ≡ false → made ≡ s' → (u : ℕ) → StackFits L z (stack z u)
  dead_fits g is dead same =
      let here : stack z t ≡ below_top left ++ g ∷ [] = ap (λ (st : State). stack st t) same ∙ popped_here ∙ top_splits left g is in
      let split = next_split g is in
      let st = stands L s laid owned placed t (below_top left) (f ∷ []) g split in
      all_fit L s e made laid owned placed r owned' t
      (changed_fits L s e made laid owned placed r owned' t g g (below_top left) (f ∷ []) [] split here refl (fits.bodies t) (λ lives. absurd (let up = (instances_row L s e made r).lives g.instance st.opened lives in cc), tt))
      (λ u ne. ap (λ (st : State). stack st u) same ∙ popped_there u ne) fits.bodies

  -- a live frame that gets it
  module _ (g : StackFrame) (is : top left ≡ Some g) (lives : is_live s g.instance ≡ true) (answers : AnswersLive L s' t g a made) where
    abbrev after : StackFrame
    after = answers.frame

    here : stack z t ≡ below_top left ++ after ∷ []
    here =
        let set : stack made t ≡ below_top (stack s' t) ++ after ∷ [] = ap (λ (st : State). stack st t) answers.becomes ∙ ap frames_of (row_set_same s'.stacks t (below_top (stack s' t) ++ after ∷ []) within.0 (let l : length s'.stacks ≡ length s.stacks = ap (λ xs. length xs) stacks' ∙ length-set s.stacks (t - 1) left in let b = within.1 in omega (arith, l, b))) in
        set ∙ ap (λ fs. below_top fs ++ after ∷ []) popped_here

    there : (u : ℕ) → u ≢ t → stack made u ≡ stack s u
    there u ne = ap (λ (st : State). stack st u) answers.becomes ∙ ap frames_of (row_set_other s'.stacks t u (below_top (stack s' t) ++ after ∷ []) within.0 ne) ∙ popped_there u ne

    split : stack s t ≡ below_top left ++ g ∷ (f ∷ [])
    split = next_split g is

    waited : BodyFits L s g (f ∷ []) g.body
    waited = (fits_split L s (below_top left) (f ∷ []) g (subst (StackFits L s) split (fits.bodies t))).0 lives

    domain_same : domain_of_instance L made g.instance ≡ domain_of_instance L s g.instance
    domain_same = ap (domain_of_load L) (load' g.instance)

    pub after_fits : is_live z after.instance ≡ true → BodyFits L z after [] after.body
    after_fits up = go g.body refl
      where
        go : (b : FrameBody Action) → g.body ≡ b → BodyFits L z after [] after.body
        go (body.Code at regs) b =
            let waits = subst (BodyFits L s g (f ∷ [])) b waited in
            let went = code_replied L s made plans tables fits f g after a reply lives (load' g.instance) method called suits (unlent g (below_top left) (f ∷ []) split) answers.answers at regs b waits.1 in
            code_on_top L z t (below_top left) g after (types_of L s) (domain_of_instance L s g.instance) went.stand.at went.stand.regs (laid_z L s e made laid owned placed r owned') owned' went.after_is here up domain_same waits.0 went.fits went.parted went.method
            (λ o in_z. types_kept L s e made plans tables laid owned placed fits r owned' old o in_z) (λ x. refl)
        go (body.Native held act) b =
            let waits = subst (BodyFits L s g (f ∷ [])) b waited in
            let got : AnswersBody L made g a (body.Native held act) after = subst (λ x. AnswersBody L made g a x after) b answers.answers in
            let native : is_native (domain_of_instance L made g.instance).lines ≡ true = subst (λ x. is_native x.lines ≡ true) (sym domain_same) waits.0 in
            native_on_top L made t (below_top left) g after (held_after act a held) got.0 (laid_row L s e made laid r) (laid_z L s e made laid owned placed r owned') owned' got.1 here up native got.2

    live_fits : (u : ℕ) → StackFits L z (stack z u)
    live_fits = all_fit L s e made laid owned placed r owned' t
        (changed_fits L s e made laid owned placed r owned' t g after (below_top left) (f ∷ []) [] split here (answered_same L made g a g.body after answers.answers) (fits.bodies t) (after_fits, tt))
        there fits.bodies

  pub replied_fits : (u : ℕ) → StackFits L z (stack z u)
  replied_fits = by_top (top left) refl (subst (λ found. AnswersTop L s' t a found made) (ap top popped_here) replies)
    where
      by_live : (g : StackFrame) → top left ≡ Some g → (b : Bool) → is_live s g.instance ≡ b → AnswersFrame L s' t g a b made → (u : ℕ) → StackFits L z (stack z u)
      by_live g is true up answers u = live_fits g is up answers u
      by_live g is false up answers u = dead_fits g is up answers u

      by_top : (found : Option StackFrame) → top left ≡ found → AnswersTop L s' t a found made → (u : ℕ) → StackFits L z (stack z u)
      by_top None is answers u = none_fits is (ap (λ (st : State). st.stacks) answers.becomes) u
      by_top (Some g) is answers u =
          let same : is_live s' g.instance ≡ is_live s g.instance = ap (λ is'. Rattle.machine_defs.specs.State.lives (row is' g.instance)) instances' in
          by_live g is (is_live s g.instance) refl (subst (λ b. AnswersFrame L s' t g a b made) same answers) u
