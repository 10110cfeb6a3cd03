-- What each row makes of a `read` of the driver that its own thread has on top.
use Rattle.std.proofs.Common.{◌≡◌, ℕ, ◌-◌, ◌<◌, ◌≤◌, ◌==◌, inl, inr, true, false, List, [], ◌∷◌, ◌++◌, length, Some, None, slice_get, slice_set, refl, ap, sym, subst, ◌∙◌, arith, append_assoc}
use Rattle.std.proofs.lemmas.List.{length-set}
use Rattle.rl_defs.specs.declared.load.LoadRows.{LoadRows}
use Rattle.rl_defs.specs.DomainValue.{Domain}
use Rattle.rl_defs.specs.Rows.{row, domain_of_load}
use Rattle.rl_defs.specs.Valid.{Valid}
use Rattle.machine_defs.specs.declared.entry.Entry.TheVariants as entry
use Rattle.machine_defs.specs.declared.frame.Action.{Action}
use Rattle.machine_defs.specs.declared.frame.Action.TheVariants as action
use Rattle.machine_defs.specs.declared.frame.Answer.{Answer}
use Rattle.machine_defs.specs.declared.frame.Answer.TheVariants as answer
use Rattle.machine_defs.specs.declared.frame.FrameBody.TheVariants as body
use Rattle.machine_defs.specs.Arguments.{entry_registers, moved_of}
use Rattle.machine_defs.specs.Calling.{Wish, with_fuel, is_undone}
use Rattle.machine_defs.specs.CallRows.{Refuses, numbered}
use Rattle.machine_defs.specs.Frames.{Answers, AnswersBody, Begins, below_top, with_body, with_top, code_at, answered_code, waiting, Replies}
use Rattle.machine_defs.specs.History.{open_calls}
use Rattle.machine_defs.specs.Loans.{count}
use Rattle.machine_defs.specs.Objects.{without}
use Rattle.machine_defs.specs.ObjectRows.{Does}
use Rattle.machine_defs.specs.Seen.{domain_of_instance}
use Rattle.machine_defs.specs.Sound.{own_of}
use Rattle.machine_defs.specs.State.{State, StackFrame, frames_of, is_live, stack, top, with_thread}
use Rattle.machine_defs.specs.Steps.{Turn}
use Rattle.machine_laws.specs.Fitting.{CallsFit}
use Rattle.machine_laws.proofs.Acting.{ActsAs, acts_as, commands_as}
use Rattle.machine_laws.proofs.CallRows.{turn}
use Rattle.machine_laws.proofs.Calls.{cond_same}
use Rattle.machine_laws.proofs.EndSteps.{ready_within}
use Rattle.machine_laws.proofs.FrameRows.{actor_after, body_twice}
use Rattle.machine_laws.proofs.Rows.{row_set_same}
use Rattle.machine_laws.proofs.StackFits.{calls_back}
use Rattle.machine_laws.proofs.Stacks.{top_splits}
use Rattle.machine_laws.proofs.StaysRows.{SameInstances}
use Rattle.machine_laws.proofs.Wishes.{ClientWish, FrameWish, wish_as}
use Rattle.block_domain.specs.Store.{cells_at, block_at, store_at}
use Rattle.block_domain.proofs.Following.{AllStaged, reads_same, placed_load, opened, none_waits, own_object, of_driver, wants_these, replied_top, top_with}
use Rattle.block_domain.proofs.Holding.{Facts}
use Rattle.block_domain.proofs.Lines.{driver, read_registers}
use Rattle.block_domain.proofs.Reading.{Reads, Stage, Makes, Gets, Gives, Wants, WantsTrap, WantsNew, WantsBlock, WantsRet, numbers, tables, domain_is, begins_read, wants_in}
use Rattle.block_domain.proofs.Written.{told_same}

-- the turn's own thread has done an action with its top frame, which was of the driver
pub record Done (L : LoadRows) (us : List Turn) (s : State) (t : ℕ) (act : Action) (a : Answer) (made : State) (g : StackFrame) : Type 0 where
  pub f : StackFrame
  pub reads : Reads L f
  pub same : g ≡ with_body f g.body
  pub wants : Wants L us t f act
  pub domain : domain_of_instance L made f.instance ≡ driver (numbers L f reads) (tables L f reads)
  pub answers : AnswersBody L made f a f.body g

module _ (L : LoadRows) (us : List Turn) (s : State) (facts : Facts L us s) (staged : AllStaged L us s) (t : ℕ) (ready : is_undone (row s.threads t) ≡ true) (made : State) (instances : SameInstances s made) where
  within : (0 < t) × (t ≤ length s.stacks)
  within = ready_within L s t facts.laid ready

  -- the stage of the top frame of the thread before the row
  pub wants_now : (act : Action) (rest : ℕ) (frame : StackFrame) (acts : ActsAs L s t act rest frame) (reads : Reads L acts.f) → (frame ≡ acts.f) × Wants L us t acts.f act
  wants_now act rest frame acts reads =
      let here = top_splits (stack s t) acts.f acts.on_top in
      wants_in L acts.f reads s acts.thread.fuel act rest frame (placed_load L us s facts t (below_top (stack s t)) [] acts.f here) us t (staged t acts.f acts.on_top acts.lives reads) acts.by

  pub does_done : {i : ℕ} {act : Action} {a : Answer} {change : State → State} (d : Does L s t i act a change made) → ((x : State) → (change x).stacks ≡ x.stacks) → (g : StackFrame) → top (stack made t) ≡ Some g → Reads L g → Done L us s t act a made g
  does_done {act = act} {a = a} {change = change} d stacks g on_top reads =
      let mid : State = with_thread s t (with_fuel (d.fuel - 1) d.thread) in
      let acts = acts_as L s t act d.fuel d.frame d.wants in
      let set : top (stack made t) ≡ Some d.after = ap (λ (st : State). top (stack st t)) d.becomes ∙ ap (λ ss. top (frames_of (row ss t))) (stacks (with_top t d.after mid)) ∙ top_with L mid t d.after within.0 within.1 in
      let after : d.after ≡ g = (let e = sym set ∙ on_top in cc) in
      let same : g ≡ with_body acts.f g.body = subst (λ (h : StackFrame). h ≡ with_body acts.f h.body) after (actor_after facts.laid ready d) in
      let mine = reads_same L acts.f g same reads in
      let w = wants_now act d.fuel d.frame acts mine in
      let here = top_splits (stack s t) acts.f acts.on_top in
      let load = instances.loads acts.f.instance (opened L us s facts t (below_top (stack s t)) [] acts.f here) ∙ placed_load L us s facts t (below_top (stack s t)) [] acts.f here in
      record {
        f = acts.f;
        reads = mine;
        same = same;
        wants = w.1;
        domain = ap (domain_of_load L) load ∙ domain_is L acts.f mine;
        answers = subst (λ (h : StackFrame). Answers L made h a g) w.0 (subst (λ (h : StackFrame). Answers L made d.frame a h) after d.answers);
      }

  -- a `read` that has made its object
  pub new_staged : (frees : List ℕ) (w : _) (o ty : ℕ) (values : List ℕ) (g : StackFrame) → Done L us s t (action.New ty) (answer.Made o) made g → Stage L (turn (entry.New t w o ty values) frees ∷ us) t g
  new_staged frees w o ty values g done = go done.wants
    where
      us' : List Turn
      us' = turn (entry.New t w o ty values) frees ∷ us

      go : Wants L us t done.f (action.New ty) → Stage L (turn (entry.New t w o ty values) frees ∷ us) t g
      go (WantsNew is ty' eq) =
          let got : AnswersBody L made done.f (answer.Made o) (body.Code 6 (entry_registers done.f.args)) g = subst (λ b. AnswersBody L made done.f (answer.Made o) b g) is done.answers in
          let after : g ≡ with_body done.f (body.Code 7 (read_registers done.f.args o)) = got ∙ ap (λ (d : Domain). with_body done.f (code_at (answered_code d (record { at = 6; regs = entry_registers done.f.args }) (answer.Made o)))) done.domain in
          let args : done.f.args ≡ g.args = ap (λ (h : StackFrame). h.args) (sym done.same) in
          Gets o (ap (λ (h : StackFrame). h.body) after ∙ ap (λ given. body.Code 7 (read_registers given o)) args)
      go (WantsTrap trap) = absurd (let e = trap.1 in cc)
      go (WantsBlock o' b is asked eq) = absurd cc
      go (WantsRet o' b asked got cells eq) = absurd cc

  -- one that has got its block
  pub got_staged : (frees : List ℕ) (o b : ℕ) (g : StackFrame) → Done L us s t (action.DevGet o b) answer.Went made g → Stage L (turn (entry.DevGet t o b) frees ∷ us) t g
  got_staged frees o b g done = go done.wants
    where
      go : Wants L us t done.f (action.DevGet o b) → Stage L (turn (entry.DevGet t o b) frees ∷ us) t g
      go (WantsBlock o' b' is asked eq) =
          let object : o' ≡ o = cc in
          let number : b' ≡ b = cc in
          let got : AnswersBody L made done.f answer.Went (body.Code 7 (read_registers done.f.args o')) g = subst (λ x. AnswersBody L made done.f answer.Went x g) is done.answers in
          let after : g ≡ with_body done.f (body.Code 8 (read_registers done.f.args o')) = got ∙ ap (λ (d : Domain). with_body done.f (code_at (answered_code d (record { at = 7; regs = read_registers done.f.args o' }) answer.Went))) done.domain in
          let args : done.f.args ≡ g.args = ap (λ (h : StackFrame). h.args) (sym done.same) in
          Gives o b (ap (λ (h : StackFrame). h.body) after ∙ ap (λ given. body.Code 8 (read_registers given o')) args ∙ ap (λ n. body.Code 8 (read_registers g.args n)) object)
          (ap (λ given. slice_get given 0) (sym args) ∙ asked ∙ ap (λ n. Some (Rattle.machine_defs.specs.declared.values.Arg.TheVariants.Num n)) number)
          (record { later = []; frees = frees; earlier = us; turns = refl; same_call = sym (cond_same (t == t) (open_calls us t)) })
          (told_same o (block_at L us b) (store_at L us).objects o refl)
      go (WantsTrap trap) = absurd (let e = trap.1 in cc)
      go (WantsNew is ty eq) = absurd cc
      go (WantsRet o' b' asked got cells eq) = absurd cc

  -- no other action is the driver's
  pub none_staged : {act : Action} {a : Answer} (us' : List Turn) (g : StackFrame) → of_driver act ≡ false → Done L us s t act a made g → Stage L us' t g
  none_staged {act = act} us' g other done = absurd (let e = sym (wants_these L us t done.f act done.wants) ∙ other in cc)

  -- one that begins
  pub begun_staged : (us' : List Turn) (z : State) (c x i m : ℕ) (args : List _) (g : StackFrame) → Valid L → CallsFit L z (stack z t) → top (stack z t) ≡ Some g → Begins L made c x i m args g → Reads L g → Stage L us' t g
  begun_staged us' z c x i m args g valid fits on_top begins reads =
      let one = calls_back L z (below_top (stack z t)) (g ∷ []) (subst (CallsFit L z) (top_splits (stack z t) g on_top) fits) in
      Makes (begins_read L g reads z made c x i m args valid one.0 begins)

  -- the caller of a call that is refused isn't of the driver
  module _ (g : StackFrame) (on_top : top (stack made t) ≡ Some g) (reads : Reads L g) where
    pub not_refused : (c x m : ℕ) (why : _) (args : List _) → Refuses L s t c why x m args made → ⊥
    not_refused c x m why args r = elim (wish_as L s t w r.wants) [
      | inl client ↦ by_client client
      | inr frame ↦ by_frame frame
    ]
      where
        w : Wish
        w = record { target = x; method = m; args = args; charged = r.charged }

        by_client : ClientWish L s t (record { target = x; method = m; args = args; charged = r.charged }) → ⊥
        by_client client = (
            let alone = (commands_as L s t _ tt client.wants).alone in
            let paid : r.charged ≡ with_thread s t _ = ap (λ (v : Wish). v.charged) client.is in
            let room : t ≤ length r.charged.stacks = subst (λ (st : State). t ≤ length st.stacks) (sym paid) within.1 in
            let who = replied_top L (numbered c (without (moved_of args) r.charged)) made t (answer.Failed why) g within.0 room r.replies on_top in
            let empty : top (stack r.charged t) ≡ None = ap (λ (st : State). top (stack st t)) paid ∙ ap top alone in
            let e = sym empty ∙ who.on_top in cc)

        by_frame : FrameWish L s t (record { target = x; method = m; args = args; charged = r.charged }) → ⊥
        by_frame frame =
            let waits : StackFrame = waiting L s (moved_of args) frame.frame in
            let mid : State = with_thread s t (with_fuel (frame.fuel - 1) frame.thread) in
            let paid : r.charged ≡ with_top t waits mid = ap (λ (v : Wish). v.charged) frame.is in
            let long : length r.charged.stacks ≡ length s.stacks = ap (λ (st : State). length st.stacks) paid ∙ length-set s.stacks (t - 1) (below_top (stack s t) ++ waits ∷ []) in
            let room : t ≤ length r.charged.stacks = (let b = within.1 in omega (arith, b, long)) in
            let who = replied_top L (numbered c (without (moved_of args) r.charged)) made t (answer.Failed why) g within.0 room r.replies on_top in
            let here : top (stack r.charged t) ≡ Some waits = ap (λ (st : State). top (stack st t)) paid ∙ top_with L mid t waits within.0 within.1 in
            let same : who.g ≡ waits = (let e = sym who.on_top ∙ here in cc) in
            let acts = acts_as L s t (action.Call x m args) frame.fuel frame.frame frame.wants in
            let kept : g ≡ with_body waits g.body = subst (λ (h : StackFrame). g ≡ with_body h g.body) same who.same in
            let mine = reads_same L acts.f g (body_twice acts.f frame.frame g acts.same kept) reads in
            let e = wants_these L us t acts.f (action.Call x m args) (wants_now (action.Call x m args) frame.fuel frame.frame acts mine).1 in
            cc

    -- nor is one that gets the results or the end of a call
    pub not_answered : (m : State) (f : StackFrame) (a : Answer) → top (stack s t) ≡ Some f → m.stacks ≡ slice_set s.stacks (t - 1) (below_top (stack s t)) → Replies L m t a made → is_live made g.instance ≡ true → ⊥
    not_answered m f a was stacks replies lives =
        let long : length m.stacks ≡ length s.stacks = ap length stacks ∙ length-set s.stacks (t - 1) (below_top (stack s t)) in
        let room : t ≤ length m.stacks = (let b = within.1 in omega (arith, b, long)) in
        let who = replied_top L m made t a g within.0 room replies on_top in
        let left : stack m t ≡ below_top (stack s t) = ap (λ ss. frames_of (row ss t)) stacks ∙ ap frames_of (row_set_same s.stacks t (below_top (stack s t)) within.0 within.1) in
        let next : top (below_top (stack s t)) ≡ Some who.g = sym (ap top left) ∙ who.on_top in
        let split : stack s t ≡ below_top (below_top (stack s t)) ++ who.g ∷ (f ∷ []) = top_splits (stack s t) f was ∙ ap (λ fs. fs ++ f ∷ []) (top_splits (below_top (stack s t)) who.g next) ∙ append_assoc (below_top (below_top (stack s t))) (who.g ∷ []) (f ∷ []) in
        let inside : g.instance ≡ who.g.instance = ap (λ (h : StackFrame). h.instance) who.same in
        let lived = instances.lives who.g.instance (opened L us s facts t (below_top (below_top (stack s t))) (f ∷ []) who.g split) (subst (λ i. is_live made i ≡ true) inside lives) in
        none_waits L us s facts t (below_top (below_top (stack s t))) [] who.g f split lived (reads_same L who.g g who.same reads)

-- a stage stays while the thread's open calls and the cells of what its frame has stay
pub staged_on : (L : LoadRows) (us : List Turn) (s : State) (facts : Facts L us s) (u : Turn) (t : ℕ) (f : StackFrame) → top (stack s t) ≡ Some f → is_live s f.instance ≡ true → Reads L f → open_calls (u ∷ us) t ≡ open_calls us t
    → ((o : ℕ) → 0 < count o (own_of f) → cells_at L (u ∷ us) o ≡ cells_at L us o) → Stage L us t f → Stage L (u ∷ us) t f
staged_on L us s facts u t f on_top lives reads opens keeps (Makes is) = Makes is
staged_on L us s facts u t f on_top lives reads opens keeps (Gets o is) = Gets o is
staged_on L us s facts u t f on_top lives reads opens keeps (Gives o b is asked got cells) =
    Gives o b is asked (record { later = u ∷ got.later; frees = got.frees; earlier = got.earlier; turns = ap (λ turns. u ∷ turns) got.turns; same_call = got.same_call ∙ sym opens })
    (keeps o (own_object L us s facts t o f on_top lives reads is) ∙ cells)
