-- In every run each `read` of the driver on top of a stack is in one of its stages, and so gives what was written.
use Rattle.std.proofs.Common.{◌≡◌, ◌≢◌, ℕ, zero, suc, ◌-◌, ◌<◌, ◌≤◌, ◌==◌, inl, inr, true, List, [], ◌∷◌, ◌++◌, length, map, Some, slice_get, refl, ap, sym, subst, ◌∙◌, arith}
use Rattle.std.proofs.lemmas.Bool.{cases_eq, ne_eqb}
use Rattle.std.proofs.lemmas.List.{length-set}
use Rattle.rl_defs.specs.declared.load.LoadRows.{LoadRows}
use Rattle.rl_defs.specs.declared.values.Value.{Value}
use Rattle.rl_defs.specs.declared.values.Value.TheVariants as value
use Rattle.rl_defs.specs.Rows.{row}
use Rattle.rl_defs.specs.Valid.{Valid}
use Rattle.machine_defs.specs.declared.entry.Entry.{Entry}
use Rattle.machine_defs.specs.declared.entry.Entry.TheVariants as entry
use Rattle.machine_defs.specs.declared.frame.Action.TheVariants as action
use Rattle.machine_defs.specs.declared.frame.Answer.TheVariants as answer
use Rattle.machine_defs.specs.declared.values.RpcCode.TheVariants as code
use Rattle.machine_defs.specs.Calling.{is_undone}
use Rattle.machine_defs.specs.CallRows.{after_return}
use Rattle.machine_defs.specs.Entries.{thread_of}
use Rattle.machine_defs.specs.Frames.{below_top, popped}
use Rattle.machine_defs.specs.History.{Always, OpenCall, open_calls, turns_of}
use Rattle.machine_defs.specs.Loans.{count, sweep}
use Rattle.machine_defs.specs.Runs.{Run, Begins, GoesOn, entries_of_turn}
use Rattle.machine_defs.specs.Sound.{own_of}
use Rattle.machine_defs.specs.State.{State, StackFrame, frames_of, is_live, no_frames, stack, start, top}
use Rattle.machine_defs.specs.Steps.{Turn, Row, Step}
use Rattle.machine_defs.proofs.TurnsTold.{turns_told}
use Rattle.machine_laws.specs.Ledger.{LedgerFrame}
use Rattle.machine_laws.specs.LedgerOf.{frame_entry, entries_of}
use Rattle.machine_laws.proofs.Acting.{ActsAs, acts_as}
use Rattle.machine_laws.proofs.CallRows.{turn}
use Rattle.machine_laws.proofs.Calls.{call_of, calls_of, cond_same}
use Rattle.machine_laws.proofs.CallSteps.{not_waiting}
use Rattle.machine_laws.proofs.EachRun.{holds_run}
use Rattle.machine_laws.proofs.EndSteps.{ready_within}
use Rattle.machine_laws.proofs.GoingRows.{row_goes}
use Rattle.machine_laws.proofs.Rows.{row_set_same}
use Rattle.machine_laws.proofs.Stacks.{top_pushed, top_splits}
use Rattle.machine_laws.proofs.StaysRows.{instances_row}
use Rattle.machine_laws.proofs.Tops.{bottom, under, entries_top}
use Rattle.step_laws.proofs.MadeRows.{IsMade, made_row}
use Rattle.block_domain.specs.Store.{cells_at, store_after, store_at}
use Rattle.block_domain.specs.Laws.{IsRead, GivesBlock, GivesWhatWasWritten, ReadsGiveWhatWasWritten}
use Rattle.block_domain.proofs.Following.{AllStaged, opened, top_with}
use Rattle.block_domain.proofs.Holding.{Facts, facts_of, below_next, cells_kept}
use Rattle.block_domain.proofs.Reading.{Reads, Stage, Wants, WantsTrap, WantsNew, WantsBlock, WantsRet}
use Rattle.block_domain.proofs.Staged.{does_done, new_staged, got_staged, none_staged, begun_staged, not_refused, not_answered, staged_on, wants_now}
use Rattle.block_domain.proofs.Written.{told_other}

module _ (L : LoadRows) (us : List Turn) (s : State) (valid : Valid L) (facts : Facts L us s) (staged : AllStaged L us s) where
  -- where the thread's frames stay
  still_staged : (e : Entry) (frees : List ℕ) (made : State) → Row L s e made → (t : ℕ) (g : StackFrame) → stack made t ≡ stack s t → top (stack made t) ≡ Some g → is_live made g.instance ≡ true → Reads L g
      → open_calls (turn e frees ∷ us) t ≡ open_calls us t → ((o : ℕ) → top (stack s t) ≡ Some g → is_live s g.instance ≡ true → 0 < count o (own_of g) → (store_after L e (store_at L us)).objects o ≡ cells_at L us o) → Stage L (turn e frees ∷ us) t g
  still_staged e frees made makes t g same on_top lives reads opens keeps =
      let was : top (stack s t) ≡ Some g = sym (ap top same) ∙ on_top in
      let lived = (instances_row L s e made makes).lives g.instance (opened L us s facts t _ [] g (top_splits (stack s t) g was)) lives in
      staged_on L us s facts (turn e frees) t g was lived reads opens (λ o mine. keeps o was lived mine) (staged t g was lived reads)

  module _ (frees : List ℕ) (made : State) where
    own_staged : (e : Entry) → Row L s e made → is_undone (row s.threads (thread_of e)) ≡ true → IsMade L s e made → Facts L (turn e frees ∷ us) (sweep made) → (g : StackFrame) → top (stack made (thread_of e)) ≡ Some g → is_live made g.instance ≡ true → Reads L g → Stage L (turn e frees ∷ us) (thread_of e) g
    own_staged (entry.Call t c x i m args) makes ready is after g on_top lives reads =
        let within = ready_within L s t facts.laid ready in
        let long : length made.stacks ≡ length makes.charged.stacks = ap (λ (st : State). length st.stacks) makes.becomes ∙ length-set makes.charged.stacks (t - 1) (stack makes.charged t ++ makes.frame ∷ []) in
        let room : t ≤ length makes.charged.stacks = (let b = within.1 in let l = is.behind.stacks in let k = facts.laid.stacks in omega (arith, b, l, k, long)) in
        let here : top (stack made t) ≡ Some makes.frame = ap (λ (st : State). top (stack st t)) makes.becomes ∙ ap top (ap frames_of (row_set_same makes.charged.stacks t (stack makes.charged t ++ makes.frame ∷ []) within.0 room)) ∙ top_pushed (stack makes.charged t) makes.frame in
        let same : makes.frame ≡ g = (let e = sym here ∙ on_top in cc) in
        begun_staged L us s facts staged t ready made (instances_row L s (entry.Call t c x i m args) made makes) (turn (entry.Call t c x i m args) frees ∷ us) (sweep made) c x i m args g valid (after.fits.calls t) on_top
        (subst (λ (h : StackFrame). Rattle.machine_defs.specs.Frames.Begins L made c x i m args h) same makes.begins) reads
    own_staged (entry.Again t c x i) makes ready is after g on_top lives reads =
        let within = ready_within L s t facts.laid ready in
        let here : top (stack made t) ≡ Some makes.frame = ap (λ (st : State). top (stack st t)) makes.becomes ∙ top_with L s t makes.frame within.0 within.1 in
        let same : makes.frame ≡ g = (let e = sym here ∙ on_top in cc) in
        begun_staged L us s facts staged t ready made (instances_row L s (entry.Again t c x i) made makes) (turn (entry.Again t c x i) frees ∷ us) (sweep made) c x i makes.dead.method makes.dead.args g valid (after.fits.calls t) on_top
        (subst (λ (h : StackFrame). Rattle.machine_defs.specs.Frames.Begins L made c x i makes.dead.method makes.dead.args h) same makes.begins) reads
    own_staged (entry.Refuse t c why x m args) makes ready is after g on_top lives reads = absurd (not_refused L us s facts staged t ready made (instances_row L s (entry.Refuse t c why x m args) made makes) g on_top reads c x m why args makes)
    own_staged (entry.Ret t c results) makes ready is after g on_top lives reads =
        let acts = acts_as L s t (action.Ret results) makes.fuel makes.frame makes.wants in
        absurd (not_answered L us s facts staged t ready made (instances_row L s (entry.Ret t c results) made makes) g on_top reads (after_return t makes.fuel makes.thread results s) acts.f (answer.Back results) acts.on_top refl makes.replies lives)
    own_staged (entry.Unwound t c) makes ready is after g on_top lives reads =
        absurd (not_answered L us s facts staged t ready made (instances_row L s (entry.Unwound t c) made makes) g on_top reads (popped t s) makes.frame (answer.Failed code.Unwound) makes.of.on_top refl makes.replies lives)
    own_staged (entry.New t w o ty values) makes ready is after g on_top lives reads = elim makes.makes [
      | inl client ↦ still_staged (entry.New t w o ty values) frees made makes t g (ap (λ (st : State). stack st t) client.does.becomes) on_top lives reads (cond_same (t == t) (open_calls us t))
          (λ q was lived mine. told_other o _ (store_at L us).objects q (λ e. (let lt = below_next L us s facts t q g was lived mine in let n = makes.number in omega (arith, lt, n, e))))
      | inr frame ↦ new_staged L us s facts staged t ready made (instances_row L s (entry.New t w o ty values) made makes) frees w o ty values g
          (does_done L us s facts staged t ready made (instances_row L s (entry.New t w o ty values) made makes) frame.does (λ x. refl) g on_top reads)
    ]
    own_staged (entry.DevGet t o b) makes ready is after g on_top lives reads =
        got_staged L us s facts staged t ready made (instances_row L s (entry.DevGet t o b) made makes) frees o b g
        (does_done L us s facts staged t ready made (instances_row L s (entry.DevGet t o b) made makes) makes.1 (λ x. refl) g on_top reads)
    own_staged (entry.Drop t o) (inl client) ready is after g on_top lives reads = still_staged (entry.Drop t o) frees made (inl client) t g (ap (λ (st : State). stack st t) client.becomes) on_top lives reads (cond_same (t == t) (open_calls us t)) (λ q was lived mine. refl)
    own_staged (entry.Drop t o) (inr frame) ready is after g on_top lives reads = none_staged L us s facts staged t ready made (instances_row L s (entry.Drop t o) made (inr frame)) (turn (entry.Drop t o) frees ∷ us) g refl
        (does_done L us s facts staged t ready made (instances_row L s (entry.Drop t o) made (inr frame)) frame.1 (λ x. refl) g on_top reads)
    own_staged (entry.Set t o place values) makes ready is after g on_top lives reads = none_staged L us s facts staged t ready made (instances_row L s (entry.Set t o place values) made makes) (turn (entry.Set t o place values) frees ∷ us) g refl
        (does_done L us s facts staged t ready made (instances_row L s (entry.Set t o place values) made makes) makes.1 (λ x. refl) g on_top reads)
    own_staged (entry.Wput t i place v) makes ready is after g on_top lives reads = none_staged L us s facts staged t ready made (instances_row L s (entry.Wput t i place v) made makes) (turn (entry.Wput t i place v) frees ∷ us) g refl
        (does_done L us s facts staged t ready made (instances_row L s (entry.Wput t i place v) made makes) makes (λ x. refl) g on_top reads)
    own_staged (entry.Take t i slot o) makes ready is after g on_top lives reads = none_staged L us s facts staged t ready made (instances_row L s (entry.Take t i slot o) made makes) (turn (entry.Take t i slot o) frees ∷ us) g refl
        (does_done L us s facts staged t ready made (instances_row L s (entry.Take t i slot o) made makes) makes.does (λ x. refl) g on_top reads)
    own_staged (entry.Put t i slot o) makes ready is after g on_top lives reads = none_staged L us s facts staged t ready made (instances_row L s (entry.Put t i slot o) made makes) (turn (entry.Put t i slot o) frees ∷ us) g refl
        (does_done L us s facts staged t ready made (instances_row L s (entry.Put t i slot o) made makes) makes.does (λ x. refl) g on_top reads)
    own_staged (entry.DevPut t b o) makes ready is after g on_top lives reads = none_staged L us s facts staged t ready made (instances_row L s (entry.DevPut t b o) made makes) (turn (entry.DevPut t b o) frees ∷ us) g refl
        (does_done L us s facts staged t ready made (instances_row L s (entry.DevPut t b o) made makes) makes.1 (λ x. refl) g on_top reads)
    own_staged (entry.Hang t o place v) makes ready is after g on_top lives reads = none_staged L us s facts staged t ready made (instances_row L s (entry.Hang t o place v) made makes) (turn (entry.Hang t o place v) frees ∷ us) g refl
        (does_done L us s facts staged t ready made (instances_row L s (entry.Hang t o place v) made makes) makes.does (λ x. refl) g on_top reads)
    own_staged (entry.Unhang t o place v) makes ready is after g on_top lives reads = none_staged L us s facts staged t ready made (instances_row L s (entry.Unhang t o place v) made makes) (turn (entry.Unhang t o place v) frees ∷ us) g refl
        (does_done L us s facts staged t ready made (instances_row L s (entry.Unhang t o place v) made makes) makes.does (λ x. refl) g on_top reads)
    own_staged (entry.Reload t x i left) makes ready is after g on_top lives reads = still_staged (entry.Reload t x i left) frees made makes t g (ap (λ (st : State). stack st t) makes.becomes) on_top lives reads (cond_same (t == t) (open_calls us t)) (λ q was lived mine. refl)
    own_staged (entry.Trap t i cause) makes ready is after g on_top lives reads = still_staged (entry.Trap t i cause) frees made makes t g (ap (λ (st : State). stack st t) makes.becomes) on_top lives reads (cond_same (t == t) (open_calls us t)) (λ q was lived mine. refl)
    own_staged (entry.Kill t i) makes ready is after g on_top lives reads = still_staged (entry.Kill t i) frees made makes t g (ap (λ (st : State). stack st t) makes.becomes) on_top lives reads (cond_same (t == t) (open_calls us t)) (λ q was lived mine. refl)
    own_staged (entry.Show t o values) makes ready is after g on_top lives reads = still_staged (entry.Show t o values) frees made makes t g (ap (λ (st : State). stack st t) makes.does.becomes) on_top lives reads (cond_same (t == t) (open_calls us t)) (λ q was lived mine. refl)
    own_staged (entry.Skip t number) makes ready is after g on_top lives reads = still_staged (entry.Skip t number) frees made makes t g (ap (λ (st : State). stack st t) makes.becomes) on_top lives reads (cond_same (t == t) (open_calls us t)) (λ q was lived mine. refl)
    own_staged (entry.Done t) makes ready is after g on_top lives reads = still_staged (entry.Done t) frees made makes t g (ap (λ (st : State). stack st t) makes.becomes) on_top lives reads (cond_same (t == t) (open_calls us t)) (λ q was lived mine. refl)
    own_staged (entry.Free o) makes ready is after g on_top lives reads = absurd makes

  -- the frames of all threads
  staged_row : (u : Turn) (z : State) (step : Step L s u z) → IsMade L s u.entry step.made → ((t : ℕ) → t ≢ thread_of u.entry → stack step.made t ≡ stack s t) → Facts L (u ∷ us) (sweep step.made) → AllStaged L (u ∷ us) (sweep step.made)
  staged_row u z step is others after t g on_top lives reads = elim (cases_eq t (thread_of u.entry)) [
    | inl own ↦
        let here : top (stack step.made (thread_of u.entry)) ≡ Some g = subst (λ n. top (stack step.made n) ≡ Some g) own on_top in
        subst (λ n. Stage L (u ∷ us) n g) (sym own) (own_staged u.frees step.made u.entry step.makes (not_waiting L s (thread_of u.entry) step.enabled).0 is after g here lives reads)
    | inr other ↦
        still_staged u.entry u.frees step.made step.makes t g (others t other) on_top lives reads (rw (ne_eqb (thread_of u.entry) t (λ e. other (sym e))) refl)
        (λ o was lived mine. cells_kept L us s facts t o g was lived mine u.entry step.made (λ e. other (sym e)) is step.makes)
  ]

none_first : {A : Type 0} (xs : List A) (t : ℕ) → frames_of (row (map (λ x. no_frames) xs) t) ≡ []
none_first xs zero = refl
none_first [] (suc t) = refl
none_first (x ∷ xs) (suc zero) = refl
none_first (x ∷ xs) (suc (suc t)) = none_first xs (suc t)

staged_start : (L : LoadRows) → AllStaged L [] (start L)
staged_start L t g on_top lives reads = absurd (let e = sym (ap top (none_first L.clients t)) ∙ on_top in cc)

-- a step of a run
staged_step : (L : LoadRows) (H : List Entry) (s z : State) (u : Turn) → Valid L → Run L H s → (step : Step L s u z) → Run L (H ++ entries_of_turn u) z → AllStaged L (turns_of H) s → AllStaged L (u ∷ turns_of H) z
staged_step L H s z u valid run step further staged =
    let facts = facts_of L H s valid run in
    let holds = holds_run L valid valid.tables H s run in
    let is = made_row L H s step.made u.entry valid run step.enabled step.makes in
    let goes = row_goes L s valid valid.tables facts.laid facts.kept.owned facts.fits holds.at u.entry step.made (not_waiting L s (thread_of u.entry) step.enabled).0 step.makes in
    let after : Facts L (u ∷ turns_of H) z = subst (λ us. Facts L us z) (turns_told L H s z u step) (facts_of L (H ++ entries_of_turn u) z valid further) in
    subst (AllStaged L (u ∷ turns_of H)) (sym step.swept) (staged_row L (turns_of H) s valid facts staged u z step is goes.turned.other_stacks (subst (Facts L (u ∷ turns_of H)) step.swept after))

all_staged : (L : LoadRows) (H : List Entry) (s : State) → Valid L → Run L H s → AllStaged L (turns_of H) s
all_staged L H s valid (Begins none is) = subst (AllStaged L (turns_of H)) (sym is) (subst (λ G. AllStaged L (turns_of G) (start L)) (sym none) (staged_start L))
all_staged L H s valid (GoesOn {G = G} {s = before} u run step is) =
    subst (λ F. AllStaged L (turns_of F) s) (sym is) (subst (λ us. AllStaged L us s) (sym (turns_told L G before s u step)) (staged_step L G before s u valid run step (GoesOn u run step refl) (all_staged L G before valid run)))

-- the newest open call of a thread is that of its top frame
calls_top : (f : LedgerFrame) (fs : List StackFrame) (b : LedgerFrame) (rest : List LedgerFrame) (call : OpenCall) (others : List OpenCall) → calls_of (f ∷ entries_of fs (b ∷ rest)) ≡ call ∷ others → call_of f ≡ call
calls_top f [] b rest call others is = cc
calls_top f (g ∷ fs) b rest call others is = calls_top f fs (frame_entry g) (b ∷ rest) call others is

module _ (L : LoadRows) (us : List Turn) (s : State) (facts : Facts L us s) (staged : AllStaged L us s) (t : ℕ) (ready : is_undone (row s.threads t) ≡ true) (made : State) where
  call_is : (f : StackFrame) → top (stack s t) ≡ Some f → (call : OpenCall) (others : List OpenCall) → open_calls us t ≡ call ∷ others → call_of (frame_entry f) ≡ call
  call_is f on_top call others opens =
      let w = ready_within L s t facts.laid ready in
      let told = facts.kept.calls.opens t w.0 (let b = w.1 in let e = facts.laid.stacks in omega (arith, b, e)) in
      let here : open_calls us t ≡ calls_of (frame_entry f ∷ under s t) = told ∙ ap calls_of (entries_top s t f on_top) in
      calls_top (frame_entry f) (below_top (stack s t)) (bottom t (row s.threads t)) [] call others (sym here ∙ opens)

  ret_gives : (c : ℕ) (results : List Value) → Row L s (entry.Ret t c results) made → GivesWhatWasWritten L us (entry.Ret t c results)
  ret_gives c results makes call others opens reads = go now.1
    where
      acts : ActsAs L s t (action.Ret results) makes.fuel makes.frame
      acts = acts_as L s t (action.Ret results) makes.fuel makes.frame makes.wants

      same : call_of (frame_entry acts.f) ≡ call
      same = call_is acts.f acts.on_top call others opens

      mine : Reads L acts.f
      mine = subst (IsRead L) (sym same) reads

      now : (makes.frame ≡ acts.f) × Wants L us t acts.f (action.Ret results)
      now = wants_now L us s facts staged t ready made (instances_row L s (entry.Ret t c results) made makes) (action.Ret results) makes.fuel makes.frame acts mine

      go : Wants L us t acts.f (action.Ret results) → GivesBlock L us t call results
      go (WantsRet o b asked got cells eq) = record {
        block = b;
        object = o;
        asked = ap (λ (k : OpenCall). slice_get k.args 0) (sym same) ∙ asked;
        given = (let e : results ≡ value.Obj o ∷ [] = cc in e);
        got = got;
        cells = cells;
      }
      go (WantsTrap trap) = absurd (let e = trap.1 in cc)
      go (WantsNew is ty eq) = absurd cc
      go (WantsBlock o b is asked eq) = absurd cc

  gives : (e : Entry) → thread_of e ≡ t → Row L s e made → GivesWhatWasWritten L us e
  gives (entry.Ret u c results) is makes = subst (λ n. Row L s (entry.Ret n c results) made → GivesWhatWasWritten L us (entry.Ret n c results)) (sym is) (ret_gives c results) makes
  gives other is makes = tt

pub reads_give : ReadsGiveWhatWasWritten
reads_give L H s valid (Begins none is) = subst (λ G. Always (λ us u. GivesWhatWasWritten L us u.entry) (turns_of G)) (sym none) tt
reads_give L H s valid (GoesOn {G = G} {s = before} u run step is) =
    let now = gives L (turns_of G) before (facts_of L G before valid run) (all_staged L G before valid run) (thread_of u.entry) (not_waiting L before (thread_of u.entry) step.enabled).0 step.made u.entry refl step.makes in
    subst (λ F. Always (λ us u. GivesWhatWasWritten L us u.entry) (turns_of F)) (sym is) (subst (Always (λ us u. GivesWhatWasWritten L us u.entry)) (sym (turns_told L G before s u step)) (now, reads_give L G before valid run))
