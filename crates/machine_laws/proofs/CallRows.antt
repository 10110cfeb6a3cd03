-- Each row keeps what the history tells of the frames, the instances and the calls.
use Rattle.std.proofs.Common.{◌≡◌, ℕ, not, suc, ◌+◌, ◌<◌, ◌≤◌, ◌==◌, true, false, List, [], ◌∷◌, refl, sym, subst, arith, inl, inr, length}
use Rattle.std.proofs.lemmas.Bool.{cases_eq, eq-eqb, ne_eqb}
use Rattle.machine_defs.specs.declared.values.Owner.TheVariants as owner
use Rattle.machine_defs.specs.declared.entry.Entry.{Entry}
use Rattle.machine_defs.specs.declared.entry.Entry.TheVariants as entry
use Rattle.rl_defs.specs.declared.load.LoadRows.{LoadRows}
use Rattle.machine_defs.specs.Entries.{thread_of}
use Rattle.machine_defs.specs.Steps.{Turn}
use Rattle.machine_defs.specs.History.{OpenCall, open_after, open_calls, ends, current_after, current_at, is_call, calls_made, is_reload, is_reload_of, ended_at, reloads_of, restarts_of}
use Rattle.machine_laws.proofs.Calls.{issued_again}
use Rattle.machine_laws.specs.Ledger.{LedgerFrame, Ledger, at, alive}
use Rattle.machine_laws.specs.LedgerRows.{Runs, callee, Row}
use Rattle.machine_laws.specs.LedgerSound.{Grounded, Placed}
use Rattle.machine_laws.proofs.Calls.{calls_of, CallsAgreeIn, CallsAgree, cond_same, calls_of_own, closed_newest, again_less, IsQuiet, opens_at, quiet_calls, quiet_top, ground, party_opened}
use Rattle.machine_laws.proofs.Rows.{at_same, at_other}

abbrev pub turn : Entry → List ℕ → Turn
turn e frees = record { entry = e; frees = frees }

-- an entry that only opens or closes calls
pub record IsCall (e : Entry) : Type 0 where
  pub ends : (i : ℕ) → ends i e ≡ false
  pub currents : (x j : ℕ) → current_after x e j ≡ j
  pub loads : is_reload e ≡ 0
  pub reloads : (x : ℕ) → is_reload_of x e ≡ 0

module _ (L : LoadRows) (us : List Turn) (s : Ledger) (c : CallsAgree L us s) (p : Placed L s) (frees : List ℕ) where
  newest_again : (t n i : ℕ) (f : LedgerFrame) (fs : List LedgerFrame) → n ≡ f.call → alive s.live f.party ≡ false → Grounded L s.loads s.next_instance s.next_call t (f ∷ fs)
      → issued_again n i (calls_of (f ∷ fs)) ≡ calls_of (record f { party = owner.Instance i; own = [] } ∷ fs)
  newest_again t n i f [] is dead g = absurd (let e = g.0 in let l : alive s.live (owner.Client t) ≡ false = rw e at dead in cc (l))
  newest_again t n i f (h ∷ fs) is dead g = rw (eq-eqb f.call n (sym is), again_less L s.loads s.next_instance s.next_call t n i h fs g.4 (let l = g.2 in omega arith)) refl

  -- one stack changes, and the calls are counted
  calls_stack : (e : Entry) → IsCall e → 0 < thread_of e → thread_of e ≤ length L.clients → (new : List LedgerFrame) (nc : ℕ) → open_after e (calls_of (s.stack (thread_of e))) ≡ calls_of new → suc (is_call e + calls_made us) ≡ nc
      → CallsAgreeIn L (turn e frees ∷ us) s.live (at (thread_of e) new s.stack) s.current s.left s.next_instance nc
  calls_stack e q pos le new nc is counts = record {
    opens = opens_at L us s c (turn e frees) pos le new is;
    ends = λ i pos lt. rw (q.ends i) (c.ends i pos lt);
    never = λ i le. rw (q.ends i) (c.never i le);
    currents = λ x. rw (q.currents x (current_at L us x)) (c.currents x);
    calls = counts;
    instances = let z = q.loads in let r = c.instances in omega arith;
    reloads = λ x. let z = q.reloads x in let r = c.reloads x in omega arith;
  }

  quiet : (e : Entry) → IsQuiet e → CallsAgree L (turn e frees ∷ us) s
  quiet e q = quiet_calls L us s c (turn e frees) q

  top : (e : Entry) → IsQuiet e → (f : LedgerFrame) (fs : List LedgerFrame) (mine : List ℕ) → Runs L s (thread_of e) f fs
      → CallsAgreeIn L (turn e frees ∷ us) s.live (at (thread_of e) (record f { own = mine } ∷ fs) s.stack) s.current s.left s.next_instance s.next_call
  top e q f fs mine runs = quiet_top L us s c (turn e frees) q f fs mine runs

  -- an instance ends
  calls_end : (e : Entry) (i : ℕ) → i < s.next_instance → ((os : List OpenCall) → open_after e os ≡ os) → ((j : ℕ) → ends j e ≡ (i == j)) → ((x j : ℕ) → current_after x e j ≡ j) → is_call e ≡ 0 → is_reload e ≡ 0 → ((x : ℕ) → is_reload_of x e ≡ 0)
      → CallsAgree L (turn e frees ∷ us) (record s { live = at i false s.live })
  calls_end e i opened opens is currents calls loads reloads = record {
    opens = λ u pos le. rw (opens (open_calls us u), cond_same (thread_of e == u) (open_calls us u)) (c.opens u pos le);
    ends = λ j pos lt. rw (is j) (elim (cases_eq j i) [
      | inl e ↦ rw (e, at_same i false s.live, eq-eqb i i refl) refl
      | inr ne ↦ rw (at_other i false s.live j ne, ne_eqb i j (λ e. ne (sym e))) (c.ends j pos lt)
    ]);
    never = λ j le. rw (is j, ne_eqb i j (λ e. omega arith)) (c.never j le);
    currents = λ x. rw (currents x (current_at L us x)) (c.currents x);
    calls = let r = c.calls in omega arith;
    instances = let r = c.instances in omega arith;
    reloads = λ x. let z = reloads x in let r = c.reloads x in omega arith;
  }

  pub calls_row : (e : Entry) (z : Ledger) → Row L s e z → CallsAgree L (turn e frees ∷ us) z
  calls_row (entry.Call t n x i m args) z r =
      let f : LedgerFrame = r.0 in
      let fs : List LedgerFrame = r.1 in
      let row = r.3 in
      subst (CallsAgree L (turn (entry.Call t n x i m args) frees ∷ us)) (sym r.4)
      (calls_stack (entry.Call t n x i m args) (record { ends = λ i. refl; currents = λ x j. refl; loads = refl; reloads = λ x. refl }) row.runs.some row.runs.within
      (callee n x i m args ∷ record f { own = r.2 } ∷ fs) (suc n) (rw (row.runs.stack, calls_of_own f r.2 fs) refl) (let a = c.calls in let b = row.number in omega arith))
  calls_row (entry.Refuse t n why x m args) z r =
      let f : LedgerFrame = r.0 in
      let fs : List LedgerFrame = r.1 in
      let runs = r.3 in
      subst (CallsAgree L (turn (entry.Refuse t n why x m args) frees ∷ us)) (sym r.7)
      (calls_stack (entry.Refuse t n why x m args) (record { ends = λ i. refl; currents = λ x j. refl; loads = refl; reloads = λ x. refl }) runs.some runs.within
      (record f { own = r.2 } ∷ fs) (suc n) (rw (runs.stack, calls_of_own f r.2 fs) refl) (let a = c.calls in let b = r.4 in omega arith))
  calls_row (entry.Ret t n results) z r =
      let f : LedgerFrame = r.0 in
      let g : LedgerFrame = r.1 in
      let fs : List LedgerFrame = r.2 in
      let runs = r.4 in
      subst (CallsAgree L (turn (entry.Ret t n results) frees ∷ us)) (sym r.8)
      (calls_stack (entry.Ret t n results) (record { ends = λ i. refl; currents = λ x j. refl; loads = refl; reloads = λ x. refl }) runs.some runs.within
      (record g { own = r.3 } ∷ fs) s.next_call
      (rw (runs.stack, calls_of_own g r.3 fs) (closed_newest L s.loads s.next_instance s.next_call t n f g fs r.5 (ground L s p t f (g ∷ fs) runs.some runs.within runs.stack))) (let a = c.calls in omega arith))
  calls_row (entry.Unwound t n) z r =
      let f : LedgerFrame = r.0 in
      let g : LedgerFrame = r.1 in
      let fs : List LedgerFrame = r.2 in
      let runs = r.4 in
      subst (CallsAgree L (turn (entry.Unwound t n) frees ∷ us)) (sym r.8)
      (calls_stack (entry.Unwound t n) (record { ends = λ i. refl; currents = λ x j. refl; loads = refl; reloads = λ x. refl }) runs.some runs.within
      (record g { own = r.3 } ∷ fs) s.next_call
      (rw (runs.stack, calls_of_own g r.3 fs) (closed_newest L s.loads s.next_instance s.next_call t n f g fs r.5 (ground L s p t f (g ∷ fs) runs.some runs.within runs.stack))) (let a = c.calls in omega arith))
  calls_row (entry.Reload t x i left) z r = subst (CallsAgree L (turn (entry.Reload t x i left) frees ∷ us)) (sym r.9) (record {
    opens = λ u pos le. rw (cond_same (t == u) (open_calls us u)) (c.opens u pos le);
    ends = λ j pos lt. elim (cases_eq j i) [
      | inl e ↦ subst (λ q. ended_at (turn (entry.Reload t x i left) frees ∷ us) q ≡ not (at i true s.live q)) (sym e) (rw (at_same i true s.live) (c.never i (let e' = r.6 in omega arith)))
      | inr ne ↦ rw (at_other i true s.live j ne) (c.ends j pos (let e' = r.6 in omega arith))
    ];
    never = λ j le. c.never j (let e' = r.6 in omega arith);
    currents = λ y. elim (cases_eq y x) [
      | inl e ↦ rw (e, at_same x i s.current, eq-eqb x x refl) refl
      | inr ne ↦ rw (at_other x i s.current y ne, ne_eqb x y (λ e. ne (sym e))) (c.currents y)
    ];
    calls = let a = c.calls in omega arith;
    instances = let a = c.instances in let e = r.6 in omega arith;
    reloads = λ y. elim (cases_eq y x) [
      | inl e ↦ subst (λ q. at x left s.left q + reloads_of (turn (entry.Reload t x i left) frees ∷ us) q ≡ restarts_of L q) (sym e) (rw (at_same x left s.left, eq-eqb x x refl) (let a = c.reloads x in let b = r.5 in omega arith))
      | inr ne ↦ rw (at_other x left s.left y ne, ne_eqb x y (λ e. ne (sym e))) (let a = c.reloads y in omega arith)
    ];
  })
  calls_row (entry.Again t n x i) z r =
      let f : LedgerFrame = r.0 in
      let fs : List LedgerFrame = r.1 in
      let runs = r.2 in
      subst (CallsAgree L (turn (entry.Again t n x i) frees ∷ us)) (sym r.8)
      (calls_stack (entry.Again t n x i) (record { ends = λ i. refl; currents = λ x j. refl; loads = refl; reloads = λ x. refl }) runs.some runs.within
      (record f { party = owner.Instance i; own = [] } ∷ fs) s.next_call
      (rw runs.stack (newest_again t n i f fs r.3 runs.dead (ground L s p t f fs runs.some runs.within runs.stack))) (let a = c.calls in omega arith))
  calls_row (entry.Trap t i cause) z r = subst (CallsAgree L (turn (entry.Trap t i cause) frees ∷ us)) (sym r.4) (calls_end (entry.Trap t i cause) i (party_opened L s.loads s.next_instance s.next_call t r.0 r.1 i (ground L s p t r.0 r.1 r.2.some r.2.within r.2.stack) r.3).1 (λ os. refl) (λ j. refl) (λ x j. refl) refl refl (λ x. refl))
  calls_row (entry.Kill t i) z r = subst (CallsAgree L (turn (entry.Kill t i) frees ∷ us)) (sym r.4) (calls_end (entry.Kill t i) i (let e = r.3 in let l = (p.current_of r.2).0 in omega arith) (λ os. refl) (λ j. refl) (λ x j. refl) refl refl (λ x. refl))
  calls_row (entry.New t w o ty values) z r = subst (CallsAgree L (turn (entry.New t w o ty values) frees ∷ us)) (sym r.7) (top (entry.New t w o ty values) (record { opens = λ os. refl; ends = λ i. refl; currents = λ x j. refl; calls = refl; loads = refl; reloads = λ x. refl }) r.0 r.1 r.2 r.3)
  calls_row (entry.Drop t o) z r = subst (CallsAgree L (turn (entry.Drop t o) frees ∷ us)) (sym r.5) (top (entry.Drop t o) (record { opens = λ os. refl; ends = λ i. refl; currents = λ x j. refl; calls = refl; loads = refl; reloads = λ x. refl }) r.0 r.1 r.2 r.3)
  calls_row (entry.Set t o place values) z r = subst (CallsAgree L (turn (entry.Set t o place values) frees ∷ us)) (sym r.6) (top (entry.Set t o place values) (record { opens = λ os. refl; ends = λ i. refl; currents = λ x j. refl; calls = refl; loads = refl; reloads = λ x. refl }) r.0 r.1 r.2 r.3)
  calls_row (entry.Wput t i place value) z r = subst (CallsAgree L (turn (entry.Wput t i place value) frees ∷ us)) (sym r.6) (top (entry.Wput t i place value) (record { opens = λ os. refl; ends = λ i. refl; currents = λ x j. refl; calls = refl; loads = refl; reloads = λ x. refl }) r.0 r.1 r.2 r.3)
  calls_row (entry.Take t i slot o) z r = subst (CallsAgree L (turn (entry.Take t i slot o) frees ∷ us)) (sym r.9) (top (entry.Take t i slot o) (record { opens = λ os. refl; ends = λ i. refl; currents = λ x j. refl; calls = refl; loads = refl; reloads = λ x. refl }) r.1 r.2 r.3 r.4)
  calls_row (entry.Put t i slot o) z r = subst (CallsAgree L (turn (entry.Put t i slot o) frees ∷ us)) (sym r.9) (top (entry.Put t i slot o) (record { opens = λ os. refl; ends = λ i. refl; currents = λ x j. refl; calls = refl; loads = refl; reloads = λ x. refl }) r.1 r.2 r.3 r.4)
  calls_row (entry.DevGet t o b) z r = subst (CallsAgree L (turn (entry.DevGet t o b) frees ∷ us)) (sym r.6) (top (entry.DevGet t o b) (record { opens = λ os. refl; ends = λ i. refl; currents = λ x j. refl; calls = refl; loads = refl; reloads = λ x. refl }) r.0 r.1 r.2 r.3)
  calls_row (entry.DevPut t b o) z r = subst (CallsAgree L (turn (entry.DevPut t b o) frees ∷ us)) (sym r.6) (top (entry.DevPut t b o) (record { opens = λ os. refl; ends = λ i. refl; currents = λ x j. refl; calls = refl; loads = refl; reloads = λ x. refl }) r.0 r.1 r.2 r.3)
  calls_row (entry.Hang t o k v) z r = subst (CallsAgree L (turn (entry.Hang t o k v) frees ∷ us)) (sym r.8) (top (entry.Hang t o k v) (record { opens = λ os. refl; ends = λ i. refl; currents = λ x j. refl; calls = refl; loads = refl; reloads = λ x. refl }) r.0 r.1 r.2 r.3)
  calls_row (entry.Unhang t o k v) z r = subst (CallsAgree L (turn (entry.Unhang t o k v) frees ∷ us)) (sym r.7) (top (entry.Unhang t o k v) (record { opens = λ os. refl; ends = λ i. refl; currents = λ x j. refl; calls = refl; loads = refl; reloads = λ x. refl }) r.0 r.1 r.2 r.3)
  calls_row (entry.Show t o values) z r = subst (CallsAgree L (turn (entry.Show t o values) frees ∷ us)) (sym r.4) (quiet (entry.Show t o values) (record { opens = λ os. refl; ends = λ i. refl; currents = λ x j. refl; calls = refl; loads = refl; reloads = λ x. refl }))
  calls_row (entry.Skip t number) z r = subst (CallsAgree L (turn (entry.Skip t number) frees ∷ us)) (sym r.2) (quiet (entry.Skip t number) (record { opens = λ os. refl; ends = λ i. refl; currents = λ x j. refl; calls = refl; loads = refl; reloads = λ x. refl }))
  calls_row (entry.Done t) z r = subst (CallsAgree L (turn (entry.Done t) frees ∷ us)) (sym r.2) (quiet (entry.Done t) (record { opens = λ os. refl; ends = λ i. refl; currents = λ x j. refl; calls = refl; loads = refl; reloads = λ x. refl }))
  calls_row (entry.Free o) z r = absurd r
