-- Each call is opened at most once, and in a whole run each is closed as often as it is opened.
use Rattle.std.proofs.Common.{◌≡◌, ℕ, suc, ◌+◌, ◌<◌, ◌≤◌, ◌==◌, Bool, true, false, cond, List, [], ◌∷◌, refl, sym, subst, arith, inl, inr, length}
use Rattle.std.proofs.lemmas.Bool.{cases_eq, eq-eqb, ne_eqb, both_ways}
use Rattle.machine_defs.specs.declared.values.Owner.TheVariants as owner
use Rattle.machine_defs.specs.declared.entry.Entry.{Entry}
use Rattle.machine_defs.specs.declared.entry.Entry.TheVariants as entry
use Rattle.rl_defs.specs.declared.load.LoadRows.{LoadRows}
use Rattle.machine_defs.specs.Entries.{thread_of}
use Rattle.machine_defs.specs.Steps.{Turn}
use Rattle.machine_defs.specs.History.{times, OpenCall}
use Rattle.machine_laws.specs.Ledger.{sum_to}
use Rattle.machine_defs.specs.Answered.{opens_call, closes_call}
use Rattle.machine_laws.specs.Ledger.{LedgerFrame, Ledger, at}
use Rattle.machine_laws.specs.LedgerRows.{Runs, callee, Row}
use Rattle.machine_laws.specs.LedgerSound.{Placed}
use Rattle.machine_laws.proofs.Sums.{sum_at}
use Rattle.machine_laws.proofs.OneStack.{at_each}
use Rattle.machine_laws.proofs.Calls.{calls_of, calls_of_own}
use Rattle.machine_laws.proofs.CallRows.{turn}
use Rattle.machine_laws.proofs.OwnerRows.{sum_none}

abbrev pub times_opened : ℕ → List Turn → ℕ
times_opened c us = times (opens_call c) us

abbrev pub times_closed : ℕ → List Turn → ℕ
times_closed c us = times (closes_call c) us

-- how often a call is among the open ones
abbrev pub times_open : ℕ → List OpenCall → ℕ
times_open c [] = 0
times_open c (o ∷ os) = cond (o.call == c) 1 0 + times_open c os

pub record CountedIn (L : LoadRows) (us : List Turn) (stack : ℕ → List LedgerFrame) (done : ℕ → Bool) (next_call : ℕ) : Type 0 where
  pub even : (c : ℕ) → times_opened c us ≡ times_closed c us + sum_to (λ t. times_open c (calls_of (stack t))) (length L.clients)
  pub later : (c : ℕ) → next_call ≤ c → times_opened c us ≡ 0
  pub at_most : (c : ℕ) → times_opened c us ≤ 1
  -- a client that is done has its own frame alone
  pub emptied : (t : ℕ) → done t ≡ true → (f : LedgerFrame) × (stack t ≡ f ∷ [])

abbrev pub Counted : LoadRows → List Turn → Ledger → Type 0
Counted L us s = CountedIn L us s.stack s.done s.next_call

module _ (L : LoadRows) (us : List Turn) (s : Ledger) (p : Placed L s) (x : Counted L us s) (frees : List ℕ) where
  -- an entry that opens no call
  changed : (e : Entry) (new : List LedgerFrame) (nc : ℕ) → 0 < thread_of e → thread_of e ≤ length L.clients → s.done (thread_of e) ≡ false → s.next_call ≤ nc → ((c : ℕ) → opens_call c e ≡ 0) → ((c : ℕ) → closes_call c e + times_open c (calls_of new) ≡ times_open c (calls_of (s.stack (thread_of e))))
      → CountedIn L (turn e frees ∷ us) (at (thread_of e) new s.stack) s.done nc
  changed e new nc pos le undone more opens closes = record {
    even = λ c. (
        let a = x.even c in
        let b = sum_at (λ fs. times_open c (calls_of fs)) s.stack (thread_of e) new (length L.clients) pos le in
        let d = opens c in
        let f = closes c in
        omega arith);
    later = λ c high. (let a = x.later c (omega arith) in let d = opens c in omega arith);
    at_most = λ c. (let a = x.at_most c in let d = opens c in omega arith);
    emptied = λ u. at_each (λ k fs. s.done k ≡ true → (f : LedgerFrame) × (fs ≡ f ∷ [])) (thread_of e) new s.stack u (λ done. absurd (both_ways (s.done (thread_of e)) undone done)) (λ _. x.emptied u);
  }

  same : (e : Entry) → ((c : ℕ) → opens_call c e ≡ 0) → ((c : ℕ) → closes_call c e ≡ 0) → Counted L (turn e frees ∷ us) s
  same e opens closes = record {
    even = λ c. (let a = x.even c in let d = opens c in let f = closes c in omega arith);
    later = λ c high. (let a = x.later c high in let d = opens c in omega arith);
    at_most = λ c. (let a = x.at_most c in let d = opens c in omega arith);
    emptied = x.emptied;
  }

  top : (e : Entry) (nc : ℕ) → s.next_call ≤ nc → ((c : ℕ) → opens_call c e ≡ 0) → ((c : ℕ) → closes_call c e ≡ 0) → (f : LedgerFrame) (fs : List LedgerFrame) (mine : List ℕ) → Runs L s (thread_of e) f fs → CountedIn L (turn e frees ∷ us) (at (thread_of e) (record f { own = mine } ∷ fs) s.stack) s.done nc
  top e nc more opens closes f fs mine runs = changed e (record f { own = mine } ∷ fs) nc runs.some runs.within runs.undone more opens (λ c. rw (runs.stack, calls_of_own f mine fs) (let d = closes c in omega arith))

  popped : (f g : LedgerFrame) (fs : List LedgerFrame) (n c : ℕ) → n ≡ f.call → cond (n == c) 1 0 + times_open c (calls_of (g ∷ fs)) ≡ times_open c (calls_of (f ∷ g ∷ fs))
  popped f g fs n c is = rw is refl

  again : (f : LedgerFrame) (fs : List LedgerFrame) (i : ℕ) (c : ℕ) → times_open c (calls_of (record f { party = owner.Instance i; own = [] } ∷ fs)) ≡ times_open c (calls_of (f ∷ fs))
  again f [] i c = refl
  again f (h ∷ fs) i c = refl

  pub counted_row : (e : Entry) (z : Ledger) → Row L s e z → Counted L (turn e frees ∷ us) z
  counted_row (entry.Call t n y i m args) z r =
      let f : LedgerFrame = r.0 in
      let fs : List LedgerFrame = r.1 in
      let row = r.3 in
      let runs = row.runs in
      subst (Counted L (turn (entry.Call t n y i m args) frees ∷ us)) (sym r.4) (record {
        even = λ c. (
            let a = x.even c in
            let b = sum_at (λ gs. times_open c (calls_of gs)) s.stack t (callee n y i m args ∷ record f { own = r.2 } ∷ fs) (length L.clients) runs.some runs.within in
            let same : times_open c (calls_of (callee n y i m args ∷ record f { own = r.2 } ∷ fs)) ≡ cond (n == c) 1 0 + times_open c (calls_of (s.stack t)) = rw (runs.stack, calls_of_own f r.2 fs) refl in
            omega arith);
        later = λ c high. (let b = row.number in rw (ne_eqb n c (λ e. omega arith)) (let a = x.later c (omega arith) in omega arith));
        at_most = λ c. elim (cases_eq n c) [
          | inl is ↦ rw (eq-eqb n c is) (let a = x.later c (let b = row.number in omega arith) in omega arith)
          | inr ne ↦ rw (ne_eqb n c ne) (let a = x.at_most c in omega arith)
        ];
        emptied = λ u. at_each (λ k gs. s.done k ≡ true → (g : LedgerFrame) × (gs ≡ g ∷ [])) t (callee n y i m args ∷ record f { own = r.2 } ∷ fs) s.stack u (λ done. absurd (both_ways (s.done t) runs.undone done)) (λ _. x.emptied u);
      })
  counted_row (entry.Ret t n results) z r =
      let runs = r.4 in
      subst (Counted L (turn (entry.Ret t n results) frees ∷ us)) (sym r.8) (changed (entry.Ret t n results) (record r.1 { own = r.3 } ∷ r.2) s.next_call runs.some runs.within runs.undone (omega arith) (λ c. refl)
      (λ c. rw (runs.stack, calls_of_own r.1 r.3 r.2) (popped r.0 r.1 r.2 n c r.5)))
  counted_row (entry.Unwound t n) z r =
      let runs = r.4 in
      subst (Counted L (turn (entry.Unwound t n) frees ∷ us)) (sym r.8) (changed (entry.Unwound t n) (record r.1 { own = r.3 } ∷ r.2) s.next_call runs.some runs.within runs.undone (omega arith) (λ c. refl)
      (λ c. rw (runs.stack, calls_of_own r.1 r.3 r.2) (popped r.0 r.1 r.2 n c r.5)))
  counted_row (entry.Again t n y i) z r =
      let runs = r.2 in
      subst (Counted L (turn (entry.Again t n y i) frees ∷ us)) (sym r.8) (changed (entry.Again t n y i) (record r.0 { party = owner.Instance i; own = [] } ∷ r.1) s.next_call runs.some runs.within runs.undone (omega arith) (λ c. refl)
      (λ c. rw runs.stack (let a = again r.0 r.1 i c in omega arith)))
  counted_row (entry.Refuse t n why y m args) z r = subst (Counted L (turn (entry.Refuse t n why y m args) frees ∷ us)) (sym r.7) (top (entry.Refuse t n why y m args) (suc n) (let b = r.4 in omega arith) (λ c. refl) (λ c. refl) r.0 r.1 r.2 r.3)
  counted_row (entry.New t w o ty values) z r = subst (Counted L (turn (entry.New t w o ty values) frees ∷ us)) (sym r.7) (top (entry.New t w o ty values) s.next_call (omega arith) (λ c. refl) (λ c. refl) r.0 r.1 r.2 r.3)
  counted_row (entry.Drop t o) z r = subst (Counted L (turn (entry.Drop t o) frees ∷ us)) (sym r.5) (top (entry.Drop t o) s.next_call (omega arith) (λ c. refl) (λ c. refl) r.0 r.1 r.2 r.3)
  counted_row (entry.Take t i slot o) z r = subst (Counted L (turn (entry.Take t i slot o) frees ∷ us)) (sym r.9) (top (entry.Take t i slot o) s.next_call (omega arith) (λ c. refl) (λ c. refl) r.1 r.2 r.3 r.4)
  counted_row (entry.Put t i slot o) z r = subst (Counted L (turn (entry.Put t i slot o) frees ∷ us)) (sym r.9) (top (entry.Put t i slot o) s.next_call (omega arith) (λ c. refl) (λ c. refl) r.1 r.2 r.3 r.4)
  counted_row (entry.Hang t o k v) z r = subst (Counted L (turn (entry.Hang t o k v) frees ∷ us)) (sym r.8) (top (entry.Hang t o k v) s.next_call (omega arith) (λ c. refl) (λ c. refl) r.0 r.1 r.2 r.3)
  counted_row (entry.Unhang t o k v) z r = subst (Counted L (turn (entry.Unhang t o k v) frees ∷ us)) (sym r.7) (top (entry.Unhang t o k v) s.next_call (omega arith) (λ c. refl) (λ c. refl) r.0 r.1 r.2 r.3)
  counted_row (entry.Reload t y i left) z r = subst (Counted L (turn (entry.Reload t y i left) frees ∷ us)) (sym r.9) (same (entry.Reload t y i left) (λ c. refl) (λ c. refl))
  counted_row (entry.Trap t i cause) z r = subst (Counted L (turn (entry.Trap t i cause) frees ∷ us)) (sym r.4) (same (entry.Trap t i cause) (λ c. refl) (λ c. refl))
  counted_row (entry.Kill t i) z r = subst (Counted L (turn (entry.Kill t i) frees ∷ us)) (sym r.4) (same (entry.Kill t i) (λ c. refl) (λ c. refl))
  counted_row (entry.Set t o place values) z r = subst (Counted L (turn (entry.Set t o place values) frees ∷ us)) (sym r.6) (top (entry.Set t o place values) s.next_call (omega arith) (λ c. refl) (λ c. refl) r.0 r.1 r.2 r.3)
  counted_row (entry.Wput t i place value) z r = subst (Counted L (turn (entry.Wput t i place value) frees ∷ us)) (sym r.6) (top (entry.Wput t i place value) s.next_call (omega arith) (λ c. refl) (λ c. refl) r.0 r.1 r.2 r.3)
  counted_row (entry.DevGet t o b) z r = subst (Counted L (turn (entry.DevGet t o b) frees ∷ us)) (sym r.6) (top (entry.DevGet t o b) s.next_call (omega arith) (λ c. refl) (λ c. refl) r.0 r.1 r.2 r.3)
  counted_row (entry.DevPut t b o) z r = subst (Counted L (turn (entry.DevPut t b o) frees ∷ us)) (sym r.6) (top (entry.DevPut t b o) s.next_call (omega arith) (λ c. refl) (λ c. refl) r.0 r.1 r.2 r.3)
  counted_row (entry.Show t o values) z r = subst (Counted L (turn (entry.Show t o values) frees ∷ us)) (sym r.4) (same (entry.Show t o values) (λ c. refl) (λ c. refl))
  counted_row (entry.Skip t number) z r = subst (Counted L (turn (entry.Skip t number) frees ∷ us)) (sym r.2) (same (entry.Skip t number) (λ c. refl) (λ c. refl))
  counted_row (entry.Done t) z r = subst (Counted L (turn (entry.Done t) frees ∷ us)) (sym r.2) (record {
    even = λ c. (let a = x.even c in omega arith);
    later = λ c high. (let a = x.later c high in omega arith);
    at_most = λ c. (let a = x.at_most c in omega arith);
    emptied = λ u. at_each (λ k is. is ≡ true → (g : LedgerFrame) × (s.stack k ≡ g ∷ [])) t true s.done u (λ _. (r.0, r.1.stack)) (λ _. x.emptied u);
  })
  counted_row (entry.Free o) z r = absurd r

-- where every client is done, each call that was opened was closed, once
pub closed_once : (L : LoadRows) (us : List Turn) (s : Ledger) → Counted L us s → ((t : ℕ) → 0 < t → t ≤ length L.clients → s.done t ≡ true) → (c : ℕ) → (times_closed c us ≡ times_opened c us) × (times_closed c us ≤ 1)
closed_once L us s x all_done c =
    let none = sum_none (λ t. times_open c (calls_of (s.stack t))) (length L.clients) (λ t pos le. let w = x.emptied t (all_done t pos le) in let e = w.1 in rw e refl) in
    let a = x.even c in
    let b = x.at_most c in
    (omega arith, omega arith)
