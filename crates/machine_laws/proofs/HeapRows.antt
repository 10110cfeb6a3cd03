-- The readings of a history that tell the objects.
use Rattle.std.proofs.Common.{◌≡◌, ℕ, suc, ◌<◌, ◌≤◌, true, false, cond, ◌⊎◌, List, [], ◌∷◌, Option, Some, None, refl, ap, sym, ◌∙◌, subst, arith, inl, inr, Bool}
use Rattle.std.proofs.lemmas.Bool.{cases_eq, cases_Bool, eq-eqb, ne_eqb, cases_lt}
use Rattle.rl_defs.specs.declared.values.Value.{Value}
use Rattle.machine_defs.specs.declared.values.Owner.{Owner}
use Rattle.machine_defs.specs.declared.values.Owner.TheVariants as owner
use Rattle.machine_defs.specs.declared.entry.Entry.{Entry}
use Rattle.machine_defs.specs.declared.entry.Entry.TheVariants as entry
use Rattle.rl_defs.specs.declared.load.LoadRows.{LoadRows}
use Rattle.machine_defs.specs.State.{Placement, Root, Hung}
use Rattle.machine_defs.specs.Loans.{count}
use Rattle.machine_defs.specs.Arguments.{has, moved_of}
use Rattle.machine_defs.specs.Entries.{thread_of}
use Rattle.machine_defs.specs.Steps.{Turn}
use Rattle.machine_defs.specs.History.{open_calls, actor_at, is_new, objects_made, receiver_after, receiver_at, parent_after, parent_at, gone_at, dropped}
use Rattle.machine_laws.proofs.Calls.{closed}
use Rattle.machine_defs.specs.Arguments.{objects_in}
use Rattle.machine_laws.specs.Ledger.{LedgerFrame, Ledger, at}
use Rattle.machine_laws.specs.LedgerRows.{Runs, give, remove, Row}
use Rattle.machine_laws.specs.LedgerSound.{Owned, Grounded, Placed}
use Rattle.machine_laws.proofs.Counts.{has_counted, has_cond, loses_one}
use Rattle.machine_laws.proofs.Owners.{below, top_root}
use Rattle.machine_laws.proofs.OneStack.{at_each}
use Rattle.machine_laws.proofs.Calls.{calls_of, CallsAgree, actor_top, closed_newest}
use Rattle.machine_laws.proofs.CallRows.{turn}
use Rattle.machine_laws.proofs.PlaceRows.{made_before, own_made}
use Rattle.machine_laws.proofs.Rows.{at_same, at_other}

-- the history tells the seats
pub record HeapAgreesIn (us : List Turn) (seat : ℕ → Option Placement) (next_object : ℕ) : Type 0 where
  pub made : suc (objects_made us) ≡ next_object
  pub root : (o : ℕ) (w : Owner) → seat o ≡ Some (Root w) → (receiver_at us o ≡ w) × (parent_at us o ≡ None) × (gone_at us o ≡ false)
  pub hung : (o p k : ℕ) → seat o ≡ Some (Hung p k) → (parent_at us o ≡ Some p) × (gone_at us o ≡ false)
  pub away : (o : ℕ) → 0 < o → o < next_object → seat o ≡ None → gone_at us o ≡ true
  pub unborn : (o : ℕ) → next_object ≤ o → (parent_at us o ≡ None) × (gone_at us o ≡ false)

abbrev pub HeapAgrees : List Turn → Ledger → Type 0
HeapAgrees us s = HeapAgreesIn us s.seat s.next_object

-- what becomes of an object and its readings
abbrev pub Becomes : List Turn → List Turn → (ℕ → Option Placement) → (ℕ → Option Placement) → ℕ → ℕ → Type 0
Becomes us us' seat seat' next o =
    ((seat' o ≡ seat o) × (receiver_at us' o ≡ receiver_at us o) × (parent_at us' o ≡ parent_at us o) × (gone_at us' o ≡ gone_at us o))
    ⊎ (((w : Owner) × (seat' o ≡ Some (Root w)) × (receiver_at us' o ≡ w) × (parent_at us' o ≡ None) × (gone_at us' o ≡ false))
    ⊎ (((p : ℕ) × (k : ℕ) × (seat' o ≡ Some (Hung p k)) × (parent_at us' o ≡ Some p) × (gone_at us' o ≡ false))
    ⊎ ((seat' o ≡ None) × (gone_at us' o ≡ true) × (o < next))))

pub heaped : (us us' : List Turn) (seat seat' : ℕ → Option Placement) (next next' : ℕ) → HeapAgreesIn us seat next → ((o : ℕ) → Becomes us us' seat seat' next o)
    → suc (objects_made us') ≡ next' → next ≤ next' → ((o : ℕ) → next' ≤ o → seat' o ≡ None) → ((o : ℕ) → next ≤ o → o < next' → seat' o ≡ None → ⊥) → HeapAgreesIn us' seat' next'
heaped us us' seat seat' next next' h becomes counts le fresh born = record {
  made = counts;
  root = λ o w is. elim (becomes o) [
    | inl same ↦ let r = h.root o w (sym same.0 ∙ is) in (same.1 ∙ r.0, same.2 ∙ r.1, same.3 ∙ r.2)
    | inr (inl roots) ↦ (let e : roots.0 ≡ w = cc (roots.1, is) in roots.2 ∙ e, roots.3, roots.4)
    | inr (inr (inl hangs)) ↦ absurd (cc (hangs.2, is))
    | inr (inr (inr left)) ↦ absurd (cc (left.0, is))
  ];
  hung = λ o p k is. elim (becomes o) [
    | inl same ↦ let r = h.hung o p k (sym same.0 ∙ is) in (same.2 ∙ r.0, same.3 ∙ r.1)
    | inr (inl roots) ↦ absurd (cc (roots.1, is))
    | inr (inr (inl hangs)) ↦ (cc (hangs.3, hangs.2, is), hangs.4)
    | inr (inr (inr left)) ↦ absurd (cc (left.0, is))
  ];
  away = λ o pos lt is. elim (becomes o) [
    | inl same ↦ elim (cases_lt o next) [
      | inl below ↦ same.3 ∙ h.away o pos below (sym same.0 ∙ is)
      | inr above ↦ absurd (born o above lt is)
    ]
    | inr (inl roots) ↦ absurd (cc (roots.1, is))
    | inr (inr (inl hangs)) ↦ absurd (cc (hangs.2, is))
    | inr (inr (inr left)) ↦ left.1
  ];
  unborn = λ o high. elim (becomes o) [
    | inl same ↦ let r = h.unborn o (omega arith) in (same.2 ∙ r.0, same.3 ∙ r.1)
    | inr (inl roots) ↦ (roots.3, roots.4)
    | inr (inr (inl hangs)) ↦ absurd (let none = fresh o high in cc (hangs.2, none))
    | inr (inr (inr left)) ↦ absurd (let l = left.2 in omega arith)
  ];
}

-- whether an entry drops an object
abbrev pub drops : ℕ → Entry → Bool
drops o e = has (dropped e) o

-- an entry that tells nothing of objects
pub record IsSilent (e : Entry) : Type 0 where
  pub receivers : (o : ℕ) (a b w : Owner) → receiver_after o e a b w ≡ w
  pub parents : (o : ℕ) (x : Option ℕ) → parent_after o e x ≡ x
  pub drops : (o : ℕ) → drops o e ≡ false
  pub news : is_new e ≡ 0

module _ (L : LoadRows) (us : List Turn) (s : Ledger) (own : Owned L s) (c : CallsAgree L us s) (p : Placed L s) (h : HeapAgrees us s) where
  -- who acts before an entry
  pub acts_for : (t : ℕ) (f : LedgerFrame) (fs : List LedgerFrame) → Runs L s t f fs → actor_at us t ≡ f.party
  acts_for t f fs runs =
      let g : Grounded L s.loads s.next_instance s.next_call t (f ∷ fs) = rw runs.stack at (p.grounded t runs.some runs.within) in
      rw (c.opens t runs.some runs.within, runs.stack) (actor_top L s.loads s.next_instance s.next_call t f fs g)

  -- who acts after a return
  pub acts_behind : (t n : ℕ) (results : List Value) (f g : LedgerFrame) (fs : List LedgerFrame) → Runs L s t f (g ∷ fs) → n ≡ f.call → actor_at (turn (entry.Ret t n results) [] ∷ us) t ≡ g.party
  acts_behind t n results f g fs runs is =
      let ground : Grounded L s.loads s.next_instance s.next_call t (f ∷ g ∷ fs) = rw runs.stack at (p.grounded t runs.some runs.within) in
      let left : closed n (open_calls us t) ≡ calls_of (g ∷ fs) = rw (c.opens t runs.some runs.within, runs.stack) (closed_newest L s.loads s.next_instance s.next_call t n f g fs is ground) in
      rw (eq-eqb t t refl, left) (actor_top L s.loads s.next_instance s.next_call t g fs ground.4)

  silent : (e : Entry) → IsSilent e → HeapAgrees (turn e [] ∷ us) s
  silent e q = heaped us (turn e [] ∷ us) s.seat s.seat s.next_object s.next_object h
      (λ o. inl (refl, q.receivers o (actor_at us (thread_of e)) (actor_at (turn e [] ∷ us) (thread_of e)) (receiver_at us o), q.parents o (parent_at us o), rw (q.drops o) refl))
      (let a = h.made in let b = q.news in omega arith) (omega arith) own.fresh (λ o a b. absurd (omega arith))

  -- the objects of a list go to a party
  given : (e : Entry) (os : List ℕ) (w : Owner) → ((o : ℕ) → receiver_at (turn e [] ∷ us) o ≡ cond (has os o) w (receiver_at us o)) → ((o : ℕ) (x : Option ℕ) → parent_after o e x ≡ x) → ((o : ℕ) → drops o e ≡ false) → is_new e ≡ 0
      → ((o : ℕ) → 0 < count o os → (v : Owner) × (s.seat o ≡ Some (Root v))) → HeapAgreesIn (turn e [] ∷ us) (give os w s.seat) s.next_object
  given e os w receivers parents drops news roots = heaped us (turn e [] ∷ us) s.seat (give os w s.seat) s.next_object s.next_object h
      (λ o. elim (cases_Bool (has os o)) [
        | inl is ↦ inr (inl (w, rw is refl, receivers o ∙ rw is refl, parents o (parent_at us o) ∙ (let r = roots o (has_counted os o is) in (h.root o r.0 r.1).1), rw (drops o) (let r = roots o (has_counted os o is) in (h.root o r.0 r.1).2)))
        | inr is ↦ inl (rw is refl, receivers o ∙ rw is refl, parents o (parent_at us o), rw (drops o) refl)
      ])
      (let a = h.made in omega arith) (omega arith)
      (λ o high. has_cond (λ y. y ≡ None) o os (Some (Root w)) (s.seat o) (λ some. absurd (let r = roots o some in let n = own.fresh o high in cc (r.1, n))) (λ _. own.fresh o high))
      (λ o a b. absurd (omega arith))

  pub heap_row : (e : Entry) (z : Ledger) → Row L s e z → HeapAgrees (turn e [] ∷ us) z
  heap_row (entry.Call t n x i m args) z r =
      let row = r.3 in
      subst (HeapAgrees (turn (entry.Call t n x i m args) [] ∷ us)) (sym r.4)
      (given (entry.Call t n x i m args) (moved_of args) (owner.Instance i) (λ o. refl) (λ o x. refl) (λ o. refl) refl
      (λ o some. (r.0.party, top_root L s own t r.0 r.1 row.runs o (let a = row.passes.moved o in omega arith))))
  heap_row (entry.Refuse t n why x m args) z r =
      let runs = r.3 in
      let e : Entry = entry.Refuse t n why x m args in
      subst (HeapAgrees (turn e [] ∷ us)) (sym r.7)
      (heaped us (turn e [] ∷ us) s.seat (remove (moved_of args) s.seat) s.next_object s.next_object h
      (λ o. elim (cases_Bool (has (moved_of args) o)) [
        | inl is ↦ inr (inr (inr (rw is refl, rw is refl, (let some = has_counted (moved_of args) o is in let a = r.6.moved o in (own_made L s own p t r.0 r.1 runs o (omega arith)).1))))
        | inr is ↦ inl (rw is refl, refl, refl, rw is refl)
      ])
      (let a = h.made in omega arith) (omega arith)
      (λ o high. has_cond (λ y. y ≡ None) o (moved_of args) None (s.seat o) (λ _. refl) (λ _. own.fresh o high))
      (λ o a b. absurd (omega arith)))
  heap_row (entry.Ret t n results) z r =
      let f : LedgerFrame = r.0 in
      let g : LedgerFrame = r.1 in
      let fs : List LedgerFrame = r.2 in
      let runs = r.4 in
      let e : Entry = entry.Ret t n results in
      let after = acts_behind t n results f g fs runs r.5 in
      subst (HeapAgrees (turn e [] ∷ us)) (sym r.8)
      (given e (objects_in results) g.party (λ o. ap (λ w. cond (has (objects_in results) o) w (receiver_at us o)) after) (λ o x. refl) (λ o. refl) refl
      (λ o some. (f.party, top_root L s own t f (g ∷ fs) runs o (let a = r.6 o in omega arith))))
  heap_row (entry.Unwound t n) z r = subst (HeapAgrees (turn (entry.Unwound t n) [] ∷ us)) (sym r.8) (silent (entry.Unwound t n) (record { receivers = λ o a b w. refl; parents = λ o x. refl; drops = λ o. refl; news = refl }))
  heap_row (entry.Reload t x i left) z r = subst (HeapAgrees (turn (entry.Reload t x i left) [] ∷ us)) (sym r.9) (silent (entry.Reload t x i left) (record { receivers = λ o a b w. refl; parents = λ o x. refl; drops = λ o. refl; news = refl }))
  heap_row (entry.Again t n x i) z r = subst (HeapAgrees (turn (entry.Again t n x i) [] ∷ us)) (sym r.8) (silent (entry.Again t n x i) (record { receivers = λ o a b w. refl; parents = λ o x. refl; drops = λ o. refl; news = refl }))
  heap_row (entry.Trap t i cause) z r = subst (HeapAgrees (turn (entry.Trap t i cause) [] ∷ us)) (sym r.4) (silent (entry.Trap t i cause) (record { receivers = λ o a b w. refl; parents = λ o x. refl; drops = λ o. refl; news = refl }))
  heap_row (entry.Kill t i) z r = subst (HeapAgrees (turn (entry.Kill t i) [] ∷ us)) (sym r.4) (silent (entry.Kill t i) (record { receivers = λ o a b w. refl; parents = λ o x. refl; drops = λ o. refl; news = refl }))
  heap_row (entry.New t w q ty values) z r =
      let e : Entry = entry.New t w q ty values in
      subst (HeapAgrees (turn e [] ∷ us)) (sym r.7)
      (heaped us (turn e [] ∷ us) s.seat (at q (Some (Root w)) s.seat) s.next_object (suc q) h
      (λ o. elim (cases_eq o q) [
        | inl is ↦ inr (inl (w, rw is (at_same q (Some (Root w)) s.seat), rw (is, eq-eqb q q refl) refl, (h.unborn o (let a = r.5 in omega arith)).0, (h.unborn o (let a = r.5 in omega arith)).1))
        | inr ne ↦ inl (at_other q (Some (Root w)) s.seat o ne, rw (ne_eqb q o (λ is. ne (sym is))) refl, refl, refl)
      ])
      (let a = h.made in let b = r.5 in omega arith) (let b = r.5 in omega arith)
      (λ o high. at_other q (Some (Root w)) s.seat o (λ is. omega arith) ∙ own.fresh o (let b = r.5 in omega arith))
      (λ o low high none. let is : o ≡ q = (let b = r.5 in omega arith) in let none' : at q (Some (Root w)) s.seat q ≡ None = rw is at none in let there : Some (Root w) ≡ None = sym (at_same q (Some (Root w)) s.seat) ∙ none' in cc (there)))
  heap_row (entry.Drop t q) z r =
      let e : Entry = entry.Drop t q in
      subst (HeapAgrees (turn e [] ∷ us)) (sym r.5)
      (heaped us (turn e [] ∷ us) s.seat (at q None s.seat) s.next_object s.next_object h
      (λ o. elim (cases_eq o q) [
        | inl is ↦ inr (inr (inr (rw is (at_same q None s.seat), rw (is, eq-eqb q q refl) refl, rw is (own_made L s own p t r.0 r.1 r.3 q (loses_one r.0.own q r.2 r.4)).1)))
        | inr ne ↦ inl (at_other q None s.seat o ne, refl, refl, rw (ne_eqb q o (λ is. ne (sym is))) refl)
      ])
      (let a = h.made in omega arith) (omega arith)
      (λ o high. at_each (λ j y. s.next_object ≤ j → y ≡ None) q None s.seat o (λ _. refl) (λ _. own.fresh o) high)
      (λ o a b. absurd (omega arith)))
  heap_row (entry.Set t o place values) z r = subst (HeapAgrees (turn (entry.Set t o place values) [] ∷ us)) (sym r.6) (silent (entry.Set t o place values) (record { receivers = λ o a b w. refl; parents = λ o x. refl; drops = λ o. refl; news = refl }))
  heap_row (entry.Wput t i place value) z r = subst (HeapAgrees (turn (entry.Wput t i place value) [] ∷ us)) (sym r.6) (silent (entry.Wput t i place value) (record { receivers = λ o a b w. refl; parents = λ o x. refl; drops = λ o. refl; news = refl }))
  heap_row (entry.Take t i slot o) z r = subst (HeapAgrees (turn (entry.Take t i slot o) [] ∷ us)) (sym r.9) (silent (entry.Take t i slot o) (record { receivers = λ o a b w. refl; parents = λ o x. refl; drops = λ o. refl; news = refl }))
  heap_row (entry.Put t i slot o) z r = subst (HeapAgrees (turn (entry.Put t i slot o) [] ∷ us)) (sym r.9) (silent (entry.Put t i slot o) (record { receivers = λ o a b w. refl; parents = λ o x. refl; drops = λ o. refl; news = refl }))
  heap_row (entry.DevGet t o b) z r = subst (HeapAgrees (turn (entry.DevGet t o b) [] ∷ us)) (sym r.6) (silent (entry.DevGet t o b) (record { receivers = λ o a b w. refl; parents = λ o x. refl; drops = λ o. refl; news = refl }))
  heap_row (entry.DevPut t b o) z r = subst (HeapAgrees (turn (entry.DevPut t b o) [] ∷ us)) (sym r.6) (silent (entry.DevPut t b o) (record { receivers = λ o a b w. refl; parents = λ o x. refl; drops = λ o. refl; news = refl }))
  heap_row (entry.Hang t q k v) z r =
      let e : Entry = entry.Hang t q k v in
      subst (HeapAgrees (turn e [] ∷ us)) (sym r.8)
      (heaped us (turn e [] ∷ us) s.seat (at v (Some (Hung q k)) s.seat) s.next_object s.next_object h
      (λ o. elim (cases_eq o v) [
        | inl is ↦ inr (inr (inl (q, k, rw is (at_same v (Some (Hung q k)) s.seat), rw (is, eq-eqb v v refl) refl, rw is (h.root v r.0.party (top_root L s own t r.0 r.1 r.3 v (loses_one r.0.own v r.2 r.5))).2)))
        | inr ne ↦ inl (at_other v (Some (Hung q k)) s.seat o ne, refl, rw (ne_eqb v o (λ is. ne (sym is))) refl, refl)
      ])
      (let a = h.made in omega arith) (omega arith)
      (λ o high. at_other v (Some (Hung q k)) s.seat o (λ is. let m = (own_made L s own p t r.0 r.1 r.3 v (loses_one r.0.own v r.2 r.5)).1 in omega arith) ∙ own.fresh o high)
      (λ o a b. absurd (omega arith)))
  heap_row (entry.Unhang t q k v) z r =
      let e : Entry = entry.Unhang t q k v in
      let who = acts_for t r.0 r.1 r.3 in
      subst (HeapAgrees (turn e [] ∷ us)) (sym r.7)
      (heaped us (turn e [] ∷ us) s.seat (at v (Some (Root r.0.party)) s.seat) s.next_object s.next_object h
      (λ o. elim (cases_eq o v) [
        | inl is ↦ inr (inl (r.0.party, rw is (at_same v (Some (Root r.0.party)) s.seat), rw (is, eq-eqb v v refl) who, rw (is, eq-eqb v v refl) refl, rw is (h.hung v q k r.5).1))
        | inr ne ↦ inl (at_other v (Some (Root r.0.party)) s.seat o ne, rw (ne_eqb v o (λ is. ne (sym is))) refl, rw (ne_eqb v o (λ is. ne (sym is))) refl, refl)
      ])
      (let a = h.made in omega arith) (omega arith)
      (λ o high. at_other v (Some (Root r.0.party)) s.seat o (λ is. let m = (made_before L s own p v (Hung q k) r.5).1 in omega arith) ∙ own.fresh o high)
      (λ o a b. absurd (omega arith)))
  heap_row (entry.Show t o values) z r = subst (HeapAgrees (turn (entry.Show t o values) [] ∷ us)) (sym r.4) (silent (entry.Show t o values) (record { receivers = λ o a b w. refl; parents = λ o x. refl; drops = λ o. refl; news = refl }))
  heap_row (entry.Skip t number) z r = subst (HeapAgrees (turn (entry.Skip t number) [] ∷ us)) (sym r.2) (silent (entry.Skip t number) (record { receivers = λ o a b w. refl; parents = λ o x. refl; drops = λ o. refl; news = refl }))
  heap_row (entry.Done t) z r = subst (HeapAgrees (turn (entry.Done t) [] ∷ us)) (sym r.2) (silent (entry.Done t) (record { receivers = λ o a b w. refl; parents = λ o x. refl; drops = λ o. refl; news = refl }))
  heap_row (entry.Free o) z r = absurd r
