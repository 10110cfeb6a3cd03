-- The history tells the words and the slots.
use Rattle.std.proofs.Common.{◌≡◌, ℕ, ◌<◌, ◌≤◌, ◌==◌, true, cond, ◌&&◌, List, [], ◌∷◌, Option, Some, None, refl, ap, sym, ◌∙◌, subst, arith, inl, inr, slice_get, slice_set}
use Rattle.std.proofs.lemmas.Bool.{cases_eq, cases_Bool, eqb-true, eq-eqb, ne_eqb, and_parts, and_from, both_ways}
use Rattle.std.proofs.lemmas.Option.{slice_get_within}
use Rattle.machine_defs.specs.declared.values.Owner.TheVariants as owner
use Rattle.machine_defs.specs.declared.entry.Entry.{Entry}
use Rattle.machine_defs.specs.declared.entry.Entry.TheVariants as entry
use Rattle.rl_defs.specs.declared.load.LoadRows.{LoadRows}
use Rattle.rl_defs.specs.Words.{same_bytes}
use Rattle.rl_defs.specs.Domains.{load_of_target, slots_of}
use Rattle.rl_defs.specs.Rows.{domain_of_load}
use Rattle.machine_defs.specs.Seen.{slots}
use Rattle.machine_defs.specs.Steps.{Turn}
use Rattle.machine_defs.specs.History.{word_after, word_at, slot_after, slot_at}
use Rattle.machine_defs.specs.Untouched.{ActsItself, Untouched}
use Rattle.rl_defs.proofs.Places.{get_set_other, get_set_same}
use Rattle.machine_laws.specs.Ledger.{LedgerFrame, Ledger, at}
use Rattle.machine_laws.specs.LedgerRows.{Runs, IsSlot, Row}
use Rattle.machine_laws.specs.LedgerSound.{Owned, Placed, IsPlan}
use Rattle.machine_laws.proofs.Calls.{CallsAgree, ground, party_opened}
use Rattle.machine_laws.proofs.CallRows.{turn}
use Rattle.machine_laws.proofs.HeapRows.{HeapAgrees, acts_for}
use Rattle.machine_laws.proofs.ShownCalls.{actor_live}
use Rattle.machine_laws.proofs.Rows.{at_same, at_other}
use Rattle.machine_laws.proofs.Parts.{content}

pub same_list : (xs ys : List ℕ) → same_bytes xs ys ≡ true → xs ≡ ys
same_list [] [] e = refl
same_list [] (y ∷ ys) e = absurd cc
same_list (x ∷ xs) [] e = absurd cc
same_list (x ∷ xs) (y ∷ ys) e =
    let r = and_parts (x == y) (same_bytes xs ys) e in
    let here : x ≡ y = eqb-true x y r.0 in
    let rest = same_list xs ys r.1 in
    cc (here, rest)

pub same_as_itself : (xs : List ℕ) → same_bytes xs xs ≡ true
same_as_itself [] = refl
same_as_itself (x ∷ xs) = and_from (x == x) (same_bytes xs xs) (eq-eqb x x refl) (same_as_itself xs)

-- the history tells each word, and what is in each slot by the slot's name
pub record ContentsAgreeIn (L : LoadRows) (us : List Turn) (loads : ℕ → ℕ) (words : ℕ → ℕ → ℕ) (slots : ℕ → List (Option ℕ)) (next_instance : ℕ) : Type 0 where
  pub words_told : (i k : ℕ) → i < next_instance → word_at us i k ≡ words i k
  pub slots_told : (i k : ℕ) (name : List ℕ) → i < next_instance → slice_get (slots_of (domain_of_load L (loads i)).lines) k ≡ Some name → slot_at us i name ≡ content (slice_get (slots i) k)
  pub no_words : (i k : ℕ) → next_instance ≤ i → word_at us i k ≡ 0
  pub no_slots : (i : ℕ) (name : List ℕ) → next_instance ≤ i → slot_at us i name ≡ None

abbrev pub ContentsAgree : LoadRows → List Turn → Ledger → Type 0
ContentsAgree L us s = ContentsAgreeIn L us s.loads s.words s.slots s.next_instance

module _ (L : LoadRows) (plan : IsPlan L) (us : List Turn) (s : Ledger) (own : Owned L s) (p : Placed L s) (x : ContentsAgree L us s) (frees : List ℕ) where
  told_still : (e : Entry) → ((i k n : ℕ) → word_after i k e n ≡ n) → ((i : ℕ) (name : List ℕ) (o : Option ℕ) → slot_after i name e o ≡ o) → ContentsAgree L (turn e frees ∷ us) s
  told_still e w q = record {
    words_told = λ i k lt. w i k (word_at us i k) ∙ x.words_told i k lt;
    slots_told = λ i k name lt is_name. q i name (slot_at us i name) ∙ x.slots_told i k name lt is_name;
    no_words = λ i k le. w i k (word_at us i k) ∙ x.no_words i k le;
    no_slots = λ i name le. q i name (slot_at us i name) ∙ x.no_slots i name le;
  }

  -- one slot's content changes
  slot_told : (e : Entry) (i k : ℕ) (name : List ℕ) (a b : Option ℕ) → i < s.next_instance → IsSlot L s i k name → slice_get (s.slots i) k ≡ Some a
      → ((j m n : ℕ) → word_after j m e n ≡ n) → ((j : ℕ) (other : List ℕ) (o : Option ℕ) → slot_after j other e o ≡ cond ((i == j) && same_bytes name other) b o)
      → ContentsAgreeIn L (turn e frees ∷ us) s.loads s.words (at i (slice_set (s.slots i) k b) s.slots) s.next_instance
  slot_told e i k name a b opened is_name full w q = record {
    words_told = λ j m lt. w j m (word_at us j m) ∙ x.words_told j m lt;
    slots_told = λ j m other lt is_other. q j other (slot_at us j other) ∙ elim (cases_eq j i) [
      | inl is ↦ rw (is, eq-eqb i i refl) (here m other (rw is at is_other))
      | inr ne ↦ rw (ne_eqb i j (λ e. ne (sym e)), at_other i (slice_set (s.slots i) k b) s.slots j ne) (x.slots_told j m other lt is_other)
    ];
    no_words = λ j m le. w j m (word_at us j m) ∙ x.no_words j m le;
    no_slots = λ j other le. q j other (slot_at us j other) ∙ rw (ne_eqb i j (λ e. omega arith)) (x.no_slots j other le);
  }
    where
      here : (m : ℕ) (other : List ℕ) → slice_get (slots_of (domain_of_load L (s.loads i)).lines) m ≡ Some other → cond (same_bytes name other) b (slot_at us i other) ≡ content (slice_get (slice_set (s.slots i) k b) m)
      here m other is_other = elim (cases_Bool (same_bytes name other)) [
        | inl same ↦ (
            let e' = same_list name other same in
            let place : m ≡ k = plan.slots k m (s.loads i) name (rw e' is_other) is_name in
            rw (same, place, get_set_same (s.slots i) k b (slice_get_within (s.slots i) k a full)) refl)
        | inr differ ↦ (
            let apart : (m ≡ k) → ⊥ = λ place. (
            let is_second = rw place at is_other in
            let e' : name ≡ other = cc (is_name, is_second) in
            both_ways (same_bytes name other) differ (subst (λ (ys : List ℕ). same_bytes name ys ≡ true) e' (same_as_itself name))) in
            rw (differ, get_set_other (s.slots i) k m b apart) (x.slots_told i m other opened is_other))
      ]

  empty : (slots : List (Option ℕ)) (k : ℕ) → ((o : ℕ) → slice_get slots k ≡ Some (Some o) → ⊥) → (o : Option (Option ℕ)) → slice_get slots k ≡ o → content o ≡ None
  empty slots k none None is = refl
  empty slots k none (Some None) is = refl
  empty slots k none (Some (Some o)) is = absurd (none o is)

  opened : (t : ℕ) (f : LedgerFrame) (fs : List LedgerFrame) (i : ℕ) → Runs L s t f fs → f.party ≡ owner.Instance i → i < s.next_instance
  opened t f fs i runs is = (party_opened L s.loads s.next_instance s.next_call t f fs i (ground L s p t f fs runs.some runs.within runs.stack) is).1

  pub contents_row : (e : Entry) (z : Ledger) → Row L s e z → ContentsAgree L (turn e frees ∷ us) z
  contents_row (entry.Call t n x i m args) z r = subst (ContentsAgree L (turn (entry.Call t n x i m args) frees ∷ us)) (sym r.4) (told_still (entry.Call t n x i m args) (λ i k n. refl) (λ i k o. refl))
  contents_row (entry.Refuse t n why x m args) z r = subst (ContentsAgree L (turn (entry.Refuse t n why x m args) frees ∷ us)) (sym r.7) (told_still (entry.Refuse t n why x m args) (λ i k n. refl) (λ i k o. refl))
  contents_row (entry.Ret t n results) z r = subst (ContentsAgree L (turn (entry.Ret t n results) frees ∷ us)) (sym r.8) (told_still (entry.Ret t n results) (λ i k n. refl) (λ i k o. refl))
  contents_row (entry.Unwound t n) z r = subst (ContentsAgree L (turn (entry.Unwound t n) frees ∷ us)) (sym r.8) (told_still (entry.Unwound t n) (λ i k n. refl) (λ i k o. refl))
  contents_row (entry.Reload t y i left) z r =
      let e = r.6 in
      let slots = r.7 in
      subst (ContentsAgree L (turn (entry.Reload t y i left) frees ∷ us)) (sym r.9) (record {
        words_told = λ j k lt. elim (cases_eq j i) [
          | inl is ↦ subst (λ q. word_at (turn (entry.Reload t y i left) frees ∷ us) q k ≡ at i (λ (k : ℕ). 0) s.words q k) (sym is) (rw (at_same i (λ (k : ℕ). 0) s.words) (x.no_words i k (omega arith)))
          | inr other ↦ rw (at_other i (λ (k : ℕ). 0) s.words j other) (x.words_told j k (omega arith))
        ];
        slots_told = λ j k name lt is_name. elim (cases_eq j i) [
          | inl is ↦ subst (λ q. slot_at (turn (entry.Reload t y i left) frees ∷ us) q name ≡ content (slice_get (at i slots s.slots q) k)) (sym is) (rw (at_same i slots s.slots) (x.no_slots i name (omega arith) ∙ sym (empty slots k (λ o. r.8 k o) (slice_get slots k) refl)))
          | inr other ↦ rw (at_other i slots s.slots j other) (x.slots_told j k name (omega arith) (rw (at_other i (load_of_target L y) s.loads j other) at is_name))
        ];
        no_words = λ j k le. x.no_words j k (omega arith);
        no_slots = λ j name le. x.no_slots j name (omega arith);
      })
  contents_row (entry.Again t n x i) z r = subst (ContentsAgree L (turn (entry.Again t n x i) frees ∷ us)) (sym r.8) (told_still (entry.Again t n x i) (λ i k n. refl) (λ i k o. refl))
  contents_row (entry.Trap t i cause) z r = subst (ContentsAgree L (turn (entry.Trap t i cause) frees ∷ us)) (sym r.4) (told_still (entry.Trap t i cause) (λ i k n. refl) (λ i k o. refl))
  contents_row (entry.Kill t i) z r = subst (ContentsAgree L (turn (entry.Kill t i) frees ∷ us)) (sym r.4) (told_still (entry.Kill t i) (λ i k n. refl) (λ i k o. refl))
  contents_row (entry.New t w o ty values) z r = subst (ContentsAgree L (turn (entry.New t w o ty values) frees ∷ us)) (sym r.7) (told_still (entry.New t w o ty values) (λ i k n. refl) (λ i k o. refl))
  contents_row (entry.Drop t o) z r = subst (ContentsAgree L (turn (entry.Drop t o) frees ∷ us)) (sym r.5) (told_still (entry.Drop t o) (λ i k n. refl) (λ i k o. refl))
  contents_row (entry.Set t o place values) z r = subst (ContentsAgree L (turn (entry.Set t o place values) frees ∷ us)) (sym r.6) (told_still (entry.Set t o place values) (λ i k n. refl) (λ i k o. refl))
  contents_row (entry.Wput t i place value) z r = subst (ContentsAgree L (turn (entry.Wput t i place value) frees ∷ us)) (sym r.6) (record {
    words_told = λ j k lt. elim (cases_eq j i) [
      | inl is ↦ subst (λ q. word_at (turn (entry.Wput t i place value) frees ∷ us) q k ≡ at i (at place value (s.words i)) s.words q k) (sym is) (rw (eq-eqb i i refl) (elim (cases_eq k place) [
        | inl same ↦ rw (eq-eqb place k (sym same), eq-eqb k place same) refl
        | inr apart ↦ rw (ne_eqb place k (λ e. apart (sym e)), at_other place value (s.words i) k apart) (x.words_told i k (opened t r.0 r.1 i r.3 r.4))
      ]))
      | inr ne ↦ rw (ne_eqb i j (λ e. ne (sym e)), at_other i (at place value (s.words i)) s.words j ne) (x.words_told j k lt)
    ];
    slots_told = x.slots_told;
    no_words = λ j k le. (let lt = opened t r.0 r.1 i r.3 r.4 in rw (ne_eqb i j (λ e. omega arith)) (x.no_words j k le));
    no_slots = x.no_slots;
  })
  contents_row (entry.Take t i slot o) z r = subst (ContentsAgree L (turn (entry.Take t i slot o) frees ∷ us)) (sym r.9) (slot_told (entry.Take t i slot o) i r.0 slot (Some o) None (opened t r.1 r.2 i r.4 r.5) r.6 r.7 (λ j m n. refl) (λ j m q. refl))
  contents_row (entry.Put t i slot o) z r = subst (ContentsAgree L (turn (entry.Put t i slot o) frees ∷ us)) (sym r.9) (slot_told (entry.Put t i slot o) i r.0 slot None (Some o) (opened t r.1 r.2 i r.4 r.5) r.6 r.7 (λ j m n. refl) (λ j m q. refl))
  contents_row (entry.DevGet t o b) z r = subst (ContentsAgree L (turn (entry.DevGet t o b) frees ∷ us)) (sym r.6) (told_still (entry.DevGet t o b) (λ i k n. refl) (λ i k o. refl))
  contents_row (entry.DevPut t b o) z r = subst (ContentsAgree L (turn (entry.DevPut t b o) frees ∷ us)) (sym r.6) (told_still (entry.DevPut t b o) (λ i k n. refl) (λ i k o. refl))
  contents_row (entry.Hang t o k v) z r = subst (ContentsAgree L (turn (entry.Hang t o k v) frees ∷ us)) (sym r.8) (told_still (entry.Hang t o k v) (λ i k n. refl) (λ i k o. refl))
  contents_row (entry.Unhang t o k v) z r = subst (ContentsAgree L (turn (entry.Unhang t o k v) frees ∷ us)) (sym r.7) (told_still (entry.Unhang t o k v) (λ i k n. refl) (λ i k o. refl))
  contents_row (entry.Show t o values) z r = subst (ContentsAgree L (turn (entry.Show t o values) frees ∷ us)) (sym r.4) (told_still (entry.Show t o values) (λ i k n. refl) (λ i k o. refl))
  contents_row (entry.Skip t number) z r = subst (ContentsAgree L (turn (entry.Skip t number) frees ∷ us)) (sym r.2) (told_still (entry.Skip t number) (λ i k n. refl) (λ i k o. refl))
  contents_row (entry.Done t) z r = subst (ContentsAgree L (turn (entry.Done t) frees ∷ us)) (sym r.2) (told_still (entry.Done t) (λ i k n. refl) (λ i k o. refl))
  contents_row (entry.Free o) z r = absurd r

module _ (L : LoadRows) (us : List Turn) (s : Ledger) (own : Owned L s) (c : CallsAgree L us s) (p : Placed L s) (h : HeapAgrees us s) (x : ContentsAgree L us s) where
  acts_itself : (t : ℕ) (f : LedgerFrame) (fs : List LedgerFrame) (i : ℕ) → Runs L s t f fs → f.party ≡ owner.Instance i → ActsItself us t i
  acts_itself t f fs i runs is = record { itself = acts_for L us s own c p h t f fs runs ∙ is; lives = actor_live L us s own c p h t f fs i runs is }

  slot_shows : (t : ℕ) (f : LedgerFrame) (fs : List LedgerFrame) (i k : ℕ) (name : List ℕ) (a : Option ℕ) → Runs L s t f fs → f.party ≡ owner.Instance i → IsSlot L s i k name → slice_get (s.slots i) k ≡ Some a → slot_at us i name ≡ a
  slot_shows t f fs i k name a runs is is_name full = x.slots_told i k name (party_opened L s.loads s.next_instance s.next_call t f fs i (ground L s p t f fs runs.some runs.within runs.stack) is).1 is_name ∙ ap content full

  pub untouched : (e : Entry) (z : Ledger) → Row L s e z → Untouched us e
  untouched (entry.Wput t i place value) z r = acts_itself t r.0 r.1 i r.3 r.4
  untouched (entry.Put t i slot o) z r = (acts_itself t r.1 r.2 i r.4 r.5, slot_shows t r.1 r.2 i r.0 slot None r.4 r.5 r.6 r.7)
  untouched (entry.Take t i slot o) z r = (acts_itself t r.1 r.2 i r.4 r.5, slot_shows t r.1 r.2 i r.0 slot (Some o) r.4 r.5 r.6 r.7)
  untouched _ z r = tt
