-- A sweep keeps what the history tells, and frees what the history says has to go.
use Rattle.machine_defs.specs.Loans.{count}
use Rattle.machine_laws.proofs.Counting.{count_append}
use Rattle.std.specs.List.{flat_map, range_with_len}
use Rattle.std.proofs.Common.{◌≡◌, ℕ, ◌-◌, ◌<◌, ◌≤◌, ◌==◌, true, false, cond, not, ◌&&◌, ◌||◌, List, [], ◌∷◌, Option, Some, None, refl, ap, sym, ◌∙◌, arith, inl, inr, length, filter}
use Rattle.std.proofs.lemmas.Bool.{cases_eq, cases_Bool, cases_lt}
use Rattle.std.proofs.Math.Bool.{or-true}
use Rattle.machine_defs.specs.declared.values.Owner.{Owner}
use Rattle.machine_defs.specs.declared.values.Owner.TheVariants as owner
use Rattle.machine_defs.specs.declared.entry.Entry.{Entry}
use Rattle.rl_defs.specs.declared.load.LoadRows.{LoadRows}
use Rattle.machine_defs.specs.State.{Placement, Root, Hung}
use Rattle.machine_defs.specs.Arguments.{has, lent_of}
use Rattle.machine_defs.specs.Steps.{Turn}
use Rattle.machine_defs.specs.History.{open_calls, owner_ended_at, objects_made, receiver_at, loans_at, gone_at, OpenCall}
use Rattle.machine_laws.proofs.Calls.{lent_in_calls}
use Rattle.machine_defs.specs.OwnedOnce.{IsThere}
use Rattle.machine_laws.specs.Ledger.{passing}
use Rattle.machine_defs.specs.Caused.{is_to_free}
use Rattle.machine_laws.specs.Ledger.{Ledger, alive, lent_in, loans, is_lost, is_lost_above, is_doomed_at, is_doomed, sweep, freed}
use Rattle.machine_laws.specs.LedgerSound.{Placed}
use Rattle.machine_laws.proofs.Sweeping.{BeforeSweep, kept_some}
use Rattle.machine_laws.proofs.Calls.{CallsAgree, lent_same}
use Rattle.machine_laws.proofs.CallRows.{turn}
use Rattle.machine_laws.proofs.HeapRows.{HeapAgrees}
use Rattle.machine_laws.proofs.CellRows.{CellsAgree}
use Rattle.machine_laws.proofs.Passing.{passing_listed, count_listed, passing_same, has_passing_above, has_passing, passing_only}
use Rattle.machine_laws.proofs.Sums.{sum_same}

calls_lend : (o : ℕ) (cs : List OpenCall) → count o (flat_map (λ c. lent_of c.args) cs) ≡ lent_in_calls o cs
calls_lend o [] = refl
calls_lend o (c ∷ cs) = let one = count_append o (lent_of c.args) (flat_map (λ (d : OpenCall). lent_of d.args) cs) in let deeper = calls_lend o cs in omega (arith, one, deeper)

-- the loans that the history tells are those of the frames
pub loans_same : (L : LoadRows) (us : List Turn) (s : Ledger) (o : ℕ) → CallsAgree L us s → Placed L s → loans_at L us o ≡ loans L s o
loans_same L us s o c p = count_listed o (λ t. flat_map (λ c. lent_of c.args) (open_calls us t)) (length L.clients) ∙ sum_same (λ t. count o (flat_map (λ (c : OpenCall). lent_of c.args) (open_calls us t))) (λ t. lent_in o (s.stack t)) (length L.clients)
    (λ t pos le. calls_lend o (open_calls us t) ∙ ap (lent_in_calls o) (c.opens t pos le) ∙ lent_same L s.loads s.next_instance s.next_call t o (s.stack t) (p.grounded t pos le))

-- whether an owner of something ended
pub ended_same : (L : LoadRows) (us : List Turn) (s : Ledger) (w : Owner) → CallsAgree L us s → ((i : ℕ) → w ≡ owner.Instance i → (0 < i) × (i < s.next_instance)) → owner_ended_at us w ≡ not (alive s.live w)
ended_same L us s (owner.Client t) c opened = refl
ended_same L us s (owner.Instance i) c opened = let r = opened i refl in c.ends i r.0 r.1

module _ (L : LoadRows) (us : List Turn) (s : Ledger) (c : CallsAgree L us s) (p : Placed L s) (h : HeapAgrees us s) (l : BeforeSweep L s) where
  lost_same : (o : ℕ) (w : Owner) → s.seat o ≡ Some (Root w) → (owner_ended_at us (receiver_at us o) && (loans_at L us o == 0)) ≡ is_lost s.live (loans L s o) w
  lost_same o w is = rw ((h.root o w is).0, loans_same L us s o c p, ended_same L us s w c (λ i e. p.owners o i (is ∙ ap (λ v. Some (Root v)) e))) refl

  -- what the history says has to go is doomed
  pub doomed_same : (o : ℕ) → 0 < o → o < s.next_object → is_to_free L us o ≡ is_doomed L s o
  doomed_same o pos lt = go (s.seat o) refl
    where
      below : (q k : ℕ) → s.seat o ≡ Some (Hung q k) → (x : Option Placement) → s.seat q ≡ x → (gone_at us q || (owner_ended_at us (receiver_at us q) && (loans_at L us q == 0))) ≡ is_lost_above s.live (loans L s) q x
      below q k is None there = let m = p.parents o q k is in rw (h.away q m.0 m.1 there) refl
      below q k is (Some (Root w)) there = rw ((h.root q w there).2) (lost_same q w there)
      below q k is (Some (Hung a j)) there = absurd (l.hung o q k a j is there)

      go : (x : Option Placement) → s.seat o ≡ x → is_to_free L us o ≡ is_doomed_at s.live (loans L s) s.seat o x
      go None is = rw (h.away o pos lt is) refl
      go (Some (Root w)) is = let r = h.root o w is in rw (r.2, r.1, r.2) (lost_same o w is)
      go (Some (Hung q k)) is = let r = h.hung o q k is in rw (r.1, r.0) (below q k is (s.seat q) refl)

  pub frees_same : freed L s ≡ filter (is_to_free L us) (range_with_len 1 (objects_made us))
  frees_same =
      let e : s.next_object - 1 ≡ objects_made us = (let a = h.made in omega arith) in
      ap (passing (is_doomed L s)) e ∙ sym (passing_same (is_to_free L us) (is_doomed L s) (objects_made us) (λ o pos le. doomed_same o pos (let a = h.made in omega arith))) ∙ passing_listed (is_to_free L us) (objects_made us)

-- the frees of the sweep
module _ (L : LoadRows) (us : List Turn) (s : Ledger) (e : Entry) (c : CallsAgree L (turn e [] ∷ us) s) (p : Placed L s) (h : HeapAgrees (turn e [] ∷ us) s) (k : CellsAgree (turn e [] ∷ us) s) (l : BeforeSweep L s) where
  pub swept_calls : (frees : List ℕ) → CallsAgree L (turn e frees ∷ us) (sweep L s)
  swept_calls frees = record { opens = c.opens; ends = c.ends; never = c.never; currents = c.currents; calls = c.calls; instances = c.instances; reloads = c.reloads }

  pub swept_placed : Placed L (sweep L s)
  swept_placed = record {
    grounded = p.grounded;
    small = p.small;
    current_of = p.current_of;
    unopened = p.unopened;
    no_instance = p.no_instance;
    no_load = p.no_load;
    some_load = p.some_load;
    owners = λ o i is. p.owners o i (kept_some (is_doomed L s o) (s.seat o) (Root (owner.Instance i)) is).1;
    parents = λ o q k is. p.parents o q k (kept_some (is_doomed L s o) (s.seat o) (Hung q k) is).1;
    zero_free = rw p.zero_free refl;
    some_object = p.some_object;
  }

  gone_now : (o : ℕ) → has (freed L s) o ≡ false → gone_at (turn e (freed L s) ∷ us) o ≡ gone_at (turn e [] ∷ us) o
  gone_now o is = rw is refl

  in_heap : (o : ℕ) (x : Placement) → s.seat o ≡ Some x → (0 < o) × (o ≤ s.next_object - 1)
  in_heap o x is = (
    elim (cases_eq o 0) [ inl e ↦ absurd (let z = p.zero_free in let is' : s.seat 0 ≡ Some x = rw e at is in cc (z, is')) | inr ne ↦ omega arith ],
    elim (cases_lt o s.next_object) [ inl lt ↦ omega arith | inr ge ↦ absurd (let z = l.fresh o ge in cc (z, is)) ],
  )

  freed_doomed : (o : ℕ) (x : Placement) → s.seat o ≡ Some x → has (freed L s) o ≡ is_doomed L s o
  freed_doomed o x is = let r = in_heap o x is in has_passing (is_doomed L s) (s.next_object - 1) o r.0 r.1

  pub swept_heap : HeapAgrees (turn e (freed L s) ∷ us) (sweep L s)
  swept_heap = record {
    made = h.made;
    root = λ o w is. (let d = kept_some (is_doomed L s o) (s.seat o) (Root w) is in let r = h.root o w d.1 in (r.0, r.1, gone_now o (freed_doomed o (Root w) d.1 ∙ d.0) ∙ r.2));
    hung = λ o q j is. (let d = kept_some (is_doomed L s o) (s.seat o) (Hung q j) is in let r = h.hung o q j d.1 in (r.0, gone_now o (freed_doomed o (Hung q j) d.1 ∙ d.0) ∙ r.1));
    away = λ o pos lt is. went o pos lt (s.seat o) refl is;
    unborn = λ o high. (let r = h.unborn o high in (r.0, gone_now o (has_passing_above (is_doomed L s) (s.next_object - 1) o (let a = p.some_object in omega arith)) ∙ r.1));
  }
    where
      went : (o : ℕ) → 0 < o → o < s.next_object → (x : Option Placement) → s.seat o ≡ x → cond (is_doomed L s o) None (s.seat o) ≡ None → gone_at (turn e (freed L s) ∷ us) o ≡ true
      went o pos lt None there is = rw (h.away o pos lt there) (or-true (has (freed L s) o))
      went o pos lt (Some x) there is = elim (cases_Bool (is_doomed L s o)) [
        | inl d ↦ let e' : has (freed L s) o ≡ true = freed_doomed o x there ∙ d in rw e' refl
        | inr d ↦ absurd (let no_seat : s.seat o ≡ None = rw d at is in cc (no_seat, there))
      ]

  -- what hangs in a root that stays, stays
  pub swept_cells : CellsAgree (turn e (freed L s) ∷ us) (sweep L s)
  swept_cells = record {
    full = λ v q j is. k.full v q j (kept_some (is_doomed L s v) (s.seat v) (Hung q j) is).1;
    stays = λ v q j x there is. (
        let d = kept_some (is_doomed L s q) (s.seat q) x there in
        let hangs = k.stays v q j x d.1 is in
        rw (hangs, remains v q j x hangs d.1 d.0) refl);
    unmade = k.unmade;
  }
    where
      remains : (v q j : ℕ) (x : Placement) → s.seat v ≡ Some (Hung q j) → s.seat q ≡ Some x → is_doomed L s q ≡ false → is_lost_above s.live (loans L s) q (s.seat q) ≡ false
      remains v q j (Root w) hangs there stays = rw there (rw there at stays)
      remains v q j (Hung a i) hangs there stays = absurd (l.hung v q j a i hangs there)

  -- what is freed was there
  pub freed_there : (o : ℕ) → has (freed L s) o ≡ true → IsThere (turn e [] ∷ us) o
  freed_there o is =
      let r = passing_only (is_doomed L s) (s.next_object - 1) o is in
      record { some = r.0; made = (let a = h.made in let b = r.1 in omega arith); stays = was (s.seat o) refl r.2 }
    where
      was : (x : Option Placement) → s.seat o ≡ x → is_doomed_at s.live (loans L s) s.seat o x ≡ true → gone_at (turn e [] ∷ us) o ≡ false
      was None there doomed = absurd cc
      was (Some (Root w)) there doomed = (h.root o w there).2
      was (Some (Hung q j)) there doomed = (h.hung o q j there).1
