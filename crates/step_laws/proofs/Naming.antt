-- What an entry changes is a root of who acts, and isn't lent; what it reads is a root.
use Rattle.std.proofs.Common.{◌≡◌, ℕ, ◌<◌, ◌==◌, ◌⊎◌, true, false, List, [], ◌∷◌, length, Option, Some, None, refl, ap, sym, subst, ◌∙◌, arith, inl, inr}
use Rattle.std.proofs.lemmas.Bool.{cases_Bool, eqb-true}
use Rattle.rl_defs.specs.declared.load.LoadRows.{LoadRows}
use Rattle.machine_defs.specs.declared.values.Arg.{Arg}
use Rattle.machine_defs.specs.declared.values.Owner.{Owner}
use Rattle.machine_defs.specs.declared.entry.Entry.{Entry}
use Rattle.machine_defs.specs.declared.entry.Entry.TheVariants as entry
use Rattle.machine_defs.specs.State.{State, StackFrame, Root, stack, top}
use Rattle.machine_defs.specs.Arguments.{has, lent_of, moved_of, objects_in}
use Rattle.machine_defs.specs.Entries.{thread_of}
use Rattle.machine_defs.specs.Frames.{acting}
use Rattle.machine_defs.specs.Loans.{count}
use Rattle.rl_defs.specs.Rows.{row}
use Rattle.machine_laws.specs.Ledger.{LedgerFrame, Ledger, lent_in}
use Rattle.machine_laws.specs.LedgerOf.{ledger_of, frame_entry}
use Rattle.machine_laws.specs.LedgerRows.{Row, Runs, MayPass, Exchanged}
use Rattle.machine_laws.specs.LedgerSound.{Owned}
use Rattle.machine_laws.proofs.Counts.{has_counted, loses_one}
use Rattle.machine_laws.proofs.OneStack.{lent_loans}
use Rattle.machine_laws.proofs.Owners.{top_root, unlent}
use Rattle.machine_laws.proofs.Stacks.{loans_same, top_none}
use Rattle.machine_laws.proofs.Tops.{bottom, entries, under, entries_top}
use Rattle.step_laws.specs.StepLaws.{NamesRoots, EntriesNameRoots, changes, looks_at}
use Rattle.step_laws.proofs.MadeRows.{IsMade, made_row}
use Rattle.step_laws.proofs.Roots.{root_there}

-- who runs has an object of its own
pub record Owns (L : LoadRows) (s : Ledger) (t o : ℕ) : Type 0 where
  pub frame : LedgerFrame
  pub below : List LedgerFrame
  pub runs : Runs L s t frame below
  pub own : 0 < count o frame.own

only : (q o : ℕ) → has (q ∷ []) o ≡ true → q ≡ o
only q o is = elim (cases_Bool (q == o)) [
  | inl e ↦ eqb-true q o e
  | inr e ↦ absurd (let e' : false ≡ true = rw e at is in cc)
]

either : (q p o : ℕ) → has (q ∷ (p ∷ [])) o ≡ true → (q ≡ o) ⊎ (p ≡ o)
either q p o is = elim (cases_Bool (q == o)) [
  | inl e ↦ inl (eqb-true q o e)
  | inr e ↦ inr (only p o (rw e at is))
]

module _ (L : LoadRows) (s : Ledger) (own : Owned L s) where
  one : (t q o : ℕ) (f : LedgerFrame) (fs : List LedgerFrame) → Runs L s t f fs → 0 < count q f.own → has (q ∷ []) o ≡ true → Owns L s t o
  one t q o f fs runs some is = record { frame = f; below = fs; runs = runs; own = subst (λ n. 0 < count n f.own) (only q o is) some }

  passed : (t o : ℕ) (f : LedgerFrame) (fs : List LedgerFrame) (os mine : List ℕ) → Runs L s t f fs → Exchanged f.own os [] mine → has os o ≡ true → Owns L s t o
  passed t o f fs os mine runs loses is = record { frame = f; below = fs; runs = runs; own = (let e = loses o in let some = has_counted os o is in omega (arith, e, some)) }

  pub changes_row : (e : Entry) (z : Ledger) → Row L s e z → (o : ℕ) → has (changes e) o ≡ true → Owns L s (thread_of e) o
  changes_row (entry.Call t c x i m args) z r o is = passed t o r.0 r.1 (moved_of args) r.2 r.3.runs r.3.passes.moved is
  changes_row (entry.Refuse t c why x m args) z r o is = passed t o r.0 r.1 (moved_of args) r.2 r.3 r.6.moved is
  changes_row (entry.Ret t c results) z r o is = passed t o r.0 (r.1 ∷ r.2) (objects_in results) [] r.4 r.6 is
  changes_row (entry.Drop t q) z r o is = one t q o r.0 r.1 r.3 (loses_one r.0.own q r.2 r.4) is
  changes_row (entry.Set t q place values) z r o is = one t q o r.0 r.1 r.3 r.4 is
  changes_row (entry.Put t i slot q) z r o is = one t q o r.1 r.2 r.4 (loses_one r.1.own q r.3 r.8) is
  changes_row (entry.DevGet t q b) z r o is = one t q o r.0 r.1 r.3 r.4 is
  changes_row (entry.Hang t q k v) z r o is = elim (either v q o is) [
    | inl e ↦ record { frame = r.0; below = r.1; runs = r.3; own = subst (λ n. 0 < count n r.0.own) e (loses_one r.0.own v r.2 r.5) }
    | inr e ↦ record { frame = r.0; below = r.1; runs = r.3; own = subst (λ n. 0 < count n r.0.own) e (let a = r.4 in let b = r.5 q in omega (arith, a, b)) }
  ]
  changes_row (entry.Unhang t q k v) z r o is = one t q o r.0 r.1 r.3 r.4 is
  changes_row other z r o is = absurd cc

  -- what a frame has of its own or was lent is a root
  own_root : (t o : ℕ) (f : LedgerFrame) (fs : List LedgerFrame) → Runs L s t f fs → 0 < count o f.own → (w : Owner) × (s.seat o ≡ Some (Root w))
  own_root t o f fs runs some = (f.party, top_root L s own t f fs runs o some)

  lent_root : (t o : ℕ) (f : LedgerFrame) (fs : List LedgerFrame) → Runs L s t f fs → 0 < count o f.lent → (w : Owner) × (s.seat o ≡ Some (Root w))
  lent_root t o f fs runs some =
      let here : lent_in o (s.stack t) ≡ lent_in o (f ∷ fs) = ap (lent_in o) runs.stack in
      own.lent o (lent_loans (length L.clients) s.live s.stack s.seat s.slots s.next_object own t o (omega (arith, here, some)))

  lends : (t o : ℕ) (f : LedgerFrame) (fs : List LedgerFrame) (args : List Arg) (mine : List ℕ) → Runs L s t f fs → MayPass f args mine → has (lent_of args) o ≡ true → (w : Owner) × (s.seat o ≡ Some (Root w))
  lends t o f fs args mine runs may is = elim (may.lent o (has_counted (lent_of args) o is)) [
    | inl mine' ↦ own_root t o f fs runs (let e = may.moved o in omega (arith, e, mine'))
    | inr lent ↦ lent_root t o f fs runs lent
  ]

  pub looks_row : (e : Entry) (z : Ledger) → Row L s e z → (o : ℕ) → has (looks_at e) o ≡ true → (w : Owner) × (s.seat o ≡ Some (Root w))
  looks_row (entry.Call t c x i m args) z r o is = lends t o r.0 r.1 args r.2 r.3.runs r.3.passes is
  looks_row (entry.Refuse t c why x m args) z r o is = lends t o r.0 r.1 args r.2 r.3 r.6 is
  looks_row (entry.DevPut t b q) z r o is = elim r.4 [
    | inl mine ↦ own_root t o r.0 r.1 r.3 (subst (λ n. 0 < count n r.0.own) (only q o is) mine)
    | inr lent ↦ lent_root t o r.0 r.1 r.3 (subst (λ n. 0 < count n r.0.lent) (only q o is) lent)
  ]
  looks_row (entry.Show t q values) z r o is = own_root t o r.0 [] r.1 (subst (λ n. 0 < count n r.0.own) (only q o is) r.2)
  looks_row other z r o is = absurd cc

-- who acts is the party of the top frame
party_acts : (L : LoadRows) (s : State) (t : ℕ) (f : LedgerFrame) (fs : List LedgerFrame) → (ledger_of L s).stack t ≡ f ∷ fs → f.party ≡ acting s t
party_acts L s t f fs is = by_top (top (stack s t)) refl
  where
    by_top : (x : Option StackFrame) → top (stack s t) ≡ x → f.party ≡ acting s t
    by_top (Some g) on_top =
        let here : f ∷ fs ≡ frame_entry g ∷ under s t = sym is ∙ entries_top s t g on_top in
        let same : f ≡ frame_entry g = cc in
        rw on_top (ap (λ (h : LedgerFrame). h.party) same)
    by_top None on_top =
        let none = top_none (stack s t) on_top in
        let alone : f ∷ fs ≡ entries t [] (row s.threads t) = sym is ∙ ap (λ gs. entries t gs (row s.threads t)) none in
        let same : f ≡ bottom t (row s.threads t) = cc in
        rw on_top (ap (λ (h : LedgerFrame). h.party) same)

pub names_roots : (L : LoadRows) (s made : State) (e : Entry) → IsMade L s e made → NamesRoots s e
names_roots L s made e m = record {
  changed = λ o is. (
      let owns = changes_row L (ledger_of L s) m.owned e (ledger_of L made) m.row o is in
      let root = top_root L (ledger_of L s) m.owned (thread_of e) owns.frame owns.below owns.runs o owns.own in
      let free = unlent L (ledger_of L s) m.owned (thread_of e) owns.frame owns.below owns.runs o owns.own in
      let party = party_acts L s (thread_of e) owns.frame owns.below owns.runs.stack in
      (root_there s o (acting s (thread_of e)) (root ∙ ap (λ w. Some (Root w)) party), sym (loans_same L s o m.laid) ∙ free));
  seen = λ o is. (let r = looks_row L (ledger_of L s) m.owned e (ledger_of L made) m.row o is in (r.0, root_there s o r.0 r.1));
}

pub entries_name : EntriesNameRoots
entries_name L H s made e valid run enabled row = names_roots L s made e (made_row L H s made e valid run enabled row)
