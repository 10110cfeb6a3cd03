-- What the history tells of cells: in which of an object's cells another hangs.
use Rattle.std.proofs.Common.{◌≡◌, ℕ, suc, ◌<◌, ◌≤◌, ◌==◌, true, cond, ◌&&◌, ◌⊎◌, List, [], ◌∷◌, Option, Some, None, refl, ap, sym, ◌∙◌, subst, arith, inl, inr}
use Rattle.std.proofs.lemmas.Bool.{cases_eq, cases_Bool, eqb-true, eq-eqb, ne_eqb, and_parts, and_from, both_ways}
use Rattle.machine_defs.specs.declared.values.Owner.{Owner}
use Rattle.machine_defs.specs.declared.values.Owner.TheVariants as owner
use Rattle.machine_defs.specs.declared.entry.Entry.{Entry}
use Rattle.machine_defs.specs.declared.entry.Entry.TheVariants as entry
use Rattle.rl_defs.specs.declared.load.LoadRows.{LoadRows}
use Rattle.machine_defs.specs.State.{Placement, Root, Hung}
use Rattle.machine_defs.specs.Loans.{count}
use Rattle.machine_defs.specs.Arguments.{has, moved_of}
use Rattle.machine_defs.specs.Steps.{Turn}
use Rattle.machine_defs.specs.Arguments.{objects_in}
use Rattle.machine_defs.specs.History.{cell_after, cell_at}
use Rattle.machine_laws.specs.Ledger.{LedgerFrame, Ledger, at}
use Rattle.machine_laws.specs.LedgerRows.{Runs, give, remove, Row}
use Rattle.machine_laws.specs.LedgerSound.{Owned, Placed}
use Rattle.machine_laws.proofs.Counts.{has_counted, loses_one}
use Rattle.machine_laws.proofs.Owners.{top_root}
use Rattle.machine_laws.proofs.OneStack.{at_each}
use Rattle.machine_laws.proofs.CallRows.{turn}
use Rattle.machine_laws.proofs.PlaceRows.{own_made}
use Rattle.machine_laws.proofs.Rows.{at_same, at_other}

-- what hangs is in its cell, and a cell of an object that is there holds nothing else
pub record CellsAgreeIn (us : List Turn) (seat : ℕ → Option Placement) (next_object : ℕ) : Type 0 where
  pub full : (v p k : ℕ) → seat v ≡ Some (Hung p k) → cell_at us p k ≡ Some v
  pub stays : (v p k : ℕ) (x : Placement) → seat p ≡ Some x → cell_at us p k ≡ Some v → seat v ≡ Some (Hung p k)
  pub unmade : (p k : ℕ) → next_object ≤ p → cell_at us p k ≡ None

abbrev pub CellsAgree : List Turn → Ledger → Type 0
CellsAgree us s = CellsAgreeIn us s.seat s.next_object

-- a test of two numbers
pub both_same : (a b c d : ℕ) → ((a == b) && (c == d)) ≡ true → (a ≡ b) × (c ≡ d)
both_same a b c d e = let r = and_parts (a == b) (c == d) e in (eqb-true a b r.0, eqb-true c d r.1)

pub same_both : (a b c d : ℕ) → a ≡ b → c ≡ d → ((a == b) && (c == d)) ≡ true
same_both a b c d e e' = and_from (a == b) (c == d) (eq-eqb a b e) (eq-eqb c d e')

module _ (L : LoadRows) (us : List Turn) (s : Ledger) (own : Owned L s) (p : Placed L s) (cells : CellsAgree us s) where
  -- an entry that hangs nothing and takes nothing down; objects whose place differs were roots or weren't made yet
  flat : (e : Entry) (seat' : ℕ → Option Placement) (next' : ℕ) → ((q k : ℕ) (x : Option ℕ) → cell_after q k e x ≡ x) → s.next_object ≤ next'
      → ((o : ℕ) → (seat' o ≡ s.seat o) ⊎ ((((w : Owner) × (s.seat o ≡ Some (Root w))) ⊎ (s.next_object ≤ o)) × ((q k : ℕ) → seat' o ≡ Some (Hung q k) → ⊥)))
      → CellsAgreeIn (turn e [] ∷ us) seat' next'
  flat e seat' next' quiet le places = record {
    full = λ v q k is. quiet q k (cell_at us q k) ∙ elim (places v) [ inl same ↦ cells.full v q k (sym same ∙ is) | inr moved ↦ absurd (moved.1 q k is) ];
    stays = λ v q k x there is. hangs v q k (there_before q x there (λ high. let none = cells.unmade q k high in let is' = sym (quiet q k (cell_at us q k)) ∙ is in cc (none, is'))) (sym (quiet q k (cell_at us q k)) ∙ is);
    unmade = λ q k high. quiet q k (cell_at us q k) ∙ cells.unmade q k (omega arith);
  }
    where
      there_before : (q : ℕ) (x : Placement) → seat' q ≡ Some x → (s.next_object ≤ q → ⊥) → (y : Placement) × (s.seat q ≡ Some y)
      there_before q x there made = elim (places q) [
        | inl same ↦ (x, sym same ∙ there)
        | inr moved ↦ elim moved.0 [ inl root ↦ (Root root.0, root.1) | inr high ↦ absurd (made high) ]
      ]

      hangs : (v q k : ℕ) → ((y : Placement) × (s.seat q ≡ Some y)) → cell_at us q k ≡ Some v → seat' v ≡ Some (Hung q k)
      hangs v q k there is =
          let was = cells.stays v q k there.0 there.1 is in
          elim (places v) [
            | inl same ↦ same ∙ was
            | inr moved ↦ absurd (elim moved.0 [ inl root ↦ (let r = root.1 in cc (r, was)) | inr high ↦ (let none = own.fresh v high in cc (none, was)) ])
          ]

  -- objects of the top frame pass to another owner, or go
  moved : (t : ℕ) (f : LedgerFrame) (fs : List LedgerFrame) → Runs L s t f fs → (os : List ℕ) (x : Option Placement) → ((o : ℕ) → count o os ≤ count o f.own) → ((q k : ℕ) → x ≡ Some (Hung q k) → ⊥)
      → (o : ℕ) → (cond (has os o) x (s.seat o) ≡ s.seat o) ⊎ ((((w : Owner) × (s.seat o ≡ Some (Root w))) ⊎ (s.next_object ≤ o)) × ((q k : ℕ) → cond (has os o) x (s.seat o) ≡ Some (Hung q k) → ⊥))
  moved t f fs runs os x own_all stands o = elim (cases_Bool (has os o)) [
    | inl is ↦ inr (inl (f.party, top_root L s own t f fs runs o (let a = own_all o in let b = has_counted os o is in omega arith)), rw is stands)
    | inr is ↦ inl (rw is refl)
  ]

  -- one object of the top frame goes, or one is made
  moved_one : (o : ℕ) (x : Option Placement) → ((w : Owner) × (s.seat o ≡ Some (Root w))) ⊎ (s.next_object ≤ o) → ((q k : ℕ) → x ≡ Some (Hung q k) → ⊥)
      → (v : ℕ) → (at o x s.seat v ≡ s.seat v) ⊎ ((((w : Owner) × (s.seat v ≡ Some (Root w))) ⊎ (s.next_object ≤ v)) × ((q k : ℕ) → at o x s.seat v ≡ Some (Hung q k) → ⊥))
  moved_one o x was stands v = elim (cases_eq v o) [
    | inl is ↦ inr (rw is was, rw is (rw (at_same o x s.seat) stands))
    | inr ne ↦ inl (at_other o x s.seat v ne)
  ]

  quiet : (e : Entry) → ((q k : ℕ) (x : Option ℕ) → cell_after q k e x ≡ x) → CellsAgree (turn e [] ∷ us) s
  quiet e same = flat e s.seat s.next_object same (omega arith) (λ o. inl refl)

  hung : (t o k v : ℕ) (f : LedgerFrame) (fs : List LedgerFrame) → Runs L s t f fs → 0 < count o f.own → 0 < count v f.own
      → ((q : ℕ) → s.seat q ≡ Some (Hung o k) → ⊥) → ((q j : ℕ) → s.seat q ≡ Some (Hung v j) → ⊥)
      → CellsAgreeIn (turn (entry.Hang t o k v) [] ∷ us) (at v (Some (Hung o k)) s.seat) s.next_object
  hung t o k v f fs runs has_o has_v empty leaf = record {
    full = λ a q j. at_each (λ b y. y ≡ Some (Hung q j) → cell_at (turn (entry.Hang t o k v) [] ∷ us) q j ≡ Some b) v (Some (Hung o k)) s.seat a
        (λ is. (let a1 : o ≡ q = cc (is) in let a2 : k ≡ j = cc (is) in rw (same_both o q k j a1 a2) refl))
        (λ ne is. elim (cases_Bool ((o == q) && (k == j))) [
          | inl e ↦ absurd (let r = both_same o q k j e in empty a (is ∙ ap (λ b. Some (Hung b j)) (sym r.0) ∙ ap (λ b. Some (Hung o b)) (sym r.1)))
          | inr e ↦ rw e (cells.full a q j is)
        ]);
    stays = λ a q j x there is. elim (cases_Bool ((o == q) && (k == j))) [
      | inl e ↦ (let r = both_same o q k j e in let is' : Some v ≡ Some a = rw e at is in let a1 : v ≡ a = cc (is') in rw (← a1, ← r.0, ← r.1) (at_same v (Some (Hung o k)) s.seat))
      | inr e ↦ (
          let is' : cell_at us q j ≡ Some a = rw e at is in
          let there' : (y : Placement) × (s.seat q ≡ Some y) = at_each (λ b y. y ≡ Some x → (z : Placement) × (s.seat b ≡ Some z)) v (Some (Hung o k)) s.seat q (λ _. (Root f.party, root)) (λ _ was. (x, was)) there in
          let was = cells.stays a q j there'.0 there'.1 is' in
          at_other v (Some (Hung o k)) s.seat a (λ same. let was' : s.seat v ≡ Some (Hung q j) = rw same at was in cc (root, was')) ∙ was)
    ];
    unmade = λ q j high. rw (ne_eqb o q (λ is. let a = (own_made L s own p t f fs runs o has_o).1 in omega arith)) (cells.unmade q j high);
  }
    where
      root : s.seat v ≡ Some (Root f.party)
      root = top_root L s own t f fs runs v has_v

  unhung : (t o k v : ℕ) (w : Owner) → s.seat v ≡ Some (Hung o k) → CellsAgreeIn (turn (entry.Unhang t o k v) [] ∷ us) (at v (Some (Root w)) s.seat) s.next_object
  unhung t o k v w was = record {
    full = λ a q j. at_each (λ b y. y ≡ Some (Hung q j) → cell_at (turn (entry.Unhang t o k v) [] ∷ us) q j ≡ Some b) v (Some (Root w)) s.seat a
        (λ is. absurd (cc (is)))
        (λ ne is. elim (cases_Bool ((o == q) && (k == j))) [
          | inl e ↦ absurd (let r = both_same o q k j e in ne (own.cell a v o k (is ∙ ap (λ b. Some (Hung b j)) (sym r.0) ∙ ap (λ b. Some (Hung o b)) (sym r.1)) was))
          | inr e ↦ rw e (cells.full a q j is)
        ]);
    stays = λ a q j x there is. elim (cases_Bool ((o == q) && (k == j))) [
      | inl e ↦ absurd (let is' : None ≡ Some a = rw e at is in cc (is'))
      | inr e ↦ (
          let is' : cell_at us q j ≡ Some a = rw e at is in
          let there' : (y : Placement) × (s.seat q ≡ Some y) = at_each (λ b y. y ≡ Some x → (z : Placement) × (s.seat b ≡ Some z)) v (Some (Root w)) s.seat q (λ _. (Hung o k, was)) (λ _ before. (x, before)) there in
          let hangs = cells.stays a q j there'.0 there'.1 is' in
          at_other v (Some (Root w)) s.seat a (λ same. (
          let hangs' : s.seat v ≡ Some (Hung q j) = rw same at hangs in
          let a1 : o ≡ q = cc (was, hangs') in
          let a2 : k ≡ j = cc (was, hangs') in
          both_ways ((o == q) && (k == j)) e (same_both o q k j a1 a2))) ∙ hangs)
    ];
    unmade = λ q j high. elim (cases_Bool ((o == q) && (k == j))) [ inl e ↦ rw e refl | inr e ↦ rw e (cells.unmade q j high) ];
  }

  pub cells_row : (e : Entry) (z : Ledger) → Row L s e z → CellsAgree (turn e [] ∷ us) z
  cells_row (entry.Call t n x i m args) z r = subst (CellsAgree (turn (entry.Call t n x i m args) [] ∷ us)) (sym r.4)
      (flat (entry.Call t n x i m args) (give (moved_of args) (owner.Instance i) s.seat) s.next_object (λ q k y. refl) (omega arith)
      (moved t r.0 r.1 r.3.runs (moved_of args) (Some (Root (owner.Instance i))) (λ o. let a = r.3.passes.moved o in omega arith) (λ q k e. cc (e))))
  cells_row (entry.Refuse t n why x m args) z r = subst (CellsAgree (turn (entry.Refuse t n why x m args) [] ∷ us)) (sym r.7)
      (flat (entry.Refuse t n why x m args) (remove (moved_of args) s.seat) s.next_object (λ q k y. refl) (omega arith)
      (moved t r.0 r.1 r.3 (moved_of args) None (λ o. let a = r.6.moved o in omega arith) (λ q k e. cc (e))))
  cells_row (entry.Ret t n results) z r = subst (CellsAgree (turn (entry.Ret t n results) [] ∷ us)) (sym r.8)
      (flat (entry.Ret t n results) (give (objects_in results) r.1.party s.seat) s.next_object (λ q k y. refl) (omega arith)
      (moved t r.0 (r.1 ∷ r.2) r.4 (objects_in results) (Some (Root r.1.party)) (λ o. let a = r.6 o in omega arith) (λ q k e. cc (e))))
  cells_row (entry.Unwound t n) z r = subst (CellsAgree (turn (entry.Unwound t n) [] ∷ us)) (sym r.8) (quiet (entry.Unwound t n) (λ q k y. refl))
  cells_row (entry.Reload t x i left) z r = subst (CellsAgree (turn (entry.Reload t x i left) [] ∷ us)) (sym r.9) (quiet (entry.Reload t x i left) (λ q k y. refl))
  cells_row (entry.Again t n x i) z r = subst (CellsAgree (turn (entry.Again t n x i) [] ∷ us)) (sym r.8) (quiet (entry.Again t n x i) (λ q k y. refl))
  cells_row (entry.Trap t i cause) z r = subst (CellsAgree (turn (entry.Trap t i cause) [] ∷ us)) (sym r.4) (quiet (entry.Trap t i cause) (λ q k y. refl))
  cells_row (entry.Kill t i) z r = subst (CellsAgree (turn (entry.Kill t i) [] ∷ us)) (sym r.4) (quiet (entry.Kill t i) (λ q k y. refl))
  cells_row (entry.New t w o ty values) z r = subst (CellsAgree (turn (entry.New t w o ty values) [] ∷ us)) (sym r.7)
      (flat (entry.New t w o ty values) (at o (Some (Root w)) s.seat) (suc o) (λ q k y. refl) (let a = r.5 in omega arith) (moved_one o (Some (Root w)) (inr (let a = r.5 in omega arith)) (λ q k e. cc (e))))
  cells_row (entry.Drop t o) z r = subst (CellsAgree (turn (entry.Drop t o) [] ∷ us)) (sym r.5)
      (flat (entry.Drop t o) (at o None s.seat) s.next_object (λ q k y. refl) (omega arith) (moved_one o None (inl (r.0.party, top_root L s own t r.0 r.1 r.3 o (loses_one r.0.own o r.2 r.4))) (λ q k e. cc (e))))
  cells_row (entry.Take t i slot o) z r = subst (CellsAgree (turn (entry.Take t i slot o) [] ∷ us)) (sym r.9) (quiet (entry.Take t i slot o) (λ q k y. refl))
  cells_row (entry.Put t i slot o) z r = subst (CellsAgree (turn (entry.Put t i slot o) [] ∷ us)) (sym r.9) (quiet (entry.Put t i slot o) (λ q k y. refl))
  cells_row (entry.Hang t o k v) z r = subst (CellsAgree (turn (entry.Hang t o k v) [] ∷ us)) (sym r.8)
      (hung t o k v r.0 r.1 r.3 (let a = r.5 o in let b = r.4 in omega arith) (loses_one r.0.own v r.2 r.5) r.6 r.7)
  cells_row (entry.Unhang t o k v) z r = subst (CellsAgree (turn (entry.Unhang t o k v) [] ∷ us)) (sym r.7) (unhung t o k v r.0.party r.5)
  cells_row (entry.Show t o values) z r = subst (CellsAgree (turn (entry.Show t o values) [] ∷ us)) (sym r.4) (quiet (entry.Show t o values) (λ q k y. refl))
  cells_row (entry.Skip t number) z r = subst (CellsAgree (turn (entry.Skip t number) [] ∷ us)) (sym r.2) (quiet (entry.Skip t number) (λ q k y. refl))
  cells_row (entry.Done t) z r = subst (CellsAgree (turn (entry.Done t) [] ∷ us)) (sym r.2) (quiet (entry.Done t) (λ q k y. refl))
  cells_row (entry.Free o) z r = absurd r
  cells_row other z r = subst (CellsAgree (turn other [] ∷ us)) (sym r.6) (quiet other (λ q k y. refl))
