-- What each change of the heap makes of the places of objects.
use Rattle.std.proofs.Common.{◌≡◌, ◌≢◌, ℕ, ◌==◌, true, false, cond, if◌then◌else◌, not, List, [], ◌∷◌, Option, Some, None, refl, ap, sym, subst, ◌∙◌, arith, inl, inr}
use mathlib.Core.Path.{fun_ext}
use Rattle.std.proofs.lemmas.Bool.{cases_eq, cases_Bool, eq-eqb, ne_eqb}
use Rattle.machine_defs.specs.declared.values.Owner.{Owner}
use Rattle.rl_defs.specs.declared.load.LoadRows.{LoadRows}
use Rattle.machine_defs.specs.State.{State, Object, Placement, Root}
use Rattle.machine_defs.specs.Loans.{object_of}
use Rattle.machine_defs.specs.Arguments.{has}
use Rattle.machine_defs.specs.Objects.{owned_by}
use Rattle.machine_defs.specs.Objects.{fresh_object, with_new, without, with_cells, change_object, with_cells_of, with_placement, placed}
use Rattle.machine_defs.specs.CallRows.{passed_to}
use Rattle.machine_laws.specs.Ledger.{at}
use Rattle.machine_laws.specs.LedgerOf.{seat_of}
use Rattle.machine_laws.specs.LedgerRows.{give, remove}
use Rattle.machine_laws.specs.Shape.{Laid}
use Rattle.machine_laws.proofs.Objects.{found, found_below, found_number, found_filter, found_map, found_append, if_passes, changed, or_else}
use Rattle.machine_laws.proofs.Rows.{at_same, at_other}

abbrev pub seats : State → ℕ → Option Placement
seats s o = seat_of (object_of s o)

-- an object is there
abbrev pub IsIn : State → ℕ → Type 0
IsIn s o = (x : Object) × (object_of s o ≡ Some x)

pub seats_new : (L : LoadRows) (s : State) (ty : ℕ) (w : Owner) (values : List ℕ) → Laid L s → seats (with_new L ty w values s) ≡ at s.next_object (Some (Root w)) (seats s)
seats_new L s ty w values laid = fun_ext (λ o. each o)
  where
    fresh : found s.next_object s.objects ≡ None
    fresh = go (found s.next_object s.objects) refl
      where
        go : (here : Option Object) → found s.next_object s.objects ≡ here → here ≡ None
        go None e = refl
        go (Some x) e = absurd (let b = found_below 0 s.next_object s.next_object s.objects x laid.objects e in omega (arith, b.1))

    each : (o : ℕ) → seats (with_new L ty w values s) o ≡ at s.next_object (Some (Root w)) (seats s) o
    each o = rw (found_append o s.objects (fresh_object L s.next_object ty w values ∷ [])) (elim (cases_eq o s.next_object) [
      | inl e ↦ rw (e, fresh, eq-eqb s.next_object s.next_object refl) refl
      | inr ne ↦
          let ne' : s.next_object ≢ o = λ e. ne (sym e) in
          rw (at_other s.next_object (Some (Root w)) (seats s) o ne, ne_eqb s.next_object o ne') (plain (object_of s o))
    ])
      where
        plain : (here : Option Object) → seat_of (or_else here None) ≡ seat_of here
        plain None = refl
        plain (Some x) = refl

pub seats_without : (L : LoadRows) (s : State) (os : List ℕ) → Laid L s → seats (without os s) ≡ remove os (seats s)
seats_without L s os laid = fun_ext (λ o. each o)
  where
    each : (o : ℕ) → seats (without os s) o ≡ remove os (seats s) o
    each o = rw (found_filter (λ x. not (has os x.number)) 0 s.next_object o s.objects laid.objects) (go (object_of s o) refl)
      where
        go : (here : Option Object) → object_of s o ≡ here → seat_of (if_passes (λ x. not (has os x.number)) here) ≡ cond (has os o) None (seat_of here)
        go None e = elim (cases_Bool (has os o)) [ inl h ↦ rw h refl | inr h ↦ rw h refl ]
        go (Some x) e =
            let same = found_number o s.objects x e in
            elim (cases_Bool (has os o)) [
              | inl h ↦ let h' : has os x.number ≡ true = ap (λ n. has os n) same ∙ h in rw (h', h) refl
              | inr h ↦ let h' : has os x.number ≡ false = ap (λ n. has os n) same ∙ h in rw (h', h) refl
            ]

-- a change of one object that keeps its number
pub seats_changed : (s : State) (o : ℕ) (g : Object → Object) → ((x : Object) → (g x).number ≡ x.number) → (q : ℕ) → seats (change_object o g s) q ≡ seat_of (changed (λ x. if x.number == o then g x else x) (object_of s q))
seats_changed s o g keeps q = ap seat_of (found_map (λ x. if x.number == o then g x else x) (λ x. each x) q s.objects)
  where
    each : (x : Object) → (if x.number == o then g x else x).number ≡ x.number
    each x = elim (cases_Bool (x.number == o)) [ inl e ↦ rw e (keeps x) | inr e ↦ rw e refl ]

pub seats_cells : (s : State) (o : ℕ) (change : List ℕ → List ℕ) → seats (with_cells_of o change s) ≡ seats s
seats_cells s o change = fun_ext (λ q. seats_changed s o (with_cells change) (λ x. refl) q ∙ go q (object_of s q))
  where
    go : (q : ℕ) (here : Option Object) → seat_of (changed (λ x. if x.number == o then with_cells change x else x) here) ≡ seat_of here
    go q None = refl
    go q (Some x) = elim (cases_Bool (x.number == o)) [ inl e ↦ rw e refl | inr e ↦ rw e refl ]

pub seats_placed : (s : State) (o : ℕ) (placement : Placement) → IsIn s o → seats (placed o placement s) ≡ at o (Some placement) (seats s)
seats_placed s o placement here = fun_ext (λ q. seats_changed s o (with_placement placement) (λ x. refl) q ∙ go q (object_of s q) refl)
  where
    go : (q : ℕ) (found' : Option Object) → object_of s q ≡ found' → seat_of (changed (λ x. if x.number == o then with_placement placement x else x) found') ≡ at o (Some placement) (seats s) q
    go q None e =
        let apart : q ≢ o = λ same. (let e' : object_of s o ≡ None = subst (λ n. object_of s n ≡ None) same e in let h = here.1 in cc (e', h)) in
        rw (at_other o (Some placement) (seats s) q apart, e) refl
    go q (Some x) e =
        let same = found_number q s.objects x e in
        elim (cases_eq q o) [
          | inl is ↦ let h : (x.number == o) ≡ true = eq-eqb x.number o (same ∙ is) in rw (h, is, at_same o (Some placement) (seats s)) refl
          | inr ne ↦ let h : (x.number == o) ≡ false = ne_eqb x.number o (λ e'. ne (sym same ∙ e')) in rw (h, at_other o (Some placement) (seats s) q ne, e) refl
        ]

pub seats_given : (s : State) (w : Owner) (os : List ℕ) → ((o : ℕ) → has os o ≡ true → IsIn s o) → seats (passed_to w os s) ≡ give os w (seats s)
seats_given s w os there = fun_ext (λ q. ap seat_of (found_map (λ x. if has os x.number then owned_by w x else x) (λ x. each x) q s.objects) ∙ go q (object_of s q) refl)
  where
    each : (x : Object) → (if has os x.number then owned_by w x else x).number ≡ x.number
    each x = elim (cases_Bool (has os x.number)) [ inl e ↦ rw e refl | inr e ↦ rw e refl ]

    go : (q : ℕ) (found' : Option Object) → object_of s q ≡ found' → seat_of (changed (λ x. if has os x.number then owned_by w x else x) found') ≡ cond (has os q) (Some (Root w)) (seats s q)
    go q None e = elim (cases_Bool (has os q)) [
      | inl h ↦ absurd (let r = there q h in let h' = r.1 in cc (e, h'))
      | inr h ↦ rw (h, e) refl
    ]
    go q (Some x) e =
        let same = found_number q s.objects x e in
        elim (cases_Bool (has os q)) [
          | inl h ↦ let h' : has os x.number ≡ true = ap (λ n. has os n) same ∙ h in rw (h', h) refl
          | inr h ↦ let h' : has os x.number ≡ false = ap (λ n. has os n) same ∙ h in rw (h', h, e) refl
        ]

-- one object that leaves
pub remove_one : (o : ℕ) (seat : ℕ → Option Placement) → remove (o ∷ []) seat ≡ at o None seat
remove_one o seat = fun_ext (λ q. elim (cases_eq q o) [
  | inl e ↦ rw (e, eq-eqb o o refl) refl
  | inr ne ↦ rw (ne_eqb o q (λ e. ne (sym e)), ne_eqb q o ne) refl
])
