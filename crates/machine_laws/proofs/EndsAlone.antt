-- An end of an instance frees what that instance had and nobody has borrowed, and leaves all else as it was.
use Rattle.machine_defs.specs.History.{ends}
use Rattle.std.proofs.Common.{◌≡◌, ◌≢◌, ℕ, ◌==◌, ◌⊎◌, inl, inr, Bool, true, false, cond, not, List, [], ◌∷◌, map, filter, Option, Some, None, refl, ap, sym, subst, ◌∙◌, arith}
use Rattle.std.proofs.lemmas.Bool.{cases_Bool, cases_eq, eqb-true, and_parts, not-true}
use Rattle.machine_defs.specs.declared.values.Owner.{Owner}
use Rattle.machine_defs.specs.declared.values.Owner.TheVariants as owner
use Rattle.machine_defs.specs.declared.entry.Entry.{Entry}
use Rattle.machine_defs.specs.declared.entry.Entry.TheVariants as entry
use Rattle.rl_defs.specs.declared.load.LoadRows.{LoadRows}
use Rattle.machine_defs.specs.State.{State, Object, Thread, Placement, Root, Hung, is_live, with_thread}
use Rattle.rl_defs.specs.Rows.{row}
use Rattle.machine_defs.specs.Loans.{loans, has_ended, object_of, is_lost, is_lost_at, is_lost_parent, is_doomed_at, is_doomed, sweep, freed}
use Rattle.machine_defs.specs.Arguments.{has}
use Rattle.machine_defs.specs.Entries.{thread_of}
use Rattle.machine_defs.specs.Seen.{change_row, ended}
use Rattle.machine_defs.specs.Calling.{with_fuel}
use Rattle.machine_defs.specs.CallRows.{command_done}
use Rattle.machine_defs.specs.Steps.{Row, Turn, Step}
use Rattle.machine_defs.specs.Laws.{IsOf, EndsAlone}
use Rattle.machine_laws.specs.LedgerOf.{seat_of, ledger_of}
use Rattle.machine_laws.specs.LedgerSound.{Owned}
use Rattle.machine_laws.specs.Shape.{Laid}
use Rattle.machine_laws.proofs.Objects.{found, found_number, found_filter, if_passes}
use Rattle.machine_laws.proofs.Rows.{row_within, row_set_other, at_other}
use Rattle.machine_laws.proofs.Stacks.{loans_same}
use Rattle.machine_laws.proofs.Instances.{lives_ended}
use Rattle.machine_laws.proofs.Seats.{seats}
use Rattle.machine_laws.proofs.Present.{seated}

-- the numbers of a list are those of the objects that are found in it
listed_found : (o : ℕ) (xs : List Object) → has (map (λ x. x.number) xs) o ≡ true → (x : Object) × (found o xs ≡ Some x)
listed_found o [] is = absurd cc
listed_found o (x ∷ xs) is = elim (cases_Bool (x.number == o)) [
  | inl here ↦ (x, rw here refl)
  | inr there ↦ let r = listed_found o xs (rw there at is) in (r.0, rw there r.1)
]

found_listed : (o : ℕ) (xs : List Object) (x : Object) → found o xs ≡ Some x → has (map (λ x. x.number) xs) o ≡ true
found_listed o [] x is = absurd cc
found_listed o (y ∷ xs) x is = elim (cases_Bool (y.number == o)) [
  | inl here ↦ rw here refl
  | inr there ↦ rw there (found_listed o xs x (rw there at is))
]

-- what is found and passes
passed : (test : Object → Bool) (here : Option Object) (x : Object) → if_passes test here ≡ Some x → (here ≡ Some x) × (test x ≡ true)
passed test None x is = absurd cc
passed test (Some y) x is = elim (cases_Bool (test y)) [
  | inl yes' ↦ let e : Some y ≡ Some x = rw yes' at is in let same : y ≡ x = cc in (e, subst (λ z. test z ≡ true) same yes')
  | inr no' ↦ absurd (let e : None ≡ Some x = rw no' at is in cc)
]

-- the other rows of a list in which one was changed
other_rows : {A : Type 0} (xs : List A) (i : ℕ) (change : A → A) (j : ℕ) → j ≢ i → row (change_row xs i change (row xs i)) j ≡ row xs j
other_rows xs i change j ne = go (row xs i) refl
  where
    go : (here : Option _) → row xs i ≡ here → row (change_row xs i change here) j ≡ row xs j
    go None is = refl
    go (Some x) is = row_set_other xs i j (change x) (row_within xs i x is).0 ne

-- An instance ends, and a thread's fuel, place or names change.
module _ (L : LoadRows) (s : State) (laid : Laid L s) (owned : Owned L (ledger_of L s)) (t : ℕ) (old new : Thread) (of : row s.threads t ≡ Some old) (i : ℕ) where
  abbrev behind : State
  behind = ended i (with_thread s t new)

  -- a root that is lost now was the instance's: what others had that ended is lent
  lost_of : (o : ℕ) (w : Owner) → seats s o ≡ Some (Root w) → is_lost behind o w ≡ true → w ≡ owner.Instance i
  lost_of o w seat lost = go w refl
    where
      parts : (has_ended behind w ≡ true) × ((loans s o == 0) ≡ true)
      parts = and_parts (has_ended behind w) (loans s o == 0) lost

      go : (v : Owner) → w ≡ v → w ≡ owner.Instance i
      go (owner.Client c) is = absurd (let e : has_ended behind (owner.Client c) ≡ true = subst (λ v. has_ended behind v ≡ true) is parts.0 in cc)
      go (owner.Instance j) is = elim (cases_eq j i) [
        | inl e ↦ is ∙ ap owner.Instance e
        | inr ne ↦
            let over : not (is_live behind j) ≡ true = subst (λ v. has_ended behind v ≡ true) is parts.0 in
            let dead : is_live behind j ≡ false = not-true (is_live behind j) over in
            let same : is_live behind j ≡ is_live s j = ap (λ (f : ℕ → Bool). f j) (lives_ended (with_thread s t new) i) ∙ at_other i false (is_live s) j ne in
            let lent = owned.rest (owner.Instance j) o (subst (λ v. seats s o ≡ Some (Root v)) is seat) (sym same ∙ dead) in
            let none = eqb-true (loans s o) 0 parts.1 in
            let e = loans_same L s o laid in
            absurd (omega (arith, lent, none, e))
      ]

  seat_there : (o : ℕ) (x : Object) → object_of s o ≡ Some x → seats s o ≡ Some x.placement
  seat_there o x is = ap seat_of is

  doomed_of : (o : ℕ) (x : Object) → object_of s o ≡ Some x → is_doomed behind x ≡ true → IsOf s i x
  doomed_of o x here doomed = go x.placement refl (subst (λ n. is_doomed_at behind n x.placement ≡ true) (found_number o s.objects x here) doomed)
    where
      go : (p : Placement) → x.placement ≡ p → is_doomed_at behind o x.placement ≡ true → IsOf s i x
      go (Root w) is lost =
          let lost' : is_lost behind o w ≡ true = subst (λ p. is_doomed_at behind o p ≡ true) is lost in
          inl (is ∙ ap Root (lost_of o w (seat_there o x here ∙ ap Some is) lost'))
      go (Hung p k) is lost =
          let lost' : is_lost_parent behind (object_of s p) ≡ true = subst (λ v. is_doomed_at behind o v ≡ true) is lost in
          let root = owned.hung o p k (seat_there o x here ∙ ap Some is) in
          let parent = seated s p (Root root.0) root.1 in
          let y : Object = parent.0 in
          let there : object_of s p ≡ Some y = parent.1 in
          let place : y.placement ≡ Root root.0 = by_seat y there root.0 root.1 in
          let lost'' : is_lost_at behind y.number y.placement ≡ true = subst (λ f. is_lost_parent behind f ≡ true) there lost' in
          let number : y.number ≡ p = found_number p s.objects y there in
          let lost_root : is_lost behind p root.0 ≡ true = subst (λ n. is_lost behind n root.0 ≡ true) number (subst (λ v. is_lost_at behind y.number v ≡ true) place lost'') in
          inr (p, k, is, (y, there, place ∙ ap Root (lost_of p root.0 root.1 lost_root)))
        where
          by_seat : (y : Object) → object_of s p ≡ Some y → (w : Owner) → seats s p ≡ Some (Root w) → y.placement ≡ Root w
          by_seat y there w seat = let e : Some y.placement ≡ Some (Root w) = sym (seat_there p y there) ∙ seat in cc

  frees_own : (o : ℕ) → has (freed behind) o ≡ true → (x : Object) × (object_of s o ≡ Some x) × IsOf s i x
  frees_own o is =
      let r = listed_found o (filter (is_doomed behind) s.objects) is in
      let p = passed (is_doomed behind) (object_of s o) r.0 (sym (found_filter (is_doomed behind) 0 s.next_object o s.objects laid.objects) ∙ r.1) in
      (r.0, p.0, doomed_of o r.0 p.0 p.1)

  others_stay : (o : ℕ) (x : Object) → object_of s o ≡ Some x → (has (freed behind) o ≡ true) ⊎ (object_of (sweep behind) o ≡ Some x)
  others_stay o x here = elim (cases_Bool (is_doomed behind x)) [
    | inl yes' ↦ inl (found_listed o (filter (is_doomed behind) s.objects) x (found_filter (is_doomed behind) 0 s.next_object o s.objects laid.objects ∙ ap (if_passes (is_doomed behind)) here ∙ ap (λ b. cond b (Some x) None) yes'))
    | inr no' ↦ inr (found_filter (λ y. not (is_doomed behind y)) 0 s.next_object o s.objects laid.objects ∙ ap (if_passes (λ y. not (is_doomed behind y))) here ∙ ap (λ b. cond (not b) (Some x) None) no')
  ]

  none_came : (o : ℕ) (x : Object) → object_of (sweep behind) o ≡ Some x → object_of s o ≡ Some x
  none_came o x is = (passed (λ y. not (is_doomed behind y)) (object_of s o) x (sym (found_filter (λ y. not (is_doomed behind y)) 0 s.next_object o s.objects laid.objects) ∙ is)).0

  -- the turn and the state that come of it
  pub leaves_alone : (u : Turn) (z : State) → thread_of u.entry ≡ t → u.frees ≡ freed behind → z ≡ sweep behind → EndsAlone s u i z
  leaves_alone u z thread frees swept = record {
    frames = ap (λ (y : State). y.stacks) swept;
    instances = λ j ne. ap (λ (y : State). row y.instances j) swept ∙ other_rows s.instances i (λ x. record x { live = false }) j ne;
    threads = λ k ne. ap (λ (y : State). row y.threads k) swept ∙ row_set_other s.threads t k new (row_within s.threads t old of).0 (λ e. ne (e ∙ sym thread));
    blocks = ap (λ (y : State). y.blocks) swept;
    frees = λ o is. frees_own o (subst (λ os. has os o ≡ true) frees is);
    stays = λ o x here. elim (others_stay o x here) [
      | inl gone ↦ inl (subst (λ os. has os o ≡ true) (sym frees) gone)
      | inr there ↦ inr (ap (λ (y : State). object_of y o) swept ∙ there)
    ];
    came = λ o x is. none_came o x (sym (ap (λ (y : State). object_of y o) swept) ∙ is);
  }

-- the instance that an entry ends
abbrev EndsInstance : Entry → ℕ → Type 0
EndsInstance (entry.Trap t i c) j = i ≡ j
EndsInstance (entry.Kill t i) j = i ≡ j
EndsInstance _ j = ⊥

ends_instance : (e : Entry) (j : ℕ) → ends j e ≡ true → EndsInstance e j
ends_instance (entry.Trap t i c) j is = eqb-true i j is
ends_instance (entry.Kill t i) j is = eqb-true i j is
ends_instance e j is = absurd cc

-- An end of an instance leaves all other instances and all frames as they are.
pub ends_alone : (L : LoadRows) (s z : State) (u : Turn) (i : ℕ) → Laid L s → Owned L (ledger_of L s) → Step L s u z → ends i u.entry ≡ true → EndsAlone s u i z
ends_alone L s z u i laid owned step over = by_entry u.entry refl (ends_instance u.entry i over) step.makes
  where
    by_entry : (e : Entry) → u.entry ≡ e → EndsInstance e i → Row L s e step.made → EndsAlone s u i z
    by_entry (entry.Trap t j cause) is same r =
        let made : step.made ≡ ended i (with_thread s t (with_fuel r.fuel r.thread)) = r.becomes ∙ ap (λ n. ended n (with_thread s t (with_fuel r.fuel r.thread))) same in
        leaves_alone L s laid owned t r.thread (with_fuel r.fuel r.thread) r.of i u z (ap thread_of is) (step.frees ∙ ap freed made) (step.swept ∙ ap sweep made)
    by_entry (entry.Kill t j) is same r =
        let made : step.made ≡ ended i (with_thread s t (command_done L t [] r.thread)) = r.becomes ∙ ap (λ n. ended n (with_thread s t (command_done L t [] r.thread))) same in
        leaves_alone L s laid owned t r.thread (command_done L t [] r.thread) r.of i u z (ap thread_of is) (step.frees ∙ ap freed made) (step.swept ∙ ap sweep made)
    by_entry other is ends' r = absurd ends'
