-- What a changed instance makes of the ledger.
use Rattle.std.proofs.Common.{◌≡◌, ℕ, ◌+◌, ◌-◌, ◌<◌, true, false, List, length, Option, Some, None, slice_set, refl, ap, sym, subst, ◌∙◌, inl, inr}
use Rattle.std.proofs.lemmas.List.{get_or-set_same, get_or-set_other, length-set}
use mathlib.Core.Path.{fun_ext}
use Rattle.std.specs.List.{slice_index_or}
use Rattle.std.proofs.lemmas.Bool.{cases_eq, eq-eqb}
use Rattle.machine_defs.specs.State.{State, Instance, lives, is_live}
use Rattle.rl_defs.specs.Rows.{row}
use Rattle.machine_defs.specs.State.{instance_load}
use Rattle.machine_defs.specs.Seen.{change_row, with_instance, words, slots, with_word, with_slot, ended}
use Rattle.machine_laws.specs.Ledger.{at}
use Rattle.machine_laws.proofs.Rows.{at_same, at_other, row_within, row_set_same, row_set_other}
use Rattle.machine_laws.proofs.Parts.{load_of_instance, words_in, slots_in}

-- the row of a changed list
pub row_changed : {A B : Type 0} (g : Option A → B) (xs : List A) (i : ℕ) (change : A → A) (x : A) → row xs i ≡ Some x
    → (j : ℕ) → g (row (change_row xs i change (row xs i)) j) ≡ at i (g (Some (change x))) (λ k. g (row xs k)) j
row_changed g xs i change x is j =
    let w = row_within xs i x is in
    rw is (elim (cases_eq j i) [
      | inl e ↦ rw (e, row_set_same xs i (change x) w.0 w.1, at_same i (g (Some (change x))) (λ k. g (row xs k))) refl
      | inr ne ↦ rw (row_set_other xs i j (change x) w.0 ne, at_other i (g (Some (change x))) (λ k. g (row xs k)) j ne) refl
    ])

-- where what is read doesn't change
pub row_unchanged : {A B : Type 0} (g : Option A → B) (xs : List A) (i : ℕ) (change : A → A) → ((x : A) → g (Some (change x)) ≡ g (Some x))
    → (j : ℕ) → g (row (change_row xs i change (row xs i)) j) ≡ g (row xs j)
row_unchanged g xs i change same j = go (row xs i) refl
  where
    go : (here : Option _) → row xs i ≡ here → g (row (change_row xs i change here) j) ≡ g (row xs j)
    go None e = refl
    go (Some x) e =
        let w = row_within xs i x e in
        elim (cases_eq j i) [
          | inl is ↦ rw (is, row_set_same xs i (change x) w.0 w.1, e) (same x)
          | inr ne ↦ rw (row_set_other xs i j (change x) w.0 ne) refl
        ]

pub live_there : (s : State) (i : ℕ) → is_live s i ≡ true → (x : Instance) × (row s.instances i ≡ Some x)
live_there s i e = go (row s.instances i) refl
  where
    go : (here : Option Instance) → row s.instances i ≡ here → (x : Instance) × (row s.instances i ≡ Some x)
    go None n = absurd (let e' : lives None ≡ true = rw n at e in cc)
    go (Some x) is = (x, is)

-- loads and lives stay where the change keeps them
pub loads_kept : (s : State) (i : ℕ) (change : Instance → Instance) → ((x : Instance) → (change x).load ≡ x.load) → instance_load (with_instance i change s) ≡ instance_load s
loads_kept s i change keeps = fun_ext (λ j. row_unchanged load_of_instance s.instances i change keeps j)

pub lives_kept : (s : State) (i : ℕ) (change : Instance → Instance) → ((x : Instance) → (change x).live ≡ x.live) → is_live (with_instance i change s) ≡ is_live s
lives_kept s i change keeps = fun_ext (λ j. row_unchanged lives s.instances i change keeps j)

pub slots_kept : (s : State) (i : ℕ) (change : Instance → Instance) → ((x : Instance) → (change x).slots ≡ x.slots) → slots (with_instance i change s) ≡ slots s
slots_kept s i change keeps = fun_ext (λ j. row_unchanged slots_in s.instances i change keeps j)

abbrev pub words_read : State → ℕ → ℕ → ℕ
words_read s i at = slice_index_or (words s i) at 0

pub words_kept : (s : State) (i : ℕ) (change : Instance → Instance) → ((x : Instance) → (change x).words ≡ x.words) → words_read (with_instance i change s) ≡ words_read s
words_kept s i change keeps = fun_ext (λ j. fun_ext (λ k. ap (λ ws. slice_index_or ws k 0) (row_unchanged words_in s.instances i change keeps j)))

pub count_kept : (s : State) (i : ℕ) (change : Instance → Instance) → length (with_instance i change s).instances + 1 ≡ length s.instances + 1
count_kept s i change = ap (λ n. n + 1) (go (row s.instances i))
  where
    go : (here : Option Instance) → length (change_row s.instances i change here) ≡ length s.instances
    go None = refl
    go (Some x) = length-set s.instances (i - 1) (change x)

-- an instance that ends
pub lives_ended : (s : State) (i : ℕ) → is_live (ended i s) ≡ at i false (is_live s)
lives_ended s i = fun_ext (λ j. go (row s.instances i) refl j)
  where
    go : (here : Option Instance) → row s.instances i ≡ here → (j : ℕ) → lives (row (change_row s.instances i (λ x. record x { live = false }) (row s.instances i)) j) ≡ at i false (is_live s) j
    go None e j = rw e (elim (cases_eq j i) [
      | inl is ↦ rw (is, e, eq-eqb i i refl) refl
      | inr ne ↦ rw (at_other i false (is_live s) j ne) refl
    ])
    go (Some x) e j = row_changed lives s.instances i (λ y. record y { live = false }) x e j

-- a slot that is filled or emptied
pub slots_set : (s : State) (i k : ℕ) (content : Option ℕ) → is_live s i ≡ true → slots (with_slot i k content s) ≡ at i (slice_set (slots s i) k content) (slots s)
slots_set s i k content up =
    let x = live_there s i up in
    let e : slots s i ≡ x.0.slots = rw x.1 refl in
    rw e (fun_ext (λ j. row_changed slots_in s.instances i (λ y. record y { slots = slice_set y.slots k content }) x.0 x.1 j))

-- a word that is set
pub words_set : (s : State) (i k v : ℕ) → is_live s i ≡ true → k < length (words s i) → words_read (with_word i k v s) ≡ at i (at k v (words_read s i)) (words_read s)
words_set s i k v up lt =
    let x = live_there s i up in
    let e : words s i ≡ x.0.words = rw x.1 refl in
    let lt' : k < length x.0.words = rw e at lt in
    let read : ◌≡◌ {A = ℕ → ℕ} (λ j. slice_index_or (slice_set x.0.words k v) j 0) (at k v (λ j. slice_index_or x.0.words j 0)) = fun_ext (λ j. elim (cases_eq j k) [
      | inl is ↦ rw (is, get_or-set_same x.0.words k v 0 lt', at_same k v (λ n. slice_index_or x.0.words n 0)) refl
      | inr ne ↦ rw (get_or-set_other x.0.words k j v 0 ne, at_other k v (λ n. slice_index_or x.0.words n 0) j ne) refl
    ]) in
    let all' : words_read (with_word i k v s) ≡ at i (at k v (λ j. slice_index_or x.0.words j 0)) (words_read s) = fun_ext (λ j. fun_ext (λ n. go x.0 x.1 read j n)) in
    subst (λ ws. words_read (with_word i k v s) ≡ at i (at k v (λ j. slice_index_or ws j 0)) (words_read s)) (sym e) all'
  where
    go : (x : Instance) → row s.instances i ≡ Some x → ◌≡◌ {A = ℕ → ℕ} (λ j. slice_index_or (slice_set x.words k v) j 0) (at k v (λ j. slice_index_or x.words j 0))
        → (j n : ℕ) → words_read (with_word i k v s) j n ≡ at i (at k v (λ m. slice_index_or x.words m 0)) (words_read s) j n
    go x is read j n =
        let changed = row_changed (λ here. slice_index_or (words_in here) n 0) s.instances i (λ y. record y { words = slice_set y.words k v }) x is j in
        changed ∙ (elim (cases_eq j i) [
          | inl same ↦ rw (same, at_same i (slice_index_or (slice_set x.words k v) n 0) (λ m. slice_index_or (words_in (row s.instances m)) n 0), at_same i (at k v (λ m. slice_index_or x.words m 0)) (words_read s)) (ap (λ (f : ℕ → ℕ). f n) read)
          | inr ne ↦ rw (at_other i (slice_index_or (slice_set x.words k v) n 0) (λ m. slice_index_or (words_in (row s.instances m)) n 0) j ne, at_other i (at k v (λ m. slice_index_or x.words m 0)) (words_read s) j ne) refl
        ])
