-- The ledger of the start: each load's one instance lives, nothing is in the heap, and each client has its own frame alone.
use Rattle.std.proofs.Common.{◌≡◌, ℕ, zero, suc, ◌+◌, ◌-◌, ◌<◌, ◌≤◌, true, false, List, [], ◌∷◌, Option, Some, None, refl, ap, ◌∙◌, arith, inl, inr, slice_get, length, map, replicate, nat_le}
use Rattle.std.proofs.lemmas.Bool.{and_from, le-leb, lt-leb}
use Rattle.std.proofs.lemmas.Option.{slice_get-map, slice_get_cases}
use Rattle.std.specs.List.{filter_map, flat_map, slice_index_or}
use Rattle.std.proofs.Math.Bool.{and-false}
use Rattle.machine_defs.specs.declared.values.Owner.TheVariants as owner
use Rattle.rl_defs.specs.declared.load.LoadRows.{LoadRows}
use Rattle.rl_defs.specs.declared.load.LoadRow.{LoadRow}
use Rattle.rl_defs.specs.Domains.{load_of_target, slots_of, words_of, domain_of}
use Rattle.rl_defs.specs.Rows.{row, bound_by}
use Rattle.machine_defs.specs.State.{start, first_instances, first_instance, first_thread, first_shadow, no_frames, frames_of, Instance, is_live, stack, StackFrame}
use Rattle.machine_defs.specs.State.{instance_load}
use Rattle.rl_defs.specs.Rows.{is_target}
use Rattle.machine_defs.specs.Seen.{words, slots}
use Rattle.machine_defs.specs.Calling.{restarts_left}
use Rattle.machine_defs.specs.Sound.{object_held}
use Rattle.machine_defs.specs.History.{restarts_of}
use Rattle.machine_laws.proofs.Parts.{restarts_in}
use Rattle.machine_laws.specs.Ledger.{LedgerFrame}
use Rattle.machine_laws.specs.LedgerOf.{names_held, ledger_of}
use Rattle.machine_laws.proofs.Rows.{zeros}
use Rattle.machine_laws.proofs.Parts.{words_in, slots_in, left_of}

-- a claim on a place of a mapped list
pub at_mapped : {A B : Type 0} (Holds : Option B → Type 0) (f : A → B) (xs : List A) (n : ℕ) → Holds None → ((x : A) → Holds (Some (f x))) → Holds (slice_get (map f xs) n)
at_mapped Holds f [] n none some = none
at_mapped Holds f (x ∷ xs) zero none some = some x
at_mapped Holds f (x ∷ xs) (suc n) none some = at_mapped Holds f xs n none some

pub row_mapped : {A B : Type 0} (Holds : Option B → Type 0) (f : A → B) (xs : List A) (n : ℕ) → Holds None → ((x : A) → Holds (Some (f x))) → Holds (row (map f xs) n)
row_mapped Holds f xs zero none some = none
row_mapped Holds f xs (suc n) none some = at_mapped Holds f xs n none some

-- the first instances
pub instance_at : (L : LoadRows) (Holds : Option Instance → Type 0) (ls : List LoadRow) (k n : ℕ) → Holds None → ((j : ℕ) (l : LoadRow) → Holds (Some (first_instance L j l))) → Holds (slice_get (first_instances L k ls) n)
instance_at L Holds [] k n none some = none
instance_at L Holds (l ∷ ls) k zero none some = some k l
instance_at L Holds (l ∷ ls) k (suc n) none some = instance_at L Holds ls (k + 1) n none some

pub instance_row : (L : LoadRows) (Holds : Option Instance → Type 0) (i : ℕ) → Holds None → ((j : ℕ) (l : LoadRow) → Holds (Some (first_instance L j l))) → Holds (row (start L).instances i)
instance_row L Holds zero none some = none
instance_row L Holds (suc i) none some = instance_at L Holds L.loads 1 i none some

pub instance_number : (L : LoadRows) (ls : List LoadRow) (k n : ℕ) → n < length ls → (l : LoadRow) × (slice_get (first_instances L k ls) n ≡ Some (first_instance L (k + n) l))
instance_number L [] k n lt = absurd (omega arith)
instance_number L (l ∷ ls) k zero lt = (l, ap (λ j. Some (first_instance L j l)) (omega arith))
instance_number L (l ∷ ls) k (suc n) lt =
    let r = instance_number L ls (k + 1) n (omega arith) in
    let e : k + 1 + n ≡ k + suc n = omega arith in
    (r.0, r.1 ∙ ap (λ j. Some (first_instance L j r.0)) e)

pub instance_past : (L : LoadRows) (ls : List LoadRow) (k n : ℕ) → length ls ≤ n → slice_get (first_instances L k ls) n ≡ None
instance_past L [] k n le = refl
instance_past L (l ∷ ls) k zero le = absurd (omega arith)
instance_past L (l ∷ ls) k (suc n) le = instance_past L ls (k + 1) n (omega arith)

pub instances_length : (L : LoadRows) (ls : List LoadRow) (k : ℕ) → length (first_instances L k ls) ≡ length ls
instances_length L [] k = refl
instances_length L (l ∷ ls) k = ap suc (instances_length L ls (k + 1))

module _ (L : LoadRows) where
  pub next_first : length (start L).instances + 1 ≡ suc (length L.loads)
  next_first = let e = instances_length L L.loads 1 in omega arith

  pub load_first : (i : ℕ) → i ≤ length L.loads → instance_load (start L) i ≡ i
  load_first zero le = refl
  load_first (suc n) le = let r = instance_number L L.loads 1 n le in rw r.1 (omega arith)

  pub live_first : (i : ℕ) → 0 < i → i ≤ length L.loads → is_live (start L) i ≡ true
  live_first zero pos le = absurd (omega arith)
  live_first (suc n) pos le = let r = instance_number L L.loads 1 n le in rw r.1 refl

  pub dead_past : (i : ℕ) → length L.loads < i → is_live (start L) i ≡ false
  dead_past zero lt = absurd (omega arith)
  dead_past (suc n) lt = rw (instance_past L L.loads 1 n (omega arith)) refl

  pub word_first : (i k : ℕ) → slice_index_or (words (start L) i) k 0 ≡ 0
  word_first i k = instance_row L (λ x. ◌≡◌ {A = ℕ} (slice_index_or (words_in x) k 0) 0) i refl (λ j l. zeros (words_of (domain_of L l.domain)) k)

  pub slot_first : (i k o : ℕ) → slice_get (slots (start L) i) k ≡ Some (Some o) → ⊥
  slot_first i k o = instance_row L (λ x. slice_get (slots_in x) k ≡ Some (Some o) → ⊥) i (λ e. cc (e)) (λ j l. at_mapped (λ (y : Option (Option ℕ)). y ≡ Some (Some o) → ⊥) (λ slot. None) (slots_of (domain_of L l.domain)) k (λ e. cc (e)) (λ slot e. cc (e)))

  -- the client's own frame, with no name bound
  abbrev pub first_frame : ℕ → LedgerFrame
  first_frame t = record { party = owner.Client t; call = 0; target = 0; method = 0; args = []; lent = []; own = [] }

  no_names : (n : ℕ) → filter_map object_held (replicate n None) ≡ []
  no_names zero = refl
  no_names (suc n) = no_names n

  names_first : (t : ℕ) → names_held (row (start L).threads t) ≡ []
  names_first t = row_mapped (λ x. names_held x ≡ []) first_thread L.clients t refl (λ client. no_names (length (flat_map bound_by client.commands)))

  pub stack_first : (t : ℕ) → (ledger_of L (start L)).stack t ≡ first_frame t ∷ []
  stack_first t =
      let empty : stack (start L) t ≡ [] = row_mapped (λ (x : Option (List StackFrame)). frames_of x ≡ []) (λ client. no_frames) L.clients t refl (λ client. refl) in
      rw (empty, names_first t) refl

  -- a target stands for its load's first instance
  target_if : (x : ℕ) → 0 < x → x ≤ length L.loads + length L.shadows → is_target L x ≡ true
  target_if x pos le = and_from (nat_le 1 x) (nat_le x (length L.loads + length L.shadows)) (le-leb 1 x pos) (le-leb x (length L.loads + length L.shadows) le)

  no_target : (x : ℕ) → length L.loads + length L.shadows < x → is_target L x ≡ false
  no_target x lt = rw (lt-leb x (length L.loads + length L.shadows) lt) (and-false (nat_le 1 x))

  pub current_first : (x : ℕ) → (ledger_of L (start L)).current x ≡ load_of_target L x
  current_first zero = let none : 0 - length L.loads ≡ 0 = omega arith in rw none refl
  current_first (suc k) = elim (slice_get_cases L.loads k).1 [
    | inl load ↦ (
        let none : suc k - length L.loads ≡ 0 = (let lt = load.1 in omega arith) in
        rw (target_if (suc k) (omega arith) (let lt = load.1 in omega arith), load.2, none) refl)
    | inr past ↦ (
        let later : suc k - length L.loads ≡ suc (k - length L.loads) = (let le = past.0 in omega arith) in
        elim (slice_get_cases L.shadows (k - length L.loads)).1 [
          | inl shadow ↦ (
              let there = slice_get-map first_shadow L.shadows (k - length L.loads) in
              rw (target_if (suc k) (omega arith) (let lt = shadow.1 in omega arith), past.1, later, there, shadow.2) refl)
          | inr none ↦ rw (no_target (suc k) (let le = none.0 in omega arith), past.1, later, none.1) refl
        ])
  ]

  pub left_first : (x : ℕ) → restarts_left L (start L) x ≡ restarts_of L x
  left_first x = go (x - length L.loads)
    where
      go : (n : ℕ) → left_of (row (start L).shadows n) ≡ restarts_in (row L.shadows n)
      go zero = refl
      go (suc n) = elim (slice_get_cases L.shadows n).1 [
        | inl shadow ↦ (let there = slice_get-map first_shadow L.shadows n in rw (there, shadow.2) refl)
        | inr none ↦ (let there = slice_get-map first_shadow L.shadows n in rw (there, none.1) refl)
      ]
