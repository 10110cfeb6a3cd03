-- The history tells the cells of the objects, and the blocks of the device.
use Rattle.std.proofs.Common.{◌≡◌, ◌≢◌, ℕ, zero, suc, ◌-◌, ◌<◌, ◌==◌, true, if◌then◌else◌, inl, inr, List, [], ◌∷◌, length, replicate, Option, Some, None, slice_set, slice_index_or, refl, ap, sym, subst, ◌∙◌, arith}
use Rattle.std.proofs.lemmas.Bool.{cases_eq, eq-eqb, ne_eqb}
use Rattle.rl_defs.specs.declared.tables.Width.TheVariants as width
use Rattle.rl_defs.specs.declared.load.LoadRows.{LoadRows}
use Rattle.rl_defs.specs.Valid.{Valid}
use Rattle.rl_defs.specs.NativeShapes.{has_cells}
use Rattle.machine_defs.specs.declared.entry.Entry.{Entry}
use Rattle.machine_defs.specs.declared.entry.Entry.TheVariants as entry
use Rattle.machine_defs.specs.State.{State, Object, start}
use Rattle.machine_defs.specs.Loans.{object_of}
use Rattle.machine_defs.specs.Calling.{with_fuel}
use Rattle.machine_defs.specs.Objects.{cells_in, kinds_of, with_cells, change_object, overwritten}
use Rattle.machine_defs.specs.ObjectRows.{block, instead}
use Rattle.machine_defs.specs.Steps.{Row, Turn, Step}
use Rattle.machine_defs.specs.Runs.{Begins, GoesOn}
use Rattle.machine_defs.specs.History.{turns_of}
use Rattle.machine_defs.proofs.TurnsTold.{turns_told}
use Rattle.machine_laws.specs.Fitting.{Fitting}
use Rattle.machine_laws.specs.Shape.{Laid}
use Rattle.machine_laws.proofs.EachRun.{holds_run}
use Rattle.machine_laws.proofs.FrameRows.{gone_on}
use Rattle.machine_laws.proofs.LaidRows.{laid_row, chosen_number}
use Rattle.machine_laws.proofs.Moves.{IsNew, IsWrite, IsSave, Moves, row_moves}
use Rattle.machine_laws.proofs.Objects.{found_below, found_map, found_number}
use Rattle.machine_laws.proofs.ObjectsKept.{does_fit}
use Rattle.machine_laws.proofs.StaysRows.{Carries, stays_as, new_stays}
use Rattle.machine_laws.proofs.Types.{Unchanged, stays_sweep}
use Rattle.block_domain.specs.Store.{Store, store_after, store_at, changed}
use Rattle.block_domain.specs.Laws.{IsStore, BlocksHoldWhatWasWritten}

-- what is told at one number, and at another
pub told_same : (n : ℕ) (cells : List ℕ) (old : ℕ → List ℕ) (m : ℕ) → m ≡ n → changed n cells old m ≡ cells
told_same n cells old m is = rw (eq-eqb m n is) refl

pub told_other : (n : ℕ) (cells : List ℕ) (old : ℕ → List ℕ) (m : ℕ) → m ≢ n → changed n cells old m ≡ old m
told_other n cells old m ne = rw (ne_eqb m n ne) refl

-- an object of a state in which the object of one number has other cells
change_cells : (o : ℕ) (change : List ℕ → List ℕ) (old : ℕ → List ℕ) (s : State) → ((q : ℕ) (x : Object) → object_of s q ≡ Some x → x.cells ≡ old q)
    → (q : ℕ) (y : Object) → object_of (change_object o (with_cells change) s) q ≡ Some y → y.cells ≡ changed o (change (old o)) old q
change_cells o change old s before q y is = by_object (object_of s q) refl
  where
    by_object : (here : Option Object) → object_of s q ≡ here → y.cells ≡ changed o (change (old o)) old q
    by_object None e = absurd (
        let known = sym (found_map (λ x. if x.number == o then with_cells change x else x) (λ x. chosen_number (x.number == o) (with_cells change) (λ z. refl) x) q s.objects) ∙ is in
        let known' = rw e at known in
        cc)
    by_object (Some x) e =
        let known = sym (found_map (λ x. if x.number == o then with_cells change x else x) (λ x. chosen_number (x.number == o) (with_cells change) (λ z. refl) x) q s.objects) ∙ is in
        let known' : Some (if x.number == o then with_cells change x else x) ≡ Some y = rw e at known in
        let number : x.number ≡ q = found_number q s.objects x e in
        elim (cases_eq q o) [
          | inl mine ↦
              let k : Some (with_cells change x) ≡ Some y = rw (eq-eqb x.number o (number ∙ mine)) at known' in
              let eq : with_cells change x ≡ y = cc in
              ap (λ (z : Object). z.cells) (sym eq) ∙ ap change (before q x e ∙ ap old mine) ∙ sym (told_same o (change (old o)) old q mine)
          | inr other ↦
              let k : Some x ≡ Some y = rw (ne_eqb x.number o (λ h. other (sym number ∙ h))) at known' in
              let eq : x ≡ y = cc in
              ap (λ (z : Object). z.cells) (sym eq) ∙ before q x e ∙ sym (told_other o (change (old o)) old q other)
        ]

-- what a row that writes no cells leaves of an object
abbrev SameCells : Object → Object → Type 0
SameCells x y = x.cells ≡ y.cells

carries_cells : (e : Entry) → (IsWrite e → ⊥) → Carries e SameCells
carries_cells e writes = record { same = λ x. refl; behind = λ x y z a b. a ∙ b; rooted = λ x w. refl; written = λ w x change. absurd (writes w); hung = λ hangs x parent place. refl }

-- a row that saves no block leaves the blocks
abbrev SameBlocks : State → State → Type 0
SameBlocks s z = z.blocks ≡ s.blocks

block_moves : (L : LoadRows) (e : Entry) → (IsSave e → ⊥) → Moves L e SameBlocks
block_moves L e saves = record {
  still = λ s. refl;
  behind = λ s m z a b. b ∙ a;
  frames = λ s t fs. refl;
  thread = λ s t thread. refl;
  number = λ s c. refl;
  given = λ s w os. refl;
  gone = λ s os. refl;
  made = λ new s ty w values. refl;
  cells = λ writes s o change. refl;
  hung = λ hangs s o parent place. refl;
  rooted = λ s o w. refl;
  word = λ s i k v. refl;
  taken = λ s i k. refl;
  filled = λ puts s i k o. refl;
  ends = λ s i. refl;
  device = λ saves'. absurd (saves saves');
  reload = λ s x left. refl;
}

-- a list in which one item was set
set_same : (xs : List (List ℕ)) (n : ℕ) (x : List ℕ) → n < length xs → slice_index_or (slice_set xs n x) n [] ≡ x
set_same [] n x lt = absurd (omega (arith, lt))
set_same (y ∷ xs) zero x lt = refl
set_same (y ∷ xs) (suc n) x lt = set_same xs n x (omega (arith, lt))

set_other : (xs : List (List ℕ)) (n k : ℕ) (x : List ℕ) → k ≢ n → slice_index_or (slice_set xs n x) k [] ≡ slice_index_or xs k []
set_other [] n k x ne = refl
set_other (y ∷ xs) zero zero x ne = absurd (ne refl)
set_other (y ∷ xs) zero (suc k) x ne = refl
set_other (y ∷ xs) (suc n) zero x ne = refl
set_other (y ∷ xs) (suc n) (suc k) x ne = set_other xs n k x (λ e. ne (ap (λ j. suc j) e))

-- the cells of an object that holds a block are told
held_cells : (L : LoadRows) (s : State) (o : ℕ) (old : ℕ → List ℕ) → ((q : ℕ) (x : Object) → object_of s q ≡ Some x → x.cells ≡ old q) → has_cells 64 width.W64 (kinds_of L (object_of s o)) ≡ true → cells_in (object_of s o) ≡ old o
held_cells L s o old before holds = go (object_of s o) refl holds
  where
    go : (x : Option Object) → object_of s o ≡ x → has_cells 64 width.W64 (kinds_of L x) ≡ true → cells_in x ≡ old o
    go None e h = absurd cc
    go (Some x) e h = before o x e

module _ (L : LoadRows) (us : List Turn) (s : State) (valid : Valid L) (laid : Laid L s) (fits : Fitting L s) (store : IsStore L us s) where
  abbrev told_now : Store
  told_now = store_at L us

  -- the objects that a row leaves, where it writes none
  cells_same : (e : Entry) (made : State) → (IsNew e → ⊥) → (IsWrite e → ⊥) → Row L s e made → (q : ℕ) (y : Object) → object_of made q ≡ Some y → y.cells ≡ told_now.objects q
  cells_same e made old still makes q y is =
      let was = stays_as L s e made SameCells (carries_cells e still) laid old makes q y is in
      sym was.alike ∙ store.objects q was.x was.here

  cells_row : (e : Entry) (made : State) → Row L s e made → (q : ℕ) (y : Object) → object_of made q ≡ Some y → y.cells ≡ (store_after L e told_now).objects q
  cells_row (entry.New t w o ty values) made makes q y is = elim (new_stays L s t w o ty values made makes q y is) [
    | inl old ↦
        let below = (found_below 0 s.next_object q s.objects y laid.objects old).1 in
        let number = makes.number in
        store.objects q y old ∙ sym (told_other o _ told_now.objects q (λ e. omega (arith, below, number, e)))
    | inr new ↦ ap (λ (x : Object). x.cells) new.1 ∙ sym (told_same o _ told_now.objects q (new.0 ∙ sym makes.number))
  ]
  cells_row (entry.Set t o place values) made makes q y is =
      let d = makes.1 in
      change_cells o (overwritten place values) told_now.objects (gone_on s t d.after (with_fuel (d.fuel - 1) d.thread)) (λ p x here. store.objects p x here) q y (ap (λ (st : State). object_of st q) (sym d.becomes) ∙ is)
  cells_row (entry.DevGet t o b) made makes q y is =
      let d = makes.1 in
      let suits = does_fit valid valid.tables laid fits (λ c e. cc) d in
      let held : block s b ≡ told_now.blocks b = store.blocks b suits.1 in
      let other = change_cells o (instead (block s b)) told_now.objects (gone_on s t d.after (with_fuel (d.fuel - 1) d.thread)) (λ p x here. store.objects p x here) q y (ap (λ (st : State). object_of st q) (sym d.becomes) ∙ is) in
      other ∙ ap (λ cells. changed o cells told_now.objects q) held
  cells_row e made makes q y is = cells_same e made (λ new. new) (λ writes. writes) makes q y is

  blocks_row : (e : Entry) (made : State) → Row L s e made → (b : ℕ) → b < L.blocks → block made b ≡ (store_after L e told_now).blocks b
  blocks_row (entry.DevPut t b o) made makes k lt =
      let d = makes.1 in
      let suits = does_fit valid valid.tables laid fits (λ c e. cc) d in
      let cells = held_cells L s o told_now.objects store.objects suits in
      let becomes : made.blocks ≡ slice_set s.blocks b (cells_in (object_of s o)) = ap (λ (st : State). st.blocks) d.becomes in
      let count = fits.device.count in
      let now : block made k ≡ slice_index_or (slice_set s.blocks b (cells_in (object_of s o))) k [] = ap (λ bs. slice_index_or bs k []) becomes in
      now ∙ elim (cases_eq k b) [
        | inl mine ↦ ap (λ n. slice_index_or (slice_set s.blocks b (cells_in (object_of s o))) n []) mine ∙ set_same s.blocks b (cells_in (object_of s o)) (omega (arith, lt, count, mine)) ∙ cells ∙ sym (told_same b _ told_now.blocks k mine)
        | inr other ↦ set_other s.blocks b k (cells_in (object_of s o)) other ∙ store.blocks k lt ∙ sym (told_other b _ told_now.blocks k other)
      ]
  blocks_row e made makes b lt = ap (λ bs. slice_index_or bs b []) (row_moves L SameBlocks e (block_moves L e (λ saves. saves)) s made makes) ∙ store.blocks b lt

  pub store_step : (u : Turn) (z : State) → Step L s u z → IsStore L (u ∷ us) z
  store_step u z step = record {
    objects = λ o x is. (
        let was = stays_sweep Unchanged (λ y. refl) L step.made (laid_row L s u.entry step.made laid step.makes) o x (ap (λ (st : State). object_of st o) (sym step.swept) ∙ is) in
        ap (λ (y : Object). y.cells) (sym was.alike) ∙ cells_row u.entry step.made step.makes o was.x was.here);
    blocks = λ b lt. ap (λ (st : State). block st b) step.swept ∙ blocks_row u.entry step.made step.makes b lt;
  }

item_of_many : (n b : ℕ) (x : List ℕ) → b < n → slice_index_or (replicate n x) b [] ≡ x
item_of_many zero b x lt = absurd (omega (arith, lt))
item_of_many (suc n) zero x lt = refl
item_of_many (suc n) (suc b) x lt = item_of_many n b x (omega (arith, lt))

store_start : (L : LoadRows) → IsStore L [] (start L)
store_start L = record { objects = λ o x is. absurd cc; blocks = λ b lt. item_of_many L.blocks b (replicate {A = ℕ} 64 0) lt }

pub store_told : BlocksHoldWhatWasWritten
store_told L H s valid (Begins none is) = subst (IsStore L (turns_of H)) (sym is) (subst (λ G. IsStore L (turns_of G) (start L)) (sym none) (store_start L))
store_told L H s valid (GoesOn {G = G} {s = before} u run step is) =
    let holds = holds_run L valid valid.tables G before run in
    subst (λ F. IsStore L (turns_of F) s) (sym is) (subst (λ us. IsStore L us s) (sym (turns_told L G before s u step)) (store_step L (turns_of G) before valid holds.laid holds.fits (store_told L G before valid run) u s step))
