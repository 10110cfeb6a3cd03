-- What the last state of a table tells of each head.
use Rattle.std.proofs.Common.{◌≡◌, ℕ, zero, suc, ◌+◌, ◌-◌, ◌<◌, Bool, false, List, [], ◌∷◌, ◌++◌, length, get_or, set, Some, None, sym, refl, ap, ◌∙◌, subst, arith, add-one}
use mathlib.Core.Logic.{dite}
use mathlib.Core.Option.{some, some-injective}
use native.Mathlib.Decide.{ℕ_discrete}
use lib.ListN.{get_elem?}
use Rattle.atomic_table.proofs.Lists.{at_longer, at_last}
use Rattle.machine_defs.specs.declared.heads.HeadWord.{HeadWord}
use Rattle.machine_defs.specs.declared.heads.HeadWord.TheVariants.{Vacant, Busy, Gone, Live}
use Rattle.machine_defs.specs.declared.heads.View.{View}
use Rattle.machine_defs.specs.declared.heads.Size.{Size}
use Rattle.rref_heads.specs.declared.table.Pass.{Pass}
use Rattle.machine_defs.specs.Heads.{Kind, claim, right, how_many, due, word_number, Fits, KeptUnless, Home, Place}
use Rattle.rref_heads.specs.Plays.{TableState, Holds}
use Rattle.machine_defs.specs.Heads.{Slot}
use Rattle.rref_heads.specs.Passes.{sum_over, IsPayloadOf}
use Rattle.rref_heads.proofs.WordNumbers.{word_number_inj, fits_more}
use Rattle.rref_heads.proofs.SeatsMeet.{alone}
use Rattle.rref_heads.proofs.ClosedTables.{closed_home}

module _ {A : Type 0} where
  pub push_each : (P : ℕ → A → Type 0) (xs : List A) (n : ℕ) (a : A) → length xs ≡ n → ((j : ℕ) → j < n → (b : A) × (get_elem? xs j ≡ some b) × P j b) → P n a → (j : ℕ) → j < n + 1 → (b : A) × (get_elem? (xs ++ a ∷ []) j ≡ some b) × P j b
  push_each P xs n a long each here j le = dite (ℕ_discrete j n)
      (λ e. (a, ap (get_elem? (xs ++ a ∷ [])) e ∙ at_last xs a n long, subst (λ (z : ℕ). P z a) (sym e) here))
      (λ ne. let b = each j (omega arith) in (b.0, at_longer xs (a ∷ []) j b.0 b.1, b.2))

pub elem_of : (l : List ℕ) (i : ℕ) → i < length l → get_elem? l i ≡ some (get_or l i 0)
elem_of [] i h = absurd (omega arith)
elem_of (x ∷ xs) zero h = refl
elem_of (x ∷ xs) (suc i) h = elem_of xs i (omega arith)

pub unset_here : (fs : List Bool) (i : ℕ) → get_or (set fs i false) i false ≡ false
unset_here [] i = refl
unset_here (x ∷ xs) zero = refl
unset_here (x ∷ xs) (suc i) = unset_here xs i

pub next_is : (l : List ℕ) (i n : ℕ) (x : ℕ) → get_elem? l (i + 1) ≡ some n → get_elem? l (suc i) ≡ some x → n ≡ x
next_is l i n x e d = some-injective n x (sym e ∙ ap (get_elem? l) (add-one i) ∙ d)

pub last_words : (size : Size) (s : TableState) (r : Holds size s) (ws : List ℕ) → s.words ≡ ws → (i : ℕ) → i < size.heads → (a : HeadWord) × Fits 64 a × (get_elem? ws (suc i) ≡ some (word_number a))
last_words size s r ws is i near = let ok = r.heads (suc i) (omega arith) (omega arith) in let wide = r.wide in
    (ok.word, fits_more size.seats 64 ok.word r.few ok.fits, ap (λ l. get_elem? l (suc i)) (sym is) ∙ elem_of s.words (suc i) (omega arith) ∙ ap some ok.shows)

closed_payload : (a : HeadWord) (p : Place) (o : Slot) → Home a p → ((y : Slot) → p ≡ some (some y) → o ≡ y) → due a claim ≡ 0 → due a right ≡ 0 → IsPayloadOf a o
closed_payload Vacant p o home same c r = same None home
closed_payload Busy p o home same c r = absurd (omega arith)
closed_payload Gone p o home same c r = same None home
closed_payload (Live l e to) p o home same c r = let x = subst (λ (n : ℕ). KeptUnless n p) r home in (x.0, same (Some x.0) x.1)

pub last_head : (size : Size) (s : TableState) (r : Holds size s) (id : ℕ) (v : View) → get_elem? s.views id ≡ some v → v.passes ≡ size.seats → (ws : List ℕ) (xs : List Slot) → s.words ≡ ws → ((k : ℕ) (y : Slot) → get_elem? s.homes k ≡ some (some y) → get_elem? xs k ≡ some y)
    → (ps : List Pass) (i : ℕ) → ((k : Kind) → how_many k (suc i) v ≡ sum_over k (suc i) ps) → sum_over claim (suc i) ps ≡ 0 → sum_over right (suc i) ps ≡ 0 → i < size.heads
    → (a : HeadWord) → Fits 64 a → get_elem? ws (suc i) ≡ some (word_number a) → (o : Slot) → get_elem? xs i ≡ some o
    → ((k : Kind) → sum_over k (suc i) ps ≡ due a k) × IsPayloadOf a o × Home a (some (some o)) × Fits size.seats a
last_head size s r id v at all ws xs is there ps i sums claims rights near a fits shows o here = let ok = r.heads (suc i) (omega arith) (omega arith) in let wide = r.wide in
    let same : ok.word ≡ a = word_number_inj size.seats 64 ok.word a ok.fits fits (sym ok.shows ∙ some-injective (get_or s.words (suc i) 0) (word_number a) (sym (elem_of s.words (suc i) (omega arith)) ∙ ap (λ l. get_elem? l (suc i)) is ∙ shows)) in
    let each : (k : Kind) → sum_over k (suc i) ps ≡ due a k = λ k. sym (sums k) ∙ sym (alone size s r id v at all k (suc i)) ∙ ok.sums k ∙ ap (λ q. due q k) same in
    let back : suc i - 1 ≡ i = omega arith in
    let home = subst (λ (q : HeadWord). Home q (get_elem? s.homes (suc i - 1))) same ok.home in let value : (y : Slot) → get_elem? s.homes (suc i - 1) ≡ some (some y) → o ≡ y = λ y e. some-injective o y (sym here ∙ there i y (ap (get_elem? s.homes) (sym back) ∙ e)) in
    let c = sym (each claim) ∙ claims in let g = sym (each right) ∙ rights in
    (each, closed_payload a (get_elem? s.homes (suc i - 1)) o home value c g, closed_home a (get_elem? s.homes (suc i - 1)) o home value c g, subst (Fits size.seats) same ok.fits)
