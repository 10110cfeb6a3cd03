-- The numbers of head words.
use Rattle.std.proofs.Common.{◌≡◌, ℕ, ◌+◌, ◌*◌, ◌<◌, ◌≤◌, Bool, true, false, Option, Some, None, refl, ap, ◌∙◌, arith, ◌-◌, ◌%◌, ◌^◌, mod-eq_of_lt}
use native.Mathlib.Nat.{add-mod_right}
use Rattle.machine_defs.specs.declared.heads.HeadWord.{HeadWord}
use Rattle.machine_defs.specs.declared.heads.HeadWord.TheVariants.{Vacant, Busy, Gone, Live}
use Rattle.machine_defs.specs.Heads.{word_number, mark, receiver_number, Fits}

receiver_number_inj : (t u : Option ℕ) → receiver_number t ≡ receiver_number u → t ≡ u
receiver_number_inj None None e = refl
receiver_number_inj None (Some u) e = absurd (omega arith)
receiver_number_inj (Some t) None e = absurd (omega arith)
receiver_number_inj (Some t) (Some u) e = let q : t ≡ u = omega arith in ap (λ (x : ℕ). Some x) q

live_inj : (n l l' : ℕ) (e e' : Bool) (t t' : ℕ) → l < 65536 → l' < 65536 → 3 + 4 * l + 262144 * mark e + 524288 * t ≡ 3 + 4 * l' + 262144 * mark e' + 524288 * t' → (l ≡ l') × (e ≡ e') × (t ≡ t')
live_inj n l l' true true t t' a b p = let q : t ≡ t' = omega arith in let r : l ≡ l' = omega arith in (r, refl, q)
live_inj n l l' true false t t' a b p = absurd (omega arith)
live_inj n l l' false true t t' a b p = absurd (omega arith)
live_inj n l l' false false t t' a b p = let q : t ≡ t' = omega arith in let r : l ≡ l' = omega arith in (r, refl, q)

pub word_number_inj : (n m : ℕ) (a b : HeadWord) → Fits n a → Fits m b → word_number a ≡ word_number b → a ≡ b
word_number_inj n m Vacant Vacant f g e = refl
word_number_inj n m Vacant Busy f g e = absurd (omega arith)
word_number_inj n m Vacant Gone f g e = absurd (omega arith)
word_number_inj n m Vacant (Live l x to) f g e = absurd (omega arith)
word_number_inj n m Busy Vacant f g e = absurd (omega arith)
word_number_inj n m Busy Busy f g e = refl
word_number_inj n m Busy Gone f g e = absurd (omega arith)
word_number_inj n m Busy (Live l x to) f g e = absurd (omega arith)
word_number_inj n m Gone Vacant f g e = absurd (omega arith)
word_number_inj n m Gone Busy f g e = absurd (omega arith)
word_number_inj n m Gone Gone f g e = refl
word_number_inj n m Gone (Live l x to) f g e = absurd (omega arith)
word_number_inj n m (Live l x to) Vacant f g e = absurd (omega arith)
word_number_inj n m (Live l x to) Busy f g e = absurd (omega arith)
word_number_inj n m (Live l x to) Gone f g e = absurd (omega arith)
word_number_inj n m (Live l x to) (Live l' x' to') f g e = let p = live_inj 0 l l' x x' (receiver_number to) (receiver_number to') f.0 g.0 e in λ i. Live (p.0 i) (p.1 i) (receiver_number_inj to to' p.2 i)

pub fits_more : (n m : ℕ) (a : HeadWord) → n ≤ m → Fits n a → Fits m a
fits_more n m Vacant le f = tt
fits_more n m Busy le f = tt
fits_more n m Gone le f = tt
fits_more n m (Live l e to) le f = let g : receiver_number to ≤ n = f.1 in (f.0, omega arith)

pub word_number_small : (n : ℕ) (a : HeadWord) → n ≤ 64 → Fits n a → word_number a < 2 ^ 63
word_number_small n Vacant le f = omega arith
word_number_small n Busy le f = omega arith
word_number_small n Gone le f = omega arith
word_number_small n (Live l true to) le f = let p : l < 65536 = f.0 in let q : receiver_number to ≤ n = f.1 in omega arith
word_number_small n (Live l false to) le f = let p : l < 65536 = f.0 in let q : receiver_number to ≤ n = f.1 in omega arith

pub less_four : (x : ℕ) → x < 2 ^ 63 → (x + 4 + (2 ^ 64 - 4)) % 2 ^ 64 ≡ x
less_four x p = let e : x + 4 + (2 ^ 64 - 4) ≡ x + 2 ^ 64 = omega arith in ap (λ (z : ℕ). z % 2 ^ 64) e ∙ add-mod_right x (2 ^ 64) ∙ mod-eq_of_lt (omega arith)
