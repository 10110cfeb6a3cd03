-- Sets of registers as numbers.
use Rattle.std.proofs.Common.{◌≡◌, ◌≢◌, refl, ap, sym, ◌∙◌, ◌⊎◌, inl, inr, ℕ, zero, suc, ◌^◌, ◌<◌, ◌==◌, ◌&&◌, ◌||◌, true, false, List, [], ◌∷◌, map, max, min, arith, bit_and}
use Rattle.std.specs.Int.{bit_at}
use Rattle.std.specs.Int.RustNames.{bit_or}
use Rattle.std.proofs.Math.Bool.{or-false, or_assoc}
use Rattle.std.proofs.lemmas.Bool.Decides.{eqb_tells}
use Rattle.std.proofs.lemmas.Nat.{mod_below}
use Rattle.std.proofs.lemmas.Nat.Bits.{bit_at-zero, bit_at_and, bit_at_or, bit_at-pow_same, bit_at-pow_other, bit_at_ones}
use Rattle.rl_defs.specs.declared.code.HeadItem.{HeadItem}
use Rattle.rl_defs.specs.Registers.{is_listed}
use Rattle.domain_checker.specs.Heads.{is_in, all_registers, with_items}

min_of_bits : (a b : ℕ) → a < 2 → b < 2 → (min a b == 1) ≡ ((a == 1) && (b == 1))
min_of_bits zero zero p q = refl
min_of_bits zero (suc zero) p q = refl
min_of_bits (suc zero) zero p q = refl
min_of_bits (suc zero) (suc zero) p q = refl
min_of_bits zero (suc (suc b)) p q = absurd (omega arith)
min_of_bits (suc zero) (suc (suc b)) p q = absurd (omega arith)
min_of_bits (suc (suc a)) b p q = absurd (omega arith)

max_of_bits : (a b : ℕ) → a < 2 → b < 2 → (max a b == 1) ≡ ((a == 1) || (b == 1))
max_of_bits zero zero p q = refl
max_of_bits zero (suc zero) p q = refl
max_of_bits (suc zero) zero p q = refl
max_of_bits (suc zero) (suc zero) p q = refl
max_of_bits zero (suc (suc b)) p q = absurd (omega arith)
max_of_bits (suc zero) (suc (suc b)) p q = absurd (omega arith)
max_of_bits (suc (suc a)) b p q = absurd (omega arith)

bit_small : (n r : ℕ) → bit_at n r < 2
bit_small n r = mod_below _ 2 (omega arith)

pub in_both : (a b r : ℕ) → is_in (bit_and a b) r ≡ (is_in a r && is_in b r)
in_both a b r = ap (λ n. n == 1) (bit_at_and a b r) ∙ min_of_bits (bit_at a r) (bit_at b r) (bit_small a r) (bit_small b r)

in_either : (a b r : ℕ) → is_in (bit_or a b) r ≡ (is_in a r || is_in b r)
in_either a b r = ap (λ n. n == 1) (bit_at_or a b r) ∙ max_of_bits (bit_at a r) (bit_at b r) (bit_small a r) (bit_small b r)

in_one_case : (n r : ℕ) → (((n == r) ≡ true) × (n ≡ r)) ⊎ (((n == r) ≡ false) × (n ≢ r)) → is_in (2 ^ n) r ≡ (n == r)
in_one_case n r (inl same) = ap (λ m. is_in (2 ^ m) r) same.1 ∙ (ap (λ m. m == 1) (bit_at-pow_same r) ∙ sym same.0)
in_one_case n r (inr other) = ap (λ m. m == 1) (bit_at-pow_other n r (λ e. other.1 (sym e))) ∙ sym other.0

in_one : (n r : ℕ) → is_in (2 ^ n) r ≡ (n == r)
in_one n r = in_one_case n r (eqb_tells n r)

-- the registers of items, and those of the set before
pub in_items : (set : ℕ) (items : List HeadItem) (r : ℕ) → is_in (with_items set items) r ≡ (is_in set r || is_listed r (map (λ item. item.register) items))
in_items set [] r = sym (or-false (is_in set r))
in_items set (item ∷ items) r =
    in_items (bit_or set (2 ^ item.register.number)) items r
    ∙ (ap (λ b. b || is_listed r (map (λ i. i.register) items)) (in_either set (2 ^ item.register.number) r ∙ ap (λ b. is_in set r || b) (in_one item.register.number r))
    ∙ or_assoc (is_in set r) (item.register.number == r) (is_listed r (map (λ i. i.register) items)))

pub in_all : (r : ℕ) → r < 32 → is_in all_registers r ≡ true
in_all r lt = ap (λ n. n == 1) (bit_at_ones 32 r lt)

pub in_listed : (items : List HeadItem) (r : ℕ) → is_in (with_items 0 items) r ≡ is_listed r (map (λ item. item.register) items)
in_listed items r = in_items 0 items r ∙ ap (λ n. (n == 1) || is_listed r (map (λ item. item.register) items)) (bit_at-zero r)
