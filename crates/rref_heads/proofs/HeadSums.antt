-- The laws of the sum over all views, and of counts.
use Rattle.std.proofs.Common.{◌≡◌, ◌≢◌, ℕ, zero, suc, ◌+◌, ◌≤◌, eqb, cond, List, [], ◌∷◌, ◌++◌, set, sym, refl, ap, ◌∙◌, subst, arith, eq-eqb, ne_eqb}
use mathlib.Core.Logic.{dite}
use mathlib.Core.Option.{some, some-injective, some-ne-none}
use native.Mathlib.Decide.{ℕ_discrete}
use lib.ListN.{get_elem?}
use Rattle.machine_defs.specs.HeadSums.{total, one_if, count, less}

module _ {A : Type 0} (f : A → ℕ) where
  pub part_le : (vs : List A) (i : ℕ) (v : A) → get_elem? vs i ≡ some v → f v ≤ total f vs
  part_le [] i v e = absurd (some-ne-none v (sym e))
  part_le (x ∷ xs) zero v e = let m : f v ≡ f x = ap f (sym (some-injective x v e)) in omega arith
  part_le (x ∷ xs) (suc i) v e = let m = part_le xs i v e in omega arith

  pub two_le : (vs : List A) (i j : ℕ) (v w : A) → i ≢ j → get_elem? vs i ≡ some v → get_elem? vs j ≡ some w → f v + f w ≤ total f vs
  two_le [] i j v w n e d = absurd (some-ne-none v (sym e))
  two_le (x ∷ xs) zero zero v w n e d = absurd (n refl)
  two_le (x ∷ xs) zero (suc j) v w n e d = let m : f v ≡ f x = ap f (sym (some-injective x v e)) in let r = part_le xs j w d in omega arith
  two_le (x ∷ xs) (suc i) zero v w n e d = let m : f w ≡ f x = ap f (sym (some-injective x w d)) in let r = part_le xs i v e in omega arith
  two_le (x ∷ xs) (suc i) (suc j) v w n e d = let r = two_le xs i j v w (λ q. n (ap suc q)) e d in omega arith

  -- one view changes
  pub total_set : (vs : List A) (i : ℕ) (v w : A) → get_elem? vs i ≡ some v → total f (set vs i w) + f v ≡ total f vs + f w
  total_set [] i v w e = absurd (some-ne-none v (sym e))
  total_set (x ∷ xs) zero v w e = let m : f v ≡ f x = ap f (sym (some-injective x v e)) in omega arith
  total_set (x ∷ xs) (suc i) v w e = let m = total_set xs i v w e in omega arith

  pub total_append : (vs : List A) (w : A) → total f (vs ++ w ∷ []) ≡ total f vs + f w
  total_append [] w = omega arith
  total_append (x ∷ xs) w = let m = total_append xs w in omega arith

  -- a view is cut in two
  pub total_split : (vs : List A) (i : ℕ) (v l r : A) → get_elem? vs i ≡ some v → f l + f r ≡ f v → total f (set vs i l ++ r ∷ []) ≡ total f vs
  total_split vs i v l r e p = let a = total_append (set vs i l) r in let b = total_set vs i v l e in omega arith

  -- a view takes in another
  pub total_join : (vs : List A) (i j : ℕ) (v w both spent : A) → get_elem? vs i ≡ some v → get_elem? (set vs i both) j ≡ some w → f both + f spent ≡ f v + f w
      → total f (set (set vs i both) j spent) ≡ total f vs
  total_join vs i j v w both spent e d p = let a = total_set (set vs i both) j w spent d in let b = total_set vs i v both e in omega arith

  -- one view has all that the sum has, so each other has none
  pub total_none : (vs : List A) → ((i : ℕ) (v : A) → get_elem? vs i ≡ some v → f v ≡ 0) → total f vs ≡ 0
  total_none [] h = refl
  total_none (x ∷ xs) h = let a = h 0 x refl in let b = total_none xs (λ i v e. h (suc i) v e) in omega arith

module _ {A : Type 0} (head : A → ℕ) (h : ℕ) where
  pub count_here : (x : A) (xs : List A) → head x ≡ h → count head h (x ∷ xs) ≡ suc (count head h xs)
  count_here x xs e = ap (λ b. one_if b + count head h xs) (eq-eqb (head x) h e) ∙ (omega arith)

  pub count_else : (x : A) (xs : List A) → head x ≢ h → count head h (x ∷ xs) ≡ count head h xs
  count_else x xs n = ap (λ b. one_if b + count head h xs) (ne_eqb (head x) h n) ∙ (omega arith)

  pub less_here : (x : A) (xs : List A) → head x ≡ h → less head h (x ∷ xs) ≡ xs
  less_here x xs e = ap (λ b. cond b xs (x ∷ less head h xs)) (eq-eqb (head x) h e)

  pub less_else : (x : A) (xs : List A) → head x ≢ h → less head h (x ∷ xs) ≡ x ∷ less head h xs
  less_else x xs n = ap (λ b. cond b xs (x ∷ less head h xs)) (ne_eqb (head x) h n)

  pub count_less : (xs : List A) → 1 ≤ count head h xs → suc (count head h (less head h xs)) ≡ count head h xs
  count_less [] p = absurd (omega arith)
  count_less (x ∷ xs) p = dite (ℕ_discrete (head x) h)
      (λ e. ap (λ ys. suc (count head h ys)) (less_here x xs e) ∙ sym (count_here x xs e))
      (λ n. ap (λ ys. suc (count head h ys)) (less_else x xs n) ∙ ap suc (count_else x (less head h xs) n) ∙ count_less xs (subst (λ z. 1 ≤ z) (count_else x xs n) p) ∙ sym (count_else x xs n))

module _ {A : Type 0} (head : A → ℕ) (h j : ℕ) (apart : j ≢ h) where
  pub count_apart : (x : A) (xs : List A) → head x ≡ h → count head j (x ∷ xs) ≡ count head j xs
  count_apart x xs e = count_else head j x xs (λ q. apart (sym q ∙ e))

  pub less_apart : (xs : List A) → count head j (less head h xs) ≡ count head j xs
  less_apart [] = refl
  less_apart (x ∷ xs) = dite (ℕ_discrete (head x) h)
      (λ e. ap (count head j) (less_here head h x xs e) ∙ sym (count_apart x xs e))
      (λ n. ap (count head j) (less_else head h x xs n) ∙ ap (λ z. one_if (eqb (head x) j) + z) (less_apart xs))
