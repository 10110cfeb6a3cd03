-- How often an object is among what registers hold of their frame's own, register by register.
use Rattle.std.proofs.Common.{◌≡◌, refl, sym, ◌∙◌, ap, ℕ, zero, suc, ◌+◌, ◌<◌, ◌≤◌, ◌==◌, Bool, true, false, cond, not, List, [], ◌∷◌, length, Option, Some, None, arith, inl, inr, true≢false}
use Rattle.std.specs.Prelude.{slice_set, filter, if◌then◌else◌}
use Rattle.std.specs.List.{slice_index_or, filter_map}
use Rattle.std.proofs.lemmas.Bool.{cases_Bool, ne_eqb}
use Rattle.rl_defs.specs.declared.values.Value.{Value}
use Rattle.rl_defs.specs.declared.values.Value.TheVariants as value
use Rattle.rl_defs.specs.declared.code.Register.{Register}
use Rattle.machine_defs.specs.Loans.{count}
use Rattle.machine_defs.specs.Arguments.{has}
use Rattle.rl_defs.specs.Registers.{Registers, is_listed, keep_from}
use Rattle.machine_defs.specs.Sound.{object_held}
use Rattle.machine_laws.specs.Registers.{own}

-- an object, where it is this one and isn't lent
abbrev pub weight_of : ℕ → ℕ → Bool → ℕ
weight_of p o true = 0
weight_of p o false = count p (o ∷ [])

abbrev pub weight : List ℕ → ℕ → Option Value → ℕ
weight lent p None = 0
weight lent p (Some (value.Num n)) = 0
weight lent p (Some (value.Obj o)) = weight_of p o (has lent o)
weight lent p (Some (value.Cap x)) = 0

object_first : (lent : List ℕ) (p o : ℕ) (b : Bool) (xs : List ℕ) → count p (cond (not b) (o ∷ xs) xs) ≡ weight_of p o b + count p xs
object_first lent p o true xs = omega arith
object_first lent p o false xs = omega arith

pub own_first : (lent : List ℕ) (p : ℕ) (v : Option Value) (regs : Registers) → count p (own lent (v ∷ regs)) ≡ weight lent p v + count p (own lent regs)
own_first lent p None regs = omega arith
own_first lent p (Some (value.Num n)) regs = omega arith
own_first lent p (Some (value.Obj o)) regs = object_first lent p o (has lent o) (own lent regs)
own_first lent p (Some (value.Cap x)) regs = omega arith

-- another value in a register
pub own_set : (lent : List ℕ) (p : ℕ) (regs : Registers) (a : ℕ) (v : Option Value) → a < length regs → count p (own lent (slice_set regs a v)) + weight lent p (slice_index_or regs a None) ≡ count p (own lent regs) + weight lent p v
own_set lent p [] a v lt = absurd (omega arith)
own_set lent p (x ∷ regs) zero v lt = omega (arith, own_first lent p v regs, own_first lent p x regs)
own_set lent p (x ∷ regs) (suc a) v lt = omega (arith, own_first lent p x (slice_set regs a v), own_first lent p x regs, own_set lent p regs a v (omega arith))

-- what one register has is among what all have
pub own_least : (lent : List ℕ) (p : ℕ) (regs : Registers) (a : ℕ) → weight lent p (slice_index_or regs a None) ≤ count p (own lent regs)
own_least lent p [] a = omega arith
own_least lent p (x ∷ regs) zero = omega (arith, own_first lent p x regs)
own_least lent p (x ∷ regs) (suc a) = omega (arith, own_first lent p x regs, own_least lent p regs a)

-- registers that have none each have none together
pub own_none : (lent : List ℕ) (p : ℕ) (regs : Registers) → ((r : ℕ) → weight lent p (slice_index_or regs r None) ≡ 0) → count p (own lent regs) ≡ 0
own_none lent p [] none = refl
own_none lent p (x ∷ regs) none = omega (arith, own_first lent p x regs, none 0, own_none lent p regs (λ r. none (suc r)))

kept_weight : (lent : List ℕ) (p : ℕ) (b : Bool) (v : Option Value) → (b ≡ false → weight lent p v ≡ 0) → weight lent p (if b then v else None) ≡ weight lent p v
kept_weight lent p true v none = refl
kept_weight lent p false v none = sym (none refl)

-- a head takes nothing where what it doesn't list has none
pub own_kept : (lent : List ℕ) (p n : ℕ) (listed : List Register) (regs : Registers) → ((r : ℕ) → is_listed (n + r) listed ≡ false → weight lent p (slice_index_or regs r None) ≡ 0) → count p (own lent (keep_from n listed regs)) ≡ count p (own lent regs)
own_kept lent p n listed [] none = refl
own_kept lent p n listed (v ∷ regs) none =
    let here : is_listed n listed ≡ false → weight lent p v ≡ 0 = λ e. none 0 (ap (λ m. is_listed m listed) (omega arith) ∙ e) in
    let rest = own_kept lent p (n + 1) listed regs (λ r e. none (suc r) (ap (λ m. is_listed m listed) (omega arith) ∙ e)) in
    omega (arith, own_first lent p (if is_listed n listed then v else None) (keep_from (n + 1) listed regs), own_first lent p v regs, kept_weight lent p (is_listed n listed) v here, rest)

other_object : (lent : List ℕ) (p x : ℕ) → has lent p ≡ true → has lent x ≡ false → (x == p) ≡ false
other_object lent p x is isn't = ne_eqb x p (λ e. true≢false (sym (ap (has lent) e ∙ is) ∙ isn't))

first_lent : (lent : List ℕ) (p x : ℕ) (xs : List ℕ) (b : Bool) → has lent p ≡ true → has lent x ≡ b → count p xs ≡ 0 → count p (cond (not b) (x ∷ xs) xs) ≡ 0
first_lent lent p x xs true is e rest = rest
first_lent lent p x xs false is e rest = rw (other_object lent p x is e) (omega arith)

-- what is lent isn't own
lent_filtered : (lent : List ℕ) (p : ℕ) (xs : List ℕ) → has lent p ≡ true → count p (filter (λ o. not (has lent o)) xs) ≡ 0
lent_filtered lent p [] is = refl
lent_filtered lent p (x ∷ xs) is = first_lent lent p x (filter (λ o. not (has lent o)) xs) (has lent x) is refl (lent_filtered lent p xs is)

pub own_unlent : (lent : List ℕ) (p : ℕ) (regs : Registers) → 0 < count p (own lent regs) → has lent p ≡ false
own_unlent lent p regs some = elim (cases_Bool (has lent p)) [
  | inl is ↦ absurd (omega (arith, lent_filtered lent p (filter_map object_held regs) is))
  | inr isn't ↦ isn't
]
