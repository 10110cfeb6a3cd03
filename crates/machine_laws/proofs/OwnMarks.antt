-- Registers whose own objects aren't lent to the frame, and whose lent ones are.
use Rattle.std.proofs.Common.{◌≡◌, refl, sym, ◌∙◌, ap, ℕ, zero, suc, ◌+◌, Bool, true, false, not, List, [], ◌∷◌, Option, Some, None, arith}
use Rattle.std.specs.Prelude.{slice_set}
use Rattle.std.specs.List.{slice_index_or}
use Rattle.std.proofs.lemmas.Bool.{not-true, not_from_false}
use Rattle.rl_defs.specs.declared.values.Value.{Value}
use Rattle.rl_defs.specs.declared.values.Value.TheVariants as value
use Rattle.rl_defs.specs.declared.code.Register.{Register}
use Rattle.rl_defs.specs.declared.code.RegKind.{RegKind}
use Rattle.rl_defs.specs.declared.code.RegKind.TheVariants as held
use Rattle.machine_defs.specs.Loans.{count}
use Rattle.machine_defs.specs.Arguments.{has}
use Rattle.rl_defs.specs.CodeKinds.{Kinds, kind_in, is_own}
use Rattle.rl_defs.specs.Registers.{Typing, fits_kind, Fits}
use Rattle.rl_defs.specs.Registers.{Registers, value_in, with_value}
use Rattle.machine_laws.specs.Registers.{own, Parted}
use Rattle.machine_laws.proofs.OwnCounts.{weight, weight_of, own_set}

-- what a register holds is lent to the frame as its kind says
abbrev pub mark : List ℕ → RegKind → Option Value → Bool
mark lent (held.Own s) (Some (value.Obj o)) = not (has lent o)
mark lent (held.Lent s) (Some (value.Obj o)) = has lent o
mark lent k v = true

abbrev pub Marked : List ℕ → Kinds → Registers → Type 0
Marked lent kinds regs = (r : ℕ) → mark lent (slice_index_or kinds r held.Empty) (slice_index_or regs r None) ≡ true

mark_from : (lent : List ℕ) (k : RegKind) (v : Option Value) → ((ty o : ℕ) → k ≡ held.Own ty → v ≡ Some (value.Obj o) → has lent o ≡ false) → ((ty o : ℕ) → k ≡ held.Lent ty → v ≡ Some (value.Obj o) → has lent o ≡ true) → mark lent k v ≡ true
mark_from lent (held.Own s) (Some (value.Obj o)) mine lents = not_from_false (has lent o) (mine s o refl refl)
mark_from lent (held.Lent s) (Some (value.Obj o)) mine lents = lents s o refl refl
mark_from lent k v mine lents = refl

pub marked_of : (lent : List ℕ) (kinds : Kinds) (regs : Registers) → Parted lent kinds regs → Marked lent kinds regs
marked_of lent kinds regs parted r = mark_from lent (slice_index_or kinds r held.Empty) (slice_index_or regs r None) (λ ty o. parted.own r ty o) (λ ty o. parted.lent r ty o)

own_mark : (lent : List ℕ) (k : RegKind) (v : Option Value) (ty o : ℕ) → mark lent k v ≡ true → k ≡ held.Own ty → v ≡ Some (value.Obj o) → has lent o ≡ false
own_mark lent k v ty o m a b = not-true (has lent o) (sym (ap (λ x. mark lent x (Some (value.Obj o))) a) ∙ (sym (ap (mark lent k) b) ∙ m))

lent_mark : (lent : List ℕ) (k : RegKind) (v : Option Value) (ty o : ℕ) → mark lent k v ≡ true → k ≡ held.Lent ty → v ≡ Some (value.Obj o) → has lent o ≡ true
lent_mark lent k v ty o m a b = sym (ap (λ x. mark lent x (Some (value.Obj o))) a) ∙ (sym (ap (mark lent k) b) ∙ m)

pub parted_of : (lent : List ℕ) (kinds : Kinds) (regs : Registers) → Marked lent kinds regs → Parted lent kinds regs
parted_of lent kinds regs marked = record {
  own = λ r ty o a b. own_mark lent (slice_index_or kinds r held.Empty) (slice_index_or regs r None) ty o (marked r) a b;
  lent = λ r ty o a b. lent_mark lent (slice_index_or kinds r held.Empty) (slice_index_or regs r None) ty o (marked r) a b;
}

pub mark_none : (lent : List ℕ) (k : RegKind) → mark lent k None ≡ true
mark_none lent (held.Own s) = refl
mark_none lent (held.Lent s) = refl
mark_none lent k = refl

pub mark_set : (lent : List ℕ) (kinds : Kinds) (regs : Registers) (a : ℕ) (k : RegKind) (v : Option Value) → Marked lent kinds regs → mark lent k v ≡ true → Marked lent (slice_set kinds a k) (slice_set regs a v)
mark_set lent [] regs a k v each m r = refl
mark_set lent (x ∷ kinds) [] a k v each m r = mark_none lent (slice_index_or (slice_set (x ∷ kinds) a k) r held.Empty)
mark_set lent (x ∷ kinds) (y ∷ regs) zero k v each m zero = m
mark_set lent (x ∷ kinds) (y ∷ regs) zero k v each m (suc r) = each (suc r)
mark_set lent (x ∷ kinds) (y ∷ regs) (suc a) k v each m zero = each zero
mark_set lent (x ∷ kinds) (y ∷ regs) (suc a) k v each m (suc r) = mark_set lent kinds regs a k v (λ q. each (suc q)) m r

-- a register that is emptied
pub mark_emptied : (lent : List ℕ) (kinds : Kinds) (regs : Registers) (a : ℕ) → Marked lent kinds regs → Marked lent kinds (slice_set regs a None)
mark_emptied lent kinds [] a each r = each r
mark_emptied lent [] (y ∷ regs) a each r = refl
mark_emptied lent (x ∷ kinds) (y ∷ regs) zero each zero = mark_none lent x
mark_emptied lent (x ∷ kinds) (y ∷ regs) zero each (suc r) = each (suc r)
mark_emptied lent (x ∷ kinds) (y ∷ regs) (suc a) each zero = each zero
mark_emptied lent (x ∷ kinds) (y ∷ regs) (suc a) each (suc r) = mark_emptied lent kinds regs a (λ q. each (suc q)) r

-- what is in a register that isn't known to hold an own object isn't own
lent_weight : (p o : ℕ) (b : Bool) → b ≡ true → weight_of p o b ≡ 0
lent_weight p o b e = ap (weight_of p o) e

spare_weight : (types : Typing) (lent : List ℕ) (p : ℕ) (k : RegKind) (v : Option Value) → fits_kind types k v ≡ true → mark lent k v ≡ true → is_own k ≡ false → weight lent p v ≡ 0
spare_weight types lent p k None f m o = refl
spare_weight types lent p k (Some (value.Num n)) f m o = refl
spare_weight types lent p k (Some (value.Cap x)) f m o = refl
spare_weight types lent p (held.Lent s) (Some (value.Obj q)) f m o = lent_weight p q (has lent q) m
spare_weight types lent p k (Some (value.Obj q)) f m o = cc

-- what is in one that is known to is
pub record Owned (lent : List ℕ) (v : Option Value) : Type 0 where
  pub object : ℕ
  pub is : v ≡ Some (value.Obj object)
  pub unlent : has lent object ≡ false

owned_value : (types : Typing) (lent : List ℕ) (k : RegKind) (v : Option Value) → fits_kind types k v ≡ true → mark lent k v ≡ true → is_own k ≡ true → Owned lent v
owned_value types lent (held.Own s) (Some (value.Obj o)) f m own = record { object = o; is = refl; unlent = not-true (has lent o) m }
owned_value types lent k v f m own = absurd (cc)

pub spare_in : (types : Typing) (lent : List ℕ) (kinds : Kinds) (regs : Registers) (p r : ℕ) → Fits types kinds regs → Marked lent kinds regs → is_own (slice_index_or kinds r held.Empty) ≡ false → weight lent p (slice_index_or regs r None) ≡ 0
spare_in types lent kinds regs p r fit marked o = spare_weight types lent p (slice_index_or kinds r held.Empty) (slice_index_or regs r None) (fit.each r) (marked r) o

pub owned_in : (types : Typing) (lent : List ℕ) (kinds : Kinds) (regs : Registers) (r : ℕ) → Fits types kinds regs → Marked lent kinds regs → is_own (slice_index_or kinds r held.Empty) ≡ true → Owned lent (slice_index_or regs r None)
owned_in types lent kinds regs r fit marked o = owned_value types lent (slice_index_or kinds r held.Empty) (slice_index_or regs r None) (fit.each r) (marked r) o

pub owned_weight : (lent : List ℕ) (p : ℕ) (v : Option Value) → (o : Owned lent v) → weight lent p v ≡ count p (o.object ∷ [])
owned_weight lent p v o = ap (weight lent p) o.is ∙ ap (weight_of p o.object) o.unlent

-- a value that is put where no own object is
pub spare_set : (types : Typing) (lent : List ℕ) (kinds : Kinds) (regs : Registers) (p : ℕ) (a : Register) (v : Option Value) → Fits types kinds regs → Marked lent kinds regs → is_own (kind_in kinds a) ≡ false → count p (own lent (with_value regs a v)) ≡ count p (own lent regs) + weight lent p v
spare_set types lent kinds regs p a v fit marked o =
    let below = a.below in
    let all = fit.all in
    omega (arith, own_set lent p regs a.number v (omega arith), spare_in types lent kinds regs p a.number fit marked o)

-- one that takes an own object's place
pub owned_set : (types : Typing) (lent : List ℕ) (kinds : Kinds) (regs : Registers) (p : ℕ) (a : Register) (v : Option Value) → Fits types kinds regs → Marked lent kinds regs → (o : Owned lent (value_in regs a)) → count p (own lent (with_value regs a v)) + count p (o.object ∷ []) ≡ count p (own lent regs) + weight lent p v
owned_set types lent kinds regs p a v fit marked o =
    let below = a.below in
    let all = fit.all in
    omega (arith, own_set lent p regs a.number v (omega arith), owned_weight lent p (value_in regs a) o)
