-- Where not every load is of domain code alone, there is one of a domain with a native body.
use Rattle.std.proofs.Common.{◌≡◌, ℕ, zero, suc, Bool, true, false, List, [], ◌∷◌, Option, Some, None, slice_get, inl, inr, refl}
use Rattle.std.specs.Prelude.{◌⊎◌}
use Rattle.rl_defs.specs.declared.load.LoadRows.{LoadRows}
use Rattle.rl_defs.specs.declared.load.LoadRow.{LoadRow}
use Rattle.rl_defs.specs.Domains.{is_native}
use Rattle.rl_defs.specs.Rows.{domain_of_load, domain_in}
use Rattle.machine_steps.specs.Kept.{IsCodeAlone}

each_more : {A : Type 0} (f : Option A → Bool) (y : A) (ys : List A) → f (Some y) ≡ false → ((k : ℕ) → f (slice_get ys k) ≡ false) → (k : ℕ) → f (slice_get (y ∷ ys) k) ≡ false
each_more f y ys here none zero = here
each_more f y ys here none (suc k) = none k

-- a test holds at some place of a list, or at none
found : {A : Type 0} (f : Option A → Bool) (xs : List A) → f None ≡ false → ((k : ℕ) → f (slice_get xs k) ≡ false) ⊎ ((k : ℕ) × (f (slice_get xs k) ≡ true))
found f [] none = inl (λ k. none)
found {A} f (y ∷ ys) none = go (f (Some y)) refl (found f ys none)
  where
    go : (b : Bool) → f (Some y) ≡ b → ((k : ℕ) → f (slice_get ys k) ≡ false) ⊎ ((k : ℕ) × (f (slice_get ys k) ≡ true)) → ((k : ℕ) → f (slice_get (y ∷ ys) k) ≡ false) ⊎ ((k : ℕ) × (f (slice_get (y ∷ ys) k) ≡ true))
    go true here more = inr (0, here)
    go false here (inl later) = inl (each_more f y ys here later)
    go false here (inr p) = inr (suc p.0, p.1)

abbrev has_native : LoadRows → Option LoadRow → Bool
has_native L row = is_native (domain_in L row).lines

alone : (L : LoadRows) → ((k : ℕ) → has_native L (slice_get L.loads k) ≡ false) → IsCodeAlone L
alone L none zero = refl
alone L none (suc k) = none k

pub some_native : (L : LoadRows) → (IsCodeAlone L → ⊥) → (k : ℕ) × (is_native (domain_of_load L k).lines ≡ true)
some_native L not = go (found (has_native L) L.loads refl)
  where
    go : ((k : ℕ) → has_native L (slice_get L.loads k) ≡ false) ⊎ ((k : ℕ) × (has_native L (slice_get L.loads k) ≡ true)) → (k : ℕ) × (is_native (domain_of_load L k).lines ≡ true)
    go (inl none) = absurd (not (alone L none))
    go (inr p) = (suc p.0, p.1)
