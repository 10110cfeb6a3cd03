-- Products and sums that are counted up to a limit.
use Rattle.std.proofs.Common.{◌≡◌, ℕ, zero, suc, ◌+◌, ◌*◌, ◌<◌, ◌≤◌, min, List, ◌∷◌, length, drop, get_or, Some, inl, inr, refl, sym, ap, ◌∙◌, arith}
use Rattle.std.proofs.lemmas.Bool.{cases_lt}
use Rattle.std.proofs.lemmas.Option.{slice_get-get_or}
use Rattle.std.specs.Prelude.{slice_get}
use Rattle.rl_defs.specs.declared.idl.Wrap.{Wrap}
use Rattle.rl_defs.specs.declared.idl.Wrap.TheVariants as wrap
use Rattle.rl_defs.specs.Flattening.{times_of}
use Rattle.rl_defs.proofs.Places.{drop_at}
use Rattle.exchangeable_types.specs.Numbering.{repeats}

mul_assoc : (a b c : ℕ) → (a * b) * c ≡ a * (b * c)
mul_assoc a b c = omega arith

-- a product is counted up to the limit also where its first factor is
pub min_mul : (limit a b : ℕ) → min limit (min limit a * b) ≡ min limit (a * b)
min_mul limit a zero = omega arith
min_mul limit a (suc b) = elim (cases_lt a limit) [
  | inl lt ↦ let e : min limit a ≡ a = omega arith in ap (λ (n : ℕ). min limit (n * suc b)) e
  | inr ge ↦ let e : min limit a ≡ limit = omega arith in ap (λ (n : ℕ). min limit (n * suc b)) e ∙ over limit a b ge
] where
  over : (limit a b : ℕ) → limit ≤ a → min limit (limit * suc b) ≡ min limit (a * suc b)
  over limit a b ge = grind arith

times_of-cons : (w : Wrap) (ws : List Wrap) → times_of (w ∷ ws) ≡ repeats w * times_of ws
times_of-cons (wrap.Array n) ws = refl
times_of-cons wrap.Box ws = omega arith
times_of-cons wrap.Vec ws = omega arith
times_of-cons wrap.Ref ws = omega arith
times_of-cons wrap.RefMut ws = omega arith
times_of-cons wrap.PointerConst ws = omega arith
times_of-cons wrap.PointerMut ws = omega arith

-- one wrap more
pub times_more : (wraps : List Wrap) (k times total : ℕ) (w : Wrap) → slice_get wraps k ≡ Some w → min 513 (times * times_of (drop k wraps)) ≡ total → min 513 (min (times * repeats w) 513 * times_of (drop (k + 1) wraps)) ≡ total
times_more wraps k times total w here e =
    let swapped : min (times * repeats w) 513 ≡ min 513 (times * repeats w) = omega arith in
    ap (λ (n : ℕ). min 513 (n * times_of (drop (k + 1) wraps))) swapped
    ∙ min_mul 513 (times * repeats w) (times_of (drop (k + 1) wraps))
    ∙ ap (min 513) (mul_assoc times (repeats w) (times_of (drop (k + 1) wraps)) ∙ ap (λ (n : ℕ). times * n) (sym (times_of-cons w (drop (k + 1) wraps)) ∙ ap times_of (sym (drop_at wraps k w here))))
    ∙ e

pub times_step : (wraps : List Wrap) (k times new r total : ℕ) (d : Wrap) → k < length wraps → r ≡ repeats (get_or wraps k d) → new ≡ min (times * r) 513 → min 513 (times * times_of (drop k wraps)) ≡ total → min 513 (new * times_of (drop (k + 1) wraps)) ≡ total
times_step wraps k times new r total d lt read is e =
    ap (λ (n : ℕ). min 513 (n * times_of (drop (k + 1) wraps))) (is ∙ ap (λ (n : ℕ). min (times * n) 513) read)
    ∙ times_more wraps k times total (get_or wraps k d) (slice_get-get_or wraps k d lt) e
