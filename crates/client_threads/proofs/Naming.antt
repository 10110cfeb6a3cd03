-- The names of a script.
use Rattle.std.proofs.Common.{◌≡◌, ◌∙◌, ℕ, zero, suc, min, ◌+◌, ◌<◌, List, [], ◌∷◌, ◌++◌, None, length, drop, replicate, refl, ap, append_assoc, arith, slice_index_or, length-append}
use Rattle.std.specs.List.{flat_map}
use Rattle.std.proofs.lemmas.List.{replicate-append-replicate, drop_more}
use Rattle.rl_defs.specs.declared.values.Value.{Value}
use Rattle.rl_defs.specs.declared.load.Command.{Command}
use Rattle.rl_defs.specs.Rows.{bound_by}
use Rattle.machine_defs.specs.Frames.{bind}
use Rattle.machine_defs.specs.Wants.{Names}

-- the names of one more command
pub more_unbound : (cs : List Command) (i n : ℕ) (d : Command) (old new : Names) → i < length cs → n ≡ length (bound_by (slice_index_or cs i d))
    → new ≡ old ++ replicate n None
    → new ++ replicate (length (flat_map bound_by (drop (i + 1) cs))) None ≡ old ++ replicate (length (flat_map bound_by (drop i cs))) None
more_unbound cs i n d old new within bound is =
    let rest : List ℕ = flat_map bound_by (drop (i + 1) cs) in
    let split : flat_map bound_by (drop i cs) ≡ bound_by (slice_index_or cs i d) ++ rest = ap (flat_map bound_by) (drop_more cs i d within) in
    let many : n + length rest ≡ length (flat_map bound_by (drop i cs)) =
    omega (arith, bound, ap (λ (ks : List ℕ). length ks) split, length-append (bound_by (slice_index_or cs i d)) rest) in
    ap (λ (xs : Names). xs ++ replicate (length rest) None) is ∙ append_assoc old (replicate n None) (replicate (length rest) None)
    ∙ ap (λ (xs : Names). old ++ xs) (replicate-append-replicate n (length rest) None ∙ ap (λ (m : ℕ). replicate m None) many)

-- where the commands' names or the results have ended, no more is bound
pub bound_all : (n : ℕ) (ks : List ℕ) (values : List Value) (names : Names) → n ≡ min (length ks) (length values)
    → bind (drop n ks) (drop n values) names ≡ names
bound_all n [] values names is =
    let none : n ≡ 0 = omega arith in
    rw none refl
bound_all n (k ∷ ks) [] names is =
    let none : n ≡ 0 = omega arith in
    rw none refl
bound_all zero (k ∷ ks) (v ∷ values) names is = absurd (omega arith)
bound_all (suc n) (k ∷ ks) (v ∷ values) names is = bound_all n ks values names (omega arith)
