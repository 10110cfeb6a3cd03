-- Kinds of registers.
use Rattle.std.proofs.Common.{◌≡◌, ℕ, zero, suc, ◌<◌, true, false, refl, sym, ap, ◌∙◌, List, [], ◌∷◌, length, drop, nat_le, arith}
use Rattle.std.proofs.lemmas.List.{drop_all}
use Rattle.std.proofs.lemmas.Bool.Decides.{nat_tests}
use Rattle.rl_defs.specs.declared.code.Register.{Register}
use Rattle.rl_defs.specs.declared.code.CallArg.{CallArg}
use Rattle.rl_defs.specs.CodeRules.{args_suit, results_suit}
use Rattle.rl_defs.specs.declared.tables.Kind.{Kind}
use Rattle.rl_defs.specs.CodeKinds.{Kinds, paired}

pub paired_none : (ks : List Kind) → paired ks [] ≡ []
paired_none [] = refl
paired_none (k ∷ ks) = refl

pub no_params : (kinds : Kinds) (args : List CallArg) → args_suit kinds [] args ≡ true
no_params kinds [] = refl
no_params kinds (a ∷ args) = refl

few_kinds : (kinds : Kinds) (k : Kind) (ks : List Kind) → results_suit kinds (k ∷ ks) [] ≡ false
few_kinds kinds k ks = refl

-- fewer registers than results
pub few_results : (kinds : Kinds) (listed : List Kind) (k : ℕ) → k < length listed → results_suit kinds (drop k listed) [] ≡ false
few_results kinds [] k lt = absurd (omega arith)
few_results kinds (l ∷ ls) zero lt = refl
few_results kinds (l ∷ ls) (suc k) lt = few_results kinds ls k (omega arith)

none_left : (kinds : Kinds) (rs : List Register) (k : ℕ) → nat_le (length rs) k ≡ results_suit kinds [] (drop k rs)
none_left kinds [] zero = refl
none_left kinds [] (suc k) = grind (arith, nat_tests)
none_left kinds (r ∷ rs) zero = grind (arith, nat_tests)
none_left kinds (r ∷ rs) (suc k) =
    let step : nat_le (length (r ∷ rs)) (suc k) ≡ nat_le (length rs) k = grind (arith, nat_tests) in
    step ∙ none_left kinds rs k

-- as many registers as results, or more
pub many_results : (kinds : Kinds) (listed : List Kind) (rs : List Register) (k : ℕ) → k ≡ length listed → nat_le (length rs) (length listed) ≡ results_suit kinds (drop k listed) (drop k rs)
many_results kinds listed rs k e =
    ap (nat_le (length rs)) (sym e) ∙ none_left kinds rs k ∙ ap (λ (ls : List Kind). results_suit kinds ls (drop k rs)) (sym (drop_all k listed (omega arith)))
