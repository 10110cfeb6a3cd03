-- Texts that are put one behind the other.
use Rattle.std.proofs.Common.{◌≡◌, ℕ, List, [], ◌++◌, sym, ap, ◌∙◌, append-nil, append_assoc}

pub three : (out a b c o1 o2 o3 : List ℕ) → o1 ≡ out ++ a → o2 ≡ o1 ++ b → o3 ≡ o2 ++ c → o3 ≡ out ++ (a ++ (b ++ c))
three out a b c o1 o2 o3 e1 e2 e3 =
    e3 ∙ ap (λ o. o ++ c) (e2 ∙ ap (λ o. o ++ b) e1 ∙ append_assoc out a b) ∙ append_assoc out (a ++ b) c
    ∙ ap (λ t. out ++ t) (append_assoc a b c)

-- five parts of a line, the last of which ends it
pub five : (out a b c d e o1 o2 o3 o4 o5 : List ℕ) → o1 ≡ out ++ a → o2 ≡ o1 ++ b → o3 ≡ o2 ++ c → o4 ≡ o3 ++ d → o5 ≡ o4 ++ e → o5 ≡ out ++ ((a ++ (b ++ (c ++ d))) ++ e)
five out a b c d e o1 o2 o3 o4 o5 e1 e2 e3 e4 e5 =
    let first : o3 ≡ out ++ (a ++ (b ++ c)) = three out a b c o1 o2 o3 e1 e2 e3 in
    let four : (out ++ (a ++ (b ++ c))) ++ d ≡ out ++ (a ++ (b ++ (c ++ d))) =
    append_assoc out (a ++ (b ++ c)) d ∙ ap (λ t. out ++ t) (append_assoc a (b ++ c) d ∙ ap (λ t. a ++ t) (append_assoc b c d)) in
    e5 ∙ ap (λ o. o ++ e) (e4 ∙ ap (λ o. o ++ d) first ∙ four) ∙ append_assoc out (a ++ (b ++ (c ++ d))) e

pub two_lines : (out a b o1 o2 : List ℕ) → o1 ≡ out ++ a → o2 ≡ o1 ++ b → o2 ≡ out ++ (a ++ (b ++ []))
two_lines out a b o1 o2 e1 e2 = e2 ∙ ap (λ o. o ++ b) e1 ∙ append_assoc out a b ∙ ap (λ t. out ++ (a ++ t)) (sym (append-nil b))

pub three_lines : (out a b c o1 o2 o3 : List ℕ) → o1 ≡ out ++ a → o2 ≡ o1 ++ b → o3 ≡ o2 ++ c → o3 ≡ out ++ (a ++ (b ++ (c ++ [])))
three_lines out a b c o1 o2 o3 e1 e2 e3 = three out a b c o1 o2 o3 e1 e2 e3 ∙ ap (λ t. out ++ (a ++ (b ++ t))) (sym (append-nil c))
