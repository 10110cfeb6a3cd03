-- Writing parts with a comma before each, as a loop writes them.
use Rattle.std.proofs.Common.{◌≡◌, ℕ, ◌+◌, ◌<◌, ◌≤◌, List, [], ◌∷◌, ◌++◌, length, drop, get_or, sym, ap, ◌∙◌, append_assoc, append-nil}
use Rattle.std.proofs.lemmas.List.{at_drop_more, drop_all}
use Rattle.rl_defs.specs.declared.lexeme.Mark.TheVariants as m
use Rattle.rl_defs.specs.Tokens.{Token, Sign}
use Rattle.rl_defs.specs.IdlForms.{spell_more}

-- one part more was written behind its comma
pub more_step : {A : Type 0} (spell : A → List Token) (xs : List A) (i : ℕ) (x : A) (before out marked new : List Token) → i < length xs → x ≡ get_or xs i x → before ≡ out ++ spell_more spell (drop i xs) → marked ≡ out ++ Sign m.Comma ∷ [] → new ≡ marked ++ spell x → before ≡ new ++ spell_more spell (drop (i + 1) xs)
more_step {A} spell xs i x before out marked new lt is so_far marked-is new-is =
    let more : List Token = spell_more spell (drop (i + 1) xs) in
    let one : spell_more spell (drop i xs) ≡ (Sign m.Comma ∷ []) ++ (spell x ++ more) = at_drop_more (spell_more spell) xs i x lt ∙ ap (λ (y : A). spell_more spell (y ∷ drop (i + 1) xs)) (sym is) in
    so_far ∙ ap (λ (t : List Token). out ++ t) one ∙ sym (append_assoc out (Sign m.Comma ∷ []) (spell x ++ more)) ∙ sym (append_assoc (out ++ Sign m.Comma ∷ []) (spell x) more)
    ∙ ap (λ (t : List Token). (t ++ spell x) ++ more) (sym marked-is) ∙ ap (λ (t : List Token). t ++ more) (sym new-is)

-- all parts were written
pub more_all : {A : Type 0} (spell : A → List Token) (xs : List A) (i : ℕ) (before out : List Token) → length xs ≤ i → before ≡ out ++ spell_more spell (drop i xs) → out ≡ before
more_all {A} spell xs i before out le so_far = sym (so_far ∙ ap (λ (t : List A). out ++ spell_more spell t) (drop_all i xs le) ∙ append-nil out)
