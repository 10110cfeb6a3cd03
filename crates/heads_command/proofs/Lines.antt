-- The lines of heads, one more at a time.
use Rattle.std.proofs.Common.{◌≡◌, ℕ, zero, suc, ◌+◌, ◌<◌, ◌∙◌, List, [], ◌∷◌, ◌++◌, take, length, get_or, sym, ap, arith, append_assoc, append-nil}
use Rattle.machine_defs.specs.declared.heads.HeadWord.{HeadWord}
use Rattle.machine_defs.specs.declared.heads.HeadWord.TheVariants.{Vacant}
use Rattle.heads_command.specs.HeadsText.{row_text, rows_text}

pub one_row_more : (h n : ℕ) (words : List HeadWord) → n < length words → rows_text h (take (suc n) words) ≡ rows_text h (take n words) ++ row_text (h + n) (get_or words n Vacant)
one_row_more h n [] near = absurd (omega arith)
one_row_more h zero (a ∷ words) near = append-nil (row_text h a) ∙ ap (λ (k : ℕ). row_text k a) (let z : h ≡ h + 0 = omega arith in z)
one_row_more h (suc n) (a ∷ words) near = let r = one_row_more (h + 1) n words (omega arith) in
    ap (λ (l : List ℕ). row_text h a ++ l) (r ∙ ap (λ (k : ℕ). rows_text (h + 1) (take n words) ++ row_text k (get_or words n Vacant)) (let z : h + 1 + n ≡ h + suc n = omega arith in z))
    ∙ sym (append_assoc (row_text h a) (rows_text (h + 1) (take n words)) (row_text (h + suc n) (get_or words n Vacant)))
