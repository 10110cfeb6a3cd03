-- A word spells one number at most; and the words of a command line, where there are two.
use Rattle.std.proofs.Common.{◌≡◌, ℕ, ◌<◌, ◌≤◌, ◌^◌, Bool, true, false, List, [], ◌∷◌, ◌++◌, length, map, get_or, refl, sym, ap, ap₂, ◌∙◌, arith, eqb}
use Rattle.std.proofs.lemmas.List.{append-nil}
use Rattle.std.specs.Fmt.{decimal}
use Rattle.std.specs.Cmp.Lexicographic.{pointwise}
use Rattle.std.proofs.lemmas.Slice.Eq.{slice_eq-Decides}
use Rattle.std.proofs.lemmas.Bool.Decides.{Decides-eqb}
use Rattle.redleaf_app.specs.Digits.{NoDigit}
use Rattle.redleaf_app.proofs.Numbers.{number_once}
use Rattle.heads_command.specs.Words.{IsNumberOf, AreWordsFor}

pub one_number : (word rest : List ℕ) (n m : ℕ) → word ≡ decimal n ++ rest → n < 2 ^ 64 → NoDigit rest → IsNumberOf word m → (n ≡ m) × (rest ≡ [])
one_number word rest n m e lt none is = number_once n m rest [] lt (let f = is.few in omega arith) none refl (sym e ∙ is.spells ∙ sym (append-nil (decimal m)))

pub whole : (word rest : List ℕ) (n : ℕ) → word ≡ decimal n ++ rest → length rest ≡ 0 → word ≡ decimal n
whole word [] n e z = e ∙ append-nil (decimal n)
whole word (x ∷ xs) n e z = absurd (omega arith)

-- the words are these two
pub two_words : {A : Type 0} (f : A → List ℕ) (ws : List A) (v w d e : A) → 2 ≤ length ws → length ws < 3 → v ≡ get_or ws 0 d → w ≡ get_or ws 1 e → map f ws ≡ f v ∷ f w ∷ []
two_words f [] v w d e low high a b = absurd (omega arith)
two_words f (x ∷ []) v w d e low high a b = absurd (omega arith)
two_words f (x ∷ y ∷ []) v w d e low high a b = ap₂ (λ p q. f p ∷ f q ∷ []) (sym a) (sym b)
two_words f (x ∷ y ∷ z ∷ ws) v w d e low high a b = absurd (omega arith)

pub same_word : (w x : List ℕ) → true ≡ pointwise eqb w x → w ≡ x
same_word w x e = (slice_eq-Decides Decides-eqb w x true e).0 refl
