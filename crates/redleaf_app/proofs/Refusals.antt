-- The line of a refusal, read from its front.
use Rattle.std.proofs.Common.{◌≡◌, ℕ, ◌<◌, ◌^◌, Bool, false, List, [], ◌∷◌, ◌++◌, refl, sym, ap, ◌∙◌, eqb}
use Rattle.std.specs.Prelude.{codes}
use Rattle.std.specs.Cmp.Lexicographic.{pointwise}
use Rattle.std.proofs.lemmas.List.{append_cancel_left}
use Rattle.std.specs.Fmt.{decimal}
use Rattle.redleaf_app.specs.Digits.{NoDigit}
use Rattle.redleaf_app.specs.Outcomes.{refusal_text}
use Rattle.redleaf_app.proofs.Numbers.{number_once}
use Rattle.redleaf_app.proofs.Words.{one_word}

abbrev front : List ℕ
front = codes "refused line "

abbrev middle : List ℕ
middle = codes " rule "

abbrev behind : ℕ → List ℕ
behind rule = decimal rule ++ 10 ∷ []

-- the line's number, and what follows it
pub opens : (bytes r s : List ℕ) (a line rule : ℕ) → bytes ≡ front ++ r → r ≡ decimal a ++ s → a < 2 ^ 64 → NoDigit s → line < 2 ^ 64 → bytes ≡ refusal_text line rule → (a ≡ line) × (s ≡ middle ++ behind rule)
opens bytes r s a line rule one two lt none lt' e =
    let same : r ≡ decimal line ++ (middle ++ behind rule) = append_cancel_left front r _ (sym one ∙ e) in
    number_once a line s (middle ++ behind rule) lt lt' none refl (sym two ∙ same)

-- the rule's number behind it
pub goes_on : (s r : List ℕ) (rule : ℕ) → s ≡ middle ++ r → s ≡ middle ++ behind rule → r ≡ behind rule
goes_on s r rule one two = append_cancel_left middle r (behind rule) (sym one ∙ two)

-- and the end
pub closes : (r s : List ℕ) (b rule : ℕ) → r ≡ decimal b ++ s → b < 2 ^ 64 → NoDigit s → rule < 2 ^ 64 → r ≡ behind rule → (b ≡ rule) × (s ≡ 10 ∷ [])
closes r s b rule one lt none lt' two = number_once b rule s (10 ∷ []) lt lt' none refl (sym one ∙ two)

pub differ : (r : Bool) (w x : List ℕ) → r ≡ pointwise eqb w x → r ≡ false → w ≡ x → ⊥
differ r w x e off same = let on = (one_word r w x e).1 (ap (λ z. z ∷ []) same) in cc

-- the whole line, read so far
pub all_numbers : (bytes r1 r2 r3 r4 : List ℕ) (a b line rule : ℕ) → bytes ≡ front ++ r1 → r1 ≡ decimal a ++ r2 → a < 2 ^ 64 → NoDigit r2 → r2 ≡ middle ++ r3 → r3 ≡ decimal b ++ r4 → b < 2 ^ 64 → NoDigit r4 → line < 2 ^ 64 → rule < 2 ^ 64 → bytes ≡ refusal_text line rule → (a ≡ line) × (b ≡ rule) × (r4 ≡ 10 ∷ [])
all_numbers bytes r1 r2 r3 r4 a b line rule one two la na three four lb nb ll lr e =
    let x = opens bytes r1 r2 a line rule one two la na ll e in
    let y = closes r3 r4 b rule four lb nb lr (goes_on r2 r3 rule three x.1) in
    (x.0, y.0, y.1)

-- the numbers of a text are one line and one rule
pub numbers_once : (text : List ℕ) (a b line rule : ℕ) → a < 2 ^ 64 → b < 2 ^ 64 → line < 2 ^ 64 → rule < 2 ^ 64 → text ≡ refusal_text a b → text ≡ refusal_text line rule → (a ≡ line) × (b ≡ rule)
numbers_once text a b line rule la lb ll lr one two =
    let x = opens text (decimal a ++ (middle ++ behind b)) (middle ++ behind b) a line rule one refl la refl ll two in
    let y = closes (behind b) (10 ∷ []) b rule refl lb refl lr (goes_on (middle ++ behind b) (behind b) rule refl x.1) in
    (x.0, y.0)
