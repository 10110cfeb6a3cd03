-- Registers and their words.
use Rattle.std.proofs.Common.{◌≡◌, ℕ, ◌+◌, ◌-◌, ◌*◌, ◌/◌, ◌%◌, ◌^◌, ◌<◌, ◌≤◌, inl, inr, Bool, true, false, cond, ◌&&◌, eqb, List, [], ◌∷◌, ◌++◌, Option, None, Some, refl, sym, ap, ◌∙◌, arith, lt-ltb, ltb-true}
use Rattle.std.specs.Prelude.{codes, nat_lt, nat_le}
use Rattle.std.specs.Char.{is_ascii_digit}
use Rattle.std.specs.Fmt.{decimal}
use Rattle.std.proofs.Math.Bridge.{le_prop}
use Rattle.std.proofs.lemmas.Bool.{cases_lt, eqb-true}
use Rattle.std.proofs.lemmas.Bool.Decides.{nat_tests}
use Rattle.std.proofs.lemmas.Fmt.{decimal_digit, decimal_step}
use mathlib.Core.HLevel.{is_prop→PathP}
use Rattle.rl_defs.specs.declared.code.Register.{Register}
use Rattle.rl_text.proofs.Runs.{and_true}
use Rattle.domain_code.specs.Operands.{register_number, below_32, numbered_register, register_of}

-- registers with one number are equal
pub same_register : (a b : Register) → a.number ≡ b.number → a ≡ b
same_register a b e = λ i. record { number = e i; below = is_prop→PathP (λ j. e j < 32) (λ j. le_prop) a.below b.below i }

below_is : (r : Register) (n : ℕ) (b : Bool) (e : nat_lt n 32 ≡ b) → n ≡ r.number → below_32 n b e ≡ Some r
below_is r n true e is = ap (λ (x : Register). Some x) (same_register (record { number = n; below = ltb-true n 32 e }) r is)
below_is r n false e is = absurd (let less : n < 32 = omega (arith, r.below) in let t = lt-ltb n 32 less in let x = sym t ∙ e in cc)

pub gives_register : (word : List ℕ) (r : Register) (n : ℕ) → register_number word ≡ Some n → n ≡ r.number → register_of word ≡ Some r
unfolding register_of
gives_register word r n e is = ap numbered_register e ∙ below_is r n (nat_lt n 32) refl is

not_below : (n : ℕ) (b : Bool) (e : nat_lt n 32 ≡ b) → 32 ≤ n → below_32 n b e ≡ None
not_below n true e le = absurd (let less = ltb-true n 32 e in omega arith)
not_below n false e le = refl

pub too_high : (word : List ℕ) (n : ℕ) → register_number word ≡ Some n → 32 ≤ n → register_of word ≡ None
unfolding register_of
too_high word n e le = ap numbered_register e ∙ not_below n (nat_lt n 32) refl le

pub no_number : (word : List ℕ) → register_number word ≡ None → register_of word ≡ None
unfolding register_of
no_number word e = ap numbered_register e

-- ---- what is spelled is read

digit_is : (o : ℕ) → o < 10 → is_ascii_digit (48 + o) ≡ true
digit_is o lt = grind (arith, nat_tests)

one_digit : (o : ℕ) → o < 10 → register_number (114 ∷ (48 + o) ∷ []) ≡ Some o
one_digit o lt = rw (digit_is o lt) (ap (λ (x : ℕ). Some x) (omega arith))

low : (t : ℕ) → 1 ≤ t → nat_le 49 (48 + t) ≡ true
low t h = grind (arith, nat_tests)

high : (t : ℕ) → t ≤ 3 → nat_le (48 + t) 51 ≡ true
high t h = grind (arith, nat_tests)

two_digits : (t o : ℕ) → 1 ≤ t → t ≤ 3 → o < 10 → register_number (114 ∷ (48 + t) ∷ (48 + o) ∷ []) ≡ Some (t * 10 + o)
two_digits t o one three lt = rw (low t one, high t three, digit_is o lt) (ap (λ (x : ℕ). Some x) (omega arith))

number_spelled : (n : ℕ) → n < 32 → register_number (114 ∷ decimal n) ≡ Some n
number_spelled n lt = elim (cases_lt n 10) [
  | inl less ↦ ap (λ (ds : List ℕ). register_number (114 ∷ ds)) (decimal_digit n less) ∙ one_digit n less
  | inr more ↦
      let tens : n / 10 < 10 = omega arith in
      let ds : decimal n ≡ (48 + n / 10) ∷ (48 + n % 10) ∷ [] = decimal_step n more (omega arith) ∙ ap (λ (xs : List ℕ). xs ++ ((48 + n % 10) ∷ [])) (decimal_digit (n / 10) tens) in
      ap (λ (xs : List ℕ). register_number (114 ∷ xs)) ds ∙ two_digits (n / 10) (n % 10) (omega arith) (omega arith) (omega arith) ∙ ap (λ (x : ℕ). Some x) (omega arith)
]

pub register_spelled : (r : Register) → register_of (codes "r" ++ decimal r.number) ≡ Some r
register_spelled r = gives_register (114 ∷ decimal r.number) r r.number (number_spelled r.number r.below) refl

-- ---- what is read is spelled so

digit_range : (c : ℕ) → is_ascii_digit c ≡ true → (48 ≤ c) × (c ≤ 57)
digit_range c h = (grind (arith, nat_tests), grind (arith, nat_tests))

le_true : (a b : ℕ) → nat_le a b ≡ true → a ≤ b
le_true a b h = grind (arith, nat_tests)

one_takes : (c ones n : ℕ) (b : Bool) → (eqb c 114 && is_ascii_digit ones) ≡ b → cond b (Some (ones - 48)) None ≡ Some n → c ∷ ones ∷ [] ≡ 114 ∷ decimal n
one_takes c ones n true h e =
    let p = and_true (eqb c 114) (is_ascii_digit ones) h in
    let r = digit_range ones p.1 in
    let is : ones - 48 ≡ n = cc in
    let less : n < 10 = omega (arith, r.0, r.1, is) in
    let first : c ≡ 114 = eqb-true c 114 p.0 in
    let last : ones ≡ 48 + n = omega (arith, r.0, is) in
    ap (λ (x : ℕ). x ∷ ones ∷ []) first ∙ ap (λ (x : ℕ). 114 ∷ x ∷ []) last ∙ ap (λ (ds : List ℕ). 114 ∷ ds) (sym (decimal_digit n less))
one_takes c ones n false h e = absurd cc

two_takes : (c tens ones n : ℕ) (b : Bool) → (eqb c 114 && ((nat_le 49 tens && nat_le tens 51) && is_ascii_digit ones)) ≡ b → cond b (Some ((tens - 48) * 10 + (ones - 48))) None ≡ Some n → c ∷ tens ∷ ones ∷ [] ≡ 114 ∷ decimal n
two_takes c tens ones n true h e =
    let p = and_true (eqb c 114) ((nat_le 49 tens && nat_le tens 51) && is_ascii_digit ones) h in
    let q = and_true (nat_le 49 tens && nat_le tens 51) (is_ascii_digit ones) p.1 in
    let t = and_true (nat_le 49 tens) (nat_le tens 51) q.0 in
    let lo : 49 ≤ tens = le_true 49 tens t.0 in
    let hi : tens ≤ 51 = le_true tens 51 t.1 in
    let r = digit_range ones q.1 in
    let is : (tens - 48) * 10 + (ones - 48) ≡ n = cc in
    let more : 10 ≤ n = omega (arith, lo, is) in
    let fits : n < 2 ^ 64 = omega (arith, lo, hi, r.0, r.1, is) in
    let quotient : n / 10 ≡ tens - 48 = omega (arith, lo, hi, r.0, r.1, is) in
    let rest : n % 10 ≡ ones - 48 = omega (arith, lo, hi, r.0, r.1, is) in
    let first : c ≡ 114 = eqb-true c 114 p.0 in
    let less : n / 10 < 10 = omega (arith, hi, quotient) in
    let a : tens ≡ 48 + n / 10 = omega (arith, lo, quotient) in
    let b : ones ≡ 48 + n % 10 = omega (arith, r.0, rest) in
    let ds : decimal n ≡ (48 + n / 10) ∷ (48 + n % 10) ∷ [] = decimal_step n more fits ∙ ap (λ (xs : List ℕ). xs ++ ((48 + n % 10) ∷ [])) (decimal_digit (n / 10) less) in
    ap (λ (x : ℕ). x ∷ tens ∷ ones ∷ []) first ∙ ap (λ (x : ℕ). 114 ∷ x ∷ ones ∷ []) a ∙ ap (λ (x : ℕ). 114 ∷ (48 + n / 10) ∷ x ∷ []) b ∙ ap (λ (xs : List ℕ). 114 ∷ xs) (sym ds)
two_takes c tens ones n false h e = absurd cc

number_takes : (word : List ℕ) (n : ℕ) → register_number word ≡ Some n → word ≡ 114 ∷ decimal n
number_takes [] n e = absurd cc
number_takes (c ∷ []) n e = absurd cc
number_takes (c ∷ ones ∷ []) n e = one_takes c ones n _ refl e
number_takes (c ∷ tens ∷ ones ∷ []) n e = two_takes c tens ones n _ refl e
number_takes (c ∷ tens ∷ ones ∷ more ∷ rest) n e = absurd cc

below_number : (n : ℕ) (r : Register) (b : Bool) (e : nat_lt n 32 ≡ b) → below_32 n b e ≡ Some r → n ≡ r.number
below_number n r true e h = let s : record { number = n; below = ltb-true n 32 e } ≡ r = cc in ap (λ (x : Register). x.number) s
below_number n r false e h = absurd cc

numbered_takes : (word : List ℕ) (r : Register) (o : Option ℕ) → register_number word ≡ o → numbered_register o ≡ Some r → word ≡ 114 ∷ decimal r.number
numbered_takes word r None is e = absurd cc
numbered_takes word r (Some n) is e = number_takes word n is ∙ ap (λ (x : ℕ). 114 ∷ decimal x) (below_number n r (nat_lt n 32) refl e)

pub register_takes : (word : List ℕ) (r : Register) → register_of word ≡ Some r → word ≡ codes "r" ++ decimal r.number
unfolding register_of
register_takes word r e = numbered_takes word r (register_number word) refl e
