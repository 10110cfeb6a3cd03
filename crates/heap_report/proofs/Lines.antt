-- The lines of a report, one by one.
use Rattle.std.proofs.Common.{◌≡◌, ℕ, zero, suc, ◌+◌, ◌<◌, ◌++◌, List, [], ◌∷◌, length, take, get_or, codes, refl, sym, ap, ◌∙◌, subst, append_assoc, append-nil, arith, ◌==◌, false, Result, Ok, Err}
use Rattle.std.specs.Io.{StartsWith}
use Rattle.std.specs.Result.{IsErr}
use Rattle.std.specs.List.{flat_map}
use Rattle.std.specs.Fmt.{decimal}
use Rattle.std.proofs.lemmas.List.{take_more}
use Rattle.std.proofs.lemmas.Grind.{flat_map-append}
use Rattle.machine_defs.specs.declared.values.Owner.{Owner}
use Rattle.machine_defs.specs.Texts.{spaced, word, line, owner_text}
use Rattle.machine_defs.specs.Report as report
use Rattle.heap_report.specs.KeptAccounts.{Account, nothing, told}
use Rattle.heap_report.specs.Lines.{account_lines}
use Rattle.heap_report.specs.Putting.{PutsText, count_text}

pub one_more : {X : Type 0} (f : X → List ℕ) (xs : List X) (i : ℕ) (d : X) → i < length xs → flat_map f (take (i + 1) xs) ≡ flat_map f (take i xs) ++ f (get_or xs i d)
one_more f xs i d within = ap (flat_map f) (take_more xs i d within) ∙ (flat_map-append f (take i xs) (get_or xs i d ∷ []) ∙ ap (λ (t : List ℕ). flat_map f (take i xs) ++ t) (append-nil (f (get_or xs i d))))

line_after : (of : ℕ → Owner) (rows : List Account) (n i : ℕ) → i < length rows → account_lines of n (take (suc i) rows) ≡ account_lines of n (take i rows) ++ report.account_line (of (n + i)) (told (get_or rows i nothing))
line_after of [] n i within = absurd (omega arith)
line_after of (a ∷ rows) n zero within = let e : n ≡ n + 0 = omega arith in append-nil (report.account_line (of n) (told a)) ∙ ap (λ (k : ℕ). report.account_line (of k) (told a)) e
line_after of (a ∷ rows) n (suc i) within =
    let e : (n + 1) + i ≡ n + suc i = omega arith in
    let rest = line_after of rows (n + 1) i (omega arith) in
    ap (λ (t : List ℕ). report.account_line (of n) (told a) ++ t) (rest ∙ ap (λ (k : ℕ). account_lines of (n + 1) (take i rows) ++ report.account_line (of k) (told (get_or rows i nothing))) e)
    ∙ sym (append_assoc (report.account_line (of n) (told a)) (account_lines of (n + 1) (take i rows)) (report.account_line (of (n + suc i)) (told (get_or rows i nothing))))

-- one account more
pub account_more : (of : ℕ → Owner) (rows : List Account) (i n : ℕ) (start out out' : List ℕ) → i < length rows → n ≡ i → out ≡ start ++ account_lines of 1 (take i rows) → out' ≡ out ++ report.account_line (of (n + 1)) (told (get_or rows i nothing)) → out' ≡ start ++ account_lines of 1 (take (i + 1) rows)
account_more of rows i n start out out' within same so more =
    let number : n + 1 ≡ 1 + i = omega arith in
    let next : suc i ≡ i + 1 = omega arith in
    more ∙ (ap (λ (t : List ℕ). t ++ report.account_line (of (n + 1)) (told (get_or rows i nothing))) so ∙ (append_assoc start (account_lines of 1 (take i rows)) (report.account_line (of (n + 1)) (told (get_or rows i nothing)))
    ∙ ap (λ (t : List ℕ). start ++ t) (ap (λ (k : ℕ). account_lines of 1 (take i rows) ++ report.account_line (of k) (told (get_or rows i nothing))) number ∙ (sym (line_after of rows 1 i within) ∙ ap (λ (k : ℕ). account_lines of 1 (take k rows)) next))))

pub row_more : {X : Type 0} (f : X → List ℕ) (xs : List X) (i : ℕ) (d : X) (start out out' : List ℕ) → i < length xs → out ≡ start ++ flat_map f (take i xs) → out' ≡ out ++ f (get_or xs i d) → out' ≡ start ++ flat_map f (take (i + 1) xs)
row_more f xs i d start out out' within so more =
    more ∙ (ap (λ (t : List ℕ). t ++ f (get_or xs i d)) so ∙ (append_assoc start (flat_map f (take i xs)) (f (get_or xs i d)) ∙ ap (λ (t : List ℕ). start ++ t) (sym (one_more f xs i d within))))

-- a word and a number before other words
count_word : (says : List ℕ) (n : ℕ) (rest : List ℕ) → count_text says n ++ rest ≡ word says (word (decimal n) rest)
count_word says n rest = ap (λ (t : List ℕ). 32 ∷ t) (append_assoc says (32 ∷ decimal n) rest)

pub account_words : (a : report.Account) → ((count_text (codes "made") a.made ++ count_text (codes "received") a.received) ++ count_text (codes "passed") a.passed) ++ count_text (codes "freed") a.freed ≡ report.account_text a
account_words a =
    let made = count_text (codes "made") a.made in
    let received = count_text (codes "received") a.received in
    let passed = count_text (codes "passed") a.passed in
    let freed = count_text (codes "freed") a.freed in
    let last : freed ≡ word (codes "freed") (word (decimal a.freed) []) = sym (append-nil freed) ∙ count_word (codes "freed") a.freed [] in
    append_assoc (made ++ received) passed freed ∙ (append_assoc made received (passed ++ freed) ∙ (ap (λ (t : List ℕ). made ++ (received ++ (passed ++ t))) last ∙ (ap (λ (t : List ℕ). made ++ (received ++ t)) (count_word (codes "passed") a.passed (word (codes "freed") (word (decimal a.freed) [])))
    ∙ (ap (λ (t : List ℕ). made ++ t) (count_word (codes "received") a.received (word (codes "passed") (word (decimal a.passed) (word (codes "freed") (word (decimal a.freed) []))))) ∙ count_word (codes "made") a.made (word (codes "received") (word (decimal a.received) (word (codes "passed") (word (decimal a.passed) (word (codes "freed") (word (decimal a.freed) []))))))))))

-- the words of an object's line
pub object_words : (o s w l : List ℕ) → ((((o ++ spaced s) ++ spaced w) ++ spaced l) ++ 10 ∷ []) ≡ line (o ++ word s (word w (word l [])))
object_words o s w l =
    let last : spaced l ≡ word l [] = ap (λ (t : List ℕ). 32 ∷ t) (sym (append-nil l)) in
    ap (λ (t : List ℕ). t ++ 10 ∷ []) (append_assoc (o ++ spaced s) (spaced w) (spaced l) ∙ (append_assoc o (spaced s) (spaced w ++ spaced l) ∙ ap (λ (t : List ℕ). o ++ (spaced s ++ (spaced w ++ t))) last))

-- the line of an account with something in it
pub some_line : (w : Owner) (a : report.Account) → (a.made + a.received + a.passed + a.freed == 0) ≡ false → line (owner_text w ++ report.account_text a) ≡ report.account_line w a
some_line w a some = rw some refl

-- ---- one text behind another

starts_front : (a s c : List ℕ) → StartsWith c (a ++ s) → StartsWith c a
starts_front [] s c h = refl
starts_front (x ∷ a) s [] h = cc
starts_front (x ∷ a) s (y ∷ c) h =
    let first : y ≡ x = cc in
    let rest : take (length (a ++ s)) c ≡ a ++ s = cc in
    let front = starts_front a s c rest in
    cc

pub both : (a b c s t : List ℕ) → b ≡ a ++ s → c ≡ b ++ t → c ≡ a ++ (s ++ t)
both a b c s t one two = two ∙ (ap (λ (x : List ℕ). x ++ t) one ∙ append_assoc a s t)

pub puts_after : {E : Type 0} (r : Result (Unit {0}) E) (a b c s t u : List ℕ) → b ≡ a ++ s → PutsText r b c t → s ++ t ≡ u → PutsText r a c u
puts_after (Ok x) a b c s t u one two text = both a b c s t one two ∙ ap (λ (y : List ℕ). a ++ y) text
puts_after (Err e) a b c s t u one two text = starts_front a s c (subst (λ (y : List ℕ). StartsWith c y) one two)

-- a text that wants memory
pub failed : {E : Type 0} (r : Result (Unit {0}) E) (a b c s u : List ℕ) → IsErr r → b ≡ a ++ s → StartsWith c b → PutsText r a c u
failed (Ok x) a b c s u is so front = cc
failed (Err e) a b c s u is so front = starts_front a s c (subst (λ (y : List ℕ). StartsWith c y) so front)
