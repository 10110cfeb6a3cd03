-- How long a storm is at most.
use Rattle.std.proofs.Common.{◌≡◌, ℕ, zero, suc, ◌+◌, ◌*◌, ◌/◌, ◌%◌, ◌<◌, ◌≤◌, Bool, true, false, List, [], ◌∷◌, ◌++◌, length, refl, ap, ◌∙◌, arith, length-append}
use Rattle.std.specs.Prelude.{◌==◌, if◌then◌else◌, min, codes}
use Rattle.std.proofs.lemmas.Grind.{flat_map-append}
use Rattle.std.proofs.lemmas.Fmt.{length-decimal-le}
use Rattle.std.specs.List.{flat_map, range_with_len}
use Rattle.std.specs.Fmt.{decimal}
use Rattle.storm_maker.specs.Draws.{after, drawn}
use Rattle.storm_maker.specs.Fixed.{line_text, lines_text, fixed_lines}
use Rattle.storm_maker.specs.StormText.{let_line, pass_line, read_line, drop_line, kill_line, size_line, spin_line, draw_lines, commands_after, head_line, client_lines, begins_after, clients_lines, storm_text}

-- the length of the text of lines
abbrev size : List (List ℕ) → ℕ
size lines = length (lines_text lines)

size-append : (xs ys : List (List ℕ)) → size (xs ++ ys) ≡ size xs + size ys
size-append xs ys = ap length (flat_map-append line_text xs ys) ∙ length-append (lines_text xs) (lines_text ys)

-- a list over numbers in a row, each of whose parts is short
size-range : (f : ℕ → List (List ℕ)) (b a n : ℕ) → ((i : ℕ) → i < a + n → size (f i) ≤ b) → size (flat_map f (range_with_len a n)) ≤ n * b
size-range f b a zero each = omega arith
size-range f b a (suc n) each =
    let here = each a (omega arith) in
    let others = size-range f b (a + 1) n (λ i lt. each i (omega arith)) in
    let all = size-append (f a) (flat_map f (range_with_len (a + 1) n)) in
    let step : suc n * b ≡ b + n * b = omega arith in
    omega arith

three_digits : (n : ℕ) → n < 1000 → length (decimal n) ≤ 3
three_digits n lt = length-decimal-le 3 n (omega arith) (omega arith) (omega arith)

-- two numbers in a line
two : (p q s : List ℕ) (m n : ℕ) → m < 1000 → n < 1000 → length (line_text (p ++ (decimal m ++ (q ++ decimal n)))) ≤ length p + length q + 7
two p q s m n lm ln =
    let a = length-append (p ++ (decimal m ++ (q ++ decimal n))) (10 ∷ []) in
    let b = length-append p (decimal m ++ (q ++ decimal n)) in
    let c = length-append (decimal m) (q ++ decimal n) in
    let d = length-append q (decimal n) in
    let x = three_digits m lm in
    let y = three_digits n ln in
    let nl : length {A = ℕ} (10 ∷ []) ≡ 1 = refl in
    omega arith

-- one number in a line
one : (p q : List ℕ) (m : ℕ) → m < 1000 → length (line_text (p ++ (decimal m ++ q))) ≤ length p + length q + 4
one p q m lm =
    let a = length-append (p ++ (decimal m ++ q)) (10 ∷ []) in
    let b = length-append p (decimal m ++ q) in
    let c = length-append (decimal m) q in
    let x = three_digits m lm in
    let nl : length {A = ℕ} (10 ∷ []) ≡ 1 = refl in
    omega arith

last : (p : List ℕ) (m : ℕ) → m < 1000 → length (line_text (p ++ decimal m)) ≤ length p + 4
last p m lm =
    let a = length-append (p ++ decimal m) (10 ∷ []) in
    let b = length-append p (decimal m) in
    let x = three_digits m lm in
    let nl : length {A = ℕ} (10 ∷ []) ≡ 1 = refl in
    omega arith

-- the text of a line and of those behind it
more : (line : List ℕ) (lines : List (List ℕ)) → size (line ∷ lines) ≡ length (line_text line) + size lines
more line lines = length-append (line_text line) (lines_text lines)

-- the five rows of the table
row : (j k : ℕ) (kill pass size_ read : Bool) → j < 1000 → k < 1000
    → size (if kill then kill_line ∷ []
    else if pass then let_line j k ∷ pass_line j ∷ drop_line j ∷ []
    else if size_ then size_line ∷ []
    else if read then read_line j k ∷ drop_line j ∷ []
    else spin_line ∷ []) ≤ 80
row j k true p s r lj lk = omega arith
row j k false true s r lj lk =
    let a = more (let_line j k) (pass_line j ∷ drop_line j ∷ []) in
    let b = more (pass_line j) (drop_line j ∷ []) in
    let c = more (drop_line j) [] in
    let x = two (codes "    let v") (codes " = new P ") [] j k lj lk in
    let y = two (codes "    call a.p(v") (codes ") -> w") [] j j lj lj in
    let z = last (codes "    drop w") j lj in
    omega arith
row j k false false true r lj lk = omega arith
row j k false false false true lj lk =
    let a = more (read_line j k) (drop_line j ∷ []) in
    let c = more (drop_line j) [] in
    let x = two (codes "    call disk.read(") (codes ") -> w") [] k j lk lj in
    let z = last (codes "    drop w") j lj in
    omega arith
row j k false false false false lj lk = omega arith

draw_short : (j d : ℕ) → j < 1000 → size (draw_lines j d) ≤ 80
unfolding draw_lines
draw_short j d lj = row j (d / 64 % 64) (d % 64 == 63) (d % 4 == 0) (d % 4 == 1) (d % 4 == 2) lj (omega arith)

commands_short : (x count : ℕ) → count < 999 → size (commands_after x count) ≤ count * 80
unfolding commands_after
commands_short x count lt = size-range (λ j. draw_lines j (drawn (after x j))) 80 1 count (λ j lj. draw_short j (drawn (after x j)) (omega arith))

client_short : (x c count : ℕ) → c < 1000 → count ≡ 300 → size (head_line c ∷ (commands_after x count ++ codes "}" ∷ [])) ≤ 24020
client_short x c count lc is =
    let a = more (head_line c) (commands_after x count ++ codes "}" ∷ []) in
    let b = size-append (commands_after x count) (codes "}" ∷ []) in
    let h = one (codes "client c") (codes " {") c lc in
    let d = commands_short x count (omega arith) in
    let e : size (codes "}" ∷ []) ≡ 2 = refl in
    omega arith

clients_short : (n count : ℕ) → count ≤ 16 → size (clients_lines n count) ≤ count * 24020
unfolding clients_lines
clients_short n count few = size-range (λ c. client_lines (begins_after n c) c) 24020 1 count (λ c lc. client_short (begins_after n c) c 300 (omega arith) refl)

fixed_short : size fixed_lines ≤ 2000
fixed_short = omega arith

pub storm_short : (n : ℕ) → length (storm_text n) ≤ 1048576
storm_short n =
    let a = size-append fixed_lines (clients_lines n (min n 16)) in
    let b = clients_short n (min n 16) (omega arith) in
    let c = fixed_short in
    let d : min n 16 ≤ 16 = omega arith in
    omega arith
