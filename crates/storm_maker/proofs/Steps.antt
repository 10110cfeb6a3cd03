-- One draw more, and one client more.
use Rattle.std.proofs.Common.{◌≡◌, ℕ, zero, suc, ◌+◌, ◌*◌, ◌-◌, List, ◌++◌, refl, sym, ap, ◌∙◌, arith, append-nil, append_assoc}
use Rattle.std.proofs.lemmas.Grind.{flat_map-append}
use Rattle.std.specs.List.{flat_map, range_with_len}
use Rattle.storm_maker.specs.Draws.{next, after, drawn}
use Rattle.storm_maker.specs.Fixed.{line_text, lines_text}
use Rattle.storm_maker.specs.StormText.{draw_lines, commands_after, client_lines, begins_after, clients_lines}

-- a list over numbers in a row, with one number more
one_more : (f : ℕ → List (List ℕ)) (a n : ℕ) → flat_map f (range_with_len a (suc n)) ≡ flat_map f (range_with_len a n) ++ f (a + n)
one_more f a zero = append-nil (f a) ∙ (let e : a ≡ a + 0 = omega arith in ap f e)
one_more f a (suc n) =
    let e : a + 1 + n ≡ a + suc n = omega arith in
    ap (λ xs. f a ++ xs) (one_more f (a + 1) n ∙ ap (λ k. flat_map f (range_with_len (a + 1) n) ++ f k) e)
    ∙ sym (append_assoc (f a) (flat_map f (range_with_len (a + 1) n)) (f (a + suc n)))

-- what is put behind the text of lines
behind : (out : List ℕ) (xs ys : List (List ℕ)) → (out ++ lines_text xs) ++ lines_text ys ≡ out ++ lines_text (xs ++ ys)
behind out xs ys = append_assoc out (lines_text xs) (lines_text ys) ∙ ap (λ t. out ++ t) (sym (flat_map-append line_text xs ys))

pub next_is : (x count : ℕ) → next (after x count) ≡ after x (count + 1)
unfolding after
next_is x count = let e : suc count ≡ count + 1 = omega arith in ap (λ k. after x k) e

pub one_draw_more : (out : List ℕ) (x count : ℕ)
    → (out ++ lines_text (commands_after x count)) ++ lines_text (draw_lines (count + 1) (drawn (after x (count + 1)))) ≡ out ++ lines_text (commands_after x (count + 1))
unfolding commands_after
one_draw_more out x count =
    let f : ℕ → List (List ℕ) = λ j. draw_lines j (drawn (after x j)) in
    let e : 1 + count ≡ count + 1 = omega arith in
    let s : suc count ≡ count + 1 = omega arith in
    behind out (flat_map f (range_with_len 1 count)) (f (count + 1))
    ∙ ap (λ t. out ++ lines_text t) (ap (λ k. flat_map f (range_with_len 1 count) ++ f k) (sym e) ∙ sym (one_more f 1 count) ∙ ap (λ k. flat_map f (range_with_len 1 k)) s)

pub no_draws : (out : List ℕ) (x : ℕ) → out ≡ out ++ lines_text (commands_after x 0)
unfolding commands_after
no_draws out x = sym (append-nil out)

pub no_steps : (x : ℕ) → x ≡ after x 0
unfolding after
no_steps x = refl

-- steps after steps
steps : (n a b : ℕ) → after (after n a) b ≡ after n (a + b)
unfolding after
steps n a zero = let e : a ≡ a + 0 = omega arith in ap (λ k. after n k) e
steps n a (suc b) = let e : suc (a + b) ≡ a + suc b = omega arith in ap next (steps n a b) ∙ ap (λ k. after n k) e

-- where the next client begins
pub next_begins : (n before : ℕ) → after (after n (300 * before)) 300 ≡ after n (300 * (before + 1))
next_begins n before = steps n (300 * before) 300 ∙ (let e : 300 * before + 300 ≡ 300 * (before + 1) = omega arith in ap (λ k. after n k) e)

pub one_client_more : (out : List ℕ) (n count : ℕ)
    → (out ++ lines_text (clients_lines n count)) ++ lines_text (client_lines (after n (300 * count)) (count + 1)) ≡ out ++ lines_text (clients_lines n (count + 1))
unfolding clients_lines
one_client_more out n count =
    let f : ℕ → List (List ℕ) = λ c. client_lines (begins_after n c) c in
    let e : 1 + count ≡ count + 1 = omega arith in
    let s : suc count ≡ count + 1 = omega arith in
    let back : count ≡ count + 1 - 1 = omega arith in
    ap (λ k. (out ++ lines_text (flat_map f (range_with_len 1 count))) ++ lines_text (client_lines (after n (300 * k)) (count + 1))) back
    ∙ behind out (flat_map f (range_with_len 1 count)) (f (count + 1))
    ∙ ap (λ t. out ++ lines_text t) (ap (λ k. flat_map f (range_with_len 1 count) ++ f k) (sym e) ∙ sym (one_more f 1 count) ∙ ap (λ k. flat_map f (range_with_len 1 k)) s)

pub no_clients : (out : List ℕ) (n : ℕ) → out ≡ out ++ lines_text (clients_lines n 0)
unfolding clients_lines
no_clients out n = sym (append-nil out)
