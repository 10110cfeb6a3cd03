-- The first line of a text.
use Rattle.std.proofs.Common.{◌≡◌, ℕ, suc, ◌+◌, ◌-◌, ◌<◌, ◌≤◌, inl, inr, Bool, true, false, cond, ◌&&◌, not, eqb, List, [], ◌∷◌, ◌++◌, length, take, drop, get_or, Some, refl, sym, ap, ◌∙◌, arith, append_assoc, length-append}
use Rattle.std.specs.List.{list_all, prefix_len}
use Rattle.std.proofs.lemmas.List.{take_more, take_all, drop_at, length-take, take-append-drop, take-append-le, drop_all, length-drop}
use Rattle.std.proofs.lemmas.Bool.{cases_Bool, eqb-true}
use Rattle.std.proofs.lemmas.Bool.Decides.{nat_tests}
use Rattle.std.proofs.lemmas.List.Sums.{prefix_len_is}
use Rattle.memchr.specs.Find.{Nowhere, NoneBefore, Passes, is_byte}
use Rattle.rl_defs.specs.Lines.{lines_of, ends_line, put_first}
use Rattle.rl_text.specs.Places.{Ends}
use Rattle.rl_text.specs.Cuts.{IsCut, kept}
use Rattle.rl_text.proofs.Runs.{Stops, and_true, stops_behind, all_before}

abbrev pub not_feed : ℕ → Bool
not_feed c = not (eqb c 10)

no_feed : (b : Bool) → not b ≡ true → b ≡ false
no_feed true e = absurd cc
no_feed false e = refl

kept_one : (c : ℕ) (b : Bool) (more : List (List ℕ)) → eqb c 13 ≡ b → cond (b && true) ([] ∷ more) ((c ∷ []) ∷ more) ≡ take (cond b 0 1) (c ∷ []) ∷ more
kept_one c true more e = refl
kept_one c false more e = refl

and_false : (a b : Bool) → b ≡ false → (a && b) ≡ false
and_false true b e = e
and_false false b e = refl

pass : {A : Type 0} (b : Bool) (x y z : A) → b ≡ false → y ≡ z → cond b x y ≡ z
pass true x y z e f = absurd cc
pass false x y z e f = f

-- a byte that ends nothing belongs to the line behind it
onto : (c : ℕ) (rest : List ℕ) → not_feed c ≡ true → ends_line rest ≡ false → lines_of (c ∷ rest) ≡ put_first c (lines_of rest)
onto c rest here next = pass _ _ _ _ (no_feed _ here) (pass _ _ _ _ (and_false (eqb c 13) (ends_line rest) next) refl)

-- a line up to its line feed
pub lines_fed : (line more : List ℕ) → list_all not_feed line ≡ true → lines_of (line ++ 10 ∷ more) ≡ take (kept line) line ∷ lines_of more
lines_fed [] more all = refl
lines_fed (c ∷ []) more all = let p = and_true (not_feed c) true all in rw (no_feed _ p.0) (kept_one c (eqb c 13) (lines_of more) refl)
lines_fed (c ∷ d ∷ line) more all =
    let p = and_true (not_feed c) (list_all not_feed (d ∷ line)) all in
    let q = and_true (not_feed d) (list_all not_feed line) p.1 in
    onto c (d ∷ (line ++ 10 ∷ more)) p.0 (no_feed _ q.0) ∙ ap (put_first c) (lines_fed (d ∷ line) more p.1)

-- a last line without a line feed
pub lines_last : (c : ℕ) (line : List ℕ) → list_all not_feed (c ∷ line) ≡ true → lines_of (c ∷ line) ≡ (c ∷ line) ∷ []
lines_last c [] all = let p = and_true (not_feed c) true all in onto c [] p.0 refl
lines_last c (d ∷ line) all =
    let p = and_true (not_feed c) (list_all not_feed (d ∷ line)) all in
    let q = and_true (not_feed d) (list_all not_feed line) p.1 in
    onto c (d ∷ line) p.0 (no_feed _ q.0) ∙ ap (put_first c) (lines_last d line p.1)

kept_push : (front : List ℕ) (c : ℕ) → kept (front ++ c ∷ []) ≡ cond (eqb c 13) (length front) (suc (length front))
kept_push [] c = refl
kept_push (d ∷ []) c = more (eqb c 13) where
  more : (b : Bool) → suc (cond b 0 1) ≡ cond b 1 2
  more true = refl
  more false = refl
kept_push (d ∷ e ∷ front) c = ap suc (kept_push (e ∷ front) c) ∙ more (eqb c 13) where
  more : (b : Bool) → suc (cond b (length (e ∷ front)) (suc (length (e ∷ front)))) ≡ cond b (length (d ∷ e ∷ front)) (suc (length (d ∷ e ∷ front)))
  more true = refl
  more false = refl

pub kept_at : (line : List ℕ) → 0 < length line → kept line ≡ cond (eqb (get_or line (length line - 1) 0) 13) (length line - 1) (length line)
kept_at line some =
    let n : ℕ = length line - 1 in
    let e : take (n + 1) line ≡ take n line ++ get_or line n 0 ∷ [] = take_more line n 0 (omega arith) in
    let whole : take (n + 1) line ≡ line = take_all (n + 1) line (omega arith) in
    let long : length (take n line) ≡ n = omega (arith, length-take n line) in
    let count : suc n ≡ length line = omega arith in
    ap kept (sym whole ∙ e) ∙ kept_push (take n line) (get_or line n 0) ∙ rw (long, count) refl

pub kept_return : (line : List ℕ) → 0 < length line → get_or line (length line - 1) 0 ≡ 13 → kept line ≡ length line - 1
kept_return line some e = kept_at line some ∙ rw e refl

pub kept_other : (line : List ℕ) → 0 < length line → (get_or line (length line - 1) 0 ≡ 13 → ⊥) → kept line ≡ length line
kept_other line some e = let f : eqb (get_or line (length line - 1) 0) 13 ≡ false = grind (arith, nat_tests) in kept_at line some ∙ rw f refl

pub kept_none : (line : List ℕ) → length line ≡ 0 → kept line ≡ length line
kept_none [] e = refl
kept_none (c ∷ cs) e = absurd (omega arith)

-- what the longest front without a line feed leaves
stopped : (rest : List ℕ) → 0 < length rest → Stops not_feed rest → (more : List ℕ) × (rest ≡ 10 ∷ more)
stopped [] some stops = absurd (omega arith)
stopped (c ∷ more) some stops = (more, ap (λ (x : ℕ). x ∷ more) (is_feed (eqb c 10) refl stops)) where
  is_feed : (b : Bool) → eqb c 10 ≡ b → not b ≡ false → c ≡ 10
  is_feed true e f = eqb-true c 10 e
  is_feed false e f = absurd cc

-- the whole text is one line
pub cut_last : (rest : List ℕ) (n : ℕ) → 0 < length rest → n ≡ prefix_len not_feed rest → n ≡ length rest → IsCut rest n n
cut_last [] n some is e = absurd (omega arith)
cut_last (c ∷ cs) n some is e =
    let front : take n (c ∷ cs) ≡ c ∷ cs = take_all n (c ∷ cs) (omega arith) in
    let all : list_all not_feed (c ∷ cs) ≡ true = ap (list_all not_feed) (sym front ∙ ap (λ (m : ℕ). take m (c ∷ cs)) is) ∙ all_before not_feed (c ∷ cs) in
    let none : drop n (c ∷ cs) ≡ [] = drop_all n (c ∷ cs) (omega arith) in
    record {
      first = lines_last c cs all ∙ rw (front, none) refl;
      ends = inr (inr (sym e, refl));
      less = omega arith;
      some = omega arith;
      within = omega arith;
    }

kept_least : (line : List ℕ) → kept line ≤ length line
kept_least [] = omega arith
kept_least (c ∷ []) = elim (cases_Bool (eqb c 13)) [ inl e ↦ rw e (omega arith) | inr e ↦ rw e (omega arith) ]
kept_least (c ∷ d ∷ line) = omega (arith, kept_least (d ∷ line))

-- what stands behind the bytes that are kept
kept_ends : (line more : List ℕ) → Ends (line ++ 10 ∷ more) (kept line) (length line + 1)
kept_ends [] more = inl (refl, refl)
kept_ends (c ∷ []) more = elim (cases_Bool (eqb c 13)) [
  | inl e ↦ rw e (inr (inl (ap (λ (x : ℕ). Some x) (eqb-true c 13 e), refl, refl)))
  | inr e ↦ rw e (inl (refl, refl))
]
kept_ends (c ∷ d ∷ line) more = elim (kept_ends (d ∷ line) more) [
  | inl e ↦ inl (e.0, omega (arith, e.1))
  | inr (inl e) ↦ inr (inl (e.0, (let one : suc (kept (d ∷ line)) + 1 ≡ suc (kept (d ∷ line) + 1) = omega arith in rw one e.1), omega (arith, e.2)))
  | inr (inr e) ↦ inr (inr (omega (arith, e.0), omega (arith, e.1)))
]

fed_parts : (rest : List ℕ) (n : ℕ) → n ≡ prefix_len not_feed rest → n < length rest → (more : List ℕ) × (rest ≡ take n rest ++ 10 ∷ more)
fed_parts rest n is lt =
    let stops : Stops not_feed (drop n rest) = rw is (stops_behind not_feed rest) in
    let some : 0 < length (drop n rest) = omega (arith, length-drop n rest) in
    let s = stopped (drop n rest) some stops in
    (s.0, sym (take-append-drop n rest) ∙ ap (λ (t : List ℕ). take n rest ++ t) s.1)

-- a line up to its line feed, cut off
cut_at : (rest line more : List ℕ) (n text : ℕ) → length line ≡ n → list_all not_feed line ≡ true → rest ≡ line ++ 10 ∷ more → text ≡ kept line → IsCut rest text (n + 1)
cut_at rest line more n text count all parts text-is =
    let le : text ≤ length line = omega (arith, kept_least line) in
    let front : take text rest ≡ take text line = ap (take text) parts ∙ take-append-le text line (10 ∷ more) le in
    let back : drop (n + 1) rest ≡ more = ap (drop (n + 1)) (parts ∙ sym (append_assoc line (10 ∷ []) more)) ∙ drop_at (line ++ 10 ∷ []) more (n + 1) (omega (arith, length-append line (10 ∷ []))) in
    let long : length rest ≡ n + suc (length more) = omega (arith, ap length parts, length-append line (10 ∷ more)) in
    record {
      first = ap lines_of parts ∙ lines_fed line more all ∙ rw (front, back, text-is) refl;
      ends = rw (parts, text-is, ← count) (kept_ends line more);
      less = omega arith;
      some = omega arith;
      within = omega arith;
    }

-- a line feed ends the first line
pub cut_fed : (rest line : List ℕ) (n text : ℕ) → n ≡ prefix_len not_feed rest → n < length rest → line ≡ take n rest → text ≡ kept line → IsCut rest text (n + 1)
cut_fed rest line n text is lt line-is text-is =
    let all : list_all not_feed line ≡ true = ap (list_all not_feed) (line-is ∙ ap (λ (m : ℕ). take m rest) is) ∙ all_before not_feed rest in
    let p = fed_parts rest n is lt in
    let count : length line ≡ n = omega (arith, length-take n rest, ap length line-is) in
    cut_at rest line p.0 n text count all (p.1 ∙ ap (λ (t : List ℕ). t ++ 10 ∷ p.0) (sym line-is)) text-is

-- where no line feed was found, or the first one was
feed_passes : (b : Bool) → (b ≡ true → ⊥) → not b ≡ true
feed_passes true never = absurd (never refl)
feed_passes false never = refl

pub feed_none : (xs : List ℕ) → Nowhere (Passes (is_byte 10) xs) 0 (length xs) → prefix_len not_feed xs ≡ length xs
feed_none xs h = prefix_len_is not_feed xs (length xs) 0 (omega arith) (λ k l. feed_passes (eqb (get_or xs k 0) 10) (h k (omega arith) l)) (λ l. absurd (omega (arith, l)))

pub feed_some : (xs : List ℕ) (k : ℕ) → NoneBefore (Passes (is_byte 10) xs) 0 (length xs) k → Passes (is_byte 10) xs k → prefix_len not_feed xs ≡ k
feed_some xs k none here = prefix_len_is not_feed xs k 0 (omega (arith, none.high)) (λ j l. feed_passes (eqb (get_or xs j 0) 10) (none.before j (omega arith) l)) (λ l. ap not here)
