-- The words that are left of a line, one word later.
use Rattle.std.proofs.Common.{◌≡◌, ℕ, ◌+◌, ◌<◌, ◌≤◌, Bool, true, false, List, [], ◌∷◌, ◌++◌, length, drop, Option, Some, None, refl, sym, ap, ◌∙◌, subst, arith, eqb}
use Rattle.std.specs.List.{position_or_len, before_first, after_first, count_by}
use Rattle.std.proofs.lemmas.Bool.{ne_eqb, eqb-true}
use Rattle.std.proofs.lemmas.List.{drop_all, append_assoc, append-nil}
use Rattle.std.proofs.lemmas.List.Splits.{slice_split_first, slice_split_none, length-slice_split}
use Rattle.std.proofs.lemmas.List.Sums.{fails_before_first}
use Rattle.std.specs.Prelude.{IsSome, IfSome, IsTrue, ◌↔◌, if◌then◌else◌}
use Rattle.rl_defs.specs.declared.load.LoadRows.{LoadRows}
use Rattle.rl_defs.specs.Words.{is_name}
use Rattle.history_text.specs.Reading.{◌>>=◌, words_of, words_left, first, rest, is_blank, is_slash, target_in, instance_in, entered_in, slot_in, all_in}

pub cut_first : (text : List ℕ) → position_or_len is_blank text < length text → (before_first is_blank text ≡ first (words_of text)) × (words_of (after_first is_blank text) ≡ rest (words_of text))
cut_first text less =
    let split = slice_split_first is_blank text 0 less in
    (sym (ap first split), sym (ap rest split))

only : (text : List ℕ) → length text ≤ position_or_len is_blank text → words_of text ≡ text ∷ []
only text past = slice_split_none is_blank text (λ k d less. fails_before_first is_blank text k d (omega arith))

pub cut_none : (text : List ℕ) → length text ≤ position_or_len is_blank text → (text ≡ first (words_of text)) × ([] ≡ rest (words_of text))
cut_none text past = let one = only text past in (sym (ap first one), sym (ap rest one))

pub some_left : (text : List ℕ) → false ≡ eqb (length (words_of text)) 0
some_left text = sym (ne_eqb (length (words_of text)) 0 (λ e. omega (arith, length-slice_split is_blank text)))

-- a word with no slash names no instance
abbrev entered_by : Option ℕ → Option ℕ → Option (ℕ × ℕ)
entered_by t o = t >>= λ x. o >>= λ i. Some (x, i)

unfound : (t o : Option ℕ) → o ≡ None → None ≡ entered_by t o
unfound None o e = refl
unfound (Some x) None e = refl
unfound (Some x) (Some i) e = absurd cc

nothing : instance_in [] ≡ None
unfolding instance_in
nothing = refl

pub not_entered : (L : LoadRows) (w : List ℕ) → length w ≤ position_or_len is_slash w → None ≡ entered_in L w
unfolding entered_in
not_entered L w past =
    let none : after_first is_slash w ≡ [] = drop_all (position_or_len is_slash w + 1) w (omega arith) in
    unfound (target_in L (before_first is_slash w)) (instance_in (after_first is_slash w)) (ap instance_in none ∙ nothing)

-- what reading a slot gives
pub slot_is : (r : Option (List ℕ)) (w : List ℕ) → (IsSome r ↔ IsTrue (is_name w)) → IfSome r (λ n. n ≡ w) → r ≡ slot_in w
unfolding slot_in
slot_is None w exact value = by (is_name w) refl where
  by : (t : Bool) → is_name w ≡ t → None ≡ (if t then Some w else None)
  by true is = let some = exact.1 is in absurd cc
  by false is = refl
slot_is (Some n) w exact value = let is : is_name w ≡ true = exact.0 refl in rw is (ap Some value)

-- ---- lists of items

module _ {A : Type 0} (read : List ℕ → Option A) where
  one_more : (xs : List A) (a : A) (all : Option (List A)) (o : Option (List A)) → ((o >>= λ more. Some (a ∷ more)) >>= λ more. Some (xs ++ more)) ≡ all → (o >>= λ more. Some ((xs ++ a ∷ []) ++ more)) ≡ all
  one_more xs a all None e = e
  one_more xs a all (Some more) e = ap Some (append_assoc xs (a ∷ []) more) ∙ e

  pub items_more : (ws : List (List ℕ)) (xs : List A) (a : A) (all : Option (List A)) → eqb (length ws) 0 ≡ false → (all_in read ws >>= λ more. Some (xs ++ more)) ≡ all → read (first ws) ≡ Some a → (all_in read (rest ws) >>= λ more. Some ((xs ++ a ∷ []) ++ more)) ≡ all
  items_more [] xs a all some inv is = absurd cc
  items_more (w ∷ ws) xs a all some inv is = one_more xs a all (all_in read ws) (rw is at inv)

  pub items_stop : (ws : List (List ℕ)) (xs : List A) (all : Option (List A)) → eqb (length ws) 0 ≡ false → (all_in read ws >>= λ more. Some (xs ++ more)) ≡ all → read (first ws) ≡ None → None ≡ all
  items_stop [] xs all some inv is = absurd cc
  items_stop (w ∷ ws) xs all some inv is = rw is at inv

  pub items_done : (ws : List (List ℕ)) (xs : List A) (all : Option (List A)) → eqb (length ws) 0 ≡ true → (all_in read ws >>= λ more. Some (xs ++ more)) ≡ all → Some xs ≡ all
  items_done [] xs all none inv = ap Some (sym (append-nil xs)) ∙ inv
  items_done (w ∷ ws) xs all none inv = absurd (omega (arith, eqb-true (length (w ∷ ws)) 0 none))
