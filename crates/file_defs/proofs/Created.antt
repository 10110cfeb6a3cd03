-- What was created is found.
use Rattle.std.proofs.Common.{◌≡◌, ℕ, ◌<◌, Bool, true, false, cond, ◌&&◌, List, [], ◌∷◌, length, slice_index_or, slice_set, Option, Some, None, refl, ap, sym, subst, ◌∙◌, arith, is_some, is_none, unwrap_or, nat_lt, ltb-false}
use Rattle.std.specs.List.{find, position, position_or_len}
use Rattle.std.proofs.lemmas.List.{get_or-set_same, get_or-set_other, length-set}
use Rattle.std.proofs.lemmas.List.Sums.{position_or_len_is, fails_before_first}
use Rattle.std.proofs.lemmas.List.Quantifiers.{position-Some}
use Rattle.std.proofs.lemmas.Bool.{lt-ltb, eq-eqb}
use Rattle.rl_defs.specs.Words.{same_bytes}
use Rattle.file_defs.specs.ReplyCodes.{Fine, NoSuchFile, FileExists, Full, BadName, NotFormatted, when}
use Rattle.file_defs.specs.FileTable.{File, FileTable, FileRequest, Create, Find, SizeOf, name_in, is_bad, is_named, row_named, empty_row, bytes_in, outcome, reply_to}
use Rattle.file_defs.specs.FileLaws.{IsEmptyFile, CreatedIsFound}

same_self : (xs : List ℕ) → same_bytes xs xs ≡ true
same_self [] = refl
same_self (x ∷ xs) = ap (λ same. same && same_bytes xs xs) (eq-eqb x x refl) ∙ same_self xs

is_past : (b : Bool) (n : ℕ) → is_some (cond b (Some n) None) ≡ false → b ≡ false
is_past true n e = absurd cc
is_past false n e = refl

-- where no row passes, each fails
each_fails : (p : Option File → Bool) (t : FileTable) → is_some (position p t) ≡ false → (k : ℕ) → k < length t → p (slice_index_or t k None) ≡ false
each_fails p t e k lt =
    fails_before_first p t k None
    (omega (arith, lt, ltb-false (position_or_len p t) (length t) (is_past (nat_lt (position_or_len p t) (length t)) (position_or_len p t) e)))

-- the first row that passes
first_row : (p : Option File → Bool) (t : FileTable) (row : ℕ) → row < length t → ((k : ℕ) → k < row → p (slice_index_or t k None) ≡ false) → p (slice_index_or t row None) ≡ true → position p t ≡ Some row
first_row p t row lt fails passes =
    ap (λ n. cond (nat_lt n (length t)) (Some n) None) (position_or_len_is p t row None (omega (arith, lt)) fails (λ inside. passes))
    ∙ ap (λ b. cond b (Some row) None) (lt-ltb row (length t) lt)

some_number : (o : Option ℕ) → is_none o ≡ false → (n : ℕ) × (o ≡ Some n)
some_number None e = absurd cc
some_number (Some n) e = (n, refl)

-- an empty file, with this name
abbrev fresh : List ℕ → Option File
fresh name = Some (record { name = name; bytes = [] })

named_there : (t : FileTable) (row : ℕ) (name : List ℕ) → row < length t → is_some (row_named name t) ≡ false → row_named name (slice_set t row (fresh name)) ≡ Some row
named_there t row name lt e =
    first_row (is_named name) (slice_set t row (fresh name)) row
    (omega (arith, lt, length-set t row (fresh name)))
    (λ k below. ap (is_named name) (get_or-set_other t row k (fresh name) None (λ same. absurd (omega (arith, below, same)))) ∙ each_fails (is_named name) t e k (omega (arith, below, lt)))
    (ap (is_named name) (get_or-set_same t row (fresh name) None lt) ∙ same_self name)

-- what a create to which no test applies has found
create_tests : (a b c d : Bool) (files : Option FileTable) (r : FileRequest) → (outcome (find (λ test. test.applies) (when a NotFormatted ∷ when b BadName ∷ when c FileExists ∷ when d Full ∷ [])) files r).code ≡ Fine → (find (λ test. test.applies) (when a NotFormatted ∷ when b BadName ∷ when c FileExists ∷ when d Full ∷ []) ≡ None) × (b ≡ false) × (c ≡ false) × (d ≡ false)
create_tests true b c d files r is = absurd cc
create_tests false true c d files r is = absurd cc
create_tests false false true d files r is = absurd cc
create_tests false false false true files r is = absurd cc
create_tests false false false false files r is = (refl, refl, refl, refl)

no_find : (a b c : Bool) → a ≡ false → b ≡ false → c ≡ false → find (λ test. test.applies) (when a NotFormatted ∷ when b BadName ∷ when c NoSuchFile ∷ []) ≡ None
no_find true b c p q r = absurd cc
no_find false true c p q r = absurd cc
no_find false false true p q r = absurd cc
no_find false false false p q r = refl

found_there : (blocks : ℕ) (t : FileTable) (cells : List ℕ) (row : ℕ) → is_bad (name_in cells) ≡ false → row_named (name_in cells) t ≡ Some row → ((reply_to blocks (Some t) (Find cells)).code ≡ Fine) × ((reply_to blocks (Some t) (Find cells)).number ≡ row)
found_there blocks t cells row good e =
    let none = no_find false (is_bad (name_in cells)) (is_none (row_named (name_in cells) t)) refl good (ap is_none e) in (
      ap (λ test. (outcome test (Some t) (Find cells)).code) none,
      ap (λ test. (outcome test (Some t) (Find cells)).number) none ∙ ap (λ found. unwrap_or found 0) e,
    )

no_size : (a b : Bool) → a ≡ false → b ≡ false → find (λ test. test.applies) (when a NotFormatted ∷ when b NoSuchFile ∷ []) ≡ None
no_size true b p q = absurd cc
no_size false true p q = absurd cc
no_size false false p q = refl

empty_there : (blocks : ℕ) (t : FileTable) (row : ℕ) (name : List ℕ) → slice_index_or t row None ≡ fresh name → ((reply_to blocks (Some t) (SizeOf row)).code ≡ Fine) × ((reply_to blocks (Some t) (SizeOf row)).number ≡ 0)
empty_there blocks t row name e =
    let none = no_size false (is_none (slice_index_or t row None)) refl (ap is_none e) in (
      ap (λ test. (outcome test (Some t) (SizeOf row)).code) none,
      ap (λ test. (outcome test (Some t) (SizeOf row)).number) none ∙ ap (λ file. length (bytes_in file)) e,
    )

is_empty_file : (blocks : ℕ) (t : FileTable) (cells : List ℕ) (row : ℕ) → row < length t → is_bad (name_in cells) ≡ false → is_some (row_named (name_in cells) t) ≡ false → IsEmptyFile blocks (Some (slice_set t row (fresh (name_in cells)))) cells row
is_empty_file blocks t cells row lt good none =
    let found = found_there blocks (slice_set t row (fresh (name_in cells))) cells row good (named_there t row (name_in cells) lt none) in
    let empty = empty_there blocks (slice_set t row (fresh (name_in cells))) row (name_in cells) (get_or-set_same t row (fresh (name_in cells)) None lt) in
    record { found = found.0; in_row = found.1; there = empty.0; empty = empty.1 }

pub created_is_found : CreatedIsFound
created_is_found blocks None cells fine = absurd cc
created_is_found blocks (Some t) cells fine =
    let h = create_tests false (is_bad (name_in cells)) (is_some (row_named (name_in cells) t)) (is_none (empty_row t)) (Some t) (Create cells) fine in
    let row = some_number (empty_row t) h.3 in
    let lt : row.0 < length t = (position-Some is_none t row.0 None row.1).0 in
    subst (λ reply. IsEmptyFile blocks reply.files cells reply.number)
    (sym (ap (λ test. outcome test (Some t) (Create cells)) h.0))
    (subst (λ n. IsEmptyFile blocks (Some (slice_set t n (fresh (name_in cells)))) cells n)
    (sym (ap (λ o. unwrap_or o 0) row.1))
    (is_empty_file blocks t cells row.0 lt h.1 h.2))
