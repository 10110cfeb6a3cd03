-- Cells that fit their kinds: of a new object, of one that is written, of one that gets a block.
use Rattle.std.proofs.Common.{◌≡◌, ℕ, zero, suc, ◌+◌, ◌-◌, ◌==◌, true, List, [], ◌∷◌, ◌++◌, length, drop, replicate, Some, slice_get, refl, ap, sym, subst, ◌∙◌, arith}
use Rattle.std.specs.List.{list_all}
use Rattle.std.proofs.lemmas.Bool.{eqb-true}
use Rattle.rl_defs.specs.declared.tables.Width.TheVariants as width
use Rattle.rl_defs.specs.declared.tables.Kind.{Kind}
use Rattle.rl_defs.specs.declared.tables.Kind.TheVariants as kind
use Rattle.rl_defs.specs.Widths.{fits_width}
use Rattle.rl_defs.specs.NativeShapes.{has_cells, is_number}
use Rattle.machine_defs.specs.Objects.{overwritten}
use Rattle.rl_defs.specs.Widths.{number_suits, numbers_suit}
use Rattle.machine_defs.specs.Sound.{cell_fits, cells_fit}
use Rattle.machine_defs.proofs.CodeRegisters.{and_left, and_right}
use Rattle.machine_laws.specs.Fitting.{BlockFits}

pub cells_count : (kinds : List Kind) (cells : List ℕ) → cells_fit kinds cells ≡ true → length cells ≡ length kinds
cells_count [] [] fits = refl
cells_count [] (n ∷ cells) fits = absurd cc
cells_count (k ∷ kinds) [] fits = absurd cc
cells_count (k ∷ kinds) (n ∷ cells) fits = ap (λ m. suc m) (cells_count kinds cells (and_right (cell_fits k n) (cells_fit kinds cells) fits))

zero_fits : (k : Kind) → cell_fits k 0 ≡ true
zero_fits (kind.Num width.Bool) = refl
zero_fits (kind.Num width.W8) = refl
zero_fits (kind.Num width.W16) = refl
zero_fits (kind.Num width.W32) = refl
zero_fits (kind.Num width.W64) = refl
zero_fits (kind.Own s) = refl
zero_fits other = refl

zeros_fit : (kinds : List Kind) → cells_fit kinds (replicate (length kinds) 0) ≡ true
zeros_fit [] = refl
zeros_fit (k ∷ kinds) = rw (zero_fits k) (zeros_fit kinds)

-- a number that suits a cell fits it
suits_fits : (k : Kind) (n : ℕ) → number_suits k n ≡ true → cell_fits k n ≡ true
suits_fits (kind.Num w) n suits = suits
suits_fits (kind.Own s) n suits = absurd cc
suits_fits (kind.Lent s) n suits = absurd cc
suits_fits (kind.Cap t) n suits = absurd cc

-- the cells of a new object
pub fresh_cells : (kinds : List Kind) (values : List ℕ) → numbers_suit kinds values ≡ true → cells_fit kinds (values ++ replicate (length kinds - length values) 0) ≡ true
fresh_cells kinds [] suits = let e : length kinds - 0 ≡ length kinds = omega arith in rw e (zeros_fit kinds)
fresh_cells [] (n ∷ values) suits = absurd cc
fresh_cells (k ∷ kinds) (n ∷ values) suits =
    let e : suc (length kinds) - suc (length values) ≡ length kinds - length values = omega arith in
    rw (e, suits_fits k n (and_left (number_suits k n) (numbers_suit kinds values) suits)) (fresh_cells kinds values (and_right (number_suits k n) (numbers_suit kinds values) suits))

-- cells that are written from the first one on
written_first : (kinds : List Kind) (values cells : List ℕ) → cells_fit kinds cells ≡ true → numbers_suit kinds values ≡ true → cells_fit kinds (values ++ drop (length values) cells) ≡ true
written_first kinds [] cells fits suits = fits
written_first [] (v ∷ values) cells fits suits = absurd cc
written_first (k ∷ kinds) (v ∷ values) [] fits suits = absurd cc
written_first (k ∷ kinds) (v ∷ values) (n ∷ cells) fits suits =
    rw (suits_fits k v (and_left (number_suits k v) (numbers_suit kinds values) suits))
    (written_first kinds values cells (and_right (cell_fits k n) (cells_fit kinds cells) fits) (and_right (number_suits k v) (numbers_suit kinds values) suits))

-- cells that are written from a place on
pub written_cells : (kinds : List Kind) (at : ℕ) (values cells : List ℕ) → cells_fit kinds cells ≡ true → numbers_suit (drop at kinds) values ≡ true → cells_fit kinds (overwritten at values cells) ≡ true
written_cells kinds zero values cells fits suits = let e : 0 + length values ≡ length values = omega arith in rw e (written_first kinds values cells fits suits)
written_cells [] (suc at) [] [] fits suits = let e : suc at + 0 ≡ suc at = omega arith in rw e refl
written_cells [] (suc at) (v ∷ values) cells fits suits = absurd cc
written_cells [] (suc at) values (n ∷ cells) fits suits = absurd cc
written_cells (k ∷ kinds) (suc at) values [] fits suits = absurd cc
written_cells (k ∷ kinds) (suc at) values (n ∷ cells) fits suits =
    let e : suc at + length values ≡ suc (at + length values) = omega arith in
    rw (e, and_left (cell_fits k n) (cells_fit kinds cells) fits) (written_cells kinds at values cells (and_right (cell_fits k n) (cells_fit kinds cells) fits) suits)

-- one number suits the cells from its place on
pub one_suits : (kinds : List Kind) (at : ℕ) (k : Kind) (v : ℕ) → slice_get kinds at ≡ Some k → number_suits k v ≡ true → numbers_suit (drop at kinds) (v ∷ []) ≡ true
one_suits [] at k v here suits = absurd cc
one_suits (j ∷ kinds) zero k v here suits = let e : j ≡ k = cc in rw (e, suits) refl
one_suits (j ∷ kinds) (suc at) k v here suits = one_suits kinds at k v here suits

-- an object that holds a block
word_kind : (k : Kind) → is_number width.W64 k ≡ true → k ≡ kind.Num width.W64
word_kind (kind.Num width.W64) is = refl
word_kind (kind.Num width.Bool) is = absurd cc
word_kind (kind.Num width.W8) is = absurd cc
word_kind (kind.Num width.W16) is = absurd cc
word_kind (kind.Num width.W32) is = absurd cc
word_kind (kind.Own s) is = absurd cc
word_kind other is = absurd cc

words_fit : (kinds : List Kind) (cells : List ℕ) → list_all (is_number width.W64) kinds ≡ true → length cells ≡ length kinds → list_all (fits_width width.W64) cells ≡ true → cells_fit kinds cells ≡ true
words_fit [] [] wide same fit = refl
words_fit [] (n ∷ cells) wide same fit = absurd (omega (arith, same))
words_fit (k ∷ kinds) [] wide same fit = absurd (omega (arith, same))
words_fit (k ∷ kinds) (n ∷ cells) wide same fit =
    let is = word_kind k (and_left (is_number width.W64 k) (list_all (is_number width.W64) kinds) wide) in
    let here : cell_fits k n ≡ true = rw is (and_left (fits_width width.W64 n) (list_all (fits_width width.W64) cells) fit) in
    rw here (words_fit kinds cells (and_right (is_number width.W64 k) (list_all (is_number width.W64) kinds) wide) (omega (arith, same)) (and_right (fits_width width.W64 n) (list_all (fits_width width.W64) cells) fit))

words_of_cells : (kinds : List Kind) (cells : List ℕ) → list_all (is_number width.W64) kinds ≡ true → cells_fit kinds cells ≡ true → list_all (fits_width width.W64) cells ≡ true
words_of_cells [] [] wide fit = refl
words_of_cells [] (n ∷ cells) wide fit = absurd cc
words_of_cells (k ∷ kinds) [] wide fit = absurd cc
words_of_cells (k ∷ kinds) (n ∷ cells) wide fit =
    let is = word_kind k (and_left (is_number width.W64 k) (list_all (is_number width.W64) kinds) wide) in
    let here : fits_width width.W64 n ≡ true = subst (λ j. cell_fits j n ≡ true) is (and_left (cell_fits k n) (cells_fit kinds cells) fit) in
    rw here (words_of_cells kinds cells (and_right (is_number width.W64 k) (list_all (is_number width.W64) kinds) wide) (and_right (cell_fits k n) (cells_fit kinds cells) fit))

pub block_cells : (kinds : List Kind) (cells : List ℕ) → has_cells 64 width.W64 kinds ≡ true → BlockFits cells → cells_fit kinds cells ≡ true
block_cells kinds cells holds fits =
    let many = eqb-true (length kinds) 64 (and_left (length kinds == 64) (list_all (is_number width.W64) kinds) holds) in
    words_fit kinds cells (and_right (length kinds == 64) (list_all (is_number width.W64) kinds) holds) (fits.size ∙ sym many) fits.words

pub cells_block : (kinds : List Kind) (cells : List ℕ) → has_cells 64 width.W64 kinds ≡ true → cells_fit kinds cells ≡ true → BlockFits cells
cells_block kinds cells holds fits =
    let many = eqb-true (length kinds) 64 (and_left (length kinds == 64) (list_all (is_number width.W64) kinds) holds) in
    record {
      size = cells_count kinds cells fits ∙ many;
      words = words_of_cells kinds cells (and_right (length kinds == 64) (list_all (is_number width.W64) kinds) holds) fits;
    }
