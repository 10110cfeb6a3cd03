-- Failures change nothing, and what was written is read.
use Rattle.std.proofs.Common.{◌≡◌, ◌≢◌, ℕ, zero, suc, ◌+◌, ◌<◌, ◌≤◌, Bool, true, false, List, [], ◌∷◌, ◌++◌, length, take, drop, slice_index_or, slice_set, Option, Some, None, refl, ap, sym, subst, ◌∙◌, arith, is_none, nat_lt, ltb-false, if◌then◌else◌}
use Rattle.std.specs.List.{find}
use Rattle.std.specs.Option.{option_map}
use Rattle.std.proofs.lemmas.List.{length-take-le, length-append, get_or-set_same}
use Rattle.std.proofs.lemmas.Bool.{le-ltb, eq-eqb}
use Rattle.std.proofs.Math.Seq.{take-append_seam, drop-append_seam}
use Rattle.machine_defs.specs.Objects.{overwritten}
use Rattle.file_defs.specs.ReplyCodes.{Fine, NoSuchFile, Full, OutOfRange, NotFormatted, Test, when}
use Rattle.file_defs.specs.FileTable.{File, FileTable, FileRequest, Mkfs, Create, Find, SizeOf, ReadAt, WriteAt, Remove, rows, bytes_in, blocks_used, blocks_more, with_bytes, tests, carried_out, outcome, reply_to}
use Rattle.file_defs.specs.FileLaws.{ChangesNothing, FailuresChangeNothing, GivesBytes, WritesAreRead, HonestDisksKeepBlocks}
use Rattle.file_defs.specs.Deeds.{left_by}

-- ## Failures

carried_is_fine : (t : FileTable) (r : FileRequest) → (carried_out t r).code ≡ Fine
carried_is_fine t Mkfs = refl
carried_is_fine t (Create name) = refl
carried_is_fine t (Find name) = refl
carried_is_fine t (SizeOf row) = refl
carried_is_fine t (ReadAt row pos len buffer) = refl
carried_is_fine t (WriteAt row pos len buffer) = refl
carried_is_fine t (Remove name) = refl

failed : (test : Option Test) (files : Option FileTable) (r : FileRequest) → (outcome test files r).code ≢ Fine → ChangesNothing files r (outcome test files r)
failed (Some test) files r bad = record { no_number = refl; same_buffer = refl; same_files = refl }
failed None files r bad = absurd (bad (carried_is_fine (rows files) r))

pub failures_change_nothing : FailuresChangeNothing
failures_change_nothing blocks files r bad = failed (find (λ test. test.applies) (tests blocks files r)) files r bad

-- ## Bytes

seam_drop : (n : ℕ) (xs ys : List ℕ) → length xs ≡ n → drop n (xs ++ ys) ≡ ys
seam_drop n xs ys e = subst (λ m. drop m (xs ++ ys) ≡ ys) e (drop-append_seam xs ys)

seam_take : (n : ℕ) (xs ys : List ℕ) → length xs ≡ n → take n (xs ++ ys) ≡ xs
seam_take n xs ys e = subst (λ m. take m (xs ++ ys) ≡ xs) e (take-append_seam xs ys)

-- bytes that were put at a place stand there
put_there : (pos len : ℕ) (bytes old : List ℕ) → length bytes ≡ len → pos ≤ length old → take len (drop pos (overwritten pos bytes old)) ≡ bytes
put_there pos len bytes old e le =
    ap (take len) (seam_drop pos (take pos old) (bytes ++ drop (pos + length bytes) old) (length-take-le pos old le))
    ∙ seam_take len bytes (drop (pos + length bytes) old) e

-- the place isn't behind the end then
put_within : (pos : ℕ) (bytes old : List ℕ) → pos ≤ length old → pos ≤ length (overwritten pos bytes old)
put_within pos bytes old le =
    omega (arith, length-append (take pos old) (bytes ++ drop (pos + length bytes) old), length-take-le pos old le)

put_first : (len : ℕ) (bytes old : List ℕ) → length bytes ≡ len → overwritten 0 bytes old ≡ bytes ++ drop len old
put_first len bytes old e = ap (λ n. bytes ++ drop n old) (omega (arith, e))

-- ## Reads behind writes

row_is_there : (t : FileTable) (row : ℕ) (f : File) → slice_index_or t row None ≡ Some f → row < length t
row_is_there [] row f e = absurd cc
row_is_there (x ∷ t) zero f e = omega arith
row_is_there (x ∷ t) (suc row) f e = let inside = row_is_there t row f e in omega (arith, inside)

-- the row that was written has the new file
written_row : (t : FileTable) (row : ℕ) (f : File) (change : File → File) → slice_index_or t row None ≡ Some f → slice_index_or (slice_set t row (option_map change (slice_index_or t row None))) row None ≡ Some (change f)
written_row t row f change e =
    get_or-set_same t row (option_map change (slice_index_or t row None)) None (row_is_there t row f e) ∙ ap (option_map change) e

-- a read to which no test applies
no_test : (a b c d : Bool) → a ≡ false → b ≡ false → c ≡ false → d ≡ false → find (λ test. test.applies) (when a NotFormatted ∷ when b NoSuchFile ∷ when c OutOfRange ∷ when d OutOfRange ∷ []) ≡ None
no_test true b c d p q r s = absurd cc
no_test false true c d p q r s = absurd cc
no_test false false true d p q r s = absurd cc
no_test false false false true p q r s = absurd cc
no_test false false false false p q r s = refl

read_there : (blocks : ℕ) (t : FileTable) (row pos len : ℕ) (bytes buffer : List ℕ) (f : File) → slice_index_or t row None ≡ Some f → nat_lt 512 len ≡ false → pos ≤ length f.bytes → take len (drop pos f.bytes) ≡ bytes → length bytes ≡ len → (reply_to blocks (Some t) (ReadAt row pos len buffer) ≡ carried_out t (ReadAt row pos len buffer)) × (take len (drop pos (bytes_in (slice_index_or t row None))) ≡ bytes)
read_there blocks t row pos len bytes buffer f e few le is long = (
  ap (λ test. outcome test (Some t) (ReadAt row pos len buffer))
      (no_test false (is_none (slice_index_or t row None)) (nat_lt 512 len) (nat_lt (length (bytes_in (slice_index_or t row None))) pos)
      refl (ap is_none e) few
      (ap (λ file. nat_lt (length (bytes_in file)) pos) e ∙ le-ltb (length f.bytes) pos le)),
  ap (λ file. take len (drop pos (bytes_in file))) e ∙ is,
)

gives_bytes : (len : ℕ) (t : FileTable) (row pos : ℕ) (bytes buffer : List ℕ) → take len (drop pos (bytes_in (slice_index_or t row None))) ≡ take len bytes → length (take len bytes) ≡ len → GivesBytes len bytes buffer (carried_out t (ReadAt row pos len buffer))
gives_bytes len t row pos bytes buffer is long = record {
  fine = refl;
  count = ap length is ∙ long;
  cells = ap (λ read. overwritten 0 read buffer) is ∙ put_first len (take len bytes) buffer long;
}

-- what a write to which no test applies has found
write_tests : (a b c d e f : Bool) (files : Option FileTable) (r : FileRequest) → (outcome (find (λ test. test.applies) (when a NotFormatted ∷ when b NoSuchFile ∷ when c OutOfRange ∷ when d OutOfRange ∷ when e OutOfRange ∷ when f Full ∷ [])) files r).code ≡ Fine → (find (λ test. test.applies) (when a NotFormatted ∷ when b NoSuchFile ∷ when c OutOfRange ∷ when d OutOfRange ∷ when e OutOfRange ∷ when f Full ∷ []) ≡ None) × (b ≡ false) × (c ≡ false) × (d ≡ false)
write_tests true b c d e f files r is = absurd cc
write_tests false true c d e f files r is = absurd cc
write_tests false false true d e f files r is = absurd cc
write_tests false false false true e f files r is = absurd cc
write_tests false false false false true f files r is = absurd cc
write_tests false false false false false true files r is = absurd cc
write_tests false false false false false false files r is = (refl, refl, refl, refl)

there : (file : Option File) → is_none file ≡ false → (f : File) × (file ≡ Some f)
there None e = absurd cc
there (Some f) e = (f, refl)

-- the table that a write leaves
abbrev left : FileTable → ℕ → ℕ → List ℕ → FileTable
left t row pos bytes = slice_set t row (option_map (with_bytes pos bytes) (slice_index_or t row None))

read_behind : (blocks : ℕ) (t : FileTable) (row pos len : ℕ) (bytes buffer : List ℕ) (f : File) → slice_index_or t row None ≡ Some f → len ≤ length bytes → nat_lt 512 len ≡ false → pos ≤ length f.bytes → GivesBytes len bytes buffer (reply_to blocks (Some (left t row pos (take len bytes))) (ReadAt row pos len buffer))
read_behind blocks t row pos len bytes buffer f e long few le =
    let count : length (take len bytes) ≡ len = length-take-le len bytes long in
    let r = read_there blocks (left t row pos (take len bytes)) row pos len (take len bytes) buffer (with_bytes pos (take len bytes) f)
    (written_row t row f (with_bytes pos (take len bytes)) e) few
    (put_within pos (take len bytes) f.bytes le)
    (put_there pos len (take len bytes) f.bytes count le)
    count in
    subst (GivesBytes len bytes buffer) (sym r.0) (gives_bytes len (left t row pos (take len bytes)) row pos bytes buffer r.1 count)

pub writes_are_read : WritesAreRead
writes_are_read blocks None row pos len bytes buffer long fine = absurd cc
writes_are_read blocks (Some t) row pos len bytes buffer long fine =
    let h = write_tests false (is_none (slice_index_or t row None)) (nat_lt 512 len) (nat_lt (length (bytes_in (slice_index_or t row None))) pos) (nat_lt 4096 (pos + len)) (nat_lt blocks (blocks_used t + blocks_more (bytes_in (slice_index_or t row None)) (pos + len))) (Some t) (WriteAt row pos len bytes) fine in
    let g = there (slice_index_or t row None) h.1 in
    let le : pos ≤ length g.0.bytes = ltb-false (length g.0.bytes) pos (ap (λ file. nat_lt (length (bytes_in file)) pos) (sym g.1) ∙ h.3) in
    subst (λ reply. GivesBytes len bytes buffer (reply_to blocks reply.files (ReadAt row pos len buffer)))
    (sym (ap (λ test. outcome test (Some t) (WriteAt row pos len bytes)) h.0))
    (read_behind blocks t row pos len bytes buffer g.0 g.1 long h.2 le)

-- ## The disk

pub honest_disks_keep_blocks : HonestDisksKeepBlocks
honest_disks_keep_blocks blocks n got put ds honest =
    honest.0 ∙ ap (λ same. if same then put else left_by ds n) (eq-eqb n n refl)
