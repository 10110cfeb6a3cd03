-- The file table: what a file system is. It has 64 rows, each empty or a file, which is a name and
-- at most 4,096 bytes. The number of a file is its row. Until `mkfs` there is no table.
use Rattle.std.specs.Prelude.{ℕ, ◌+◌, ◌-◌, ◌/◌, ◌==◌, ◌||◌, not, nat_lt, Bool, false, List, [], ◌∷◌, length, take, drop, replicate, take_while, position, sum_by, find, Option, Some, None, is_some, is_none, unwrap_or, slice_index_or, slice_set}
use Rattle.std.specs.List.{list_any}
use Rattle.std.specs.Option.{option_map, option_map_or}
use Rattle.rl_defs.specs.Words.{same_bytes}
use Rattle.machine_defs.specs.Objects.{overwritten}
use Rattle.file_defs.specs.ReplyCodes.{ReplyCode, Fine, NoSuchFile, FileExists, Full, BadName, OutOfRange, NotFormatted, Test, when}

pub record File : Type 0 where
  pub name : List ℕ
  pub bytes : List ℕ

abbrev pub FileTable : Type 0
FileTable = List (Option File)

abbrev pub empty_table : FileTable
empty_table = replicate 64 None

-- the rows of a table, where there is one
abbrev pub rows : Option FileTable → FileTable
rows files = unwrap_or files empty_table

-- A request, with the cells of the name or of the buffer that is given with it.
pub data FileRequest : Type 0 where
  Mkfs : FileRequest
  Create : (name : List ℕ) → FileRequest
  Find : (name : List ℕ) → FileRequest
  SizeOf : (row : ℕ) → FileRequest
  ReadAt : (row pos len : ℕ) → (buffer : List ℕ) → FileRequest
  WriteAt : (row pos len : ℕ) → (buffer : List ℕ) → FileRequest
  Remove : (name : List ℕ) → FileRequest

-- What is answered: a code, a number, and the cells of the buffer that comes back; and the table
-- that is left. The number is 0 where a request is answered by a code alone.
pub record FileReply : Type 0 where
  pub code : ReplyCode
  pub number : ℕ
  pub buffer : List ℕ
  pub files : Option FileTable

-- A name is the bytes before the first 0, or all. It is bad where it has none, more than 24, or a
-- `/`, which is byte 47.
abbrev pub name_in : List ℕ → List ℕ
name_in cells = take_while (λ b. not (b == 0)) cells

abbrev pub is_bad : List ℕ → Bool
is_bad name = (length name == 0) || (nat_lt 24 (length name) || list_any (λ b. b == 47) name)

-- the row of the file with this name, and the lowest empty row
abbrev pub is_named : List ℕ → Option File → Bool
is_named name file = option_map_or (λ f. same_bytes f.name name) file false

abbrev pub row_named : List ℕ → FileTable → Option ℕ
row_named name t = position (is_named name) t

abbrev pub empty_row : FileTable → Option ℕ
empty_row t = position is_none t

-- the file in a row, and its bytes
abbrev pub file_at : FileTable → ℕ → Option File
file_at t row = slice_index_or t row None

abbrev pub bytes_in : Option File → List ℕ
bytes_in file = option_map_or (λ f. f.bytes) file []

abbrev pub bytes_at : FileTable → ℕ → List ℕ
bytes_at t row = bytes_in (file_at t row)

-- A file takes a block for each 512 bytes, the last one rounded up; 22 blocks are no data.
abbrev pub blocks_for : ℕ → ℕ
blocks_for count = (count + 511) / 512

abbrev pub blocks_used : FileTable → ℕ
blocks_used t = 22 + sum_by (λ file. blocks_for (length (bytes_in file))) t

-- how many more blocks a file takes when bytes up to this place are written
abbrev pub blocks_more : List ℕ → ℕ → ℕ
blocks_more bytes end = blocks_for end - blocks_for (length bytes)

-- the tests of each request on a disk of so many blocks, in their order
abbrev pub tests : ℕ → Option FileTable → FileRequest → List Test
tests blocks files Mkfs = when (nat_lt blocks 23) OutOfRange ∷ []
tests blocks files (Create name) =
    when (is_none files) NotFormatted
    ∷ when (is_bad (name_in name)) BadName
    ∷ when (is_some (row_named (name_in name) (rows files))) FileExists
    ∷ when (is_none (empty_row (rows files))) Full
    ∷ []
tests blocks files (Find name) =
    when (is_none files) NotFormatted
    ∷ when (is_bad (name_in name)) BadName
    ∷ when (is_none (row_named (name_in name) (rows files))) NoSuchFile
    ∷ []
tests blocks files (SizeOf row) =
    when (is_none files) NotFormatted
    ∷ when (is_none (file_at (rows files) row)) NoSuchFile
    ∷ []
tests blocks files (ReadAt row pos len buffer) =
    when (is_none files) NotFormatted
    ∷ when (is_none (file_at (rows files) row)) NoSuchFile
    ∷ when (nat_lt 512 len) OutOfRange
    ∷ when (nat_lt (length (bytes_at (rows files) row)) pos) OutOfRange
    ∷ []
tests blocks files (WriteAt row pos len buffer) =
    when (is_none files) NotFormatted
    ∷ when (is_none (file_at (rows files) row)) NoSuchFile
    ∷ when (nat_lt 512 len) OutOfRange
    ∷ when (nat_lt (length (bytes_at (rows files) row)) pos) OutOfRange
    ∷ when (nat_lt 4096 (pos + len)) OutOfRange
    ∷ when (nat_lt blocks (blocks_used (rows files) + blocks_more (bytes_at (rows files) row) (pos + len))) Full
    ∷ []
tests blocks files (Remove name) =
    when (is_none files) NotFormatted
    ∷ when (is_bad (name_in name)) BadName
    ∷ when (is_none (row_named (name_in name) (rows files))) NoSuchFile
    ∷ []

-- The same file with these bytes from a place on.
abbrev pub with_bytes : ℕ → List ℕ → File → File
with_bytes pos bytes f = record f { bytes = overwritten pos bytes f.bytes }

-- an answer without a buffer
abbrev pub plainly : ℕ → FileTable → FileReply
plainly number t = record { code = Fine; number = number; buffer = []; files = Some t }

-- What a request does to a table where no test applies. A `read` gives the bytes from a place on,
-- up to the count or the file's end; the buffer's other cells stay.
abbrev pub carried_out : FileTable → FileRequest → FileReply
carried_out t Mkfs = plainly 0 empty_table
carried_out t (Create name) =
    let row = unwrap_or (empty_row t) 0 in
    plainly row (slice_set t row (Some (record { name = name_in name; bytes = [] })))
carried_out t (Find name) = plainly (unwrap_or (row_named (name_in name) t) 0) t
carried_out t (SizeOf row) = plainly (length (bytes_at t row)) t
carried_out t (ReadAt row pos len buffer) =
    let read : List ℕ = take len (drop pos (bytes_at t row)) in
    record { code = Fine; number = length read; buffer = overwritten 0 read buffer; files = Some t }
carried_out t (WriteAt row pos len buffer) =
    plainly 0 (slice_set t row (option_map (with_bytes pos (take len buffer)) (file_at t row)))
carried_out t (Remove name) = plainly 0 (slice_set t (unwrap_or (row_named (name_in name) t) 0) None)

-- a failure: the number is 0, the buffer comes back as it came, and all files stay
abbrev pub buffer_of : FileRequest → List ℕ
buffer_of (ReadAt row pos len buffer) = buffer
buffer_of _ = []

abbrev pub failure : ReplyCode → FileRequest → Option FileTable → FileReply
failure code r files = record { code = code; number = 0; buffer = buffer_of r; files = files }

-- What a file system on a disk of so many blocks answers: the code of the first test that applies,
-- or what the request does.
abbrev pub outcome : Option Test → Option FileTable → FileRequest → FileReply
outcome (Some test) files r = failure test.code r files
outcome None files r = carried_out (rows files) r

abbrev pub reply_to : ℕ → Option FileTable → FileRequest → FileReply
reply_to blocks files r = outcome (find (λ test. test.applies) (tests blocks files r)) files r

-- the table that requests leave, the newest first, begun as not formatted
abbrev pub files_after : ℕ → List FileRequest → Option FileTable
files_after blocks [] = None
files_after blocks (r ∷ rs) = (reply_to blocks (files_after blocks rs) r).files
