-- The laws of files: what the definitions come to, in words of requests and answers.
use Rattle.std.specs.Prelude.{◌≡◌, ◌≢◌, ℕ, ◌≤◌, List, ◌∷◌, ◌++◌, length, take, drop, Option}
use Rattle.file_defs.specs.ReplyCodes.{Fine}
use Rattle.file_defs.specs.FileTable.{FileTable, FileRequest, Create, Find, SizeOf, ReadAt, WriteAt, FileReply, buffer_of, reply_to}
use Rattle.file_defs.specs.Deeds.{Deed, GotBlock, PutBlock, IsHonest}

-- With a code the number is 0, the buffer comes back as it came, and all files stay.
pub record ChangesNothing (files : Option FileTable) (r : FileRequest) (reply : FileReply) : Type 0 where
  pub no_number : reply.number ≡ 0
  pub same_buffer : reply.buffer ≡ buffer_of r
  pub same_files : reply.files ≡ files

abbrev pub FailuresChangeNothing : Type 0
FailuresChangeNothing =
    (blocks : ℕ) (files : Option FileTable) (r : FileRequest)
    → (reply_to blocks files r).code ≢ Fine
    → ChangesNothing files r (reply_to blocks files r)

-- So many bytes were read: those of one buffer stand in the other one, whose other cells stay.
pub record GivesBytes (len : ℕ) (bytes buffer : List ℕ) (reply : FileReply) : Type 0 where
  pub fine : reply.code ≡ Fine
  pub count : reply.number ≡ len
  pub cells : reply.buffer ≡ take len bytes ++ drop len buffer

-- Behind a `write` a `read` of the same place of the same file gives what was written.
abbrev pub WritesAreRead : Type 0
WritesAreRead =
    (blocks : ℕ) (files : Option FileTable) (row pos len : ℕ) (bytes buffer : List ℕ)
    → len ≤ length bytes
    → (reply_to blocks files (WriteAt row pos len bytes)).code ≡ Fine
    → GivesBytes len bytes buffer
    (reply_to blocks (reply_to blocks files (WriteAt row pos len bytes)).files (ReadAt row pos len buffer))

-- What an honest disk gives of a block that was just put is what was put.
abbrev pub HonestDisksKeepBlocks : Type 0
HonestDisksKeepBlocks =
    (blocks n : ℕ) (got put : List ℕ) (ds : List Deed)
    → IsHonest blocks (GotBlock n got ∷ PutBlock n put ∷ ds)
    → got ≡ put

-- The name is found in this row, and the file there is empty.
pub record IsEmptyFile (blocks : ℕ) (files : Option FileTable) (name : List ℕ) (row : ℕ) : Type 0 where
  pub found : (reply_to blocks files (Find name)).code ≡ Fine
  pub in_row : (reply_to blocks files (Find name)).number ≡ row
  pub there : (reply_to blocks files (SizeOf row)).code ≡ Fine
  pub empty : (reply_to blocks files (SizeOf row)).number ≡ 0

-- Behind a `create` there is an empty file with its name, in the row that was answered.
abbrev pub CreatedIsFound : Type 0
CreatedIsFound =
    (blocks : ℕ) (files : Option FileTable) (name : List ℕ)
    → (reply_to blocks files (Create name)).code ≡ Fine
    → IsEmptyFile blocks (reply_to blocks files (Create name)).files name (reply_to blocks files (Create name)).number
