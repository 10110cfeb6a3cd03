-- Worked examples of files.
use Rattle.std.specs.Prelude.{◌≡◌, ℕ, List, [], ◌∷◌, ◌++◌, Option, Some, None, replicate, codes}
use Rattle.file_defs.specs.ReplyCodes.{ReplyCode, Fine, NoSuchFile, FileExists, Full, BadName, OutOfRange, NotFormatted}
use Rattle.file_defs.specs.FileTable.{FileTable, FileRequest, Mkfs, Create, Find, SizeOf, ReadAt, WriteAt, Remove, reply_to}
use Rattle.file_defs.specs.Deeds.{Deed, GotSize, GotBlock, PutBlock, Failed, IsHonest}
use Rattle.file_defs.specs.Calls.{actions_in_call, since_entered}
use Rattle.file_defs.specs.DiskCalls.{deeds_after}
use Rattle.rl_defs.specs.declared.values.Value.TheVariants as value
use Rattle.machine_defs.specs.declared.entry.Entry.{Entry}
use Rattle.machine_defs.specs.declared.entry.Entry.TheVariants as entry
use Rattle.machine_defs.specs.Steps.{Turn}

-- what is told of an answer: its code and its number
pub record CodeAndNumber : Type 0 where
  pub code : ReplyCode
  pub number : ℕ

abbrev pub answers : ReplyCode → ℕ → CodeAndNumber
answers code number = record { code = code; number = number }

-- what requests are answered, each after those before it
abbrev pub replies : ℕ → Option FileTable → List FileRequest → List CodeAndNumber
replies blocks files [] = []
replies blocks files (r ∷ rs) =
    answers (reply_to blocks files r).code (reply_to blocks files r).number
    ∷ replies blocks (reply_to blocks files r).files rs

abbrev pub notes : List ℕ
notes = codes "notes" ++ replicate 27 0

abbrev pub hello : List ℕ
hello = codes "hello"

-- A file on a disk of 64 blocks: it is made once, holds what was written, and is gone once removed.
abbrev pub IsOneFile : Type 0
IsOneFile =
    replies 64 None
    (Create notes
    ∷ Mkfs
    ∷ Create notes
    ∷ Create notes
    ∷ WriteAt 0 0 5 hello
    ∷ SizeOf 0
    ∷ WriteAt 0 6 1 hello
    ∷ Remove notes
    ∷ Find notes
    ∷ [])
    ≡ answers NotFormatted 0
    ∷ answers Fine 0
    ∷ answers Fine 0
    ∷ answers FileExists 0
    ∷ answers Fine 0
    ∷ answers Fine 5
    ∷ answers OutOfRange 0
    ∷ answers Fine 0
    ∷ answers NoSuchFile 0
    ∷ []

-- A disk of 22 blocks has no room for data, so it gets no file system.
abbrev pub IsTooSmall : Type 0
IsTooSmall = replies 22 None (Mkfs ∷ SizeOf 0 ∷ []) ≡ answers OutOfRange 0 ∷ answers NotFormatted 0 ∷ []

-- A disk of 23 blocks has one block of data: 512 bytes fit, one more doesn't. A second file can be
-- made, and stays empty.
abbrev pub IsFullDisk : Type 0
IsFullDisk =
    replies 23 None
    (Mkfs
    ∷ Create (codes "a")
    ∷ WriteAt 0 0 512 (replicate 512 7)
    ∷ WriteAt 0 512 1 hello
    ∷ Create (codes "b")
    ∷ WriteAt 1 0 1 hello
    ∷ WriteAt 0 511 1 hello
    ∷ SizeOf 0
    ∷ [])
    ≡ answers Fine 0
    ∷ answers Fine 0
    ∷ answers Fine 0
    ∷ answers Full 0
    ∷ answers Fine 1
    ∷ answers Full 0
    ∷ answers Fine 0
    ∷ answers Fine 512
    ∷ []

-- A name is bad without a byte, with a `/` and with 25 bytes; 24 are well. What stands behind the
-- first 0 isn't of the name.
abbrev pub IsNaming : Type 0
IsNaming =
    replies 64 None
    (Mkfs
    ∷ Create []
    ∷ Create (codes "a/b")
    ∷ Create (replicate 25 97)
    ∷ Create (replicate 24 97)
    ∷ Create (codes "b")
    ∷ Find (codes "b" ++ 0 ∷ codes "/")
    ∷ [])
    ≡ answers Fine 0
    ∷ answers BadName 0
    ∷ answers BadName 0
    ∷ answers BadName 0
    ∷ answers Fine 0
    ∷ answers Fine 1
    ∷ answers Fine 1
    ∷ []

-- A `read` near the end of a file gives fewer bytes than it was asked for. The buffer's other cells
-- stay.
abbrev pub IsShortRead : Type 0
IsShortRead =
    reply_to 64 (Some (Some (record { name = codes "notes"; bytes = hello }) ∷ [])) (ReadAt 0 3 4 (9 ∷ 9 ∷ 9 ∷ 9 ∷ []))
    ≡ record {
      code = Fine;
      number = 2;
      buffer = codes "lo" ++ 9 ∷ 9 ∷ [];
      files = Some (Some (record { name = codes "notes"; bytes = hello }) ∷ []);
    }

-- A disk that gives back what was put into a block is honest, whatever failed between; one that
-- gives zeros then isn't.
abbrev pub block_of : ℕ → List ℕ
block_of n = replicate 64 n

abbrev pub IsHonestDisk : Type 0
IsHonestDisk =
    IsHonest 64
    (GotBlock 22 (block_of 7)
    ∷ Failed
    ∷ GotBlock 23 (block_of 0)
    ∷ PutBlock 22 (block_of 7)
    ∷ GotSize 64
    ∷ [])

abbrev pub IsLyingDisk : Type 0
IsLyingDisk = ¬ IsHonest 64 (GotBlock 22 (block_of 0) ∷ PutBlock 22 (block_of 7) ∷ GotSize 64 ∷ [])

-- In call 1 instance 2 asked target 1, its disk, for the size, by call 2, which is in instance 1.
-- Objects have no cells here.
abbrev pub turn_of : Entry → Turn
turn_of e = record { entry = e; frees = [] }

abbrev pub asked_size : List Turn
asked_size = turn_of (entry.Call 1 2 1 1 0 []) ∷ turn_of (entry.Call 1 1 2 2 0 []) ∷ []

abbrev pub deeds : List Turn → List Deed
deeds us = since_entered (deeds_after (λ us o. []) 1 2) us 2

-- There is no deed until the call is answered, by its return or by its disk's end. It was one action.
pub record IsDiskAsked : Type 0 where
  pub asked : deeds asked_size ≡ []
  pub answered : deeds (turn_of (entry.Ret 1 2 (value.Num 64 ∷ [])) ∷ asked_size) ≡ GotSize 64 ∷ []
  pub unwound : deeds (turn_of (entry.Unwound 1 2) ∷ asked_size) ≡ Failed ∷ []
  pub actions : actions_in_call (turn_of (entry.Ret 1 2 (value.Num 64 ∷ [])) ∷ asked_size) 2 ≡ 1
