-- The codes of files and descriptors: the first number of each answer.
use Rattle.std.specs.Prelude.{ℕ, Bool}

pub data ReplyCode : Type 0 where
  Fine : ReplyCode
  NoSuchFile : ReplyCode
  FileExists : ReplyCode
  Full : ReplyCode
  BadName : ReplyCode
  OutOfRange : ReplyCode
  NotFormatted : ReplyCode
  NotOpen : ReplyCode
  AllOpen : ReplyCode
  PipeEmpty : ReplyCode
  PipeFull : ReplyCode
  FilesGone : ReplyCode
  StillOpen : ReplyCode

abbrev pub number_of_code : ReplyCode → ℕ
number_of_code Fine = 0
number_of_code NoSuchFile = 1
number_of_code FileExists = 2
number_of_code Full = 3
number_of_code BadName = 4
number_of_code OutOfRange = 5
number_of_code NotFormatted = 6
number_of_code NotOpen = 7
number_of_code AllOpen = 8
number_of_code PipeEmpty = 9
number_of_code PipeFull = 10
number_of_code FilesGone = 11
number_of_code StillOpen = 12

-- A test of a request, and the code that is answered where it is the first that applies.
pub record Test : Type 0 where
  pub applies : Bool
  pub code : ReplyCode

abbrev pub when : Bool → ReplyCode → Test
when applies code = record { applies = applies; code = code }
