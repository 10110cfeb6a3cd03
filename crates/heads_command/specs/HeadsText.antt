-- What `heads N` prints, and what it has written by the way in which it ended.
use Rattle.std.specs.Prelude.{◌≡◌, ℕ, ◌+◌, List, [], ◌∷◌, ◌++◌, length, codes, Option}
use Rattle.std.specs.Fmt.{decimal}
use Rattle.std.specs.Io.KnownBytes.{Appends}
use Rattle.rl_io.specs.Whole.{AppendsShort}
use Rattle.machine_defs.specs.Texts.{line, spaced}
use Rattle.machine_defs.specs.declared.heads.HeadWord.{HeadWord}
use Rattle.machine_defs.specs.declared.heads.HeadWord.TheVariants.{Vacant, Busy, Gone, Live}
use Rattle.rref_heads.specs.declared.table.Heads.{Heads}
use Rattle.rref_heads.specs.declared.table.Pass.{Pass}
use Rattle.machine_defs.specs.Heads.{Slot}
use Rattle.machine_defs.specs.Heads.{HeadRule}
use Rattle.rref_heads.specs.Passes.{AreEmpty, IsClosed, closed_table, size_of}
use Rattle.heads_command.specs.Workers.{gone_count}

-- The word for a head. No closed table has a busy one.
abbrev pub word_text : HeadWord → List ℕ
word_text Vacant = codes "vacant"
word_text Busy = codes "busy"
word_text Gone = codes "gone"
word_text (Live l e to) = codes "live"

-- the line of a head: its number and its word
abbrev pub row_text : ℕ → HeadWord → List ℕ
row_text h a = line (decimal h ++ spaced (word_text a))

-- the lines of heads that are numbered from h
abbrev pub rows_text : ℕ → List HeadWord → List ℕ
rows_text h [] = []
rows_text h (a ∷ words) = row_text h a ++ rows_text (h + 1) words

-- the whole text, where x payloads came back
abbrev pub heads_text : ℕ → List HeadWord → ℕ → List ℕ
heads_text n words x = line (codes "heads " ++ decimal n) ++ (rows_text 1 words ++ line (codes "returned " ++ decimal x))

-- These are the words that closing a table of n heads gave, at which two passes had done what they
-- do: neither has a claim, a title, a loan or a right any more, and the rule of the table holds of
-- what they left.
pub record AreClosedWords (n : ℕ) (words : List HeadWord) : Type 0 where
  pub table : Heads
  pub passes : List Pass
  pub payloads : List Slot
  pub wide : table.heads ≡ n
  pub two : length passes ≡ 2
  pub empty : AreEmpty table passes
  pub closed : IsClosed n passes words payloads
  pub rule : HeadRule (size_of table) (closed_table words payloads passes)

-- What is printed: these words, and that as many payloads came back as heads are gone.
pub record IsTextOfRun (n : ℕ) (text : List ℕ) : Type 0 where
  pub words : List HeadWord
  pub told : AreClosedWords n words
  pub is : text ≡ heads_text n words (gone_count words)

-- the whole text was written
pub record WasDone (n : ℕ) (given given' : Option (List ℕ)) : Type 0 where
  pub text : List ℕ
  pub told : IsTextOfRun n text
  pub written : Appends given given' text

-- a front of the text was written, and not the whole of it
pub record WasCutOff (n : ℕ) (given given' : Option (List ℕ)) : Type 0 where
  pub text : List ℕ
  pub told : IsTextOfRun n text
  pub written : AppendsShort given given' text
