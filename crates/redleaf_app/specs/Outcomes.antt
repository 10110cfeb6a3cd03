-- What a call has read and written, by the way in which it ended. Bytes are spoken of where the
-- source and the sink tell them.
use Rattle.std.specs.Prelude.{◌≡◌, ℕ, ◌≤◌, ◌⊎◌, List, ◌++◌, length, codes, Option, true}
use Rattle.std.specs.Fmt.{decimal}
use Rattle.std.specs.Io.KnownBytes.{Appends, Consumes, IsAtEnd}
use Rattle.rl_io.specs.Whole.{AppendsShort}
use Rattle.rl_defs.specs.declared.load.LoadRows.{LoadRows}
use Rattle.rl_defs.specs.Domains.{is_native}
use Rattle.rl_defs.specs.Rows.{domain_of_load}
use Rattle.rl_defs.specs.Acceptance.{Accepted, First}
use Rattle.machine_defs.specs.declared.entry.Entry.{Entry}
use Rattle.machine_defs.specs.State.{State}
use Rattle.machine_defs.specs.Runs.{Run, WholeRun, OrderRun, AllDone}
use Rattle.machine_defs.specs.Laws.{TellsLaws}
use Rattle.machine_defs.specs.Report.{out_text}
use Rattle.machine_defs.specs.Texts.{line}
use Rattle.machine_steps.specs.Kept.{IsCodeAlone, TurnsAreShort}
use Rattle.redleaf_app.specs.declared.command.Command.{Command}
use Rattle.redleaf_app.specs.declared.command.Command.TheVariants as command
use Rattle.redleaf_app.specs.Commands.{words_of}

-- A run of a load that is built, with its turns in the order of the order list; none of them began
-- where the history had 262,144 entries or more. Its history tells that each call is answered with
-- its cause, each object has one owner until it is given up once, what is freed has a cause, and
-- words and slots change only by what their own instance does. The text is what it prints.
pub record IsToldRun (L : LoadRows) (H : List Entry) (s : State) (text : List ℕ) : Type 0 where
  pub built : IsCodeAlone L
  pub order : OrderRun L H s
  pub short : TurnsAreShort H
  pub laws : TellsLaws L H s
  pub is : text ≡ out_text L H s

-- The text is what such a run of the load prints in which every client came to the end of its
-- script.
pub record IsTextOfRun (L : LoadRows) (text : List ℕ) : Type 0 where
  pub entries : List Entry
  pub state : State
  pub whole : WholeRun L entries state
  pub told : IsToldRun L entries state text

-- The text is what such a run of the load prints in which not every client came to the end of its
-- script, and the history is full.
pub record IsTextOfFull (L : LoadRows) (text : List ℕ) : Type 0 where
  pub entries : List Entry
  pub state : State
  pub run : Run L entries state
  pub undone : AllDone state → ⊥
  pub full : 262144 ≤ length entries
  pub told : IsToldRun L entries state text

-- what is printed where a line is refused
abbrev pub refusal_text : ℕ → ℕ → List ℕ
refusal_text n rule = codes "refused line " ++ (decimal n ++ (codes " rule " ++ line (decimal rule)))

-- some load is of a domain with a native body, and the text says so
pub record IsTextOfNative (L : LoadRows) (text : List ℕ) : Type 0 where
  pub number : ℕ
  pub native : is_native (domain_of_load L number).lines ≡ true
  pub is : text ≡ refusal_text 0 99

-- `run`: the bytes are accepted, and the text is that of a run of their load to the end of every
-- script.
pub record WasRun (bytes text : List ℕ) : Type 0 where
  pub load : LoadRows
  pub accepted : Accepted bytes load
  pub run : IsTextOfRun load text

-- `run`: the bytes are accepted, and the text is that of a run of their load until the history was
-- full.
pub record WasRunFull (bytes text : List ℕ) : Type 0 where
  pub load : LoadRows
  pub accepted : Accepted bytes load
  pub run : IsTextOfFull load text

-- `run`: the bytes are accepted, and their load isn't built.
pub record IsNotBuilt (bytes text : List ℕ) : Type 0 where
  pub load : LoadRows
  pub accepted : Accepted bytes load
  pub native : IsTextOfNative load text

-- `check`: no rule fails, and the bytes stand for a load.
pub record IsAccepted (bytes text : List ℕ) : Type 0 where
  pub load : LoadRows
  pub accepted : Accepted bytes load
  pub is : text ≡ line (codes "accepted")

-- This line is the first that a rule refuses, and this the lowest of these rules, in the first
-- phase that refuses a line.
pub record IsRefused (bytes text : List ℕ) : Type 0 where
  pub line : ℕ
  pub rule : ℕ
  pub first : First bytes line rule
  pub is : text ≡ refusal_text line rule

-- what a command prints where it does what it is asked for, where it refuses the bytes, and where
-- the history is full before it is done
abbrev pub IsAnswer : Command → List ℕ → List ℕ → Type 0
IsAnswer command.Run bytes text = WasRun bytes text
IsAnswer command.Check bytes text = IsAccepted bytes text

abbrev pub IsRefusal : Command → List ℕ → List ℕ → Type 0
IsRefusal command.Run bytes text = IsRefused bytes text ⊎ IsNotBuilt bytes text
IsRefusal command.Check bytes text = IsRefused bytes text

abbrev pub IsFull : Command → List ℕ → List ℕ → Type 0
IsFull command.Run bytes text = WasRunFull bytes text
IsFull command.Check bytes text = ⊥

-- All that the source had left was read, to its end: these bytes, at most so many. The words are of
-- this command.
pub record ReadWhole (limit : ℕ) (words : List (List ℕ)) (left left' : Option (List ℕ)) (of : Command) (bytes : List ℕ) : Type 0 where
  pub asked : words ≡ words_of of
  pub came : Consumes left left' bytes
  pub end : IsAtEnd left'
  pub few : length bytes ≤ limit

-- All was read, and the whole text of the command's answer was written.
pub record WasDone (limit : ℕ) (words : List (List ℕ)) (left left' given given' : Option (List ℕ)) : Type 0 where
  pub command : Command
  pub bytes : List ℕ
  pub text : List ℕ
  pub read : ReadWhole limit words left left' command bytes
  pub answer : IsAnswer command bytes text
  pub written : Appends given given' text

-- All was read, and the whole refusal was written.
pub record WasRefused (limit : ℕ) (words : List (List ℕ)) (left left' given given' : Option (List ℕ)) : Type 0 where
  pub command : Command
  pub bytes : List ℕ
  pub text : List ℕ
  pub read : ReadWhole limit words left left' command bytes
  pub answer : IsRefusal command bytes text
  pub written : Appends given given' text

-- All was read, and the whole text of a run that filled the history was written.
pub record WasFull (limit : ℕ) (words : List (List ℕ)) (left left' given given' : Option (List ℕ)) : Type 0 where
  pub command : Command
  pub bytes : List ℕ
  pub text : List ℕ
  pub read : ReadWhole limit words left left' command bytes
  pub answer : IsFull command bytes text
  pub written : Appends given given' text

-- All was read, and a front of one of these texts was written, but not the whole text.
pub record WasCutOff (limit : ℕ) (words : List (List ℕ)) (left left' given given' : Option (List ℕ)) : Type 0 where
  pub command : Command
  pub bytes : List ℕ
  pub text : List ℕ
  pub read : ReadWhole limit words left left' command bytes
  pub answer : IsAnswer command bytes text ⊎ (IsRefusal command bytes text ⊎ IsFull command bytes text)
  pub written : AppendsShort given given' text
