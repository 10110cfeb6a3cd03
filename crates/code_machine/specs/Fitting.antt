-- What the calls ask of a frame.
use Rattle.std.specs.Prelude.{◌≡◌, ◌⊎◌, ℕ, ◌≤◌, false, List, Some, None, slice_get}
use Rattle.machine_defs.specs.declared.values.Arg.{Arg}
use Rattle.rl_defs.specs.declared.code.HeadItem.{HeadItem}
use Rattle.rl_defs.specs.declared.code.Instr.{Instr}
use Rattle.rl_defs.specs.declared.code.DomainLine.TheVariants as line
use Rattle.machine_defs.specs.declared.frame.Answer.{Answer}
use Rattle.machine_defs.specs.declared.frame.Frame.{Frame}
use Rattle.machine_defs.specs.declared.frame.FrameBody.TheVariants as body
use Rattle.rl_defs.specs.DomainValue.{Domain}
use Rattle.rl_defs.specs.Domains.{is_native}
use Rattle.machine_defs.specs.Sight.{Sight}
use Rattle.rl_defs.specs.CodeKinds.{kinds_at, at_label}
use Rattle.rl_defs.specs.CodeNames.{label_of, place_of_label}
use Rattle.rl_defs.specs.Registers.{Registers, Stand}
use Rattle.rl_defs.specs.CodeRules.{KeepsRules}
use Rattle.rl_defs.specs.Registers.{Typing, Fits}
use Rattle.machine_defs.specs.CodeFits.{FitsStand, FitsWaiting, FitsSight, FitsAnswer}
use Rattle.machine_defs.specs.CodeLaws.{StandsAt, FitsArguments}

-- where a frame stands, by its line and registers
abbrev pub standing : ℕ → Registers → Stand
standing line regs = record { at = line; regs = regs }

-- the frame, where it stands elsewhere
abbrev pub put_at : {N : Type 0} → Frame N → Stand → Frame N
put_at f s = record f { body = body.Code s.at s.regs }

-- A frame fits its domain, and so does what it sees, for some types of objects and targets.
pub record Fitting (d : Domain) (sight : Sight) (s : Stand) : Type 0 where
  pub types : Typing
  pub stand : FitsStand types d s
  pub sees : FitsSight types d sight

-- a frame stands at some instruction
pub record AtInstr (d : Domain) (s : Stand) : Type 0 where
  pub instr : Instr
  pub at : StandsAt d instr s

-- the registers are of the kinds of a line
pub record FitsLine (d : Domain) (n : ℕ) (regs : Registers) : Type 0 where
  pub types : Typing
  pub fits : Fits types (kinds_at d n) regs

-- a frame at an instruction goes to its label
pub record GoesToLabel (d : Domain) (n : ℕ) (regs : Registers) : Type 0 where
  pub types : Typing
  pub instr : Instr
  pub at : StandsAt d instr (record { at = n; regs = regs })
  pub place : ℕ
  pub leads : place_of_label d n (label_of instr) ≡ Some place
  pub fits : Fits types (at_label (kinds_at d n) instr) regs

-- A frame at an instruction gets an answer that fits it; a frame that waited for a call has given
-- up the objects that it moved.
pub record Awaits (d : Domain) (s : Stand) (a : Answer) : Type 0 where
  pub types : Typing
  pub instr : Instr
  pub at : StandsAt d instr s
  pub fits : FitsStand types d s ⊎ FitsWaiting types d instr s
  pub answer : FitsAnswer types d (kinds_at d s.at) instr a

-- A call enters a method of a domain that has no native body, with arguments of its parameters'
-- kinds.
pub record Enters (d : Domain) (m : ℕ) (args : List Arg) : Type 0 where
  pub code : is_native d.lines ≡ false
  pub types : Typing
  pub given : FitsArguments types d m args

-- No object has a number cell from place 512 on, and no domain a word from 4,096 on.
pub record IsNear (sight : Sight) : Type 0 where
  pub few_cells : (o at : ℕ) → 512 ≤ at → sight.cell o at ≡ None
  pub few_words : (at : ℕ) → 4096 ≤ at → sight.word at ≡ None

-- an instruction of a domain that keeps the rules stands at a line
pub record IsLine (d : Domain) (n : ℕ) (i : Instr) : Type 0 where
  pub keeps : KeepsRules d
  pub number : ℕ
  pub here : slice_get d.lines n ≡ Some (record { line = number; form = line.Code i })

-- a head stands at a place
pub record IsHead (d : Domain) (p : ℕ) : Type 0 where
  pub number : ℕ
  pub label : List ℕ
  pub items : List HeadItem
  pub here : slice_get d.lines p ≡ Some (record { line = number; form = line.Head label items })
