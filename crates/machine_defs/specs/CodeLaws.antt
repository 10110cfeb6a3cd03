-- What holds of domain code that keeps the rules: it never meets a value of the wrong kind.
use Rattle.std.specs.Prelude.{◌≡◌, ℕ, ◌⊎◌, Some, slice_get, true, List, map, false}
use Rattle.rl_defs.specs.declared.code.DomainLine.TheVariants as line
use Rattle.machine_defs.specs.declared.values.Cause.TheVariants as cause
use Rattle.machine_defs.specs.declared.frame.Action.TheVariants as action
use Rattle.rl_defs.specs.declared.code.Instr.{Instr}
use Rattle.machine_defs.specs.declared.frame.Action.{Action}
use Rattle.machine_defs.specs.declared.frame.Answer.{Answer}
use Rattle.machine_defs.specs.declared.values.Arg.{Arg}
use Rattle.rl_defs.specs.declared.tables.MethodRow.{MethodRow}
use Rattle.rl_defs.specs.DomainValue.{Domain}
use Rattle.rl_defs.specs.Registers.{Stand, Typing, behind_heads}
use Rattle.machine_defs.specs.Sight.{Sight}
use Rattle.machine_defs.specs.Instructions.{Would, work, Before, settle, Stuck, after_answer, all_given_up}
use Rattle.machine_defs.specs.CodeFits.{FitsStand, FitsSight, FitsAnswer, FitsWaiting, are_values}
use Rattle.rl_defs.specs.CodeRules.{KeepsRules}
use Rattle.rl_defs.specs.CodeKinds.{kinds_at, moved}
use Rattle.rl_defs.specs.CodeNames.{method_number, methods_of, domain_trait, entry_at}
use Rattle.machine_defs.specs.Arguments.{value_of, entry_registers}
use Rattle.rl_defs.specs.Domains.{is_native}

-- a frame stands at an instruction
pub record StandsAt (d : Domain) (i : Instr) (s : Stand) : Type 0 where
  pub number : ℕ
  pub here : slice_get d.lines s.at ≡ Some (record { line = number; form = line.Code i })

-- At this stand, with this fuel, the frame would act so: it has no fuel, or the instruction there
-- would.
abbrev pub Acts : Domain → Sight → ℕ → ℕ → Stand → Action → Type 0
Acts d sight live fuel s act = ((fuel ≡ 0) × (act ≡ action.Trap cause.Fuel)) ⊎ (work d sight live s ≡ Would act)

-- Register work comes to an action at an instruction, with registers that fit again.
pub record ComesTo (types : Typing) (d : Domain) (sight : Sight) (live fuel : ℕ) (s : Stand) : Type 0 where
  pub act : Action
  pub rest : ℕ
  pub stand : Stand
  pub settles : settle d sight live fuel s ≡ Before act rest stand
  pub fits : FitsStand types d stand
  pub instr : Instr
  pub at : StandsAt d instr stand
  pub acts : Acts d sight live rest stand act

-- A frame that fits doesn't meet a register that doesn't hold what is asked for, nor a line that is
-- no instruction.
abbrev pub NeverStuck : Type 0
NeverStuck = (d : Domain) (types : Typing) (sight : Sight) (live : ℕ) (s : Stand) → KeepsRules d → FitsSight types d sight → FitsStand types d s → work d sight live (behind_heads d s) ≡ Stuck → ⊥

-- A frame that fits comes to an action, whatever its fuel is.
abbrev pub AlwaysSettles : Type 0
AlwaysSettles = (d : Domain) (types : Typing) (sight : Sight) (live fuel : ℕ) (s : Stand) → KeepsRules d → FitsSight types d sight → FitsStand types d s → ComesTo types d sight live fuel s

-- A frame at an instruction fits again behind each answer that fits the instruction, whichever way
-- it goes on.
abbrev pub AnswersFit : Type 0
AnswersFit = (d : Domain) (types : Typing) (i : Instr) (a : Answer) (s : Stand) → KeepsRules d → StandsAt d i s → FitsStand types d s → FitsAnswer types d (kinds_at d s.at) i a → FitsStand types d (after_answer d s i a)

-- So does a frame that waited without the objects that it moved.
abbrev pub WaitingAnswersFit : Type 0
WaitingAnswersFit = (d : Domain) (types : Typing) (i : Instr) (a : Answer) (s : Stand) → KeepsRules d → FitsWaiting types d i s → FitsAnswer types d (kinds_at d s.at) i a → FitsStand types d (after_answer d s i a)

-- A frame that gives up the objects that its instruction moves fits as one that waits.
abbrev pub GivesUp : Type 0
GivesUp = (d : Domain) (types : Typing) (i : Instr) (s : Stand) → KeepsRules d → StandsAt d i s → FitsStand types d s → FitsWaiting types d i (record { at = s.at; regs = all_given_up (moved i) s.regs })

-- Arguments are of the kinds of the parameters of the domain's method with this number. (No two
-- methods of a trait share a name; here it is enough that none before this one has its name.)
pub record FitsArguments (types : Typing) (d : Domain) (m : ℕ) (args : List Arg) : Type 0 where
  pub method : MethodRow
  pub named : method_number d.tables (domain_trait d) method.name ≡ Some m
  pub row : slice_get (methods_of d.tables (domain_trait d)) m ≡ Some method
  pub values : are_values types method.params (map value_of args) ≡ true

-- A call begins with a frame that fits.
abbrev pub EntriesFit : Type 0
EntriesFit = (d : Domain) (types : Typing) (m place : ℕ) (args : List Arg) → KeepsRules d → is_native d.lines ≡ false → FitsArguments types d m args → entry_at d m ≡ Some place → FitsStand types d (record { at = place; regs = entry_registers args })
