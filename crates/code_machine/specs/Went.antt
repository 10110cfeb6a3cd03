-- What one instruction came to, and the registers behind it.
use Rattle.std.specs.Prelude.{◌≡◌, Bool, true, false}
use Rattle.rl_defs.specs.Registers.{Registers}
use Rattle.machine_defs.specs.Instructions.{Outcome, Works, Jumps, Would}
use Rattle.code_machine.specs.declared.went.Went.{Went}
use Rattle.code_machine.specs.declared.went.Went.TheVariants as went

-- an instruction would act or trap
abbrev pub stops : Outcome → Bool
stops (Would act) = true
stops _ = false

-- An outcome is what was found; where it is an action or a trap the registers stay as they were.
abbrev pub Comes : Outcome → Registers → Registers → Went → Type 0
Comes outcome before behind went.Next = outcome ≡ Works behind
Comes outcome before behind went.Jump = outcome ≡ Jumps behind
Comes outcome before behind went.Stop = (stops outcome ≡ true) × (behind ≡ before)
