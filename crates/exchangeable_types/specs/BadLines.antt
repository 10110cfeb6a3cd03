-- The first line that rule 10 refuses.
use Rattle.std.specs.Prelude.{ℕ, ◌≤◌, Option, Some, None}
use Rattle.rl_defs.specs.Interfaces.{Lines}
use Rattle.rl_defs.specs.declared.LoadFault.{LoadFault}
use Rattle.rl_defs.specs.declared.LoadFault.TheVariants.{Refused, Memory}
use Rattle.rl_defs.specs.declared.idl.Idl.{Idl}
use Rattle.rl_defs.specs.Refusals.{IsFirst}
use Rattle.rl_defs.specs.TypeRules.{HasBadType, FailsTypes}

abbrev pub IsFirstBad : Lines → Option ℕ → Type 0
IsFirstBad lines None = (n : ℕ) → HasBadType lines n → ⊥
IsFirstBad lines (Some n) = HasBadType lines n × ((m : ℕ) → HasBadType lines m → n ≤ m)

-- the first refusal of the types of a part
abbrev pub IsFirstRefusal : Idl → LoadFault → Type 0
IsFirstRefusal idl (Refused at) = IsFirst (FailsTypes idl) at.line at.rule
IsFirstRefusal idl Memory = Unit {0}
