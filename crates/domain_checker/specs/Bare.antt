-- Registers that are known to hold nothing.
use Rattle.std.specs.Prelude.{◌≡◌, Bool, true, false, ⊤}
use Rattle.rl_defs.specs.CodeKinds.{Kinds, no_kinds}

-- where it is known that no register holds anything, none does
abbrev pub IsBare : Bool → Kinds → Type 0
IsBare true kinds = kinds ≡ no_kinds
IsBare false kinds = ⊤
