-- The exit statuses.
use Rattle.std.specs.Prelude.{ℕ}
use Rattle.bundle_format.specs.declared.status.Status.{Status}
use Rattle.bundle_format.specs.declared.status.Status.TheVariants as status

-- the exit status of each way to end
abbrev pub exit_status : Status → ℕ
exit_status status.Done = 0
exit_status status.Refused = 1
exit_status status.Usage = 2
exit_status status.ReadFault = 3
exit_status status.WriteFault = 4
exit_status status.Memory = 5
exit_status status.TooLong = 7
exit_status status.TooWide = 8

-- the statuses after which nothing was written
abbrev pub IsSilent : Status → Type 0
IsSilent status.Usage = Unit {0}
IsSilent status.ReadFault = Unit {0}
IsSilent status.Memory = Unit {0}
IsSilent status.TooLong = Unit {0}
IsSilent status.TooWide = Unit {0}
IsSilent _ = ⊥
