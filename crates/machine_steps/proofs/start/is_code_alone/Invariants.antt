use Rattle.std.proofs.Common.{◌≡◌, ℕ, ◌<◌, false}
use Rattle.machine_steps.proofs.CodeAlone.{runs_native}
use Rattle.machine_steps.proofs.start.is_code_alone.Given as goal

-- no domain before this one is loaded and has a native body
abbrev pub invariant-domains : goal.invariant-domains
invariant-domains l = (d : ℕ) → d < l.place → runs_native l.fn.load d ≡ false
