-- The trap of an instance that has an object with another one below it, step by step.
use Rattle.std.proofs.Common.{ℕ, zero, suc, arith, [], ◌∷◌, refl, None}
use Rattle.std.specs.Fmt.{digits}
use Rattle.rl_defs.specs.declared.code.Instr.TheVariants as instr
use Rattle.machine_defs.specs.declared.values.Cause.TheVariants as cause
use Rattle.machine_defs.specs.declared.entry.Entry.TheVariants as entry
use Rattle.machine_defs.specs.Runs.{AllDone}
use Rattle.machine_defs.specs.State.{State, Thread, with_thread}
use Rattle.machine_defs.specs.Loans.{sweep}
use Rattle.machine_defs.specs.Seen.{ended}
use Rattle.machine_defs.specs.Frames.{popped}
use Rattle.machine_defs.specs.Steps.{Step}
use Rattle.worked_runs.specs.Parts.{thread, quiet, freeing}
use Rattle.worked_runs.specs.TrapOverHung.{trapped_load, trapped_end, IsTrapOverHung}
use Rattle.worked_runs.proofs.Turns.{goes_on, worked}
use Rattle.worked_runs.proofs.Rows as rows
use Rattle.worked_runs.proofs.HungSoFar.{object, making, hung, hangs_so_far}

-- the client's one name holds nothing
abbrev unbound : ℕ → ℕ → Thread
unbound fuel place = thread fuel place (None ∷ [])

abbrev so_far : State
so_far = hung instr.Trap []

-- the instance traps, and both objects go
abbrev trapped : State
trapped = ended 1 (with_thread so_far 1 (unbound 9996 0))

abbrev swept : State
swept = sweep trapped

traps : Step trapped_load so_far (freeing (entry.Trap 1 1 cause.Asked) (1 ∷ 2 ∷ [])) swept
traps = record {
  made = trapped;
  enabled = refl;
  makes = record { thread = unbound 9996 0; fuel = 9996; frame = _; of = refl; wants = refl; inside = refl; becomes = refl };
  frees = refl;
  swept = refl;
}

-- the call is unwound
abbrev unwound : State
unwound = with_thread (popped 1 swept) 1 (unbound 9996 1)

unwinds : Step trapped_load swept (quiet (entry.Unwound 1 1)) unwound
unwinds = rows.unwinds (making 5 (object 1 ∷ None ∷ [])) refl refl refl refl refl (record { thread = unbound 9996 0; of = refl; becomes = refl }) refl refl

-- the client's script has ended
ends : Step trapped_load unwound (quiet (entry.Done 1)) trapped_end
ends = rows.finishes _ refl refl refl refl refl refl

done : AllDone trapped_end
done zero d lt = refl
done (suc k) d lt = absurd (omega arith)

pub trap_over_hung : IsTrapOverHung
unfolding digits
trap_over_hung = worked
    (goes_on 0 (goes_on 0 (goes_on 0 (hangs_so_far _ _) traps refl) unwinds refl) ends refl)
    done
    refl
    refl
