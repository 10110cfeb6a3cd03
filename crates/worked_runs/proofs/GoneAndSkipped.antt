-- The run of the call that is refused with its object, step by step.
use Rattle.std.proofs.Common.{ℕ, zero, suc, arith, [], ◌∷◌, refl, inl, Some, None}
use Rattle.std.specs.Fmt.{digits}
use Rattle.rl_defs.specs.declared.values.Value.TheVariants as value
use Rattle.rl_defs.specs.declared.load.Command.TheVariants as command
use Rattle.machine_defs.specs.declared.values.Arg.TheVariants as arg
use Rattle.machine_defs.specs.declared.values.Owner.TheVariants as owner
use Rattle.machine_defs.specs.declared.values.RpcCode.TheVariants as code
use Rattle.machine_defs.specs.declared.entry.Entry.TheVariants as entry
use Rattle.machine_defs.specs.State.{State, Thread, start, with_thread}
use Rattle.machine_defs.specs.Runs.{AllDone}
use Rattle.machine_defs.specs.Objects.{with_new, without}
use Rattle.machine_defs.specs.Seen.{ended}
use Rattle.machine_defs.specs.CallRows.{numbered}
use Rattle.machine_defs.specs.Steps.{Step}
use Rattle.worked_runs.specs.Parts.{thread, quiet}
use Rattle.worked_runs.specs.GoneAndSkipped.{gone_load, gone_end, IsGoneAndSkipped}
use Rattle.worked_runs.proofs.Turns.{none_yet, goes_on, worked}
use Rattle.worked_runs.proofs.Rows.{quietly, finishes}

-- the client's two names: the first holds the object until the call, the second nothing
abbrev unbound : ℕ → ℕ → Thread
unbound fuel place = thread fuel place (None ∷ None ∷ [])

abbrev bound : ℕ → ℕ → Thread
bound fuel place = thread fuel place (Some (value.Obj 1) ∷ None ∷ [])

-- the client makes an object, and kills the domain
abbrev before : State
before = start gone_load

abbrev made : State
made = with_new gone_load 0 (owner.Client 1) [] (with_thread before 1 (bound 9999 1))

makes : Step gone_load before (quiet (entry.New 1 (owner.Client 1) 1 0 [])) made
makes = quietly refl
    (record { number = refl; makes = inl (record { next = command.Let 0 0 []; gives = (refl, refl); mine = refl; does = record { thread = unbound 0 0; of = refl; wants = refl; becomes = refl } }) })
    refl refl

abbrev killed : State
killed = ended 2 (with_thread made 1 (bound 9999 2))

kills : Step gone_load made (quiet (entry.Kill 1 2)) killed
kills = quietly refl (record { thread = bound 9999 1; target = 2; of = refl; wants = refl; inside = refl; becomes = refl }) refl refl

-- its call is refused, and the object goes
abbrev refused : State
refused = with_thread (numbered 1 (without (1 ∷ []) killed)) 1 (unbound 9999 3)

refuses : Step gone_load killed (quiet (entry.Refuse 1 1 code.Gone 2 0 (arg.Moved 1 ∷ []))) refused
refuses = quietly refl
    (record { charged = with_thread killed 1 (unbound 9999 2); wants = refl; refused = refl; number = refl; replies = record { thread = unbound 9999 2; of = refl; becomes = refl } })
    refl refl

-- what it would have shown isn't there, and the script has ended
abbrev skipped : State
skipped = with_thread refused 1 (unbound 9999 4)

skips : Step gone_load refused (quiet (entry.Skip 1 4)) skipped
skips = quietly refl (record { thread = unbound 9999 3; of = refl; wants = refl; becomes = refl }) refl refl

ends : Step gone_load skipped (quiet (entry.Done 1)) gone_end
ends = finishes _ refl refl refl refl refl refl

done : AllDone gone_end
done zero d lt = refl
done (suc k) d lt = absurd (omega arith)

pub gone_and_skipped_is_worked : IsGoneAndSkipped
unfolding digits
gone_and_skipped_is_worked = worked
    (goes_on 0 (goes_on 0 (goes_on 0 (goes_on 0 (goes_on 0 none_yet makes refl) kills refl) refuses refl) skips refl) ends refl)
    done
    refl
    refl
