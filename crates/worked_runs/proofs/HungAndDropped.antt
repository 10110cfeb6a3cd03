-- The object that hangs in another one and goes with it, step by step.
use Rattle.std.proofs.Common.{ℕ, zero, suc, arith, [], ◌∷◌, refl, inl, None}
use Rattle.std.specs.Fmt.{digits}
use Rattle.rl_defs.specs.declared.code.Instr.TheVariants as instr
use Rattle.rl_defs.specs.declared.load.Command.TheVariants as command
use Rattle.rl_defs.specs.declared.values.Value.TheVariants as value
use Rattle.machine_defs.specs.declared.entry.Entry.TheVariants as entry
use Rattle.machine_defs.specs.Runs.{AllDone}
use Rattle.machine_defs.specs.State.{State, Thread, with_thread}
use Rattle.machine_defs.specs.Loans.{sweep}
use Rattle.machine_defs.specs.Objects.{without}
use Rattle.machine_defs.specs.CallRows.{after_return, command_done}
use Rattle.machine_defs.specs.ObjectRows.{without_name}
use Rattle.machine_defs.specs.Steps.{Step}
use Rattle.worked_runs.specs.Parts.{r0, thread, quiet, freeing}
use Rattle.worked_runs.specs.HungAndDropped.{dropped_load, dropped_end, IsHungAndDropped}
use Rattle.worked_runs.proofs.Turns.{goes_on, worked}
use Rattle.worked_runs.proofs.Rows as rows
use Rattle.worked_runs.proofs.HungSoFar.{object, hung, hangs_so_far}

-- the client's one name holds nothing
abbrev unbound : ℕ → ℕ → Thread
unbound fuel place = thread fuel place (None ∷ [])

abbrev so_far : State
so_far = hung (instr.Ret (r0 ∷ [])) (command.Show 0 ∷ command.Drop 0 ∷ [])

-- the first is returned, and the other below it goes along
abbrev bound : ℕ → ℕ → Thread
bound fuel place = thread fuel place (object 1 ∷ [])

abbrev returned : State
returned = with_thread (after_return 1 9996 (unbound 9996 0) (value.Obj 1 ∷ []) so_far) 1 (bound 9995 1)

returns : Step dropped_load so_far (quiet (entry.Ret 1 1 (value.Obj 1 ∷ []))) returned
returns = rows.returns (unbound 9996 0) 9996 _ refl refl refl refl (record { thread = unbound 9995 0; of = refl; becomes = refl }) refl refl

-- the client lists its cells
abbrev shown : State
shown = with_thread returned 1 (bound 9999 2)

shows : Step dropped_load returned (quiet (entry.Show 1 1 (value.Obj 2 ∷ []))) shown
shows = rows.quietly refl
    (record { thread = bound 9995 1; name = 0; of = refl; object = refl; lists = refl; does = record { thread = bound 9995 1; of = refl; wants = refl; becomes = refl } })
    refl refl

-- and drops it
abbrev without_parent : State
without_parent = without (1 ∷ []) (with_thread shown 1 (command_done dropped_load 1 [] (without_name 0 (bound 9999 2))))

abbrev dropped : State
dropped = sweep without_parent

drops : Step dropped_load shown (freeing (entry.Drop 1 1) (2 ∷ [])) dropped
drops = record {
  made = without_parent;
  enabled = refl;
  makes = inl (record { thread = bound 9999 2; name = 0; of = refl; wants = refl; object = refl; becomes = refl });
  frees = refl;
  swept = refl;
}

-- its script has ended
ends : Step dropped_load dropped (quiet (entry.Done 1)) dropped_end
ends = rows.finishes _ refl refl refl refl refl refl

done : AllDone dropped_end
done zero d lt = refl
done (suc k) d lt = absurd (omega arith)

pub hung_and_dropped : IsHungAndDropped
unfolding digits
hung_and_dropped = worked
    (goes_on 0 (goes_on 0 (goes_on 0 (goes_on 0 (hangs_so_far _ _) returns refl) shows refl) drops refl) ends refl)
    done
    refl
    refl
