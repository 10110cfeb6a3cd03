-- The object that hangs in another one, step by step up to there, whatever its maker's code ends with and the client does then.
use Rattle.std.proofs.Common.{ℕ, List, [], ◌∷◌, length, refl, Option, Some, None}
use Rattle.std.specs.Prelude.{map, replicate}
use Rattle.std.specs.List.{flat_map}
use Rattle.rl_defs.specs.declared.code.Instr.{Instr}
use Rattle.rl_defs.specs.declared.load.Command.{Command}
use Rattle.rl_defs.specs.declared.values.Value.{Value}
use Rattle.rl_defs.specs.declared.values.Value.TheVariants as value
use Rattle.rl_defs.specs.Rows.{bound_by}
use Rattle.machine_defs.specs.declared.values.Owner.TheVariants as owner
use Rattle.machine_defs.specs.declared.entry.Entry.TheVariants as entry
use Rattle.machine_defs.specs.Runs.{Ordered}
use Rattle.machine_defs.specs.State.{State, StackFrame, Thread, Hung, start, with_thread}
use Rattle.machine_defs.specs.Calling.{unless_moved}
use Rattle.machine_defs.specs.Objects.{with_new, placed}
use Rattle.machine_defs.specs.Frames.{with_top}
use Rattle.machine_defs.specs.CallRows.{call_entered}
use Rattle.machine_defs.specs.Steps.{Step}
use Rattle.worked_runs.specs.Parts.{thread, frame_at, quiet}
use Rattle.worked_runs.specs.HungAndDropped.{hanging_load, hung_so_far}
use Rattle.worked_runs.proofs.Turns.{none_yet, goes_on}
use Rattle.worked_runs.proofs.Rows.{quietly, enters, makes_own, acts}

abbrev pub object : ℕ → Option Value
object o = Some (value.Obj o)

-- the client in its first command: the name that it binds holds nothing yet, and no more do those that it binds then
abbrev unbound : List Command → ℕ → Thread
unbound then fuel = thread fuel 0 (None ∷ map (unless_moved []) (replicate (length (flat_map bound_by then)) None))

-- the call: where it stands, and what its first registers hold
abbrev pub making : ℕ → List (Option Value) → StackFrame
making at values = frame_at 1 1 1 0 [] at values

-- the client calls
abbrev called : Instr → List Command → State
called last then = call_entered 1 1 1 [] (making 2 []) (with_thread (start (hanging_load last then)) 1 (unbound then 9999))

calls : (last : Instr) (then : List Command) → Step (hanging_load last then) (start (hanging_load last then)) (quiet (entry.Call 1 1 1 1 0 [])) (called last then)
calls last then = enters _ 2 refl refl refl refl refl refl refl refl refl refl refl

-- two objects are made
abbrev one : Instr → List Command → State
one last then = with_new (hanging_load last then) 1 (owner.Instance 1) [] (with_top 1 (making 3 (object 1 ∷ [])) (with_thread (called last then) 1 (unbound then 9998)))

makes_one : (last : Instr) (then : List Command) → Step (hanging_load last then) (called last then) (quiet (entry.New 1 (owner.Instance 1) 1 1 [])) (one last then)
makes_one last then = makes_own (unbound then 9999) 9999 _ (making 3 (object 1 ∷ [])) refl refl refl refl refl refl refl refl refl

abbrev both : Instr → List Command → State
both last then = with_new (hanging_load last then) 0 (owner.Instance 1) [] (with_top 1 (making 4 (object 1 ∷ object 2 ∷ [])) (with_thread (one last then) 1 (unbound then 9997)))

makes_another : (last : Instr) (then : List Command) → Step (hanging_load last then) (one last then) (quiet (entry.New 1 (owner.Instance 1) 2 0 [])) (both last then)
makes_another last then = makes_own (unbound then 9998) 9998 _ (making 4 (object 1 ∷ object 2 ∷ [])) refl refl refl refl refl refl refl refl refl

-- the second hangs in the first
abbrev pub hung : Instr → List Command → State
hung last then = placed 2 (Hung 1 0) (with_top 1 (making 5 (object 1 ∷ None ∷ [])) (with_thread (both last then) 1 (unbound then 9996)))

hangs : (last : Instr) (then : List Command) → Step (hanging_load last then) (both last then) (quiet (entry.Hang 1 1 0 2)) (hung last then)
hangs last then = quietly refl (record { inside = 1; empty = refl; does = acts (unbound then 9997) 9997 _ (making 5 (object 1 ∷ None ∷ [])) refl refl refl refl refl }) refl refl

pub hangs_so_far : (last : Instr) (then : List Command) → Ordered (hanging_load last then) (start (hanging_load last then)) hung_so_far (hung last then) 0
hangs_so_far last then =
    goes_on 0 (goes_on 0 (goes_on 0 (goes_on 0 none_yet (calls last then) refl) (makes_one last then) refl) (makes_another last then) refl) (hangs last then) refl
