-- A worked run: a client kills a domain and calls it with an object. The call is refused, the
-- object is gone with it, and the command that uses the call's result is skipped.
use Rattle.std.specs.Prelude.{false, true, List, [], ◌∷◌, None, codes}
use Rattle.machine_defs.specs.declared.values.Arg.TheVariants as arg
use Rattle.machine_defs.specs.declared.values.Owner.TheVariants as owner
use Rattle.machine_defs.specs.declared.values.RpcCode.TheVariants as code
use Rattle.machine_defs.specs.declared.entry.Entry.{Entry}
use Rattle.machine_defs.specs.declared.entry.Entry.TheVariants as entry
use Rattle.rl_defs.specs.declared.load.LoadRows.{LoadRows}
use Rattle.rl_defs.specs.declared.load.Command.TheVariants as command
use Rattle.rl_defs.specs.declared.load.ScriptArg.TheVariants as given
use Rattle.machine_defs.specs.State.{State, start}
use Rattle.worked_runs.specs.Parts.{load_of, client, plain_load, thread, instance_of}
use Rattle.worked_runs.specs.WorkedRuns.{IsWorked}
use Rattle.worked_runs.specs.MovedTwice.{pass_tables, returning, handing_on}

-- let o = new P; kill a; call a.p(o) -> q; show q
abbrev pub gone_load : LoadRows
gone_load = plain_load pass_tables (returning ∷ handing_on ∷ [])
    (load_of (codes "b") 0 [] ∷ load_of (codes "a") 1 (1 ∷ []) ∷ [])
    (client (codes "x") (command.Let 0 0 [] ∷ command.Kill 2 ∷ command.Call 2 0 (given.Name 0 ∷ []) (1 ∷ []) ∷ command.Show 1 ∷ []) ∷ [])

abbrev pub gone_history : List Entry
gone_history =
    entry.New 1 (owner.Client 1) 1 0 []
    ∷ entry.Kill 1 2
    ∷ entry.Refuse 1 1 code.Gone 2 0 (arg.Moved 1 ∷ [])
    ∷ entry.Skip 1 4
    ∷ entry.Done 1
    ∷ []

-- where it ends: no name is bound and no object is left
abbrev pub gone_end : State
gone_end = record (start gone_load) {
  instances = instance_of 1 true ∷ instance_of 2 false ∷ [];
  threads = record (thread 9999 4 (None ∷ None ∷ [])) { done = true } ∷ [];
  next_object = 2;
  next_call = 2;
}

abbrev pub IsGoneAndSkipped : Type 0
IsGoneAndSkipped = IsWorked gone_load gone_history gone_end
    (codes "history"
    ∷ codes "c1 new c1 o1 P"
    ∷ codes "c1 kill i2"
    ∷ codes "c1 refuse 1 gone a p o1"
    ∷ codes "c1 skip 4"
    ∷ codes "c1 done"
    ∷ codes "replies"
    ∷ codes "c1 3 error 1"
    ∷ codes "c1 4 skipped"
    ∷ codes "report"
    ∷ codes "c1 made 1 received 0 passed 0 freed 1"
    ∷ [])
