-- What a client does next.
use Rattle.std.specs.Prelude.{◌≡◌, ℕ, true, false, Some}
use Rattle.rl_defs.specs.declared.load.Command.{Command}
use Rattle.rl_defs.specs.declared.load.Command.TheVariants as command
use Rattle.machine_defs.specs.declared.frame.Action.TheVariants as action
use Rattle.rl_defs.specs.Rows.{row}
use Rattle.machine_defs.specs.State.{current}
use Rattle.machine_defs.specs.Wants.{Finishes, Skips, Commands, wanted, makes}
use Rattle.machine_defs.specs.Calling.{is_undone, is_enabled, refusal}
use Rattle.code_machine.specs.declared.act.Act.{Act}
use Rattle.code_machine.specs.declared.act.Act.TheVariants as act
use Rattle.code_machine.specs.Act.{action_of}
use Rattle.machine_steps.specs.declared.standing.Standing.{Standing}
use Rattle.machine_steps.specs.declared.next.Next.{Next}
use Rattle.machine_steps.specs.declared.next.Next.TheVariants as next
use Rattle.machine_steps.specs.declared.next.Step.{Step}
use Rattle.machine_steps.specs.declared.next.Step.TheVariants as step
use Rattle.machine_steps.specs.Kept.{Kept}
use Rattle.machine_steps.specs.Calls.{IsNamed, ClientCalls, MayEnter, MayIssueAgain, MayReload}
use Rattle.machine_steps.specs.Acting.{WouldAct}
use Rattle.machine_steps.specs.Returning.{MayUnwind}
use Rattle.machine_steps.specs.Turns.{WaitsFor}

-- an act that isn't a call
abbrev pub IsNoCall : Act → Type 0
IsNoCall (act.Call x m args) = ⊥
IsNoCall _ = Unit {0}

-- a step of client t, whose top frame stands so before it, is what it comes to
abbrev pub IsStep : Kept → ℕ → Standing → Step → Type 0
IsStep w t stand step.Finish = wanted w.load w.state t ≡ Finishes
IsStep w t stand (step.Skip number) = wanted w.load w.state t ≡ Skips number
IsStep w t stand step.Make = (next : Command) × (wanted w.load w.state t ≡ Commands next) × (makes next ≡ true)
IsStep w t stand (step.Show k o) = (wanted w.load w.state t ≡ Commands (command.Show k)) × IsNamed w t k o
IsStep w t stand (step.Drop k o) = (wanted w.load w.state t ≡ Commands (command.Drop k)) × IsNamed w t k o
IsStep w t stand (step.Kill target i) = (wanted w.load w.state t ≡ Commands (command.Kill target)) × (i ≡ current w.load w.state target)
IsStep w t stand (step.Enter call i) = ClientCalls w t call.target call.method call.args × MayEnter w t call.target i
IsStep w t stand (step.Refuse call why) = ClientCalls w t call.target call.method call.args × (refusal w.load w.state t call.target ≡ Some why)
IsStep w t stand (step.FrameEnter j call i) = WouldAct w t j (action.Call call.target call.method call.args) stand × MayEnter w t call.target i
IsStep w t stand (step.FrameRefuse j call why) = WouldAct w t j (action.Call call.target call.method call.args) stand × (refusal w.load w.state t call.target ≡ Some why)
IsStep w t stand (step.Act j what) = WouldAct w t j (action_of what) stand × IsNoCall what
IsStep w t stand (step.Reload x) = MayReload w t x
IsStep w t stand (step.Again c x i) = MayIssueAgain w t c x i
IsStep w t stand (step.Unwind c) = MayUnwind w t c

-- what client t does next
abbrev pub IsNext : Kept → ℕ → Standing → Next → Type 0
IsNext w t stand next.Done = is_undone (row w.state.threads t) ≡ false
IsNext w t stand (next.Wait h) = WaitsFor w t h
IsNext w t stand (next.Go step) = (is_enabled w.load w.state t ≡ true) × IsStep w t stand step
