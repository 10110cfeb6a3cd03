-- Why no run makes these entries.
use Rattle.std.proofs.Common.{◌≡◌, arith, List, [], ◌∷◌, refl, sym, ap, ◌∙◌, inl}
use Rattle.std.proofs.lemmas.Bool.{false≢true}
use Rattle.std.proofs.lemmas.Option.{same_Some}
use Rattle.machine_defs.specs.declared.entry.Entry.TheVariants as entry
use Rattle.machine_defs.specs.declared.values.Owner.TheVariants as owner
use Rattle.machine_defs.specs.State.{State, StackFrame, Shadow, start, with_thread}
use Rattle.machine_defs.specs.Seen.{ended}
use Rattle.machine_defs.specs.Calling.{is_reissuable}
use Rattle.machine_defs.specs.CallRows.{Unwinds, IssuesAgain, Reloads, call_entered, reloaded}
use Rattle.machine_defs.specs.Steps.{Turn, Step}
use Rattle.worked_runs.specs.Parts.{thread, frame_at, quiet, freeing}
use Rattle.worked_runs.specs.KilledInARead.{killed_in_a_read}
use Rattle.worked_runs.specs.EndedCaller.{ended_caller}
use Rattle.worked_runs.specs.LentWhileKilled.{lent_load, lent_up_to_kill, lent_before_last}
use Rattle.worked_runs.specs.Wrong.{issued_once, IsIssuedOnce, IsInnermostFirst, IsReloadCounted, IsKeptWhileLent, IsFreedWithTheLast}
use Rattle.worked_runs.proofs.ToldTurns.{LeadsOnly, OneWay, at_start, then_only, goes_nowhere, still_nowhere, frees_only, nil-cons, is_wrong}
use Rattle.worked_runs.proofs.Rows as rows
use Rattle.worked_runs.proofs.Determined.{same_call, same_kill, same_new, same_reload, same_return}
use Rattle.worked_runs.proofs.EndedCaller.{killed, inner, call, call_inner, kill}
use Rattle.worked_runs.proofs.LentWhileKilled as loan

-- A driver whose methods may be issued once only: up to the reload it is a run,
abbrev pub size_frame : StackFrame
size_frame = frame_at 1 2 1 0 [] 2 []

abbrev pub x_called : State
x_called = call_entered 1 1 1 [] size_frame (with_thread (start issued_once) 1 (thread 9999 0 []))

x_calls : Step issued_once (start issued_once) (quiet (entry.Call 1 1 2 1 0 [])) x_called
x_calls = rows.enters (with_thread (start issued_once) 1 (thread 9999 0 [])) 2 refl refl refl refl refl refl refl refl refl refl refl

abbrev pub y_killed : State
y_killed = ended 1 (with_thread x_called 2 (thread 9999 1 []))

y_kills : Step issued_once x_called (quiet (entry.Kill 2 1)) y_killed
y_kills = rows.kills (thread 0 0 []) 2 refl refl refl refl refl refl refl

abbrev pub y_loaded : State
y_loaded = reloaded issued_once 2 2 0 y_killed

y_reloads : Step issued_once y_killed (quiet (entry.Reload 2 2 2 0)) y_loaded
y_reloads = rows.quietly refl
    (record { shadow = record { current = 1; left = 1 }; of = refl; dead = refl; restarts = refl; needed = inl (record { wished = _; wants = refl; target = refl; unrefused = refl }); number = refl; becomes = refl })
    refl refl

y_loads_only : LeadsOnly issued_once (quiet (entry.Reload 2 2 2 0) ∷ quiet (entry.Kill 2 1) ∷ quiet (entry.Call 1 1 2 1 0 []) ∷ []) y_loaded
y_loads_only = then_only (then_only (then_only at_start x_calls (λ y z. same_call refl)) y_kills (λ y z. same_kill)) y_reloads (λ y z. same_reload)

-- and there the frame of the call is dead, and its call may not be issued again.
no_again : (z : State) → IssuesAgain issued_once y_loaded 1 1 2 2 z → ⊥
no_again z again =
    let on_top : size_frame ≡ again.dead = same_Some size_frame again.dead again.of.on_top in
    false≢true (ap (λ f. is_reissuable issued_once f) on_top ∙ again.reissuable)

pub issued_once_only : IsIssuedOnce
issued_once_only = is_wrong (entry.Call 1 1 2 1 0 [] ∷ entry.Kill 2 1 ∷ entry.Reload 2 2 2 0 ∷ []) (entry.Again 1 1 2 2 ∷ [])
    y_loads_only refl refl (goes_nowhere y_loads_only (λ y step. no_again step.made step.makes))

-- A caller that ends while its callee runs, whose frame is on top.
kills_only : LeadsOnly ended_caller (quiet (entry.Kill 2 2) ∷ quiet (entry.Call 1 2 1 1 0 []) ∷ quiet (entry.Call 1 1 2 2 0 []) ∷ []) killed
kills_only = then_only (then_only (then_only at_start call (λ y z. same_call refl)) call_inner (λ y z. same_call refl)) kill (λ y z. same_kill)

no_unwound : (z : State) → Unwinds ended_caller killed 1 1 z → ⊥
no_unwound z unwinds =
    let on_top : inner 2 [] ≡ unwinds.frame = same_Some (inner 2 []) unwinds.frame unwinds.of.on_top in
    let call : 1 ≡ 2 = unwinds.of.call ∙ ap (λ (f : StackFrame). f.call) (sym on_top) in
    omega (arith, call)

pub innermost_first : IsInnermostFirst
innermost_first = is_wrong (entry.Call 1 1 2 2 0 [] ∷ entry.Call 1 2 1 1 0 [] ∷ entry.Kill 2 2 ∷ []) (entry.Unwound 1 1 ∷ [])
    kills_only refl refl (goes_nowhere kills_only (λ y step. no_unwound step.made step.makes))

-- A driver that was killed with one restart left.
abbrev pub driver_killed : State
driver_killed = ended 1 (with_thread (start killed_in_a_read) 2 (thread 9999 1 []))

kills_driver : Step killed_in_a_read (start killed_in_a_read) (quiet (entry.Kill 2 1)) driver_killed
kills_driver = rows.kills (thread 0 0 []) 2 refl refl refl refl refl refl refl

driver_killed_only : LeadsOnly killed_in_a_read (quiet (entry.Kill 2 1) ∷ []) driver_killed
driver_killed_only = then_only at_start kills_driver (λ y z. same_kill)

no_reload : (z : State) → Reloads killed_in_a_read driver_killed 1 2 2 1 z → ⊥
no_reload z reloads =
    let same : 1 ≡ reloads.shadow.left = ap (λ (x : Shadow). x.left) (same_Some (record { current = 1; left = 1 }) reloads.shadow reloads.of) in
    omega (arith, same, reloads.restarts)

pub reload_counted : IsReloadCounted
reload_counted = is_wrong (entry.Kill 2 1 ∷ []) (entry.Reload 1 2 2 1 ∷ [])
    driver_killed_only refl refl (goes_nowhere driver_killed_only (λ y step. no_reload step.made step.makes))

-- An object is lent when its owner is killed, and nothing is freed behind the kill.
abbrev to_lent : List Turn
to_lent = quiet (entry.Call 1 2 2 2 0 loan.its_loan) ∷ quiet (entry.New 1 (owner.Instance 3) 1 0 []) ∷ quiet (entry.Call 1 1 3 3 0 []) ∷ []

lent_only : LeadsOnly lent_load to_lent loan.lent
lent_only = then_only (then_only (then_only at_start loan.calls (λ y z. same_call refl)) loan.makes (λ y z. same_new refl)) loan.lends (λ y z. same_call refl)

abbrev to_killed : List Turn
to_killed = quiet (entry.Kill 2 3) ∷ to_lent

owner_killed_only : LeadsOnly lent_load to_killed loan.killed
owner_killed_only = then_only lent_only loan.kills (λ y z. same_kill)

none_freed : (y : State) → Step lent_load loan.lent (freeing (entry.Kill 2 3) (1 ∷ [])) y → ⊥
none_freed y step = nil-cons 1 [] (sym (frees_only (λ y z. same_kill) loan.kills (1 ∷ []) step))

pub kept_while_lent : IsKeptWhileLent
kept_while_lent = is_wrong lent_up_to_kill (entry.Free 1 ∷ []) owner_killed_only refl refl (goes_nowhere lent_only none_freed)

-- The return that ends its last loan frees it.
abbrev to_read : List Turn
to_read = quiet (entry.Ret 1 3 loan.zero_back) ∷ quiet (entry.Call 1 3 1 1 0 loan.its_loan) ∷ to_killed

read_only : LeadsOnly lent_load to_read loan.read
read_only = then_only (then_only owner_killed_only loan.lends_on (λ y z. same_call refl)) loan.reads (λ y z a b. same_return a refl b)

last_one_way : OneWay lent_load loan.read (quiet (entry.Ret 1 2 loan.zero_back))
last_one_way y z a b = same_return a refl b

one_freed : (y : State) → Step lent_load loan.read (quiet (entry.Ret 1 2 loan.zero_back)) y → ⊥
one_freed y step = nil-cons 1 [] (frees_only last_one_way loan.frees [] step)

pub freed_with_the_last : IsFreedWithTheLast
freed_with_the_last = is_wrong lent_before_last (entry.Ret 1 2 loan.zero_back ∷ entry.Done 2 ∷ [])
    read_only refl refl (still_nowhere (goes_nowhere read_only one_freed))
