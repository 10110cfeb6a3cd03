-- The laws of every run of every valid load.
use Rattle.std.proofs.Common.{◌≡◌, ℕ, ◌≤◌, true, List, arith}
use Rattle.machine_defs.specs.declared.entry.Entry.{Entry}
use Rattle.rl_defs.specs.declared.load.LoadRows.{LoadRows}
use Rattle.rl_defs.specs.Valid.{Valid}
use Rattle.machine_defs.specs.Runs.{AllDone}
use Rattle.machine_defs.specs.State.{State}
use Rattle.machine_laws.proofs.CountedCalls.{times_opened, times_closed}
use Rattle.machine_defs.specs.Calling.{is_enabled}
use Rattle.machine_defs.specs.Runs.{Run}
use Rattle.machine_defs.specs.History.{turns_of, ends}
use Rattle.machine_defs.specs.Sound.{Sound}
use Rattle.machine_defs.specs.Steps.{Turn, Step}
use Rattle.machine_defs.specs.Laws.{TellsLaws, HistoriesTellLaws, StatesAreSound, CallsCloseOnce, SomeThreadIsEnabled, EnabledThreadsStep, EndsAlone, EndsLeaveAlone}
use Rattle.machine_laws.specs.LedgerOf.{ledger_of}
use Rattle.machine_laws.specs.LedgerSound.{IsPlan}
use Rattle.machine_laws.proofs.PlansOf.{plan_of}
use Rattle.machine_laws.proofs.KeptSteps.{Kept}
use Rattle.machine_laws.proofs.LedgerRuns.{ledger_kept, run_answered, run_owned_once, run_caused, run_untouched, run_closed_once}
use Rattle.machine_laws.proofs.Told.{contents_told, ledger_done}
use Rattle.machine_laws.proofs.SoundOwners.{held_once, hung_alone}
use Rattle.machine_laws.proofs.SoundLoans.{loans_stand}
use Rattle.machine_laws.proofs.SoundFrames.{frames_placed}
use Rattle.machine_laws.proofs.SoundKinds.{kinds_fit, laid_out, numbers_fit, sizes_fit}
use Rattle.machine_laws.proofs.EndsAlone.{ends_alone}
use Rattle.machine_laws.proofs.SomeMoves.{some_enabled}
use Rattle.machine_laws.proofs.HasStep.{has_step}
use Rattle.machine_laws.proofs.ScriptSteps.{client_facts}
use Rattle.machine_defs.specs.Entries.{thread_of}
use Rattle.machine_laws.proofs.Holds.{Holds}
use Rattle.machine_laws.proofs.EachRun.{holds_run}

module _ (L : LoadRows) (H : List Entry) (s : State) (valid : Valid L) (run : Run L H s) where
  plan : IsPlan L
  plan = plan_of L valid

  holds : Holds L (turns_of H) s
  holds = holds_run L valid valid.tables H s run

  kept : Kept L (turns_of H) (ledger_of L s)
  kept = (ledger_kept L (turns_of H) (ledger_of L s) plan holds.run).0

  tells : TellsLaws L H s
  tells = record {
    answered = run_answered L (turns_of H) (ledger_of L s) plan holds.run;
    owned = run_owned_once L (turns_of H) (ledger_of L s) plan holds.run;
    caused = run_caused L (turns_of H) (ledger_of L s) plan holds.run;
    untouched = run_untouched L (turns_of H) (ledger_of L s) plan holds.run;
    contents = contents_told L (turns_of H) s kept.contents;
  }

  sound : Sound L s
  sound = record {
    laid = laid_out L (turns_of H) s holds.laid kept;
    held = held_once L (turns_of H) s holds.laid kept;
    hung = hung_alone L (turns_of H) s holds.laid kept holds.fits;
    lent = loans_stand L (turns_of H) s holds.laid kept holds.fits;
    frames = frames_placed L (turns_of H) s holds.laid kept;
    kinds = kinds_fit L s holds.fits holds.held;
    shadows = holds.shadows;
    numbers = numbers_fit L (turns_of H) s holds.laid kept holds.fits holds.few;
    sizes = sizes_fit L s holds.fits;
  }

  closed : AllDone s → (c : ℕ) → (times_closed c (turns_of H) ≡ times_opened c (turns_of H)) × (times_closed c (turns_of H) ≤ 1)
  closed done = run_closed_once L (turns_of H) (ledger_of L s) plan holds.run (ledger_done L s holds.laid done)

  enabled : (AllDone s → ⊥) → (t : ℕ) × (is_enabled L s t ≡ true)
  enabled undone = some_enabled L (turns_of H) s valid valid.tables holds.laid kept holds.fits undone

  step : (t : ℕ) → is_enabled L s t ≡ true → (turn : Turn) × (z : State) × Step L s turn z × (thread_of turn.entry ≡ t)
  step t enabled = has_step L s valid valid.tables holds.laid kept.owned holds.fits (client_facts L s valid holds.laid holds.fits holds.at kept.owned) t enabled

  alone : (z : State) (u : Turn) (i : ℕ) → Step L s u z → ends i u.entry ≡ true → EndsAlone s u i z
  alone z u i step over = ends_alone L s z u i holds.laid kept.owned step over

pub histories_tell_laws : HistoriesTellLaws
histories_tell_laws L H s valid run = tells L H s valid run

pub states_are_sound : StatesAreSound
states_are_sound L H s valid run = sound L H s valid run

pub calls_close_once : CallsCloseOnce
calls_close_once L H s valid whole c = let once = closed L H s valid whole.run whole.done c in (once.0, (let same = once.0 in let le = once.1 in omega (arith, same, le)))

pub some_thread_is_enabled : SomeThreadIsEnabled
some_thread_is_enabled L H s valid run undone = enabled L H s valid run undone

pub enabled_threads_step : EnabledThreadsStep
enabled_threads_step L H s valid run t is_enabled' = step L H s valid run t is_enabled'

pub ends_leave_alone : EndsLeaveAlone
ends_leave_alone L H s z u i valid run step ends = alone L H s valid run z u i step ends
