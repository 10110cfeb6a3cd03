-- What every step keeps holds of every ledger that turns lead to, and each of the turns shows every law.
use Rattle.std.proofs.Common.{◌≡◌, ℕ, ◌<◌, ◌≤◌, true, List, [], ◌∷◌, length}
use Rattle.rl_defs.specs.declared.load.LoadRows.{LoadRows}
use Rattle.machine_defs.specs.State.{start}
use Rattle.machine_defs.specs.Steps.{Turn}
use Rattle.machine_defs.specs.History.{Always}
use Rattle.machine_defs.specs.Answered.{Answered}
use Rattle.machine_laws.proofs.CountedCalls.{times_opened, times_closed}
use Rattle.machine_defs.specs.OwnedOnce.{OwnedOnce}
use Rattle.machine_defs.specs.Caused.{Caused}
use Rattle.machine_defs.specs.Untouched.{Untouched}
use Rattle.machine_laws.specs.Ledger.{Ledger}
use Rattle.machine_laws.specs.LedgerOf.{ledger_of}
use Rattle.machine_laws.specs.LedgerRows.{LedgerStep}
use Rattle.machine_laws.specs.LedgerSound.{IsPlan}
use Rattle.machine_laws.proofs.CountedCalls.{closed_once}
use Rattle.machine_laws.proofs.KeptSteps.{Kept, Shows, kept_step}
use Rattle.machine_laws.proofs.StartKept.{start_kept}

-- turns, the newest first, that lead from the ledger of the start to this one
abbrev pub LedgerRun : LoadRows → List Turn → Ledger → Type 0
LedgerRun L [] k = k ≡ ledger_of L (start L)
LedgerRun L (u ∷ us) k = (s : Ledger) × LedgerRun L us s × LedgerStep L s u.entry u.frees k

pub ledger_kept : (L : LoadRows) (us : List Turn) (k : Ledger) → IsPlan L → LedgerRun L us k → Kept L us k × Always (Shows L) us
ledger_kept L [] k plan run = (rw run (start_kept L plan), tt)
ledger_kept L (u ∷ us) k plan run =
    let before = ledger_kept L us run.0 plan run.1 in
    let step = kept_step L us run.0 u k plan before.0 run.2 in
    (step.0, (step.1, before.1))

pub always_weaker : (Claim Weaker : List Turn → Turn → Type 0) → ((us : List Turn) (u : Turn) → Claim us u → Weaker us u) → (us : List Turn) → Always Claim us → Always Weaker us
always_weaker Claim Weaker weaker [] a = tt
always_weaker Claim Weaker weaker (u ∷ us) a = (weaker us u a.0, always_weaker Claim Weaker weaker us a.1)

module _ (L : LoadRows) (us : List Turn) (k : Ledger) (plan : IsPlan L) (run : LedgerRun L us k) where
  pub run_answered : Always (λ before u. Answered L before u.entry) us
  run_answered = always_weaker (Shows L) (λ before u. Answered L before u.entry) (λ before u x. x.answers) us (ledger_kept L us k plan run).1

  pub run_owned_once : Always (OwnedOnce L) us
  run_owned_once = always_weaker (Shows L) (OwnedOnce L) (λ before u x. x.owners) us (ledger_kept L us k plan run).1

  pub run_caused : Always (Caused L) us
  run_caused = always_weaker (Shows L) (Caused L) (λ before u x. x.causes) us (ledger_kept L us k plan run).1

  pub run_untouched : Always (λ before u. Untouched before u.entry) us
  run_untouched = always_weaker (Shows L) (λ before u. Untouched before u.entry) (λ before u x. x.contents) us (ledger_kept L us k plan run).1

  -- where every client is done, each call that was opened was closed, once
  pub run_closed_once : ((t : ℕ) → 0 < t → t ≤ length L.clients → k.done t ≡ true) → (c : ℕ) → (times_closed c us ≡ times_opened c us) × (times_closed c us ≤ 1)
  run_closed_once all_done = closed_once L us k (ledger_kept L us k plan run).0.counted all_done
