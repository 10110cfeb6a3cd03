-- A row from a state of a run is a row of its ledger; and an object that it leaves is doomed where the ledger says so.
use Rattle.std.proofs.Common.{◌≡◌, ℕ, zero, suc, ◌<◌, ◌≤◌, ◌==◌, true, List, [], ◌∷◌, length, find, Some, slice_get, ap, arith}
use Rattle.std.proofs.lemmas.Bool.{eq-eqb, ne_eqb}
use Rattle.rl_defs.specs.declared.load.LoadRows.{LoadRows}
use Rattle.rl_defs.specs.Valid.{Valid}
use Rattle.machine_defs.specs.declared.entry.Entry.{Entry}
use Rattle.machine_defs.specs.State.{State, Object}
use Rattle.machine_defs.specs.Calling.{is_enabled}
use Rattle.machine_defs.specs.Entries.{thread_of}
use Rattle.machine_defs.specs.History.{turns_of}
use Rattle.machine_defs.specs.Runs.{Run}
use Rattle.machine_defs.specs.Steps.{Row as RowOf}
use Rattle.machine_laws.specs.LedgerOf.{ledger_of}
use Rattle.machine_laws.specs.LedgerRows.{Row}
use Rattle.machine_laws.specs.LedgerSound.{Owned}
use Rattle.machine_laws.specs.Shape.{Laid, Rises}
use Rattle.machine_laws.proofs.EachRun.{holds_run}
use Rattle.machine_laws.proofs.FewKept.{few_row}
use Rattle.machine_laws.proofs.LaidRows.{laid_row}
use Rattle.machine_laws.proofs.LedgerRuns.{ledger_kept}
use Rattle.machine_laws.proofs.PlansOf.{plan_of}
use Rattle.machine_laws.proofs.ScriptSteps.{client_facts}
use Rattle.machine_laws.proofs.StepRows.{step_row}

-- a state of a run, and what a row makes of it, by their ledgers
pub record IsMade (L : LoadRows) (s : State) (e : Entry) (made : State) : Type 0 where
  pub laid : Laid L s
  pub owned : Owned L (ledger_of L s)
  pub behind : Laid L made
  pub row : Row L (ledger_of L s) e (ledger_of L made)
  pub few : length made.objects ≤ 65536

pub made_row : (L : LoadRows) (H : List Entry) (s made : State) (e : Entry) → Valid L → Run L H s → is_enabled L s (thread_of e) ≡ true → RowOf L s e made → IsMade L s e made
made_row L H s made e valid run enabled makes =
    let holds = holds_run L valid valid.tables H s run in
    let kept = (ledger_kept L (turns_of H) (ledger_of L s) (plan_of L valid) holds.run).0 in
    let facts = client_facts L s valid holds.laid holds.fits holds.at kept.owned in
    record {
      laid = holds.laid;
      owned = kept.owned;
      behind = laid_row L s e made holds.laid makes;
      row = step_row L s valid valid.tables holds.laid kept.owned holds.fits facts e made enabled makes;
      few = few_row L s valid valid.tables holds.laid holds.fits e made makes holds.few;
    }

-- each object of the list is the one of its number
abbrev pub IsEach : List Object → Type 0
IsEach xs = (k : ℕ) (x : Object) → slice_get xs k ≡ Some x → find (λ (y : Object). y.number == x.number) xs ≡ Some x

rises_above : (n next k : ℕ) (xs : List Object) (x : Object) → Rises n next xs → slice_get xs k ≡ Some x → n < x.number
rises_above n next k [] x rises is = absurd cc
rises_above n next zero (y ∷ xs) x rises is = let same : y ≡ x = cc in let number : y.number ≡ x.number = ap (λ (z : Object). z.number) same in let a = rises.0 in omega (arith, a, number)
rises_above n next (suc k) (y ∷ xs) x rises is = let deeper = rises_above y.number next k xs x rises.2 is in let a = rises.0 in omega (arith, a, deeper)

pub each_found : (n next : ℕ) (xs : List Object) → Rises n next xs → IsEach xs
each_found n next [] rises k x is = absurd cc
each_found n next (y ∷ xs) rises zero x is = let same : y ≡ x = cc in rw (eq-eqb y.number x.number (ap (λ (z : Object). z.number) same)) (ap Some same)
each_found n next (y ∷ xs) rises (suc k) x is =
    let over = rises_above y.number next k xs x rises.2 is in
    rw (ne_eqb y.number x.number (λ e. omega (arith, e, over))) (each_found y.number next xs rises.2 k x is)
