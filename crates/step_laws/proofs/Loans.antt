-- The loans of a state behind each row.
use Rattle.std.proofs.Common.{◌≡◌, ℕ, sym, ◌∙◌, arith}
use Rattle.rl_defs.specs.declared.load.LoadRows.{LoadRows}
use Rattle.machine_defs.specs.declared.entry.Entry.{Entry}
use Rattle.machine_defs.specs.declared.entry.Entry.TheVariants as entry
use Rattle.machine_defs.specs.State.{State}
use Rattle.machine_defs.specs.Loans.{loans}
use Rattle.machine_laws.specs.Ledger.{loans as ledger_loans}
use Rattle.machine_laws.specs.LedgerOf.{ledger_of, frame_entry}
use Rattle.machine_laws.proofs.Stacks.{loans_same}
use Rattle.machine_laws.proofs.Tops.{under, entries_top}
use Rattle.step_laws.specs.StepLaws.{LoansFollow, LoansFall, LoansOfSteps}
use Rattle.step_laws.proofs.LedgerLoans.{loans_row, LoansFollow as LedgerFollow, LoansFall as LedgerFall}
use Rattle.step_laws.proofs.MadeRows.{IsMade, made_row}

module _ (L : LoadRows) (s made : State) (o : ℕ) (before : ledger_loans L (ledger_of L s) o ≡ loans s o) (behind : ledger_loans L (ledger_of L made) o ≡ loans made o) where
  fall : (t : ℕ) → LedgerFall L (ledger_of L s) t (ledger_of L made) o → LoansFall s t made o
  fall t f g on_top = let e = f (frame_entry g) (under s t) (entries_top s t g on_top) in omega (arith, e, before, behind)

  pub told : (e : Entry) → LedgerFollow L (ledger_of L s) e (ledger_of L made) o → LoansFollow s e made o
  told (entry.Call t c x i m args) f = omega (arith, f, before, behind)
  told (entry.Ret t c results) f = fall t f
  told (entry.Unwound t c) f = fall t f
  told other f = sym behind ∙ (f ∙ before)

pub follow : (L : LoadRows) (s made : State) (e : Entry) → IsMade L s e made → (o : ℕ) → LoansFollow s e made o
follow L s made e m o = told L s made o (loans_same L s o m.laid) (loans_same L made o m.behind) e (loans_row L (ledger_of L s) o e (ledger_of L made) m.row)

pub loans_follow : LoansOfSteps
loans_follow L H s made e valid run enabled row o = follow L s made e (made_row L H s made e valid run enabled row) o
