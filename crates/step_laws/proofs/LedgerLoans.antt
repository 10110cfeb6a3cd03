-- The loans of the ledger behind each row.
use Rattle.std.proofs.Common.{◌≡◌, ℕ, ◌+◌, ◌<◌, ◌≤◌, List, [], ◌∷◌, length, ap, ◌∙◌, arith}
use Rattle.rl_defs.specs.declared.load.LoadRows.{LoadRows}
use Rattle.machine_defs.specs.declared.values.Owner.TheVariants as owner
use Rattle.machine_defs.specs.declared.entry.Entry.{Entry}
use Rattle.machine_defs.specs.declared.entry.Entry.TheVariants as entry
use Rattle.machine_defs.specs.Loans.{count}
use Rattle.machine_defs.specs.Arguments.{lent_of}
use Rattle.machine_laws.specs.Ledger.{LedgerFrame, Ledger, at, lent_in, loans_in, loans}
use Rattle.machine_laws.specs.LedgerRows.{Row, Runs, callee}
use Rattle.machine_laws.proofs.Sums.{sum_at}

-- the loans of an object behind an entry, as those of a state
abbrev pub LoansFall : LoadRows → Ledger → ℕ → Ledger → ℕ → Type 0
LoansFall L s t z o = (f : LedgerFrame) (fs : List LedgerFrame) → s.stack t ≡ f ∷ fs → loans L z o + count o f.lent ≡ loans L s o

abbrev pub LoansFollow : LoadRows → Ledger → Entry → Ledger → ℕ → Type 0
LoansFollow L s (entry.Call t c x i m args) z o = loans L z o ≡ loans L s o + count o (lent_of args)
LoansFollow L s (entry.Ret t c results) z o = LoansFall L s t z o
LoansFollow L s (entry.Unwound t c) z o = LoansFall L s t z o
LoansFollow L s _ z o = loans L z o ≡ loans L s o

module _ (L : LoadRows) (s : Ledger) (o : ℕ) where
  -- one stack alone changes
  pub loans_at : (t : ℕ) (old new : List LedgerFrame) → 0 < t → t ≤ length L.clients → s.stack t ≡ old → loans_in (length L.clients) (at t new s.stack) o + lent_in o old ≡ loans L s o + lent_in o new
  loans_at t old new pos le is =
      let e = sum_at (lent_in o) s.stack t new (length L.clients) pos le in
      let same : lent_in o (s.stack t) ≡ lent_in o old = ap (lent_in o) is in
      omega (arith, e, same)

  -- the top frame has other objects of its own, and the same loans
  even : (t : ℕ) (f : LedgerFrame) (fs : List LedgerFrame) (own : List ℕ) → Runs L s t f fs → loans_in (length L.clients) (at t (record f { own = own } ∷ fs) s.stack) o ≡ loans L s o
  even t f fs own runs = let e = loans_at t (f ∷ fs) (record f { own = own } ∷ fs) runs.some runs.within runs.stack in omega (arith, e)

  -- the top frame ends
  fall : (t : ℕ) (f g : LedgerFrame) (fs : List LedgerFrame) (own : List ℕ) → 0 < t → t ≤ length L.clients → s.stack t ≡ f ∷ (g ∷ fs) → (h : LedgerFrame) (hs : List LedgerFrame) → s.stack t ≡ h ∷ hs
      → loans_in (length L.clients) (at t (record g { own = own } ∷ fs) s.stack) o + count o h.lent ≡ loans L s o
  fall t f g fs own pos le is h hs is' =
      let e = loans_at t (f ∷ (g ∷ fs)) (record g { own = own } ∷ fs) pos le is in
      let same : f ≡ h = cc in
      let lent : count o f.lent ≡ count o h.lent = ap (λ (k : LedgerFrame). count o k.lent) same in
      omega (arith, e, lent)

  pub loans_row : (e : Entry) (z : Ledger) → Row L s e z → LoansFollow L s e z o
  loans_row (entry.Call t c x i m args) z r =
      let runs = r.3.runs in
      let e = loans_at t (r.0 ∷ r.1) (callee c x i m args ∷ (record r.0 { own = r.2 } ∷ r.1)) runs.some runs.within runs.stack in
      let same : loans L z o ≡ loans_in (length L.clients) (at t (callee c x i m args ∷ (record r.0 { own = r.2 } ∷ r.1)) s.stack) o = ap (λ (y : Ledger). loans L y o) r.4 in
      omega (arith, e, same)
  loans_row (entry.Refuse t c why x m args) z r = ap (λ (y : Ledger). loans L y o) r.7 ∙ even t r.0 r.1 r.2 r.3
  loans_row (entry.Ret t c results) z r = λ h hs is. ap (λ (y : Ledger). loans L y o + count o h.lent) r.8 ∙ fall t r.0 r.1 r.2 r.3 r.4.some r.4.within r.4.stack h hs is
  loans_row (entry.Unwound t c) z r = λ h hs is. ap (λ (y : Ledger). loans L y o + count o h.lent) r.8 ∙ fall t r.0 r.1 r.2 r.3 r.4.some r.4.within r.4.stack h hs is
  loans_row (entry.Reload t x i left) z r = ap (λ (y : Ledger). loans L y o) r.9
  loans_row (entry.Again t c x i) z r =
      let dead = r.2 in
      let new : List LedgerFrame = record r.0 { party = owner.Instance i; own = [] } ∷ r.1 in
      let e = loans_at t (r.0 ∷ r.1) new dead.some dead.within dead.stack in
      let same : loans L z o ≡ loans_in (length L.clients) (at t new s.stack) o = ap (λ (y : Ledger). loans L y o) r.8 in
      omega (arith, e, same)
  loans_row (entry.Trap t i cause) z r = ap (λ (y : Ledger). loans L y o) r.4
  loans_row (entry.Kill t i) z r = ap (λ (y : Ledger). loans L y o) r.4
  loans_row (entry.New t w q ty values) z r = ap (λ (y : Ledger). loans L y o) r.7 ∙ even t r.0 r.1 r.2 r.3
  loans_row (entry.Drop t q) z r = ap (λ (y : Ledger). loans L y o) r.5 ∙ even t r.0 r.1 r.2 r.3
  loans_row (entry.Set t q place values) z r = ap (λ (y : Ledger). loans L y o) r.6 ∙ even t r.0 r.1 r.2 r.3
  loans_row (entry.Wput t i place value) z r = ap (λ (y : Ledger). loans L y o) r.6 ∙ even t r.0 r.1 r.2 r.3
  loans_row (entry.Take t i slot q) z r = ap (λ (y : Ledger). loans L y o) r.9 ∙ even t r.1 r.2 r.3 r.4
  loans_row (entry.Put t i slot q) z r = ap (λ (y : Ledger). loans L y o) r.9 ∙ even t r.1 r.2 r.3 r.4
  loans_row (entry.DevGet t q b) z r = ap (λ (y : Ledger). loans L y o) r.6 ∙ even t r.0 r.1 r.2 r.3
  loans_row (entry.DevPut t b q) z r = ap (λ (y : Ledger). loans L y o) r.6 ∙ even t r.0 r.1 r.2 r.3
  loans_row (entry.Hang t q k v) z r = ap (λ (y : Ledger). loans L y o) r.8 ∙ even t r.0 r.1 r.2 r.3
  loans_row (entry.Unhang t q k v) z r = ap (λ (y : Ledger). loans L y o) r.7 ∙ even t r.0 r.1 r.2 r.3
  loans_row (entry.Show t q values) z r = ap (λ (y : Ledger). loans L y o) r.4
  loans_row (entry.Skip t number) z r = ap (λ (y : Ledger). loans L y o) r.2
  loans_row (entry.Done t) z r = ap (λ (y : Ledger). loans L y o) r.2
  loans_row (entry.Free q) z r = absurd r
