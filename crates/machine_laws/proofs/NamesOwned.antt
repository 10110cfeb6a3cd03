-- What script names hold is a root of their client, and is there.
use Rattle.std.proofs.Common.{◌≡◌, ℕ, ◌+◌, ◌<◌, ◌≤◌, cond, [], ◌∷◌, length, Option, Some, None, refl, ap, sym, ◌∙◌, arith, inl, inr}
use Rattle.std.proofs.lemmas.Bool.{cases_Bool}
use Rattle.machine_defs.specs.declared.values.Owner.{Owner}
use Rattle.machine_defs.specs.declared.values.Owner.TheVariants as owner
use Rattle.rl_defs.specs.declared.load.LoadRows.{LoadRows}
use Rattle.machine_defs.specs.State.{State, Thread, Placement, Root, Hung, stack}
use Rattle.rl_defs.specs.Rows.{row}
use Rattle.machine_defs.specs.Loans.{count}
use Rattle.machine_defs.specs.Report.{same_owner}
use Rattle.machine_laws.specs.LedgerOf.{ledger_of}
use Rattle.machine_laws.specs.LedgerSound.{own_in, is_of, Owned}
use Rattle.machine_laws.specs.Shape.{Laid}
use Rattle.machine_laws.proofs.Tops.{bottom, entries, client_within}
use Rattle.machine_laws.proofs.Seats.{seats, IsIn}
use Rattle.machine_laws.proofs.Present.{seated, own_over}
use Rattle.machine_laws.proofs.NameCounts.{objects_of}
use Rattle.machine_laws.proofs.Sums.{sum_least}
use Rattle.machine_laws.proofs.Owners.{same_is, same_self}

module _ (L : LoadRows) (s : State) (laid : Laid L s) (owned : Owned L (ledger_of L s)) (t : ℕ) (thread : Thread) (of : row s.threads t ≡ Some thread) (o : ℕ) (some : 0 < count o (objects_of thread.names)) where
  pub name_root : seats s o ≡ Some (Root (owner.Client t))
  name_root =
      let w = client_within L s t thread laid of in
      let party : Owner = owner.Client t in
      let here : own_in party o (bottom t (Some thread) ∷ []) ≡ count o (objects_of thread.names) + 0 = rw (same_self party) refl in
      let above = own_over party o (stack s t) (bottom t (Some thread) ∷ []) in
      let in_stack : own_in party o (bottom t (Some thread) ∷ []) ≤ own_in party o (entries t (stack s t) (row s.threads t)) = rw of above in
      let in_all = sum_least (λ u. own_in party o ((ledger_of L s).stack u)) (length L.clients) t w.0 w.1 in
      let once = owned.once party o refl in
      go (seats s o) refl (omega (arith, here, in_stack, in_all, once, some))
    where
      go : (p : Option Placement) → seats s o ≡ p → 0 < cond (is_of (owner.Client t) p) 1 0 → seats s o ≡ Some (Root (owner.Client t))
      go None e pos = absurd (omega (arith, pos))
      go (Some (Root v)) e pos = elim (cases_Bool (same_owner (owner.Client t) v)) [
        | inl same ↦ e ∙ ap (λ x. Some (Root x)) (sym (same_is (owner.Client t) v same))
        | inr other ↦ absurd (let z : ◌≡◌ {A = ℕ} (cond (same_owner (owner.Client t) v) 1 0) 0 = rw other refl in omega (arith, pos, z))
      ]
      go (Some (Hung p k)) e pos = absurd (omega (arith, pos))

  pub name_there : IsIn s o
  name_there = seated s o (Root (owner.Client t)) name_root
