-- Not all clients wait: who waits does so for a serial instance of an ever lower rank, so one of them does not wait.
use Rattle.std.proofs.Common.{◌≡◌, ℕ, zero, suc, ◌<◌, ◌≤◌, true, List, [], ◌∷◌, Option, Some, None, refl, sym, arith, inl, inr, length}
use Rattle.std.proofs.lemmas.Bool.{cases_Bool}
use Rattle.machine_defs.specs.declared.values.Owner.TheVariants as owner
use Rattle.rl_defs.specs.declared.load.LoadRows.{LoadRows}
use Rattle.rl_defs.specs.Domains.{is_serial}
use Rattle.machine_defs.specs.Report.{same_owner}
use Rattle.machine_laws.specs.Ledger.{LedgerFrame, Ledger}
use Rattle.machine_laws.specs.LedgerRows.{enters, IsBelow}
use Rattle.machine_laws.proofs.Owners.{same_is}
use Rattle.machine_laws.proofs.Ranks.{is_entered, frame_entered}

-- Each client that waits, waits for a live serial instance whose rank is below those of its own frames, and in which some client has a frame.
module _ (L : LoadRows) (s : Ledger) (waits : ℕ → Option ℕ)
    (lives : (t i : ℕ) → waits t ≡ Some i → (s.live i ≡ true) × (is_serial L (s.loads i) ≡ true))
    (ranks : (t i : ℕ) → waits t ≡ Some i → IsBelow L s (s.loads i) (s.stack t))
    (holder : (t i : ℕ) → waits t ≡ Some i → (u : ℕ) × (0 < u) × (u ≤ length L.clients) × enters i (s.stack u)) where
  below_entered : (rank i : ℕ) (fs : List LedgerFrame) → IsBelow L s rank fs → is_entered i fs ≡ true → s.live i ≡ true → is_serial L (s.loads i) ≡ true → rank < s.loads i
  below_entered rank i [] b e live serial = absurd cc
  below_entered rank i (f ∷ fs) b e live serial = elim (cases_Bool (same_owner (owner.Instance i) f.party)) [
    | inl is ↦ b.0 i (sym (same_is (owner.Instance i) f.party is)) live serial
    | inr is ↦ below_entered rank i fs b.1 (rw is at e) live serial
  ]

  pub some_moves : (rank t i : ℕ) → waits t ≡ Some i → s.loads i < rank → (u : ℕ) × (0 < u) × (u ≤ length L.clients) × (waits u ≡ None)
  some_moves zero t i is lt = absurd (omega arith)
  some_moves (suc rank) t i is lt = go (some_moves rank) (waits h.0) refl
    where
      h : (u : ℕ) × (0 < u) × (u ≤ length L.clients) × enters i (s.stack u)
      h = holder t i is

      go : ((t i : ℕ) → waits t ≡ Some i → s.loads i < rank → (u : ℕ) × (0 < u) × (u ≤ length L.clients) × (waits u ≡ None)) → (w : Option ℕ) → waits h.0 ≡ w → (u : ℕ) × (0 < u) × (u ≤ length L.clients) × (waits u ≡ None)
      go deeper None e = (h.0, h.1, h.2, e)
      go deeper (Some j) e =
          let l = lives t i is in
          deeper h.0 j e (let less = below_entered (s.loads j) i (s.stack h.0) (ranks h.0 j e) (frame_entered i (s.stack h.0) h.3) l.0 l.1 in omega arith)
