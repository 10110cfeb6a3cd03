-- What holds of every state of every run, and that each step keeps it.
use Rattle.std.proofs.Common.{◌≡◌, ℕ, ◌≤◌, true, List, [], ◌∷◌, length, sym, subst}
use Rattle.machine_defs.specs.declared.entry.Entry.{Entry}
use Rattle.rl_defs.specs.declared.load.LoadRows.{LoadRows}
use Rattle.machine_defs.specs.State.{State, start}
use Rattle.machine_defs.specs.Loans.{sweep as sweep_state}
use Rattle.machine_defs.specs.Entries.{thread_of}
use Rattle.machine_defs.specs.Calling.{is_enabled}
use Rattle.machine_defs.specs.Steps.{Row as RowOf, Turn, Step}
use Rattle.machine_defs.specs.Runs.{Run, Begins, GoesOn}
use Rattle.machine_defs.specs.History.{turns_of}
use Rattle.machine_defs.proofs.TurnsTold.{turns_told}
use Rattle.machine_defs.specs.Sound.{ShadowsStand}
use Rattle.machine_laws.specs.LedgerOf.{ledger_of}
use Rattle.machine_laws.specs.LedgerRows.{LedgerStep}
use Rattle.machine_laws.specs.LedgerSound.{Owned, Placed, IsPlan}
use Rattle.machine_laws.specs.Shape.{Laid}
use Rattle.machine_laws.specs.Fitting.{Fitting}
use Rattle.machine_laws.specs.AtCall.{AtCall}
use Rattle.machine_laws.proofs.HeldKept.{FewIn}
use Rattle.machine_laws.proofs.Sweeps.{laid_sweep}
use Rattle.machine_laws.proofs.LaidRows.{laid_row}
use Rattle.machine_laws.proofs.StepRows.{ClientFacts, step_ledger}
use Rattle.machine_laws.proofs.ScriptSteps.{client_facts}
use Rattle.machine_laws.proofs.KeptSteps.{Kept, kept_step}
use Rattle.machine_laws.proofs.LedgerRuns.{LedgerRun, ledger_kept}
use Rattle.rl_defs.specs.Valid.{Valid, AreValidTables}

-- All that the laws rest on: the layout of the lists, the run of the ledger, and what fits.
pub record Holds (L : LoadRows) (us : List Turn) (s : State) : Type 0 where
  pub laid : Laid L s
  pub run : LedgerRun L us (ledger_of L s)
  pub fits : Fitting L s
  pub at : (t : ℕ) → AtCall L s t
  pub few : length s.objects ≤ 65536
  pub shadows : ShadowsStand L s
  pub held : FewIn L s

-- a row from a state of which all that holds, and the ledger after it
pub record From (L : LoadRows) (s : State) (e : Entry) (made : State) : Type 0 where
  pub plans : Valid L
  pub tables : AreValidTables L.tables
  pub laid : Laid L s
  pub owned : Owned L (ledger_of L s)
  pub placed : Placed L (ledger_of L s)
  pub fits : Fitting L s
  pub at : (t : ℕ) → AtCall L s t
  pub few : length s.objects ≤ 65536
  pub shadows : ShadowsStand L s
  pub held : FewIn L s
  pub facts : ClientFacts L s
  pub enabled : is_enabled L s (thread_of e) ≡ true
  pub row : RowOf L s e made
  pub behind : Owned L (ledger_of L (sweep_state made))

abbrev pub Keeps : LoadRows → (State → Type 0) → Type 0
Keeps L P = (s : State) (e : Entry) (made : State) → From L s e made → P (sweep_state made)

module _ (L : LoadRows) (plans : Valid L) (tables : AreValidTables L.tables) (plan : IsPlan L) (fitting_kept : Keeps L (Fitting L)) (at_kept : Keeps L (λ s. (t : ℕ) → AtCall L s t)) (few_kept : Keeps L (λ s. length s.objects ≤ 65536)) (shadows_kept : Keeps L (ShadowsStand L)) (held_kept : Keeps L (FewIn L)) where
  pub holds_step : (us : List Turn) (s : State) (u : Turn) (z : State) → Holds L us s → Step L s u z → Holds L (u ∷ us) z
  holds_step us s u z h step =
      let kept = (ledger_kept L us (ledger_of L s) plan h.run).0 in
      let facts = client_facts L s plans h.laid h.fits h.at kept.owned in
      let ledger : LedgerStep L (ledger_of L s) u.entry u.frees (ledger_of L z) = step_ledger L s plans tables h.laid kept.owned h.fits facts u z step in
      let behind : Kept L (u ∷ us) (ledger_of L z) = (kept_step L us (ledger_of L s) u (ledger_of L z) plan kept ledger).0 in
      let from : From L s u.entry step.made = record {
        plans = plans;
        tables = tables;
        laid = h.laid;
        owned = kept.owned;
        placed = kept.placed;
        fits = h.fits;
        at = h.at;
        few = h.few;
        shadows = h.shadows;
        held = h.held;
        facts = facts;
        enabled = step.enabled;
        row = step.makes;
        behind = subst (λ y. Owned L (ledger_of L y)) step.swept behind.owned;
      } in
      record {
        laid = subst (Laid L) (sym step.swept) (laid_sweep L step.made (laid_row L s u.entry step.made h.laid step.makes));
        run = (ledger_of L s, h.run, ledger);
        fits = subst (Fitting L) (sym step.swept) (fitting_kept s u.entry step.made from);
        at = subst (λ y. (t : ℕ) → AtCall L y t) (sym step.swept) (at_kept s u.entry step.made from);
        few = subst (λ (y : State). length y.objects ≤ 65536) (sym step.swept) (few_kept s u.entry step.made from);
        shadows = subst (ShadowsStand L) (sym step.swept) (shadows_kept s u.entry step.made from);
        held = subst (FewIn L) (sym step.swept) (held_kept s u.entry step.made from);
      }

  -- it holds of every state of a run, of the turns of its history
  pub holds_led : Holds L [] (start L) → (H : List Entry) (s : State) → Run L H s → Holds L (turns_of H) s
  holds_led first H s (Begins none is) = subst (λ y. Holds L (turns_of H) y) (sym is) (subst (λ F. Holds L (turns_of F) (start L)) (sym none) first)
  holds_led first H s (GoesOn {G = G} {s = s'} u run step is) =
      subst (λ F. Holds L (turns_of F) s) (sym is) (subst (λ us. Holds L us s) (sym (turns_told L G s' s u step)) (holds_step (turns_of G) s' u s (holds_led first G s' run) step))
