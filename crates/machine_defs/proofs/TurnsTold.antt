-- A run's turns are those of its history, and turns in order lead on from a run to a run.
use Rattle.std.proofs.Common.{◌≡◌, ℕ, List, [], ◌∷◌, ◌++◌, map, refl, sym, ◌∙◌, ap, subst, append-nil, append_assoc}
use Rattle.std.specs.List.{fold}
use Rattle.machine_defs.specs.declared.entry.Entry.{Entry}
use Rattle.machine_defs.specs.declared.entry.Entry.TheVariants as entry
use Rattle.rl_defs.specs.declared.load.LoadRows.{LoadRows}
use Rattle.machine_defs.specs.State.{State}
use Rattle.machine_defs.specs.Steps.{Turn, Row}
use Rattle.machine_defs.specs.Runs.{Run, GoesOn, Ordered, Stays, Turns, entries_of_turn}
use Rattle.machine_defs.specs.History.{turns_of, with_entry}
use Rattle.machine_defs.specs.Laws.{TurnsAreTold, OrderedRunsGoOn}

fold-append : (us : List Turn) (G H : List Entry) → fold with_entry us (G ++ H) ≡ fold with_entry (fold with_entry us G) H
fold-append us [] H = refl
fold-append us (e ∷ G) H = fold-append (with_entry us e) G H

abbrev turn : Entry → List ℕ → Turn
turn e frees = record { entry = e; frees = frees }

fold-frees : (e : Entry) (os ps : List ℕ) (us : List Turn) → fold with_entry (turn e os ∷ us) (map entry.Free ps) ≡ turn e (os ++ ps) ∷ us
fold-frees e os [] us = ap (λ xs. turn e xs ∷ us) (sym (append-nil os))
fold-frees e os (p ∷ ps) us = fold-frees e (os ++ p ∷ []) ps us ∙ ap (λ xs. turn e xs ∷ us) (append_assoc os (p ∷ []) ps)

-- a `free` has no row, so a step's entry begins a turn
row_begins : (L : LoadRows) (s z : State) (us : List Turn) (e : Entry) → Row L s e z → with_entry us e ≡ turn e [] ∷ us
row_begins L s z us (entry.Free o) row = absurd row
row_begins L s z us e row = refl

-- the turns of a history that goes on by a step
pub turns_told : TurnsAreTold
turns_told L H s z u step =
    fold-append [] H (entries_of_turn u)
    ∙ (ap (λ vs. fold with_entry vs (map entry.Free u.frees)) (row_begins L s step.made (turns_of H) u.entry step.makes) ∙ fold-frees u.entry [] u.frees (turns_of H))

module _ (L : LoadRows) (H : List Entry) (s : State) (run : Run L H s) where
  goes_on : (G : List Entry) (z : State) (place : ℕ) → Ordered L s G z place → Run L (H ++ G) z
  goes_on G z place (Stays none is first) =
      subst (λ y. Run L (H ++ G) y) (sym is) (subst (λ F. Run L F s) (sym (ap (λ F. H ++ F) none ∙ append-nil H)) run)
  goes_on G z place (Turns {G = F} {s = y} {place = before} u next ordered here step is) =
      GoesOn u (goes_on F y before ordered) step (ap (λ E. H ++ E) is ∙ sym (append_assoc H F (entries_of_turn u)))

pub ordered_runs_go_on : OrderedRunsGoOn
ordered_runs_go_on L H G s z place run ordered = goes_on L H s run G z place ordered
