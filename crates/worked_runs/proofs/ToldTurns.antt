-- A run's turns are those that its history tells, and turn by turn they may lead to one state only.
use Rattle.std.proofs.Common.{◌≡◌, ℕ, List, [], ◌∷◌, ◌++◌, refl, sym, ◌∙◌, ap, subst}
use Rattle.machine_defs.specs.declared.entry.Entry.{Entry}
use Rattle.rl_defs.specs.declared.load.LoadRows.{LoadRows}
use Rattle.machine_defs.specs.State.{State, start}
use Rattle.machine_defs.specs.Loans.{sweep, freed}
use Rattle.machine_defs.specs.Steps.{Turn, Step, Row}
use Rattle.machine_defs.specs.Runs.{Begins, GoesOn, Run, entries_of_turn}
use Rattle.machine_defs.specs.History.{turns_of}
use Rattle.machine_defs.proofs.TurnsTold.{turns_told}
use Rattle.worked_runs.specs.Parts.{freeing}
use Rattle.worked_runs.specs.Wrong.{IsWrong}

-- the history of turns that are listed the newest first
abbrev pub history : List Turn → List Entry
history [] = []
history (u ∷ before) = history before ++ entries_of_turn u

-- no list is empty that has an item
abbrev IsEmpty : {A : Type 0} → List A → Type 0
IsEmpty [] = Unit {0}
IsEmpty (x ∷ xs) = ⊥

pub nil-cons : {A : Type 0} (x : A) (xs : List A) → [] ≡ x ∷ xs → ⊥
nil-cons x xs is = subst IsEmpty is tt

-- turns lead to this state, and to no other
pub record LeadsOnly (L : LoadRows) (us : List Turn) (z : State) : Type 0 where
  pub runs : Run L (history us) z
  pub turns : turns_of (history us) ≡ us
  pub only : (H : List Entry) (s : State) → Run L H s → turns_of H ≡ us → s ≡ z

-- turns lead to no state
abbrev pub LeadNowhere : LoadRows → List Turn → Type 0
LeadNowhere L us = (H : List Entry) (s : State) → Run L H s → turns_of H ≡ us → ⊥

-- the row of a turn leads to one state only; so does the step then, and the objects that are freed behind it are the same
abbrev pub OneWay : LoadRows → State → Turn → Type 0
OneWay L s u = (y z : State) → Row L s u.entry y → Row L s u.entry z → y ≡ z

step_only : {L : LoadRows} {s z : State} {u : Turn} → OneWay L s u → Step L s u z → (y : State) → Step L s u y → y ≡ z
step_only one step y other = other.swept ∙ (ap sweep (one other.made step.made other.makes step.makes) ∙ sym step.swept)

pub frees_only : {L : LoadRows} {s y z : State} {u : Turn} → OneWay L s u → Step L s u z → (os : List ℕ) → Step L s (freeing u.entry os) y → os ≡ u.frees
frees_only one step os other = other.frees ∙ (ap freed (one other.made step.made other.makes step.makes) ∙ sym step.frees)

-- the newest turn, and where it began
record Last (L : LoadRows) (u : Turn) (before : List Turn) (z : State) : Type 0 where
  entries : List Entry
  state : State
  run : Run L entries state
  turns : turns_of entries ≡ before
  step : Step L state u z

last : {L : LoadRows} {H : List Entry} {z : State} → Run L H z → (u : Turn) (before : List Turn) → turns_of H ≡ u ∷ before → Last L u before z
last (Begins none first) u before is = absurd (nil-cons u before (sym (ap turns_of none) ∙ is))
last {L} {H} {z} (GoesOn {G = G} {s = s} v run step all) u before is =
    let same : v ∷ turns_of G ≡ u ∷ before = sym (turns_told L G s z v step) ∙ (sym (ap turns_of all) ∙ is) in
    let newest : v ≡ u = cc in
    record { entries = G; state = s; run = run; turns = cc; step = subst (λ w. Step L s w z) newest step }

-- the step of the newest turn, from the one state that the others lead to
last_step : {L : LoadRows} {u : Turn} {before : List Turn} {s y : State} (H : List Entry) → LeadsOnly L before s → Run L H y → turns_of H ≡ u ∷ before → Step L s u y
last_step {L} {u} {before} {s} {y} H to run is =
    let l = last run u before is in
    subst (λ x. Step L x u y) (to.only l.entries l.state l.run l.turns) l.step

-- no turn leads to the start, and one turn more leads on
first_only : {L : LoadRows} (H : List Entry) (s : State) → Run L H s → turns_of H ≡ [] → s ≡ start L
first_only H s (Begins none first) is = first
first_only {L} H s (GoesOn {G = G} {s = y} u run step all) is = absurd (nil-cons u (turns_of G) (sym is ∙ (ap turns_of all ∙ turns_told L G y s u step)))

pub at_start : {L : LoadRows} → LeadsOnly L [] (start L)
at_start = record { runs = Begins refl refl; turns = refl; only = first_only }

pub then_only : {L : LoadRows} {u : Turn} {before : List Turn} {s z : State} → LeadsOnly L before s → Step L s u z → OneWay L s u → LeadsOnly L (u ∷ before) z
then_only {L} {u} {before} {s} {z} to step one = record {
  runs = GoesOn u to.runs step refl;
  turns = turns_told L (history before) s z u step ∙ ap (λ us. u ∷ us) to.turns;
  only = λ H y run is. step_only one step y (last_step H to run is);
}

pub goes_nowhere : {L : LoadRows} {u : Turn} {before : List Turn} {s : State} → LeadsOnly L before s → ((y : State) → Step L s u y → ⊥) → LeadNowhere L (u ∷ before)
goes_nowhere to none H y run is = none y (last_step H to run is)

pub still_nowhere : {L : LoadRows} {u : Turn} {before : List Turn} → LeadNowhere L before → LeadNowhere L (u ∷ before)
still_nowhere {u} {before} nowhere H y run is =
    let l = last run u before is in
    nowhere l.entries l.state l.run l.turns

pub is_wrong : {L : LoadRows} {us vs : List Turn} {z : State} (before wrong : List Entry) → LeadsOnly L us z → before ≡ history us → turns_of (before ++ wrong) ≡ vs → LeadNowhere L vs → IsWrong L before wrong
is_wrong {L} {us} {vs} {z} before wrong to lists is nowhere = record {
  end = z;
  begun = subst (λ H. Run L H z) (sym lists) to.runs;
  never = λ s run. nowhere (before ++ wrong) s run is;
}
