-- How long a machine's log is at most, and how many instances it has opened.
use Rattle.std.proofs.Common.{◌≡◌, ◌<◌, ◌≤◌, ◌++◌, ◌∷◌, true, List, length, map, refl, ap, arith}
use Rattle.std.proofs.lemmas.List.{length-append, length-map}
use Rattle.rl_defs.specs.declared.load.LoadRows.{LoadRows}
use Rattle.machine_defs.specs.declared.entry.Entry.{Entry}
use Rattle.machine_defs.specs.declared.entry.Entry.TheVariants as entry
use Rattle.machine_defs.specs.State.{State}
use Rattle.machine_defs.specs.Runs.{Run, Begins, GoesOn}
use Rattle.machine_defs.specs.Steps.{Row}
use Rattle.rl_defs.specs.Valid.{Valid}
use Rattle.machine_steps.specs.declared.machine.Machine.TheInside.{Inside}
use Rattle.machine_steps.specs.Kept.{TurnsAreShort, begins_turn}
use Rattle.machine_steps.specs.Inside.{state_of, IsKept}
use Rattle.machine_steps.specs.Known.{Known}

-- a row is of an entry that begins a turn
begins : (L : LoadRows) (s z : State) (e : Entry) → Row L s e z → begins_turn e ≡ true
begins L s z (entry.Free o) r = absurd r
begins L s z (entry.Call t c x i m args) r = refl
begins L s z (entry.Refuse t c why x m args) r = refl
begins L s z (entry.Ret t c results) r = refl
begins L s z (entry.Unwound t c) r = refl
begins L s z (entry.Reload t x i left) r = refl
begins L s z (entry.Again t c x i) r = refl
begins L s z (entry.Trap t i cause) r = refl
begins L s z (entry.Kill t i) r = refl
begins L s z (entry.New t w o ty values) r = refl
begins L s z (entry.Drop t o) r = refl
begins L s z (entry.Set t o at values) r = refl
begins L s z (entry.Wput t i at v) r = refl
begins L s z (entry.Take t i slot o) r = refl
begins L s z (entry.Put t i slot o) r = refl
begins L s z (entry.DevGet t o b) r = refl
begins L s z (entry.DevPut t b o) r = refl
begins L s z (entry.Hang t o place v) r = refl
begins L s z (entry.Unhang t o place v) r = refl
begins L s z (entry.Show t o values) r = refl
begins L s z (entry.Skip t number) r = refl
begins L s z (entry.Done t) r = refl

-- the last turn began where the log was short, and freed few objects
log_few : Known → (L : LoadRows) (H : List Entry) (s : State) → Valid L → Run L H s → TurnsAreShort H → length H ≤ 327680
log_few known L H s valid (Begins none is) short = (let n : length H ≡ 0 = ap length none in omega (arith, n))
log_few known L H s valid (GoesOn {G} {H = H'} {s = from} turn run step is) short =
    let few = (known.few L G from step.made turn.entry valid run step.enabled step.makes).frees in
    let frees : length turn.frees ≡ length (Rattle.machine_defs.specs.Loans.freed step.made) = ap length step.frees in
    let before : length G < 262144 = short G (map entry.Free turn.frees) turn.entry is (begins L from step.made turn.entry step.makes) in
    let n : length H ≡ length (G ++ turn.entry ∷ map entry.Free turn.frees) = ap length is in
    let m = length-append G (turn.entry ∷ map entry.Free turn.frees) in
    let f = length-map turn.frees entry.Free in
    omega (arith, few, frees, before, n, m, f)

pub few_entries : {w : Inside} → Known → IsKept w → length w.log.entries ≤ 327680
few_entries {w} known k = log_few known w.load w.log.entries (state_of w) k.valid k.run k.turns

pub few_instances : {w : Inside} → Known → IsKept w → length w.instances < 4294967296
few_instances {w} known k =
    let few = few_entries known k in
    let count = (known.numbers w.load w.log.entries (state_of w) k.run).instances in
    let loads = k.valid.few_loads in
    omega (arith, few, count, loads)
