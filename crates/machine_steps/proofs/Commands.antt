-- How a client's thread changes where its command ends.
use Rattle.std.proofs.Common.{◌≡◌, ℕ, zero, suc, ◌+◌, ◌-◌, ◌<◌, ◌≤◌, ◌^◌, List, [], ◌∷◌, length, slice_get, slice_set, Option, Some, None, refl, sym, ap, subst, ◌∙◌, arith}
use Rattle.std.specs.Option.{unwrap_or}
use Rattle.std.proofs.lemmas.Option.{slice_get_within}
use Rattle.rl_defs.specs.declared.load.LoadRows.{LoadRows}
use Rattle.rl_defs.specs.declared.load.ClientRow.{ClientRow}
use Rattle.rl_defs.specs.declared.load.Command.{Command}
use Rattle.rl_defs.specs.Valid.{Valid}
use Rattle.rl_defs.specs.declared.values.Value.{Value}
use Rattle.rl_defs.specs.Rows.{row, bound_by, commands_of}
use Rattle.machine_defs.specs.State.{State, Thread}
use Rattle.machine_defs.specs.Seen.{change_row}
use Rattle.machine_defs.specs.Calling.{with_fuel}
use Rattle.machine_defs.specs.Wants.{Want, Finishes, Commands, wanted, by_command}
use Rattle.machine_defs.specs.Frames.{bind, names_of}
use Rattle.machine_defs.specs.CallRows.{command_done}
use Rattle.machine_laws.proofs.ClientRows.{bind_none}
use Rattle.machine_laws.proofs.Rows.{row_within, row_set_same}
use Rattle.machine_laws.proofs.Acting.{CommandsAs, commands_as}

-- ---- a row that changes

pub set_twice : {A : Type 0} (xs : List A) (k : ℕ) (x y : A) → slice_set (slice_set xs k x) k y ≡ slice_set xs k y
set_twice [] k x y = refl
set_twice (z ∷ xs) zero x y = refl
set_twice (z ∷ xs) (suc k) x y = ap (λ zs. z ∷ zs) (set_twice xs k x y)

pub row_changed : {A : Type 0} (xs : List A) (n : ℕ) (f : A → A) (x : A) → row xs n ≡ Some x → row (change_row xs n f (row xs n)) n ≡ Some (f x)
row_changed {A} xs n f x is =
    let within = row_within xs n x is in
    ap (λ (found : Option A). row (change_row xs n f found) n) is ∙ row_set_same xs n (f x) within.0 within.1

-- a row that changes twice, changes once
pub changed_twice : {A : Type 0} (xs ys zs : List A) (n : ℕ) (f g : A → A) (x : A) → row xs n ≡ Some x → ys ≡ change_row xs n f (row xs n) → zs ≡ change_row ys n g (row ys n)
    → zs ≡ change_row xs n (λ x. g (f x)) (row xs n)
changed_twice {A} xs ys zs n f g x is first second =
    let set : ys ≡ slice_set xs (n - 1) (f x) = first ∙ ap (change_row xs n f) is in
    let here : row ys n ≡ Some (f x) = ap (λ (l : List A). row l n) first ∙ row_changed xs n f x is in
    second ∙ (ap (change_row ys n g) here ∙ (ap (λ (l : List A). slice_set l (n - 1) (g (f x))) set ∙ (set_twice xs (n - 1) (f x) (g (f x)) ∙ ap (change_row xs n (λ x. g (f x))) (sym is))))

-- ---- a command that binds nothing

pub done_with_none : (L : LoadRows) (t fuel : ℕ) (thread : Thread) → fuel ≡ L.fuel - 1
    → ◌≡◌ {A = Thread} (record thread { fuel = fuel; place = thread.place + 1 }) (command_done L t [] thread)
done_with_none L t fuel thread charged = rw (charged, bind_none (names_of (slice_get (commands_of (row L.clients t)) thread.place)) thread.names) refl

-- one that binds its results
pub done_with : (L : LoadRows) (t fuel : ℕ) (thread : Thread) (next : Command) (names : List ℕ) (results : List Value) → slice_get (commands_of (row L.clients t)) thread.place ≡ Some next
    → fuel ≡ L.fuel - 1 → names ≡ bound_by next
    → ◌≡◌ {A = Thread} (record thread { fuel = fuel; place = thread.place + 1; names = bind names results thread.names }) (command_done L t results thread)
done_with L t fuel thread next names results here charged same = rw (here, charged, same) refl

-- ---- where a command stands

pub few_commands : (L : LoadRows) → Valid L → (t : ℕ) → length (commands_of (row L.clients t)) ≤ 1000
few_commands L valid t = go (row L.clients t) refl
  where
    go : (client : Option ClientRow) → row L.clients t ≡ client → length (commands_of client) ≤ 1000
    go None is = omega arith
    go (Some client) is = (valid.clients t client is).few

-- a want that a command of the script has
abbrev pub HasCommand : Want → Type 0
HasCommand Finishes = ⊥
HasCommand _ = Unit {0}

pub place_low : (L : LoadRows) (s : State) (t : ℕ) (want : Want) → Valid L → (c : CommandsAs L s t want) → HasCommand want → c.thread.place < 1000
place_low L s t want valid c has = go (slice_get (commands_of (row L.clients t)) c.thread.place) refl
  where
    go : (next : Option Command) → slice_get (commands_of (row L.clients t)) c.thread.place ≡ next → c.thread.place < 1000
    go None is = absurd (subst HasCommand (sym c.by ∙ ap (by_command s c.thread) is) has)
    go (Some next) is =
        let within = slice_get_within (commands_of (row L.clients t)) c.thread.place next is in
        let few = few_commands L valid t in
        omega (arith, within, few)

-- so the place of the next one is counted
abbrev pub IsCounted : List Thread → ℕ → Type 0
IsCounted threads t = (x : Thread) → row threads t ≡ Some x → x.place + 1 < 2 ^ 32

some_same : {x y : Thread} → ◌≡◌ {A = Option Thread} (Some x) (Some y) → x ≡ y
some_same {x} same = ap (λ (o : Option Thread). unwrap_or o x) same

pub counted_behind : (threads behind : List Thread) (t : ℕ) (change : Thread → Thread) (thread : Thread) → row threads t ≡ Some thread → behind ≡ change_row threads t change (row threads t)
    → (change thread).place ≡ thread.place → thread.place < 1000 → IsCounted behind t
counted_behind threads behind t change thread of changed same low x here =
    let is : Some x ≡ Some (change thread) = sym here ∙ (ap (λ (l : List Thread). row l t) changed ∙ row_changed threads t change thread of) in
    let place : x.place ≡ (change thread).place = ap (λ (y : Thread). y.place) (some_same is) in
    omega (arith, place, same, low)

pub command_counted : (L : LoadRows) (s : State) → Valid L → (t fuel : ℕ) (next : Command) → wanted L s t ≡ Commands next → {fueled : List Thread} → fueled ≡ change_row s.threads t (with_fuel fuel) (row s.threads t)
    → IsCounted fueled t
command_counted L s valid t fuel next wants {fueled} charged =
    let c = commands_as L s t (Commands next) tt wants in
    counted_behind s.threads fueled t (with_fuel fuel) c.thread c.of charged refl (place_low L s t (Commands next) valid c tt)
