-- What rounds come to.
use Rattle.std.proofs.Common.{◌≡◌, ◌∙◌, ◌⊎◌, inl, inr, ℕ, zero, suc, ◌+◌, ◌%◌, ◌<◌, ◌≤◌, List, [], ◌∷◌, ◌++◌, Option, Some, None, Bool, true, false, not, length, get_or, map, refl, ap, sym, subst, arith, append_assoc, append-nil, below_more, ◌-◌}
use Rattle.std.specs.List.{All}
use Rattle.std.proofs.lemmas.Bool.{and_left as off_left}
use Rattle.std.proofs.lemmas.List.{get_or_default, length-append}
use Rattle.std.proofs.lemmas.List.Elements.{All-cons}
use Rattle.rl_defs.specs.declared.load.LoadRows.{LoadRows}
use Rattle.rl_defs.specs.Valid.{Valid}
use Rattle.rl_defs.specs.Rows.{row}
use Rattle.rl_defs.proofs.Lists.{and_left}
use Rattle.machine_defs.specs.declared.entry.Entry.{Entry}
use Rattle.machine_defs.specs.declared.entry.Entry.TheVariants as entry
use Rattle.machine_defs.specs.State.{State, Thread}
use Rattle.machine_defs.specs.Entries.{thread_of}
use Rattle.machine_defs.specs.Calling.{is_undone, waits, is_enabled}
use Rattle.machine_defs.specs.Runs.{Run, AllDone, Ordered, Stays, Turns, order_of, next_turn, entries_of_turn}
use Rattle.machine_defs.specs.Steps.{Turn as Made, Step}
use Rattle.machine_defs.specs.Laws.{StatesAreSound, SomeThreadIsEnabled}
use Rattle.machine_laws.proofs.Rows.{row_within}
use Rattle.machine_steps.specs.declared.turn.Turn.{Turn}
use Rattle.machine_steps.specs.declared.turn.Turn.TheVariants as turn
use Rattle.machine_steps.specs.Kept.{Kept, Went}
use Rattle.machine_steps.specs.Turns.{TurnAnswers, WentBy}
use Rattle.turn_order.specs.Rounds.{round_from, ComesNext}
use Rattle.turn_order.proofs.Going.{length-round}
use Rattle.domain_machine.specs.Finished.{RanInOrder}
use Rattle.domain_machine.specs.Going.{WentNext}
use Rattle.domain_machine.proofs.Listed.{IsNumber, client_has, all_round, list_numbers}

-- a turn leaves the load as it is
pub turn_keeps_load : (old new : Kept) (t : ℕ) (r : Turn) → TurnAnswers old new t r → new.load ≡ old.load
turn_keeps_load old new t turn.Went a = a.went.load
turn_keeps_load old new t (turn.NotYet h) a = ap (λ (w : Kept). w.load) a.0
turn_keeps_load old new t turn.Done a = ap (λ (w : Kept). w.load) a.0
turn_keeps_load old new t turn.Long a = ap (λ (w : Kept). w.load) a.0
turn_keeps_load old new t turn.Memory a = ap (λ (w : Kept). w.load) a.0

-- who is done isn't enabled
pub done_disabled : (L : LoadRows) (s : State) (t : ℕ) → is_undone (row s.threads t) ≡ false → is_enabled L s t ≡ false
done_disabled L s t off = off_left (is_undone (row s.threads t)) (not (waits L s t)) off

undone : (L : LoadRows) (s : State) (t : ℕ) → is_enabled L s t ≡ true → is_undone (row s.threads t) ≡ true
undone L s t on = and_left (is_undone (row s.threads t)) (not (waits L s t)) on

-- who is enabled is a client
enabled_number : (L : LoadRows) (s : State) (t : ℕ) → length s.threads ≡ length L.clients → is_enabled L s t ≡ true → IsNumber (length L.clients) t
enabled_number L s t many on = go (row s.threads t) refl (undone L s t on)
  where
    go : (thread : Option Thread) → row s.threads t ≡ thread → is_undone (row s.threads t) ≡ true → IsNumber (length L.clients) t
    go None is still = absurd (let no : is_undone None ≡ true = sym (ap is_undone is) ∙ still in cc)
    go (Some thread) is still =
        let within : (0 < t) × (t ≤ length s.threads) = row_within s.threads t thread is in
        let high : t ≤ length s.threads = within.1 in
        (within.0, omega (arith, high, many))

-- not every client is done where one isn't
undone_thread : (threads : List Thread) (t : ℕ) → is_undone (row threads t) ≡ true → All (λ thread. thread.done ≡ true) threads → ⊥
undone_thread threads zero still all = cc
undone_thread [] (suc t) still all = cc
undone_thread (x ∷ xs) (suc zero) still all =
    let done : x.done ≡ true = all 0 x (omega arith) in
    let no : not true ≡ true = sym (ap not done) ∙ still in cc
undone_thread (x ∷ xs) (suc (suc t)) still all = undone_thread xs (suc t) still (λ k d lt. all (suc k) d (omega (arith, lt)))

pub enabled_undone : (L : LoadRows) (s : State) (t : ℕ) → is_enabled L s t ≡ true → AllDone s → ⊥
enabled_undone L s t on all = undone_thread s.threads t (undone L s t on) all

-- every client is done, or not every one
done_or_not : (threads : List Thread) → All (λ thread. thread.done ≡ true) threads ⊎ (All (λ thread. thread.done ≡ true) threads → ⊥)
done_or_not [] = inl (λ k d lt. absurd (omega (arith, lt)))
done_or_not (x ∷ xs) = go x.done refl (done_or_not xs)
  where
    go : (b : Bool) → x.done ≡ b → All (λ thread. thread.done ≡ true) xs ⊎ (All (λ thread. thread.done ≡ true) xs → ⊥)
        → All (λ thread. thread.done ≡ true) (x ∷ xs) ⊎ (All (λ thread. thread.done ≡ true) (x ∷ xs) → ⊥)
    go true is (inl all) = inl (All-cons (λ (thread : Thread). thread.done ≡ true) x xs is all)
    go true is (inr some) = inr (λ all. some (λ k d lt. all (suc k) d (omega (arith, lt))))
    go false is rest = inr (λ all. let no : x.done ≡ true = all 0 x (omega arith) in absurd cc)

-- where nobody on the order list is enabled, every client is done
pub nobody_all_done : (L : LoadRows) (H : List Entry) (s : State) (place n : ℕ) → Valid L → Run L H s → StatesAreSound → SomeThreadIsEnabled
    → place ≤ length (order_of L) → length (order_of L) ≤ n → ((k : ℕ) → k < n → is_enabled L s (get_or (round_from (order_of L) place) k 0) ≡ false)
    → AllDone s
nobody_all_done L H s place n valid run sound law within many off = elim (done_or_not s.threads) [
  | inl all ↦ all
  | inr some ↦
      let one : (t : ℕ) × (is_enabled L s t ≡ true) = law L H s valid run some in
      let rows : length s.threads ≡ length L.clients = (sound L H s valid run).laid.threads in
      let round : length (round_from (order_of L) place) ≡ length (order_of L) = length-round (order_of L) place within in
      let none : is_enabled L s one.0 ≡ false =
      client_has L (λ (t : ℕ). is_enabled L s t ≡ false) place one.0 (enabled_number L s one.0 rows one.1)
      (λ k d lt. off_at k d lt (omega (arith, lt, round, many))) in
      let on : is_enabled L s one.0 ≡ true = one.1 in
      absurd cc
]
  where
    off_at : (k d : ℕ) → k < length (round_from (order_of L) place) → k < n → is_enabled L s (get_or (round_from (order_of L) place) k d) ≡ false
    off_at k d lt low = ap (λ (t : ℕ). is_enabled L s t) (get_or_default (round_from (order_of L) place) k d 0 lt) ∙ off k low

-- the list of a world is that of the world that it began as
pub listed : (order : List ℕ) (machine now old : Kept) → order ≡ order_of machine.load → machine ≡ now → now ≡ old → order ≡ order_of old.load
listed order machine now old list view same = list ∙ ap (λ (w : Kept). order_of w.load) (view ∙ same)

-- and so is the list of a world that a turn of that one led to
pub listed_after : (order : List ℕ) (machine new now old : Kept) → order ≡ order_of machine.load → machine ≡ new → new.load ≡ now.load → now ≡ old
    → order ≡ order_of old.load
listed_after order machine new now old list view kept same =
    list ∙ ap (λ (w : Kept). order_of w.load) view ∙ ap order_of kept ∙ ap (λ (w : Kept). order_of w.load) same

-- what holds of each client on the list of a valid load holds of the one that stands so far round it
pub stands : (L : LoadRows) (order : List ℕ) (place step client : ℕ) → Valid L → order ≡ order_of L → place ≤ length (order_of L) → step < length (order_of L)
    → client ≡ get_or (round_from order place) step 0 → IsNumber (length L.clients) client
stands L order place step client valid list within near is =
    let P : ℕ → Type 0 = IsNumber (length L.clients) in
    let there : client ≡ get_or (round_from (order_of L) place) step 0 = is ∙ ap (λ (xs : List ℕ). get_or (round_from xs place) step 0) list in
    subst P (sym there) (all_round P (order_of L) place step 0 within near (list_numbers L valid))

-- one more was passed over
pub pass_on : (L : LoadRows) (s : State) (order : List ℕ) (place step client : ℕ) → order ≡ order_of L
    → client ≡ get_or (round_from order place) step 0 → is_enabled L s client ≡ false
    → ((k : ℕ) → k < step → is_enabled L s (get_or (round_from (order_of L) place) k 0) ≡ false)
    → (k : ℕ) → k < step + 1 → is_enabled L s (get_or (round_from (order_of L) place) k 0) ≡ false
pass_on L s order place step client list is off passed =
    let there : client ≡ get_or (round_from (order_of L) place) step 0 = is ∙ ap (λ (xs : List ℕ). get_or (round_from xs place) step 0) list in
    let P : ℕ → Type 0 = λ k. is_enabled L s (get_or (round_from (order_of L) place) k 0) ≡ false in
    below_more P step passed (ap (is_enabled L s) (sym there) ∙ off)

-- the first that is enabled went
pub goes_next : (old mid new : Kept) (order after : List ℕ) (place step client next : ℕ) → mid ≡ old → order ≡ order_of old.load → after ≡ order_of old.load → place ≤ length (order_of old.load)
    → step < length (order_of old.load) → client ≡ get_or (round_from order place) step 0
    → ((k : ℕ) → k < step → is_enabled old.load old.state (get_or (round_from (order_of old.load) place) k 0) ≡ false)
    → ((L : LoadRows) (s : State) (place step : ℕ) → ComesNext L s place step → next_turn L s place
    ≡ Some (get_or (round_from (order_of L) place) step 0, (place + step + 1) % length (order_of L)))
    → WentBy mid new client → next ≡ (place + step + 1) % length after → next < length after → WentNext old new place next
goes_next old mid new order after place step client next same list later within near is passed law by_client at low =
    let P : Kept → Type 0 = λ w. WentBy w new client in
    let went : WentBy old new client = subst P same by_client in
    let there : client ≡ get_or (round_from (order_of old.load) place) step 0 = is ∙ ap (λ (xs : List ℕ). get_or (round_from xs place) step 0) list in
    let Q : ℕ → Type 0 = λ t. is_enabled old.load old.state t ≡ true in
    let on : is_enabled old.load old.state (get_or (round_from (order_of old.load) place) step 0) ≡ true = subst Q (went.by ∙ there) went.went.step.enabled in
    let comes : next_turn old.load old.state place ≡ Some (get_or (round_from (order_of old.load) place) step 0, (place + step + 1) % length (order_of old.load)) =
    law old.load old.state place step (record { within = within; near = near; enabled = on; others = passed }) in
    let place_is : next ≡ (place + step + 1) % length (order_of old.load) = at ∙ ap (λ (xs : List ℕ). (place + step + 1) % length xs) later in
    let R : List ℕ → Type 0 = λ xs. next < length xs in
    record {
      client = client;
      comes = comes ∙ ap (λ (t : ℕ). Some (t, (place + step + 1) % length (order_of old.load))) (sym there) ∙ ap (λ (k : ℕ). Some (client, k)) (sym place_is);
      within = subst R later low;
      went = went;
    }

-- Turns in the order of the order list led from one world to another. The next is looked for from this place on.
pub record RanTo (old new : Kept) (place : ℕ) : Type 0 where
  pub entries : List Entry
  pub ordered : Ordered old.load old.state entries new.state place
  pub log : new.log ≡ old.log ++ entries
  pub load : new.load ≡ old.load
  pub within : place ≤ length (order_of new.load)

-- no turn
pub ran_none : (w : Kept) → RanTo w w 0
ran_none w = record { entries = []; ordered = Stays refl refl refl; log = sym (append-nil w.log); load = refl; within = omega arith }

-- one turn more
pub ran_more : (old mid new : Kept) (place next : ℕ) → RanTo old mid place → WentNext mid new place next → RanTo old new next
ran_more old mid new place next before then =
    let went : Went mid new then.went.entry = then.went.went in
    let made : Made = record { entry = then.went.entry; frees = went.frees } in
    let P : LoadRows → Type 0 = λ L. next_turn L mid.state place ≡ Some (thread_of made.entry, next) in
    let Q : LoadRows → Type 0 = λ L. Step L mid.state made new.state in
    let R : LoadRows → Type 0 = λ L. next ≤ length (order_of L) in
    let low : next < length (order_of mid.load) = then.within in
    let comes : next_turn mid.load mid.state place ≡ Some (thread_of made.entry, next) = then.comes ∙ ap (λ (t : ℕ). Some (t, next)) (sym then.went.by) in
    record {
      entries = before.entries ++ entries_of_turn made;
      ordered = Turns made next before.ordered (subst P before.load comes) (subst Q before.load went.step) refl;
      log = went.log ∙ ap (λ (xs : List Entry). xs ++ entries_of_turn made) before.log ∙ append_assoc old.log before.entries (entries_of_turn made);
      load = went.load ∙ before.load;
      within = subst R (sym went.load) (omega (arith, low));
    }

-- each turn leaves room for fewer
pub room_shrinks : (mid new : Kept) (place next : ℕ) → WentNext mid new place next → 262144 - length new.log < 262144 - length mid.log
room_shrinks mid new place next then =
    let went : Went mid new then.went.entry = then.went.went in
    let more : length new.log ≡ length mid.log + length (then.went.entry ∷ map entry.Free went.frees) =
    ap length went.log ∙ length-append mid.log (then.went.entry ∷ map entry.Free went.frees) in
    let short : length mid.log < 262144 = then.went.short in
    omega arith

-- what the last round left as it was
pub ends_with : (old mid new : Kept) (place : ℕ) (P : Kept → Type 0) → RanTo old mid place → new ≡ mid → P mid → RanInOrder old new × P new
ends_with old mid new place P ran same holds =
    let Q : Kept → Type 0 = λ w. RanInOrder old w × P w in
    subst Q (sym same) (record { entries = ran.entries; place = place; ordered = ran.ordered; log = ran.log; load = ran.load }, holds)
