-- Where some client isn't done, some client is enabled: one that waits, waits for a serial instance that another is in, of a lower rank than
-- all live serial ones that it is in itself.
use Rattle.std.proofs.Common.{◌≡◌, ℕ, zero, suc, ◌+◌, ◌<◌, ◌≤◌, ◌==◌, ◌⊎◌, inl, inr, true, false, not, ◌&&◌, List, [], ◌∷◌, length, Option, Some, None, slice_get, refl, ap, ap₂, sym, subst, arith}
use Rattle.std.specs.Prelude.{All}
use Rattle.std.specs.List.{list_any}
use Rattle.std.proofs.lemmas.Bool.{cases_Bool, eqb-true, and_parts, or_cases, not-true}
use Rattle.machine_defs.specs.declared.values.Owner.TheVariants as owner
use Rattle.machine_defs.specs.declared.values.RpcCode.{RpcCode}
use Rattle.rl_defs.specs.declared.load.LoadRows.{LoadRows}
use Rattle.rl_defs.specs.declared.load.Command.{Command}
use Rattle.rl_defs.specs.declared.load.Command.TheVariants as command
use Rattle.rl_defs.specs.Domains.{load_of_target, is_serial}
use Rattle.machine_defs.specs.State.{State, StackFrame, Thread, is_live, current, stack, frames_of}
use Rattle.rl_defs.specs.Rows.{row}
use Rattle.machine_defs.specs.Wants.{Commands, Skips, by_command, can_do}
use Rattle.machine_defs.specs.State.{top, instance_load}
use Rattle.rl_defs.specs.Rows.{commands_of}
use Rattle.machine_defs.specs.Calling.{Wish, outranks, is_in, others_in, is_taken, is_undone}
use Rattle.machine_defs.specs.Runs.{AllDone}
use Rattle.machine_defs.specs.Steps.{Turn}
use Rattle.rl_defs.specs.Rows.{is_target}
use Rattle.machine_defs.specs.Frames.{below_top}
use Rattle.machine_defs.specs.Calling.{wish, refusal, is_dead, is_reissuable, would_enter, would_reenter, waits, is_enabled}
use Rattle.rl_defs.proofs.ValidFacts.{command_fits}
use Rattle.machine_laws.specs.Ledger.{LedgerFrame}
use Rattle.machine_laws.specs.LedgerOf.{frame_entry, entries_of, is_done, ledger_of}
use Rattle.machine_laws.specs.LedgerRows.{enters, IsBelow}
use Rattle.machine_laws.specs.LedgerSound.{Grounded}
use Rattle.machine_laws.specs.Shape.{Laid}
use Rattle.machine_laws.specs.Fitting.{CallFits, CallsFit, Fitting}
use Rattle.machine_laws.proofs.Stacks.{top_splits}
use Rattle.machine_laws.proofs.Tops.{bottom, entries, under, entries_top, client_within}
use Rattle.machine_laws.proofs.Acting.{commands_as}
use Rattle.machine_laws.proofs.Wishes.{ClientWish, wish_as}
use Rattle.machine_laws.proofs.Callers.{calls_well}
use Rattle.machine_laws.proofs.CallerRanks.{and_false, all_below, below_client, entries_over}
use Rattle.machine_laws.proofs.CallingRows.{unrefused, current_same}
use Rattle.machine_laws.proofs.Ranks.{RankedIn, below_of}
use Rattle.machine_laws.proofs.StackFits.{calls_back}
use Rattle.machine_laws.proofs.KeptSteps.{Kept}
use Rattle.machine_laws.proofs.NeverStuck.{some_moves}
use Rattle.machine_laws.proofs.Parts.{is_none_code}
use Rattle.rl_defs.specs.Valid.{Valid, AreValidTables}

-- where not every client is done, one isn't
some_undone : (threads : List Thread) → (All (λ thread. thread.done ≡ true) threads → ⊥) → (k : ℕ) × (thread : Thread) × (slice_get threads k ≡ Some thread) × (thread.done ≡ false)
some_undone [] undone = absurd (undone (λ k d lt. absurd (omega (arith, lt))))
some_undone (x ∷ threads) undone = elim (cases_Bool x.done) [
  | inl done ↦ let r = some_undone threads (λ all'. undone (more done all')) in (suc r.0, r.1, r.2, r.3)
  | inr not_done ↦ (0, x, refl, not_done)
]
  where
    more : x.done ≡ true → All (λ thread. thread.done ≡ true) threads → All (λ thread. thread.done ≡ true) (x ∷ threads)
    more done all' zero d lt = done
    more done all' (suc k) d lt = all' k d (omega (arith, lt))

-- each client of a load has its row
row_there : {A : Type 0} (xs : List A) (n : ℕ) → 0 < n → n ≤ length xs → row xs n ≡ None → ⊥
row_there xs zero pos le is = omega (arith, pos)
row_there [] (suc n) pos le is = omega (arith, le)
row_there (x ∷ xs) (suc zero) pos le is = cc
row_there (x ∷ xs) (suc (suc n)) pos le is = row_there xs (suc n) (omega arith) (omega (arith, le)) is

no_code : (code : Option RpcCode) → is_none_code code ≡ true → code ≡ None
no_code None e = refl
no_code (Some k) e = absurd cc

-- one of the others has a frame in the instance
some_other : (i t k : ℕ) (stacks : List (List StackFrame)) → others_in i t k stacks ≡ true → (j : ℕ) × (fs : List StackFrame) × (row stacks (suc j) ≡ Some fs) × (j < length stacks) × (is_in i fs ≡ true)
some_other i t k [] is = absurd cc
some_other i t k (gs ∷ stacks) is = elim (or_cases (not (k == t) && is_in i gs) (others_in i t (k + 1) stacks) is) [
  | inl here ↦ (0, gs, refl, omega arith, (and_parts (not (k == t)) (is_in i gs) here).1)
  | inr later ↦ let r = some_other i t (k + 1) stacks later in (suc r.0, r.1, r.2, (let lt = r.3 in omega (arith, lt)), r.4)
]

-- a frame in the instance is one in the ledger too
frame_enters : (i : ℕ) (fs : List StackFrame) (below : List LedgerFrame) → is_in i fs ≡ true → enters i (entries_of fs below)
frame_enters i [] below is = absurd cc
frame_enters i (f ∷ fs) below is = elim (or_cases (f.instance == i) (is_in i fs) is) [
  | inl here ↦ let over = entries_over fs (frame_entry f ∷ below) in (frame_entry f, over.0, below, over.1, ap owner.Instance (eqb-true f.instance i here))
  | inr later ↦ frame_enters i fs (frame_entry f ∷ below) later
]

-- an instance that a client may have to wait for: it lives, is serial, and some client is in it
record IsOccupied (L : LoadRows) (s : State) (i : ℕ) : Type 0 where
  pub lives : is_live s i ≡ true
  pub serial : is_serial L (instance_load s i) ≡ true
  pub holder : (u : ℕ) × (0 < u) × (u ≤ length L.clients) × enters i ((ledger_of L s).stack u)

-- and a client that waits for it: it ranks below all live serial instances that the client is in
record Awaits (L : LoadRows) (s : State) (t i : ℕ) : Type 0 where
  pub occupied : IsOccupied L s i
  pub below : IsBelow L (ledger_of L s) (instance_load s i) ((ledger_of L s).stack t)

-- an instance that a client may not yet enter is occupied
occupied_by : (L : LoadRows) (s : State) (t i : ℕ) → Laid L s → is_live s i ≡ true → is_taken L s t i ≡ true → IsOccupied L s i
occupied_by L s t i laid lives taken =
    let parts = and_parts (is_serial L (instance_load s i)) (others_in i t 1 s.stacks) taken in
    let other = some_other i t 1 s.stacks parts.1 in
    record {
      lives = lives;
      serial = parts.0;
      holder = (
        suc other.0,
        omega arith,
        (let lt = other.3 in let e = laid.stacks in omega (arith, lt, e)),
        subst (λ found. enters i (entries (suc other.0) (frames_of found) (row s.threads (suc other.0)))) (sym other.2) (frame_enters i other.1 (bottom (suc other.0) (row s.threads (suc other.0)) ∷ []) other.4),
      );
    }

module _ (L : LoadRows) (us : List Turn) (s : State) (plans : Valid L) (tables : AreValidTables L.tables) (laid : Laid L s) (kept : Kept L us (ledger_of L s)) (fits : Fitting L s) where
  -- what is wished is of a target
  client_target : (t : ℕ) (w : Wish) → ClientWish L s t w → is_target L w.target ≡ true
  client_target t w wished =
      let doing = commands_as L s t (Commands (command.Call w.target w.method wished.given wished.names)) tt wished.wants in
      (command_fits L plans t doing.thread.place (command.Call w.target w.method wished.given wished.names) (commanded doing.thread (slice_get (commands_of (row L.clients t)) doing.thread.place) doing.by)).target
    where
      commanded : (thread : Thread) (next : Option Command) → by_command s thread next ≡ Commands (command.Call w.target w.method wished.given wished.names) → next ≡ Some (command.Call w.target w.method wished.given wished.names)
      commanded thread None e = absurd cc
      commanded thread (Some c) e = elim (cases_Bool (can_do s thread.names c)) [
        | inl yes' ↦ let e' : Commands c ≡ Commands (command.Call w.target w.method wished.given wished.names) = rw yes' at e in let same : c ≡ command.Call w.target w.method wished.given wished.names = cc in ap Some same
        | inr no' ↦ absurd (let e' : Skips (thread.place + 1) ≡ Commands (command.Call w.target w.method wished.given wished.names) = rw no' at e in cc)
      ]

  wish_target : (t : ℕ) (w : Wish) → is_undone (row s.threads t) ≡ true → wish L s t ≡ Some w → is_target L w.target ≡ true
  wish_target t w ready wants = elim (wish_as L s t w wants) [
    | inl by_client ↦ client_target t w by_client
    | inr by_frame ↦ (calls_well L s t plans tables laid kept.owned fits ready w by_frame).target
  ]

  -- the instance that a target stands for is of the target's load
  target_load : (x : ℕ) → is_target L x ≡ true → instance_load s (current L s x) ≡ load_of_target L x
  target_load x target = subst (λ i. instance_load s i ≡ load_of_target L x) (current_same L s x target) (kept.placed.current_of x).1

  -- a call that meets no refusal goes down in rank
  enter_awaits : (t : ℕ) (w : Wish) → is_undone (row s.threads t) ≡ true → wish L s t ≡ Some w → would_enter L s t (Some w) ≡ true → Awaits L s t (current L s w.target)
  enter_awaits t w ready wants would =
      let i : ℕ = current L s w.target in
      let parts = and_parts (is_live s i && is_none_code (refusal L s t w.target)) (is_taken L s t i) would in
      let free = and_parts (is_live s i) (is_none_code (refusal L s t w.target)) parts.0 in
      let none = unrefused L s t w.target (no_code (refusal L s t w.target) free.1) in
      let held = occupied_by L s t i laid free.0 parts.1 in
      let load = target_load w.target (wish_target t w ready wants) in
      let serial : is_serial L (load_of_target L w.target) ≡ true = subst (λ k. is_serial L k ≡ true) load held.serial in
      let unranked = and_false (is_serial L (load_of_target L w.target)) (list_any (outranks L s (load_of_target L w.target)) (stack s t)) none.in_order serial in
      record {
        occupied = held;
        below = subst (λ k. IsBelow L (ledger_of L s) k (entries t (stack s t) (row s.threads t))) (sym load)
            (all_below L s (load_of_target L w.target) (stack s t) (bottom t (row s.threads t) ∷ []) unranked (below_client L s (load_of_target L w.target) t (row s.threads t)));
      }

  -- and so did one that is issued again
  reenter_awaits : (t : ℕ) (f : StackFrame) (thread : Thread) → row s.threads t ≡ Some thread → top (stack s t) ≡ Some f → would_reenter L s t (Some f) ≡ true → Awaits L s t (current L s f.target)
  reenter_awaits t f thread of on_top would =
      let i : ℕ = current L s f.target in
      let parts = and_parts ((is_dead s f && is_reissuable L f) && is_live s i) (is_taken L s t i) would in
      let free = and_parts (is_dead s f && is_reissuable L f) (is_live s i) parts.0 in
      let dead : is_live s f.instance ≡ false = not-true (is_live s f.instance) (and_parts (is_dead s f) (is_reissuable L f) free.0).0 in
      let held = occupied_by L s t i laid free.1 parts.1 in
      let call : CallFits L s f = (calls_back L s (below_top (stack s t)) (f ∷ []) (subst (CallsFit L s) (top_splits (stack s t) f on_top) (fits.calls t))).0 in
      let load = target_load f.target call.target in
      let serial : is_serial L (load_of_target L f.target) ≡ true = subst (λ k. is_serial L k ≡ true) load held.serial in
      let within = client_within L s t thread laid of in
      let ranked : RankedIn L (instance_load s) (is_live s) (frame_entry f ∷ under s t) = subst (RankedIn L (instance_load s) (is_live s)) (entries_top s t f on_top) (kept.ranks.ranked t within.0 within.1) in
      let lower = below_of L (ledger_of L s) (load_of_target L f.target) (under s t) (ranked.0 serial) in
      record {
        occupied = held;
        below = subst (λ k. IsBelow L (ledger_of L s) k (entries t (stack s t) (row s.threads t))) (sym load)
            (subst (IsBelow L (ledger_of L s) (load_of_target L f.target)) (sym (entries_top s t f on_top)) (
              λ j same lives. absurd (let e : f.instance ≡ j = cc in let lives' : is_live s f.instance ≡ true = subst (λ n. is_live s n ≡ true) (sym e) lives in cc),
              lower,
            ));
      }

  -- a client that isn't done is enabled or waits for an instance
  moves_or_waits : (t : ℕ) (thread : Thread) → row s.threads t ≡ Some thread → is_undone (row s.threads t) ≡ true → (is_enabled L s t ≡ true) ⊎ ((i : ℕ) × Awaits L s t i)
  moves_or_waits t thread of ready = elim (cases_Bool (waits L s t)) [
    | inl waiting ↦ inr (elim (or_cases (would_enter L s t (wish L s t)) (would_reenter L s t (top (stack s t))) waiting) [
      | inl enters' ↦ by_wish (wish L s t) refl enters'
      | inr reenters ↦ by_top (top (stack s t)) refl reenters
    ])
    | inr free ↦ inl (ap₂ (λ a b. a && not b) ready free)
  ]
    where
      by_wish : (w : Option Wish) → wish L s t ≡ w → would_enter L s t w ≡ true → (i : ℕ) × Awaits L s t i
      by_wish None is would = absurd cc
      by_wish (Some w) is would = (current L s w.target, enter_awaits t w ready is would)

      by_top : (f : Option StackFrame) → top (stack s t) ≡ f → would_reenter L s t f ≡ true → (i : ℕ) × Awaits L s t i
      by_top None is would = absurd cc
      by_top (Some f) is would = (current L s f.target, reenter_awaits t f thread of is would)

  -- a client that is done has no frame, so that it might wait for any instance
  done_awaits : (t i : ℕ) (thread : Thread) → row s.threads t ≡ Some thread → thread.done ≡ true → IsOccupied L s i → Awaits L s t i
  done_awaits t i thread of done held =
      let within = client_within L s t thread laid of in
      let alone = kept.counted.emptied t (subst (λ found. is_done found ≡ true) (sym of) done) in
      let ground : Grounded L (instance_load s) (length s.instances + 1) s.next_call t (alone.0 ∷ []) = subst (Grounded L (instance_load s) (length s.instances + 1) s.next_call t) alone.1 (kept.placed.grounded t within.0 within.1) in
      record {
        occupied = held;
        below = subst (IsBelow L (ledger_of L s) (instance_load s i)) (sym alone.1) (λ j same. absurd (let e = ground.0 in cc (e, same)), tt);
      }

  -- what is known of each client: there is none of this number, it is enabled, or it might wait
  abbrev Moves : ℕ → Type 0
  Moves t = (row s.threads t ≡ None) ⊎ (is_enabled L s t ≡ true)

  abbrev awaited : (t : ℕ) → Moves t ⊎ ((i : ℕ) × Awaits L s t i) → Option ℕ
  awaited t (inl moves) = None
  awaited t (inr r) = Some r.0

  module _ (first : ℕ) (held : IsOccupied L s first) where
    -- the first instance that anyone waits for does for the clients that are done
    each : (t : ℕ) → Moves t ⊎ ((i : ℕ) × Awaits L s t i)
    each t = by_row (row s.threads t) refl
      where
        by_row : (thread : Option Thread) → row s.threads t ≡ thread → Moves t ⊎ ((i : ℕ) × Awaits L s t i)
        by_row None of = inl (inl of)
        by_row (Some thread) of = elim (cases_Bool thread.done) [
          | inl done ↦ inr (first, done_awaits t first thread of done held)
          | inr undone ↦ elim (moves_or_waits t thread of (subst (λ found. is_undone found ≡ true) (sym of) (ap not undone))) [
            | inl enabled ↦ inl (inr enabled)
            | inr waiting ↦ inr waiting
          ]
        ]

    abbrev waits_for : ℕ → Option ℕ
    waits_for t = awaited t (each t)

    waiting : (t i : ℕ) → waits_for t ≡ Some i → Awaits L s t i
    waiting t i is = go (each t) is
      where
        go : (known : Moves t ⊎ ((i : ℕ) × Awaits L s t i)) → awaited t known ≡ Some i → Awaits L s t i
        go (inl moves) e = absurd cc
        go (inr r) e = let same : r.0 ≡ i = cc in subst (Awaits L s t) same r.1

    enabled_then : (t : ℕ) → 0 < t → t ≤ length L.clients → waits_for t ≡ None → is_enabled L s t ≡ true
    enabled_then t pos le is = go (each t) is
      where
        go : (known : Moves t ⊎ ((i : ℕ) × Awaits L s t i)) → awaited t known ≡ None → is_enabled L s t ≡ true
        go (inl (inl none)) e = absurd (row_there s.threads t pos (let a = laid.threads in omega (arith, le, a)) none)
        go (inl (inr enabled)) e = enabled
        go (inr r) e = absurd cc

    moves_behind : (t i : ℕ) → waits_for t ≡ Some i → (u : ℕ) × (is_enabled L s u ≡ true)
    moves_behind t i is =
        let r = some_moves L (ledger_of L s) waits_for
        (λ u j e. (let a = waiting u j e in (a.occupied.lives, a.occupied.serial)))
        (λ u j e. (waiting u j e).below)
        (λ u j e. (waiting u j e).occupied.holder)
        (suc (instance_load s i)) t i is (omega arith) in
        (r.0, enabled_then r.0 r.1 r.2 r.3)

    -- a client that isn't done moves itself, or one of those that it waits for does
    moves_from : (t : ℕ) (thread : Thread) → row s.threads t ≡ Some thread → (u : ℕ) × (is_enabled L s u ≡ true)
    moves_from t thread of = go (waits_for t) refl
      where
        go : (known : Option ℕ) → waits_for t ≡ known → (u : ℕ) × (is_enabled L s u ≡ true)
        go None e = let w = client_within L s t thread laid of in (t, enabled_then t w.0 w.1 e)
        go (Some i) e = moves_behind t i e

  -- Where not every client is done, some client is enabled.
  pub some_enabled : (AllDone s → ⊥) → (t : ℕ) × (is_enabled L s t ≡ true)
  some_enabled undone =
      let r = some_undone s.threads undone in
      elim (moves_or_waits (suc r.0) r.1 r.2 (subst (λ found. is_undone found ≡ true) (sym r.2) (ap not r.3))) [
        | inl enabled ↦ (suc r.0, enabled)
        | inr waiting' ↦ moves_from waiting'.0 waiting'.1.occupied (suc r.0) r.1 r.2
      ]
