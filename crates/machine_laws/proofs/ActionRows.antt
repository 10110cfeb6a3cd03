-- Each action of a frame is its row of the ledger.
use Rattle.std.proofs.Common.{◌≡◌, ℕ, suc, ◌+◌, ◌<◌, Bool, true, ◌⊎◌, List, [], ◌∷◌, length, Option, Some, None, slice_get, slice_set, refl, ap, ap₂, sym, ◌∙◌, add-one}
use Rattle.machine_defs.specs.declared.values.Owner.{Owner}
use Rattle.machine_defs.specs.declared.values.Owner.TheVariants as owner
use Rattle.machine_defs.specs.declared.entry.Entry.TheVariants as entry
use Rattle.machine_defs.specs.declared.frame.Action.{Action}
use Rattle.machine_defs.specs.declared.frame.Action.TheVariants as action
use Rattle.machine_defs.specs.declared.frame.Answer.{Answer}
use Rattle.machine_defs.specs.declared.frame.Answer.TheVariants as answer
use Rattle.rl_defs.specs.declared.load.LoadRows.{LoadRows}
use Rattle.machine_defs.specs.State.{State, Placement, Root, Hung}
use Rattle.rl_defs.specs.Rows.{row}
use Rattle.machine_defs.specs.Loans.{count}
use Rattle.machine_defs.specs.Calling.{is_undone}
use Rattle.machine_defs.specs.Objects.{with_new, without, with_cells_of, overwritten, placed}
use Rattle.machine_defs.specs.Seen.{words, slots, in_slot, with_word, with_slot}
use Rattle.machine_defs.specs.ObjectRows.{Does, FrameMakes, instead, block, with_block, IsSlot as IsSlotOf}
use Rattle.machine_defs.specs.Sound.{own_of}
use Rattle.machine_laws.specs.Ledger.{Ledger, at}
use Rattle.machine_laws.specs.LedgerOf.{frame_entry, ledger_of}
use Rattle.machine_laws.specs.LedgerRows.{Exchanged, Row}
use Rattle.machine_laws.specs.Shape.{Laid}
use Rattle.machine_laws.proofs.Tops.{under}
use Rattle.machine_laws.proofs.Seats.{seats, IsIn, seats_new, seats_without, seats_cells, seats_placed, remove_one}
use Rattle.machine_laws.proofs.Instances.{loads_kept, lives_kept, count_kept, slots_kept, words_kept, slots_set, words_set}
use Rattle.machine_laws.proofs.FrameRows.{actor, actor_runs, actor_inside, actor_lives, charged, charged_ledger, charged_laid, stacks_after}
use Rattle.machine_laws.proofs.Parts.{content}

-- what the frame that acts has of its own changes so
abbrev pub Trades : {L : LoadRows} {s : State} {t i : ℕ} {act : Action} {a : Answer} {change : State → State} {z : State} → Laid L s → is_undone (row s.threads t) ≡ true → Does L s t i act a change z → List ℕ → List ℕ → Type 0
Trades laid ready d «lost» gained = Exchanged (own_of (actor laid ready d)) «lost» gained (own_of d.after)

-- a ledger in which objects are elsewhere
abbrev pub with_seats : Ledger → (ℕ → Option Placement) → Ledger
with_seats k seat = record k { seat = seat }

-- a ledger whose instances have other words and slots
of_instances : (k : Ledger) {loads : ℕ → ℕ} {live : ℕ → Bool} {next : ℕ} {words words' : ℕ → ℕ → ℕ} {slots slots' : ℕ → List (Option ℕ)} → loads ≡ k.loads → live ≡ k.live → next ≡ k.next_instance → words ≡ words' → slots ≡ slots'
    → record k { loads = loads; live = live; next_instance = next; words = words; slots = slots } ≡ record k { words = words'; slots = slots' }
of_instances k a b n c d = rw (a, b, n, c, d) refl

-- the content of a full slot
full_slot : (contents : List (Option ℕ)) (k o : ℕ) → content (slice_get contents k) ≡ Some o → slice_get contents k ≡ Some (Some o)
full_slot contents k o is = go (slice_get contents k) is
  where
    go : (here : Option (Option ℕ)) → content here ≡ Some o → here ≡ Some (Some o)
    go None e = absurd cc
    go (Some c) e = ap (λ x. Some x) e

module _ (L : LoadRows) (s z : State) (t : ℕ) (laid : Laid L s) (ready : is_undone (row s.threads t) ≡ true) where
  pub new_row : (w : Owner) (o ty : ℕ) (values : List ℕ) → o ≡ s.next_object → (m : FrameMakes L s t w o ty values z)
      → Trades laid ready m.does [] (o ∷ [])
      → Row L (ledger_of L s) (entry.New t w o ty values) (ledger_of L z)
  new_row w o ty values number m trades =
      let mid : State = charged laid ready m.does in
      let seat = seats_new L mid ty w [] (charged_laid laid ready m.does) in
      let next : s.next_object + 1 ≡ suc o = rw number (add-one s.next_object) in
      let seat' : seats (with_new L ty w [] mid) ≡ at o (Some (Root w)) (seats s) = rw number seat in (
        frame_entry (actor laid ready m.does),
        under s t,
        own_of m.does.after,
        actor_runs laid ready m.does,
        m.mine ∙ sym (actor_inside laid ready m.does),
        number,
        trades,
        ap (ledger_of L) m.does.becomes
            ∙ ap₂ (λ (seat : ℕ → Option Placement) (n : ℕ). record (ledger_of L mid) { seat = seat; next_object = n }) seat' next
            ∙ ap (λ (k : Ledger). record k { seat = at o (Some (Root w)) (seats s); next_object = suc o }) (charged_ledger laid ready m.does),
      )

  pub drop_row : (i o : ℕ) (d : Does L s t i (action.Drop o) answer.Went (without (o ∷ [])) z) → Trades laid ready d (o ∷ []) [] → Row L (ledger_of L s) (entry.Drop t o) (ledger_of L z)
  drop_row i o d trades =
      let mid : State = charged laid ready d in
      let seat = seats_without L mid (o ∷ []) (charged_laid laid ready d) in (
        frame_entry (actor laid ready d),
        under s t,
        own_of d.after,
        actor_runs laid ready d,
        trades,
        ap (ledger_of L) d.becomes
            ∙ ap (with_seats (ledger_of L mid)) (seat ∙ remove_one o (seats s))
            ∙ ap (λ (k : Ledger). record k { seat = at o None (seats s) }) (charged_ledger laid ready d),
      )

  pub set_row : (i o at : ℕ) (values : List ℕ) (d : Does L s t i (action.Set o at values) answer.Went (with_cells_of o (overwritten at values)) z)
      → 0 < count o (own_of (actor laid ready d)) → Trades laid ready d [] [] → Row L (ledger_of L s) (entry.Set t o at values) (ledger_of L z)
  set_row i o at values d has_it trades =
      let mid : State = charged laid ready d in (
        frame_entry (actor laid ready d),
        under s t,
        own_of d.after,
        actor_runs laid ready d,
        has_it,
        trades,
        ap (ledger_of L) d.becomes ∙ ap (with_seats (ledger_of L mid)) (seats_cells mid o (overwritten at values)) ∙ charged_ledger laid ready d,
      )

  pub wput_row : (i k v : ℕ) (d : Does L s t i (action.Wput k v) answer.Went (with_word i k v) z)
      → k < length (words s i) → Trades laid ready d [] [] → Row L (ledger_of L s) (entry.Wput t i k v) (ledger_of L z)
  wput_row i k v d inside trades =
      let mid : State = charged laid ready d in
      let up = actor_lives laid ready d in (
        frame_entry (actor laid ready d),
        under s t,
        own_of d.after,
        actor_runs laid ready d,
        actor_inside laid ready d,
        trades,
        ap (ledger_of L) d.becomes
            ∙ of_instances (ledger_of L mid) (loads_kept mid i _ (λ x. refl)) (lives_kept mid i _ (λ x. refl)) (count_kept mid i _) (words_set mid i k v up inside) (slots_kept mid i _ (λ x. refl))
            ∙ ap (λ (m : Ledger). record m { words = at i (at k v ((ledger_of L s).words i)) ((ledger_of L s).words) }) (charged_ledger laid ready d),
      )

  pub take_row : (i k o : ℕ) (slot : List ℕ) → IsSlotOf L s i k slot → in_slot s i k ≡ Some o → (d : Does L s t i (action.Take k) (answer.Made o) (with_slot i k None) z)
      → Trades laid ready d [] (o ∷ []) → Row L (ledger_of L s) (entry.Take t i slot o) (ledger_of L z)
  take_row i k o slot named full d trades =
      let mid : State = charged laid ready d in
      let up = actor_lives laid ready d in (
        k,
        frame_entry (actor laid ready d),
        under s t,
        own_of d.after,
        actor_runs laid ready d,
        actor_inside laid ready d,
        named,
        full_slot (slots s i) k o full,
        trades,
        ap (ledger_of L) d.becomes
            ∙ of_instances (ledger_of L mid) (loads_kept mid i _ (λ x. refl)) (lives_kept mid i _ (λ x. refl)) (count_kept mid i _) (words_kept mid i _ (λ x. refl)) (slots_set mid i k None up)
            ∙ ap (λ (m : Ledger). record m { slots = at i (slice_set (slots s i) k None) (slots s) }) (charged_ledger laid ready d),
      )

  pub put_row : (i k o : ℕ) (slot : List ℕ) → IsSlotOf L s i k slot → slice_get (slots s i) k ≡ Some None → (d : Does L s t i (action.Put k o) answer.Went (with_slot i k (Some o)) z)
      → Trades laid ready d (o ∷ []) [] → Row L (ledger_of L s) (entry.Put t i slot o) (ledger_of L z)
  put_row i k o slot named empty d trades =
      let mid : State = charged laid ready d in
      let up = actor_lives laid ready d in (
        k,
        frame_entry (actor laid ready d),
        under s t,
        own_of d.after,
        actor_runs laid ready d,
        actor_inside laid ready d,
        named,
        empty,
        trades,
        ap (ledger_of L) d.becomes
            ∙ of_instances (ledger_of L mid) (loads_kept mid i _ (λ x. refl)) (lives_kept mid i _ (λ x. refl)) (count_kept mid i _) (words_kept mid i _ (λ x. refl)) (slots_set mid i k (Some o) up)
            ∙ ap (λ (m : Ledger). record m { slots = at i (slice_set (slots s i) k (Some o)) (slots s) }) (charged_ledger laid ready d),
      )

  pub devget_row : (i o b : ℕ) (d : Does L s t i (action.DevGet o b) answer.Went (with_cells_of o (instead (block s b))) z)
      → 0 < count o (own_of (actor laid ready d)) → Trades laid ready d [] [] → Row L (ledger_of L s) (entry.DevGet t o b) (ledger_of L z)
  devget_row i o b d has_it trades =
      let mid : State = charged laid ready d in (
        frame_entry (actor laid ready d),
        under s t,
        own_of d.after,
        actor_runs laid ready d,
        has_it,
        trades,
        ap (ledger_of L) d.becomes ∙ ap (with_seats (ledger_of L mid)) (seats_cells mid o (instead (block s b))) ∙ charged_ledger laid ready d,
      )

  pub devput_row : (i o b : ℕ) (cells : List ℕ) (d : Does L s t i (action.DevPut b o) answer.Went (with_block b cells) z)
      → (0 < count o (own_of (actor laid ready d))) ⊎ (0 < count o (actor laid ready d).lent) → Trades laid ready d [] [] → Row L (ledger_of L s) (entry.DevPut t b o) (ledger_of L z)
  devput_row i o b cells d reads trades = (
    frame_entry (actor laid ready d),
    under s t,
    own_of d.after,
    actor_runs laid ready d,
    reads,
    trades,
    ap (ledger_of L) d.becomes ∙ charged_ledger laid ready d,
  )

  pub hang_row : (i o k v : ℕ) (d : Does L s t i (action.Hang o k v) answer.Went (placed v (Hung o k)) z)
      → 0 < count o (own_of d.after) → Trades laid ready d (v ∷ []) [] → IsIn s v
      → ((q : ℕ) → seats s q ≡ Some (Hung o k) → ⊥) → ((q j : ℕ) → seats s q ≡ Some (Hung v j) → ⊥)
      → Row L (ledger_of L s) (entry.Hang t o k v) (ledger_of L z)
  hang_row i o k v d has_it trades there empty leaf =
      let mid : State = charged laid ready d in (
        frame_entry (actor laid ready d),
        under s t,
        own_of d.after,
        actor_runs laid ready d,
        has_it,
        trades,
        empty,
        leaf,
        ap (ledger_of L) d.becomes
            ∙ ap (with_seats (ledger_of L mid)) (seats_placed mid v (Hung o k) there)
            ∙ ap (λ (m : Ledger). record m { seat = at v (Some (Hung o k)) (seats s) }) (charged_ledger laid ready d),
      )

  pub unhang_row : (i o k v : ℕ) (d : Does L s t i (action.Unhang o k) (answer.Made v) (placed v (Root (owner.Instance i))) z)
      → 0 < count o (own_of (actor laid ready d)) → seats s v ≡ Some (Hung o k) → Trades laid ready d [] (v ∷ []) → IsIn s v
      → Row L (ledger_of L s) (entry.Unhang t o k v) (ledger_of L z)
  unhang_row i o k v d has_it hung trades there =
      let mid : State = charged laid ready d in (
        frame_entry (actor laid ready d),
        under s t,
        own_of d.after,
        actor_runs laid ready d,
        has_it,
        hung,
        trades,
        ap (ledger_of L) d.becomes
            ∙ ap (with_seats (ledger_of L mid)) (seats_placed mid v (Root (owner.Instance i)) there)
            ∙ ap (λ (m : Ledger). record m { seat = at v (Some (Root (owner.Instance i))) (seats s) }) (charged_ledger laid ready d)
            ∙ ap (λ (w : Owner). record (ledger_of L s) { stack = stacks_after laid ready d; seat = at v (Some (Root w)) (seats s) }) (sym (actor_inside laid ready d)),
      )
