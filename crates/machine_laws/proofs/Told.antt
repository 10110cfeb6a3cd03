-- What the ledger keeps of words, slots and closed calls, told of the state itself.
use Rattle.std.proofs.Common.{◌≡◌, ℕ, zero, suc, ◌+◌, ◌<◌, ◌≤◌, true, List, [], ◌∷◌, length, Option, Some, None, slice_get, refl, ap, sym, ◌∙◌, arith, inl, inr}
use Rattle.std.specs.Prelude.{All}
use Rattle.std.proofs.lemmas.Bool.{cases_lt}
use Rattle.std.proofs.lemmas.Option.{get_or_from_slice_get}
use Rattle.rl_defs.specs.declared.load.LoadRows.{LoadRows}
use Rattle.machine_defs.specs.Runs.{AllDone}
use Rattle.machine_defs.specs.State.{State, Thread}
use Rattle.rl_defs.specs.Rows.{row}
use Rattle.machine_defs.specs.Seen.{words, slots, in_slot}
use Rattle.machine_defs.specs.ObjectRows.{IsSlot}
use Rattle.machine_defs.specs.Steps.{Turn}
use Rattle.machine_defs.specs.History.{word_at, slot_at}
use Rattle.machine_defs.specs.Untouched.{AreContents}
use Rattle.machine_laws.specs.LedgerOf.{is_done, ledger_of}
use Rattle.machine_laws.specs.Shape.{Laid}
use Rattle.machine_laws.proofs.Rows.{row_within}
use Rattle.machine_laws.proofs.Contents.{ContentsAgree}
use Rattle.machine_laws.proofs.Parts.{words_in, slots_in, content}

-- past its end a list has no row
pub row_past : {A : Type 0} (xs : List A) (i : ℕ) → length xs + 1 ≤ i → row xs i ≡ None
row_past xs i past = go (row xs i) refl
  where
    go : (found : Option _) → row xs i ≡ found → row xs i ≡ None
    go None e = e
    go (Some x) e = absurd (let w = (row_within xs i x e).1 in omega (arith, w, past))

no_item : {A : Type 0} (xs : List A) (k : ℕ) → xs ≡ [] → slice_get xs k ≡ None
no_item xs k e = ap (λ ys. slice_get ys k) e

-- words and slots hold what the history tells
pub contents_told : (L : LoadRows) (us : List Turn) (s : State) → ContentsAgree L us (ledger_of L s) → AreContents L us s
contents_told L us s agree = record { words = word_told; slots = slot_told }
  where
    word_told : (i at v : ℕ) → slice_get (words s i) at ≡ Some v → v ≡ word_at us i at
    word_told i at v e = elim (cases_lt i (length s.instances + 1)) [
      | inl lt ↦ sym (agree.words_told i at lt ∙ get_or_from_slice_get (words s i) at v 0 e)
      | inr past ↦ absurd (let none : words s i ≡ [] = ap words_in (row_past s.instances i past) in let n : slice_get (words s i) at ≡ None = no_item (words s i) at none in cc)
    ]

    slot_told : (i k : ℕ) (slot : List ℕ) → IsSlot L s i k slot → in_slot s i k ≡ slot_at us i slot
    slot_told i k slot named = elim (cases_lt i (length s.instances + 1)) [
      | inl lt ↦ sym (agree.slots_told i k slot lt named)
      | inr past ↦ (let none : slots s i ≡ [] = ap slots_in (row_past s.instances i past) in ap content (no_item (slots s i) k none) ∙ sym (agree.no_slots i slot past))
    ]

all_done : (threads : List Thread) → All (λ thread. thread.done ≡ true) threads → (t : ℕ) → 0 < t → t ≤ length threads → is_done (row threads t) ≡ true
all_done [] all t pos le = absurd (omega (arith, pos, le))
all_done (x ∷ xs) all zero pos le = absurd (omega arith)
all_done (x ∷ xs) all (suc zero) pos le = all 0 x (omega arith)
all_done (x ∷ xs) all (suc (suc t)) pos le = all_done xs (λ k d lt. all (suc k) d (omega (arith, lt))) (suc t) (omega arith) (omega (arith, le))

-- every client of the ledger is done
pub ledger_done : (L : LoadRows) (s : State) → Laid L s → AllDone s → (t : ℕ) → 0 < t → t ≤ length L.clients → (ledger_of L s).done t ≡ true
ledger_done L s laid done t pos le = all_done s.threads done t pos (let e = laid.threads in omega (arith, e, le))
