use Rattle.std.proofs.Common.{◌≡◌, ℕ, ◌<◌, ◌≤◌, true, false, length, slice_index_or, vec_capacity}
use Rattle.std.specs.Mem.Slots.{slots_items, slots_filled, slots_len}
use mathlib.Core.Option.{some}
use lib.ListN.{get_elem?}
use Rattle.machine_defs.specs.Heads.{Slot}
use Rattle.rref_heads.proofs.emptied.take_payloads.Given as goal

abbrev pub invariant-loop-i : goal.invariant-loop-i
invariant-loop-i l = (length l.payloads.items ≡ l.i) × (l.count ≤ vec_capacity l.payloads) × (slots_items l.closed.slots ≡ slots_items l.initial.closed.slots) × (slots_len l.closed.slots ≡ l.count)
    × ((j : ℕ) → j < l.i → slice_index_or (slots_filled l.closed.slots) j false ≡ false) × ((j : ℕ) → l.i ≤ j → j < l.count → slice_index_or (slots_filled l.closed.slots) j false ≡ true)
    × ((j : ℕ) → j < l.i → (o : Slot) × (get_elem? l.payloads.items j ≡ some o) × (get_elem? (slots_items l.initial.closed.slots) j ≡ some o))
