use Rattle.std.proofs.Common.{◌≡◌, ℕ, suc, ◌<◌, ◌≤◌, length, vec_capacity}
use Rattle.std.specs.Mem.Slots.{slots_items}
use mathlib.Core.Option.{some}
use lib.ListN.{get_elem?}
use Rattle.machine_defs.specs.declared.heads.HeadWord.{HeadWord}
use Rattle.machine_defs.specs.Heads.{word_number, Fits}
use Rattle.rref_heads.proofs.emptied.read_words.Given as goal

abbrev pub invariant-loop-i : goal.invariant-loop-i
invariant-loop-i l = (length l.words.items ≡ l.i) × (l.count ≤ vec_capacity l.words)
    × ((j : ℕ) → j < l.i → (a : HeadWord) × (get_elem? l.words.items j ≡ some a) × Fits 64 a × (get_elem? (slots_items l.closed.words) (suc j) ≡ some (word_number a)))
