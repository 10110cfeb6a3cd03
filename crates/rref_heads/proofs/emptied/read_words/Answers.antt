use Rattle.std.proofs.Common.{rules, ◌≡◌, ℕ, suc, ◌+◌, ◌<◌, ◌∙◌, List, [], ◌∷◌, ◌++◌, sym, ap, subst}
use Rattle.std.specs.Mem.Slots.{slots_items}
use mathlib.Core.Option.{some}
use lib.ListN.{get_elem?}
use Rattle.machine_defs.specs.declared.heads.HeadWord.{HeadWord}
use Rattle.machine_defs.specs.Heads.{word_number, Fits}
use Rattle.rref_heads.proofs.LastState.{push_each, next_is}
use Rattle.rref_heads.proofs.emptied.read_words.Goals as goal

pub word_of-word-requires : goal.word_of-word-requires
word_of-word-requires c = let a = c.requires.shown c.loop-i.i c.loop-i-test.true in (a.0, next_is (slots_items c.args.closed.now.words) c.loop-i.i c.word.result (word_number a.0) c.word.ensures a.2, a.1)

pub loop-i-preserved : goal.loop-i-preserved
loop-i-preserved c = let n : ℕ = c.loop-i.i in let inv = c.loop-i.invariant in let a = c.requires.shown n c.loop-i-test.true in let ws : List ℕ = slots_items c.args.closed.now.words in
    let is : c.word_of-word.result ≡ a.0 = c.word_of-word.ensures a.0 (next_is ws n c.word.result (word_number a.0) c.word.ensures a.2) a.1 in let grown = c.push_reserved.ensures.items in let long = c.push_reserved.ensures.len in let room = c.push_reserved.ensures.capacity in
    let all : (j : ℕ) → j < n + 1 → (b : HeadWord) × (get_elem? (c.loop-i.words.items ++ c.word_of-word.result ∷ []) j ≡ some b) × (Fits 64 b × (get_elem? ws (suc j) ≡ some (word_number b))) =
    push_each (λ (j : ℕ) (b : HeadWord). Fits 64 b × (get_elem? ws (suc j) ≡ some (word_number b))) c.loop-i.words.items n c.word_of-word.result inv.0 (λ j le. let x = inv.2 j le in (x.0, x.1, (x.2, x.3)))
    (subst (λ (b : HeadWord). Fits 64 b × (get_elem? ws (suc n) ≡ some (word_number b))) (sym is) (a.1, a.2)) in (
      search rules,
      search rules,
      (λ j le. let x = all j le in (x.0, ap (λ l. get_elem? l j) grown ∙ x.1, x.2.0, x.2.1)),
    )
