-- The words and payloads of a closed table, with the views of its passes, meet the rule.
use Rattle.std.proofs.Common.{◌≡◌, ℕ, zero, suc, ◌-◌, ◌<◌, ◌≤◌, List, [], ◌∷◌, map, length, get_or, Some, None, sym, refl, ap, ◌∙◌, subst, arith}
use mathlib.Core.Option.{some, some-injective, some-ne-none}
use lib.ListN.{get_elem?, length-map}
use Rattle.atomic_table.proofs.Lists.{at_map}
use Rattle.machine_defs.specs.declared.heads.HeadWord.{HeadWord}
use Rattle.machine_defs.specs.declared.heads.HeadWord.TheVariants.{Vacant, Busy, Gone, Live}
use Rattle.machine_defs.specs.declared.heads.View.{View}
use Rattle.machine_defs.specs.declared.heads.Size.{Size}
use Rattle.rref_heads.specs.declared.table.Heads.{Heads}
use Rattle.rref_heads.specs.declared.table.Pass.{Pass}
use Rattle.machine_defs.specs.HeadSums.{total}
use Rattle.machine_defs.specs.Heads.{Kind, claim, right, due, word_number, Fits, KeptUnless, Home, known, Place, HeadKept, HeadRule, passes}
use Rattle.machine_defs.specs.Heads.{Slot}
use Rattle.rref_heads.specs.Passes.{view, IsEmpty, AreEmpty, sum_over, closed_table}
use Rattle.rref_heads.proofs.SeatsMeet.{some_none}

pub closed_home : (a : HeadWord) (p : Place) (o : Slot) → Home a p → ((y : Slot) → p ≡ some (some y) → o ≡ y) → due a claim ≡ 0 → due a right ≡ 0 → Home a (some (some o))
closed_home Vacant p o home same c r = ap (λ (x : Slot). some (some x)) (same None home)
closed_home Busy p o home same c r = absurd (omega arith)
closed_home Gone p o home same c r = ap (λ (x : Slot). some (some x)) (same None home)
closed_home (Live l e to) p o home same c r = let x = subst (λ (n : ℕ). KeptUnless n p) r home in subst (λ (n : ℕ). KeptUnless n (some (some o))) (sym r) (x.0, ap (λ (y : Slot). some (some y)) (same (Some x.0) x.1))

coded_at : (ws : List HeadWord) (i : ℕ) (a : HeadWord) → get_elem? ws i ≡ some a → get_or (map word_number ws) i 0 ≡ word_number a
coded_at [] i a e = absurd (some-ne-none a (sym e))
coded_at (w ∷ ws) zero a e = ap word_number (some-injective w a e)
coded_at (w ∷ ws) (suc i) a e = coded_at ws i a e

view_at : (t : Heads) (ps : List Pass) → AreEmpty t ps → (j : ℕ) (v : View) → get_elem? (map view ps) j ≡ some v → IsEmpty v × (v.passes ≡ 1)
view_at t [] a j v e = absurd (some-ne-none v (sym e))
view_at t (p ∷ ps) a zero v e = subst (λ (u : View). IsEmpty u × (u.passes ≡ 1)) (some-injective (view p) v e) (a.1, p.rests.1)
view_at t (p ∷ ps) a (suc j) v e = view_at t ps a.2 j v e

pub as_many : (ps : List Pass) → total passes (map view ps) ≡ length ps
as_many [] = refl
as_many (p ∷ ps) = let m = as_many ps in let one : (view p).passes ≡ 1 = p.rests.1 in omega arith

abbrev pub Shut : ℕ → List Pass → List HeadWord → List Slot → ℕ → Type 0
Shut seats ps words payloads i = (a : HeadWord) × (o : Slot) × (get_elem? words i ≡ some a) × (get_elem? payloads i ≡ some o) × ((k : Kind) → sum_over k (suc i) ps ≡ due a k) × Home a (some (some o)) × Fits seats a

pub closing : (size : Size) (t : Heads) (ps : List Pass) (words : List HeadWord) (payloads : List Slot) → size.seats ≤ 64 → length ps ≡ size.seats → AreEmpty t ps → length words ≡ size.heads → length payloads ≡ size.heads
    → ((i : ℕ) → i < size.heads → Shut size.seats ps words payloads i) → HeadRule size (closed_table words payloads ps)
closing size t ps words payloads few all empty long deep each = record {
  wide = let m = length-map words word_number in (omega arith);
  deep = length-map payloads some ∙ deep;
  few = few;
  heads = λ h pos le. closed_head h pos le;
  seats = as_many ps ∙ all;
  spent = λ j v e z. absurd (let x = (view_at t ps empty j v e).1 in omega arith);
}
  where
    closed_head : (h : ℕ) → 1 ≤ h → h ≤ size.heads → HeadKept size.seats (closed_table words payloads ps) h
    closed_head zero pos le = absurd (omega arith)
    closed_head (suc i) pos le = let x = each i (omega arith) in let back : i ≡ suc i - 1 = omega arith in record {
      word = x.0;
      shows = coded_at words i x.0 x.2;
      fits = x.6;
      sums = x.4;
      home = subst (Home x.0) (sym (at_map some payloads i x.1 x.3) ∙ ap (get_elem? (map some payloads)) back) x.5;
      knows = λ j v e l d. absurd (some_none l (ap (λ ts. known (suc i) ts) (sym (view_at t ps empty j v e).0.1) ∙ d));
    }
