-- Lists of passes.
use Rattle.std.proofs.Common.{◌≡◌, ℕ, zero, suc, ◌+◌, List, [], ◌∷◌, ◌++◌, length, refl, ap, ◌∙◌, arith}
use Rattle.rref_heads.specs.declared.table.Heads.{Heads}
use Rattle.rref_heads.specs.declared.table.Pass.{Pass}
use Rattle.machine_defs.specs.HeadSums.{total}
use Rattle.machine_defs.specs.Heads.{Kind, claim, title, loan, right, how_many, empty}
use Rattle.rref_heads.specs.Passes.{view, IsPassOf, IsEmpty, AreFresh, AreEmpty, sum_over}

pub fresh_more : (t : Heads) (n m : ℕ) (ps : List Pass) (p : Pass) → AreFresh t n ps → m ≡ length ps → IsPassOf t p → p.number ≡ n + m → view p ≡ empty 1 → AreFresh t n (ps ++ p ∷ [])
fresh_more t n m [] p f long own is v = (own, is ∙ (omega arith), v, tt)
fresh_more t n zero (x ∷ ps) p f long own is v = absurd (omega arith)
fresh_more t n (suc m) (x ∷ ps) p f long own is v = (f.0, f.1, f.2, fresh_more t (n + 1) m ps p f.3 (omega arith) own (is ∙ (omega arith)) v)

pub sum_snoc : (k : Kind) (h : ℕ) (ps : List Pass) (p : Pass) → sum_over k h (ps ++ p ∷ []) ≡ sum_over k h ps + how_many k h (view p)
sum_snoc k h [] p = omega arith
sum_snoc k h (x ∷ ps) p = let m = sum_snoc k h ps p in omega arith

pub empty_snoc : (t : Heads) (ps : List Pass) (p : Pass) → AreEmpty t (ps ++ p ∷ []) → AreEmpty t ps × IsPassOf t p × IsEmpty (view p)
empty_snoc t [] p a = (tt, a.0, a.1)
empty_snoc t (x ∷ ps) p a = let r = empty_snoc t ps p a.2 in ((a.0, a.1, r.0), r.1, r.2)

pub record NoneHeld (ps : List Pass) (h : ℕ) : Type 0 where
  pub claims : sum_over claim h ps ≡ 0
  pub titles : sum_over title h ps ≡ 0
  pub loans : sum_over loan h ps ≡ 0
  pub rights : sum_over right h ps ≡ 0

pub none_held : (t : Heads) (ps : List Pass) (h : ℕ) → AreEmpty t ps → NoneHeld ps h
none_held t [] h a = record { claims = refl; titles = refl; loans = refl; rights = refl }
none_held t (p ∷ ps) h a = let r = none_held t ps h a.2 in let e = a.1 in record {
  claims = let z : how_many claim h (view p) ≡ 0 = ap (λ xs. Rattle.machine_defs.specs.HeadSums.count Rattle.machine_defs.specs.Heads.itself h xs) e.0 in let y = r.claims in omega arith;
  titles = let z : how_many title h (view p) ≡ 0 = ap (λ xs. Rattle.machine_defs.specs.HeadSums.count Rattle.machine_defs.specs.Heads.head_of h xs) e.1 in let y = r.titles in omega arith;
  loans = let z : how_many loan h (view p) ≡ 0 = ap (λ xs. Rattle.machine_defs.specs.HeadSums.count Rattle.machine_defs.specs.Heads.itself h xs) e.2 in let y = r.loans in omega arith;
  rights = let z : how_many right h (view p) ≡ 0 = ap (λ xs. Rattle.machine_defs.specs.HeadSums.count Rattle.machine_defs.specs.Heads.itself h xs) e.3 in let y = r.rights in omega arith;
}
