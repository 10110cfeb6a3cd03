-- The words that lines begin with: each is found by its bytes, and what is found has them.
use Rattle.std.proofs.Common.{◌≡◌, ℕ, Bool, true, false, cond, List, [], ◌∷◌, Option, Some, refl, sym}
use Rattle.std.specs.Prelude.{nat_eq, find}
use Rattle.std.specs.Cmp.Lexicographic.{pointwise}
use Rattle.std.proofs.lemmas.Slice.Eq.{slice_eq-Decides}
use Rattle.std.proofs.lemmas.Bool.Decides.{Decides-eqb}
use Rattle.rl_defs.specs.declared.code.MathOp.TheVariants as op
use Rattle.domain_code.specs.declared.verb.One.TheVariants as one
use Rattle.domain_code.specs.declared.verb.Two.TheVariants as two
use Rattle.domain_code.specs.declared.verb.Three.TheVariants as three
use Rattle.domain_code.specs.declared.verb.Named.TheVariants as named
use Rattle.domain_code.specs.declared.verb.Verb.{Verb}
use Rattle.domain_code.specs.declared.verb.Verb.TheVariants as verb
use Rattle.domain_code.specs.Verbs.{verb_text, among, with_letter, verb_of}

same_text : (left right : List ℕ) → pointwise nat_eq left right ≡ true → right ≡ left
same_text left right is = sym ((slice_eq-Decides Decides-eqb left right true (sym is)).0 refl)

found : (word : List ℕ) (x v : Verb) (other : Option Verb) (b : Bool) → pointwise nat_eq (verb_text x) word ≡ b → (other ≡ Some v → word ≡ verb_text v) → cond b (Some x) other ≡ Some v → word ≡ verb_text v
found word x v other true is later e = let same : x ≡ v = cc in rw (← same) (same_text (verb_text x) word is)
found word x v other false is later e = later e

among_takes : (vs : List Verb) (word : List ℕ) (v : Verb) → among vs word ≡ Some v → word ≡ verb_text v
unfolding among
among_takes [] word v e = absurd cc
among_takes (x ∷ vs) word v e = found word x v (find (λ y. pointwise nat_eq (verb_text y) word) vs) _ refl (among_takes vs word v) e

pub verb_takes : (word : List ℕ) (v : Verb) → verb_of word ≡ Some v → word ≡ verb_text v
unfolding verb_of
verb_takes [] v e = absurd cc
verb_takes (c ∷ cs) v e = among_takes (with_letter c) (c ∷ cs) v e

pub verb_again : (v : Verb) → verb_of (verb_text v) ≡ Some v
unfolding verb_of among
verb_again verb.Domain = refl
verb_again verb.Words = refl
verb_again verb.Slot = refl
verb_again verb.Import = refl
verb_again verb.Native = refl
verb_again (verb.One one.DevSize) = refl
verb_again (verb.One one.Drop) = refl
verb_again (verb.Two two.Copy) = refl
verb_again (verb.Two two.Move) = refl
verb_again (verb.Two two.Wget) = refl
verb_again (verb.Two two.Wput) = refl
verb_again (verb.Two two.DevGet) = refl
verb_again (verb.Two two.DevPut) = refl
verb_again (verb.Three (three.Math op.Add)) = refl
verb_again (verb.Three (three.Math op.Sub)) = refl
verb_again (verb.Three (three.Math op.Mul)) = refl
verb_again (verb.Three (three.Math op.Div)) = refl
verb_again (verb.Three (three.Math op.Rem)) = refl
verb_again (verb.Three (three.Math op.And)) = refl
verb_again (verb.Three (three.Math op.Or)) = refl
verb_again (verb.Three (three.Math op.Xor)) = refl
verb_again (verb.Three (three.Math op.Lt)) = refl
verb_again (verb.Three (three.Math op.Eq)) = refl
verb_again (verb.Three three.Get) = refl
verb_again (verb.Three three.Set) = refl
verb_again (verb.Named named.Jz) = refl
verb_again (verb.Named named.Has) = refl
verb_again (verb.Named named.Cap) = refl
verb_again (verb.Named named.New) = refl
verb_again (verb.Named named.Take) = refl
verb_again verb.Jmp = refl
verb_again verb.Put = refl
verb_again verb.Hang = refl
verb_again verb.Unhang = refl
verb_again verb.Call = refl
verb_again verb.Ret = refl
verb_again verb.Trap = refl
