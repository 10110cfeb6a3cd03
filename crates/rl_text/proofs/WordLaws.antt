-- A run that is neither a reserved word nor a name is no word.
use Rattle.std.proofs.Common.{◌≡◌, ℕ, Bool, true, false, List, Option, Some, None, refl}
use Rattle.std.specs.Prelude.{IsSome}
use Rattle.rl_defs.specs.Words.{is_name}
use Rattle.rl_text.specs.Scan.{key_of, word_of}

pub not_name : {X : Type 0} (b : Bool) (o : Option X) → o ≡ None → (b ≡ true → IsSome o) → b ≡ false
not_name true None none some = absurd (let e : false ≡ true = some refl in let x : ⊥ = cc in x)
not_name true (Some v) none some = absurd (let x : ⊥ = cc in x)
not_name false o none some = refl

pub no_word : (run : List ℕ) → key_of run ≡ None → is_name run ≡ false → word_of run ≡ None
unfolding word_of
no_word run key name = rw (key, name) refl
