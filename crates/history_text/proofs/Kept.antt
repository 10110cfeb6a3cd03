-- What a text keeps at its front while more is put behind it.
use Rattle.std.proofs.Common.{◌≡◌, ℕ, List, ◌++◌, length, take, refl, sym, ap, ◌∙◌, arith, length-append}
use Rattle.std.proofs.lemmas.List.{take_at, take-take}

pub kept_append : (old new more : List ℕ) → new ≡ old ++ more → take (length old) new ≡ old
kept_append old new more e = rw e (take_at old more (length old) refl)

pub kept_then : (old mid new more : List ℕ) → mid ≡ old ++ more → take (length mid) new ≡ mid → take (length old) new ≡ old
kept_then old mid new more e rest =
    let longer = ap length e in
    sym (take-take (length old) (length mid) new (omega (arith, length-append old more))) ∙ (ap (λ (xs : List ℕ). take (length old) xs) rest ∙ kept_append old mid more e)
