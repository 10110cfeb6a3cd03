-- The fields of a name from its bytes.
use Rattle.std.proofs.Common.{◌≡◌, ℕ, List, length, take, ap, ◌∙◌, arith}
use Rattle.std.proofs.lemmas.List.{length-take}
use Rattle.rl_defs.specs.Padded.{padded, Padded}
use Rattle.rl_defs.specs.declared.name.Name.TheInside.{Inside}

abbrev inside : List ℕ → ℕ → Inside
inside b n = record { bytes = b; len = n }

pub inside-back : (a : Inside) → Padded a.bytes a.len → inside (padded (take a.len a.bytes)) (length (take a.len a.bytes)) ≡ a
inside-back a h =
    let len : length (take a.len a.bytes) ≡ a.len = omega (arith, length-take a.len a.bytes, h.len, h.fits) in
    ap (λ (b : List ℕ). inside b (length (take a.len a.bytes))) h.zeros ∙ ap (λ (n : ℕ). inside a.bytes n) len
