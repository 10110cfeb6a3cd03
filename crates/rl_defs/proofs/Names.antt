-- A name's bytes at the front of an array.
use Rattle.std.proofs.Common.{◌≡◌, ℕ, ◌-◌, ◌≤◌, Bool, true, false, not, ◌&&◌, List, ◌++◌, length, take, drop, refl, ap, arith, length-append}
use Rattle.std.specs.Prelude.{IsTrue, replicate}
use Rattle.std.proofs.lemmas.List.{drop-replicate, length-replicate}
use Rattle.std.proofs.Math.Seq.{take-append_seam}
use Rattle.rl_defs.specs.Padded.{padded, KeepsName}
use Rattle.rl_defs.specs.Words.{is_name}

-- the bytes copied to the front of zeros
pub kept : (xs copied : List ℕ) → copied ≡ xs → length xs ≤ 24 → IsTrue (is_name xs) → KeepsName (copied ++ drop (length xs) (replicate 24 0)) (length xs)
kept xs copied same fits name =
    let zeros : copied ++ drop (length xs) (replicate 24 0) ≡ padded xs = rw (drop-replicate, same) refl in
    let front : take (length xs) (padded xs) ≡ xs = take-append_seam xs (replicate (24 - length xs) 0) in
    let count : length (padded xs) ≡ 24 = omega (arith, length-append xs (replicate (24 - length xs) 0), length-replicate {A = ℕ} (24 - length xs) 0) in
    rw zeros (record {
      padded = record { fits = fits; zeros = ap padded front; len = count };
      name = rw front name;
    })

-- a word that isn't reserved
pub named : (word reserved : Bool) → word ≡ true → reserved ≡ false → IsTrue (word && not reserved)
named word reserved w r = rw (w, r) refl

pub unset : (b : Bool) → IsTrue (not b) → b ≡ false
unset true h = absurd cc
unset false h = refl

-- a reserved word is no name
pub taken : (word reserved : Bool) → reserved ≡ true → (false ≡ true → IsTrue (word && not reserved)) × (IsTrue (word && not reserved) → false ≡ true)
taken true true e = (λ h. h, λ h. h)
taken false true e = (λ h. h, λ h. h)
taken word false e = absurd cc
