-- Lines that are written: a text that holds them, and the tokens that they have.
use Rattle.std.proofs.Common.{◌≡◌, ℕ, zero, suc, ◌*◌, ◌≤◌, true, false, eqb, List, [], ◌∷◌, ◌++◌, length, replicate, refl, sym, ap, ◌∙◌, append_assoc, arith}
use Rattle.std.specs.List.{list_all}
use Rattle.std.proofs.lemmas.List.{take_all}
use Rattle.std.proofs.lemmas.Bool.Decides.{nat_tests}
use Rattle.rl_defs.specs.Lines.{lines_of}
use Rattle.rl_defs.specs.Tokens.{Token, HasTokens, is_line_byte, is_blank}
use Rattle.rl_text.specs.Canonical.{render, render_line}
use Rattle.rl_defs.specs.DomainForms.{HasDecimals}
use Rattle.rl_text.specs.Cuts.{kept}
use Rattle.rl_text.specs.Writable.{AreWritable, written_inside}
use Rattle.rl_text.proofs.Runs.{and_true}
use Rattle.rl_text.proofs.LineLaws.{not_feed, lines_fed}
use Rattle.rl_text.proofs.RenderSpells.{front_bytes, front_has, front_decimal}

line_byte : (c : ℕ) → is_line_byte c ≡ true → (not_feed c ≡ true) × (eqb c 13 ≡ false)
line_byte c h = (grind (arith, nat_tests), grind (arith, nat_tests))

no_feeds : (cs : List ℕ) → list_all is_line_byte cs ≡ true → list_all not_feed cs ≡ true
no_feeds [] h = refl
no_feeds (c ∷ cs) h = let p = and_true (is_line_byte c) (list_all is_line_byte cs) h in rw (line_byte c p.0).0 (no_feeds cs p.1)

all_kept : (cs : List ℕ) → list_all is_line_byte cs ≡ true → kept cs ≡ length cs
all_kept [] h = refl
all_kept (c ∷ []) h = let p = and_true (is_line_byte c) true h in rw (line_byte c p.0).1 refl
all_kept (c ∷ d ∷ cs) h = let p = and_true (is_line_byte c) (list_all is_line_byte (d ∷ cs)) h in ap suc (all_kept (d ∷ cs) p.1)

-- a line and its line feed
fed : (text more : List ℕ) → list_all is_line_byte text ≡ true → lines_of (text ++ 10 ∷ more) ≡ text ∷ lines_of more
fed text more all = lines_fed text more (no_feeds text all) ∙ ap (λ (t : List ℕ). t ∷ lines_of more) (take_all (kept text) text (omega (arith, all_kept text all)))

blanks : (n : ℕ) → list_all is_blank (replicate n 32) ≡ true
blanks zero = refl
blanks (suc n) = blanks n

parts : (depth : ℕ) (ts : List Token) (more : List ℕ) → render_line depth ts ++ more ≡ written_inside depth ts ++ 10 ∷ more
unfolding render_line
parts depth ts more =
    let front : List ℕ = replicate (4 * depth) 32 in
    ap (λ (t : List ℕ). t ++ more) (sym (append_assoc front (render ts) (10 ∷ []))) ∙ append_assoc (front ++ render ts) (10 ∷ []) more

-- the bytes of a line that is written may stand in a line
pub written_bytes : (depth : ℕ) (ts : List Token) → AreWritable ts → list_all is_line_byte (written_inside depth ts) ≡ true
written_bytes depth ts h = front_bytes (replicate (4 * depth) 32) ts (blanks (4 * depth)) h

-- a line that is written is the first line of the text that begins with it
pub written_first : (depth : ℕ) (ts : List Token) (more : List ℕ) → AreWritable ts → lines_of (render_line depth ts ++ more) ≡ written_inside depth ts ∷ lines_of more
written_first depth ts more h = ap lines_of (parts depth ts more) ∙ fed (written_inside depth ts) more (written_bytes depth ts h)

-- it has exactly the tokens that were written, where it is no longer than a line may be
pub written_has : (depth : ℕ) (ts : List Token) → AreWritable ts → length (written_inside depth ts) ≤ 2048 → HasTokens ts (written_inside depth ts)
written_has depth ts h le = front_has (replicate (4 * depth) 32) ts (blanks (4 * depth)) h le

-- its numbers are written in decimal digits
pub written_decimal : (depth : ℕ) (ts : List Token) → AreWritable ts → length (written_inside depth ts) ≤ 2048 → HasDecimals (written_inside depth ts)
written_decimal depth ts h le = front_decimal (replicate (4 * depth) 32) ts (blanks (4 * depth)) h le
