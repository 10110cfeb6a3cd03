use Rattle.std.proofs.Common.{◌∙◌, sym, refl, ℕ, List}
use Rattle.rl_defs.specs.Tokens.{Placed, HasPlaced}
use Rattle.rl_text.specs.declared.scan.Scanned.{Scanned}
use Rattle.rl_text.specs.Lexemes.{token_of}
use Rattle.rl_text.proofs.ReadingLaws.{placed}
use Rattle.rl_text.proofs.StepLaws.{fits_line, next_step, line_done}
use Rattle.rl_text.proofs.DecimalLaws.{decimal_last, not_decimal, no_decimals, never}
use Rattle.rl_text.proofs.decimal.has_decimals.Goals as goal

pub returns-in-End : goal.returns-in-End
returns-in-End c =
    let text : List ℕ = c.text-text.result.now in
    let fits = fits_line text (sym c.may_be_line.ensures ∙ c.if-not-may_be_line.false) in
    let r = c.line.invariant.read in
    let h : HasPlaced r.0 text = line_done text r.0 c.line.at fits r.1 c.in-End.ensures in
    rw (← c.text-text.ensures) (λ _. (r.0, h, r.2), λ _. refl)

pub returns-in-Stray : goal.returns-in-Stray
returns-in-Stray c =
    let text : List ℕ = c.text-text.result.now in
    let r = c.line.invariant.read in
    rw (← c.text-text.ensures) (never _ _ refl (no_decimals text r.0 c.line.at r.1 c.in-Stray.ensures.0 c.in-Stray.ensures.1))

pub returns-then-not-is_decimal : goal.returns-then-not-is_decimal
returns-then-not-is_decimal c =
    let text : List ℕ = c.text-text.result.now in
    let r = c.line.invariant.read in
    rw (← c.text-text.ensures) (never _ _ refl (not_decimal text r.0 c.line.at c.in-Found.found r.1 c.in-Found.ensures (λ d. let f = sym (c.is_decimal.ensures.1 d) ∙ c.if-not-is_decimal.true in cc)))

pub line-preserved : goal.line-preserved
line-preserved c =
    let text : List ℕ = c.text-text.result.now in
    let found : Scanned = c.in-Found.found in
    let p : Placed = placed (token_of text found.lexeme) found.start found.stop in
    let r = c.line.invariant.read in
    record {
      within = c.in-Found.ensures.within;
      read = (_, next_step text r.0 c.line.at found r.1 c.in-Found.ensures, decimal_last text r.0 p r.2 (c.is_decimal.ensures.0 c.if-not-is_decimal.false));
    }
