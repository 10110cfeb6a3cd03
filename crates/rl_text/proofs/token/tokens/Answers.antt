use Rattle.std.proofs.Common.{◌∙◌, sym, ℕ, List, refl, ◌+◌}
use Rattle.rl_defs.specs.Tokens.{Placed, HasPlaced}
use Rattle.rl_defs.proofs.FirstRefusal.{refuses}
use Rattle.rl_text.specs.declared.scan.Scanned.{Scanned}
use Rattle.rl_text.specs.Lexemes.{token_of}
use Rattle.rl_text.proofs.ReadingLaws.{stuck, placed}
use Rattle.rl_text.proofs.StepLaws.{fits_line, line_fails, line_passes, next_step, line_done, spans_more}
use Rattle.rl_text.proofs.token.tokens.Goals as goal

pub returns-in-End : goal.returns-in-End
returns-in-End c =
    let fits = fits_line c.text-text.result.now (sym c.may_be_line.ensures ∙ c.if-not-may_be_line.false) in
    let r = c.line.invariant.read in
    let h : HasPlaced r.0 c.text-text.result.now = line_done c.text-text.result.now r.0 c.line.at fits r.1 c.in-End.ensures in
    rw (← c.text-text.ensures) (line_passes c.args.line.now.number c.text-text.result.now r.0 h, (r.0, h, r.2))

pub returns-in-Stray : goal.returns-in-Stray
returns-in-Stray c =
    let r = c.line.invariant.read in
    refuses {X = Unit {0}} _ (λ _. Unit {0}) _ c.args.line.now.number 1 c.refused-in-Stray.ensures (rw (← c.text-text.ensures) (line_fails c.args.line.now.number c.text-text.result.now (stuck c.text-text.result.now r.0 c.line.at r.1 c.in-Stray.ensures.0 c.in-Stray.ensures.1)))

pub line-preserved : goal.line-preserved
line-preserved c =
    let text : List ℕ = c.text-text.result.now in
    let found : Scanned = c.in-Found.found in
    let p : Placed = placed (token_of text found.lexeme) found.start found.stop in
    let r = c.line.invariant.read in
    record {
      within = c.in-Found.ensures.within;
      read = (_, next_step text r.0 c.line.at found r.1 c.in-Found.ensures, spans_more c.args.line.now.start r.0 c.line.all.items c.push.new.self.items c.kind_of.result (c.args.line.now.start + found.start) (c.args.line.now.start + found.stop) p r.2 (c.kind_of.ensures text) refl refl c.in_ok-push-in-Found.ensures.items);
    }
