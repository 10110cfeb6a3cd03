use Rattle.std.proofs.Common.{◌≡◌, ◌∙◌, sym, ap, true, false, ℕ, List, drop, arith}
use Rattle.std.specs.List.{list_all}
use Rattle.rl_defs.specs.Tokens.{HasPlaced, is_line_byte}
use Rattle.rl_defs.proofs.FirstRefusal.{refuses}
use Rattle.rl_text.specs.declared.scan.Scanned.{Scanned}
use Rattle.rl_text.proofs.ReadingLaws.{stuck}
use Rattle.rl_text.proofs.StepLaws.{line_fails, line_passes, next_step, line_done, lexemes_more}
use Rattle.rl_text.proofs.ByteLaws.{next_bytes, bad_bytes, unfit_fails, line_fits}
use Rattle.rl_text.proofs.lexeme.lexemes.Goals as goal

pub returns-then-are_line_bytes : goal.returns-then-are_line_bytes
returns-then-are_line_bytes c =
    let text : List ℕ = c.text-text.result.now in
    let behind : list_all is_line_byte (drop c.line.at text) ≡ true = ap (list_all is_line_byte) (sym c.split_at.ensures.back) ∙ sym c.are_line_bytes.ensures ∙ c.if-are_line_bytes.true in
    let fits = line_fits text c.line.at (omega (arith, c.if-text-gt-LONGEST_LINE.false)) c.line.invariant.bytes behind in
    let r = c.line.invariant.read in
    let h : HasPlaced r.0 text = line_done text r.0 c.line.at fits r.1 c.in-End.ensures in
    rw (← c.text-text.ensures) (line_passes c.args.line.now.number text r.0 h, (r.0, sym r.2, h))

pub returns-in-End : goal.returns-in-End
returns-in-End c =
    let text : List ℕ = c.text-text.result.now in
    let bad : list_all is_line_byte (drop c.line.at text) ≡ false = ap (list_all is_line_byte) (sym c.split_at.ensures.back) ∙ sym c.are_line_bytes.ensures ∙ c.if-are_line_bytes.false in
    refuses {X = Unit {0}} _ (λ _. Unit {0}) _ c.args.line.now.number 1 c.refused-in-End.ensures (rw (← c.text-text.ensures) (unfit_fails c.args.line.now.number text (bad_bytes text c.line.at bad)))

pub returns-in-Stray : goal.returns-in-Stray
returns-in-Stray c =
    let r = c.line.invariant.read in
    refuses {X = Unit {0}} _ (λ _. Unit {0}) _ c.args.line.now.number 1 c.refused-in-Stray.ensures (rw (← c.text-text.ensures) (line_fails c.args.line.now.number c.text-text.result.now (stuck c.text-text.result.now r.0 c.line.at r.1 c.in-Stray.ensures.0 c.in-Stray.ensures.1)))

pub line-preserved : goal.line-preserved
line-preserved c =
    let text : List ℕ = c.text-text.result.now in
    let found : Scanned = c.in-Found.found in
    let r = c.line.invariant.read in
    record {
      within = c.in-Found.ensures.within;
      bytes = next_bytes text c.line.at found c.in-Found.ensures c.line.invariant.bytes;
      read = (_, next_step text r.0 c.line.at found r.1 c.in-Found.ensures, lexemes_more text r.0 c.line.all.items c.push.new.self.items found.lexeme found.start found.stop r.2 c.in_ok-push-in-Found.ensures.items);
    }
