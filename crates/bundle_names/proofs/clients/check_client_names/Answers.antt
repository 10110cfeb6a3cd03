use Rattle.std.proofs.Common.{◌≡◌, ◌+◌, List, Some, None, length, refl, sym, ap, subst, ◌∙◌, arith, drop}
use Rattle.std.specs.Prelude.{slice_get}
use Rattle.std.proofs.lemmas.Option.{slice_get_read}
use Rattle.rl_defs.specs.declared.bundle.Numbered.{Numbered}
use Rattle.rl_defs.specs.declared.bundle.ClientLine.{ClientLine}
use Rattle.bundle_names.specs.declared.clients.Usable.{Usable}
use Rattle.bundle_names.specs.declared.clients.Scripts.{Scripts}
use Rattle.bundle_names.specs.ClientNames.{FailsClientNames, script_after, names_again, uses_nothing}
use Rattle.bundle_names.proofs.Walking.{Left, left_next, left_fails, left_all, rule_same}
use Rattle.bundle_names.proofs.ClientLaws.{nothing_used, clients_left}
use Rattle.bundle_names.proofs.PartNumbers.{clients_rise}
use Rattle.bundle_names.proofs.clients.check_client_names.Goals as goal

pub lines-init : goal.lines-init
lines-init c = subst (λ (s : Scripts). Left (FailsClientNames c.args.bundle.now) script_after names_again (nothing_used c.args.bundle.now) s c.args.bundle.now.clients.lines) (sym c.no_scripts-scripts.ensures) (clients_left c.args.bundle.now c.requires.ordered.clients (clients_rise c.args.bundle.now c.requires.ordered.rises))

pub returns-in-Some : goal.returns-in-Some
returns-in-Some c =
    let here = subst (λ (xs : List (Numbered ClientLine)). slice_get xs c.lines.line-index ≡ Some c.line-item.result) c.as_slice-line-items.ensures (slice_get_read c.as_slice-line-items.result.now (length c.as_slice-line-items.result.now) c.lines.line-index c.line-item.result refl c.lines-test.true c.line-item.is) in
    let broken = rule_same c.in_ok-again.again c.uses_nothing-nothing.result (names_again c.lines.scripts c.line-item.result.form) (nothing_used c.args.bundle.now c.lines.scripts c.line-item.result.form) c.rule_of.result (Some c.in-Some.rule) c.rule_of.ensures c.in-Some.is c.in_ok-again.ensures.again (c.uses_nothing-nothing.ensures ∙ ap (λ (u : Usable). uses_nothing u c.lines.scripts c.line-item.result.form) c.in_ok-usable.ensures) in
    left_fails (FailsClientNames c.args.bundle.now) script_after names_again (nothing_used c.args.bundle.now) c.lines.scripts c.args.bundle.now.clients.lines c.lines.line-index c.line-item.result c.in-Some.rule c.refused.result here c.lines.invariant broken c.refused.ensures

pub lines-preserved : goal.lines-preserved
lines-preserved c =
    let here = subst (λ (xs : List (Numbered ClientLine)). slice_get xs c.lines.line-index ≡ Some c.line-item.result) c.as_slice-line-items.ensures (slice_get_read c.as_slice-line-items.result.now (length c.as_slice-line-items.result.now) c.lines.line-index c.line-item.result refl c.lines-test.true c.line-item.is) in
    let kept = rule_same c.in_ok-again.again c.uses_nothing-nothing.result (names_again c.lines.scripts c.line-item.result.form) (nothing_used c.args.bundle.now c.lines.scripts c.line-item.result.form) c.rule_of.result None c.rule_of.ensures c.in_default.is c.in_ok-again.ensures.again (c.uses_nothing-nothing.ensures ∙ ap (λ (u : Usable). uses_nothing u c.lines.scripts c.line-item.result.form) c.in_ok-usable.ensures) in
    subst (λ (s : Scripts). Left (FailsClientNames c.args.bundle.now) script_after names_again (nothing_used c.args.bundle.now) s (drop (c.lines.line-index + 1) c.args.bundle.now.clients.lines)) (sym c.in_ok-again.ensures.after) (left_next (FailsClientNames c.args.bundle.now) script_after names_again (nothing_used c.args.bundle.now) c.lines.scripts c.args.bundle.now.clients.lines c.lines.line-index c.line-item.result here c.lines.invariant kept)

pub returns : goal.returns
returns c = (left_all (FailsClientNames c.args.bundle.now) script_after names_again (nothing_used c.args.bundle.now) c.lines.scripts c.args.bundle.now.clients.lines c.lines.line-index (omega (arith, ap length c.as_slice-line-items.ensures)) c.lines.invariant, tt)
