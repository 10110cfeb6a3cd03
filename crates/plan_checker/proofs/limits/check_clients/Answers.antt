use Rattle.std.proofs.Common.{◌≡◌, ℕ, Bool, Option, Some, length, refl, ap, ◌∙◌, arith, slice_get}
use Rattle.std.proofs.lemmas.Option.{slice_get_read}
use Rattle.rl_defs.specs.declared.bundle.ClientLine.{ClientLine}
use Rattle.rl_defs.specs.BundleNames.{ClientLines, client_given}
use Rattle.rl_defs.proofs.FirstRefusal.{refuses}
use Rattle.plan_checker.specs.LineScan.{FailsIn, given_before}
use Rattle.plan_checker.specs.Limits.{FailsClientLine, is_over_in_clients, commands_before}
use Rattle.plan_checker.proofs.Scanning.{none_first, none_more, none_all, found_first, before_more}
use Rattle.plan_checker.proofs.Counting.{over_none, over_first, commands_more, few_commands, at_most_more}
use Rattle.plan_checker.proofs.limits.check_clients.Goals as goal

-- the test with the counts of the lines before
same_test : (lines : ClientLines) (k : ℕ) (form : ClientLine) (clients : ℕ) (commands : Option ℕ) (test : Bool) → test ≡ is_over_in_clients clients commands form → clients ≡ given_before client_given lines k → commands ≡ commands_before lines k → test ≡ is_over_in_clients (given_before client_given lines k) (commands_before lines k) form
same_test lines k form clients commands test is count many = is ∙ ap (λ (n : ℕ). is_over_in_clients n commands form) count ∙ ap (λ (o : Option ℕ). is_over_in_clients (given_before client_given lines k) o form) many

pub lines-init : goal.lines-init
lines-init c = record { none = none_first c.args.lines.now (FailsClientLine c.args.lines.now); count = refl; few = omega arith; commands_are = refl; few_commands = tt }

pub clients_behind-clients-requires : goal.clients_behind-clients-requires
clients_behind-clients-requires c = omega (arith, c.lines.invariant.few, c.lines-test.true, c.requires.few)

pub commands_behind-commands-requires : goal.commands_behind-commands-requires
commands_behind-commands-requires c = few_commands c.lines.line-index c.lines.commands c.lines.invariant.few_commands (omega (arith, c.lines-test.true, c.requires.few))

pub lines-preserved : goal.lines-preserved
lines-preserved c =
    let here : slice_get c.args.lines.now c.lines.line-index ≡ Some c.line-item.result = slice_get_read c.args.lines.now (length c.args.lines.now) c.lines.line-index c.line-item.result refl c.lines-test.true c.line-item.is in
    record {
      none = none_more c.args.lines.now (FailsClientLine c.args.lines.now) c.lines.line-index c.line-item.result c.lines.invariant.none here (over_none c.is_over_in_clients.result (is_over_in_clients (given_before client_given c.args.lines.now c.lines.line-index) (commands_before c.args.lines.now c.lines.line-index) c.line-item.result.form) (same_test c.args.lines.now c.lines.line-index c.line-item.result.form c.lines.clients c.lines.commands c.is_over_in_clients.result c.is_over_in_clients.ensures c.lines.invariant.count c.lines.invariant.commands_are) c.if-is_over_in_clients.false);
      count = before_more client_given c.args.lines.now c.lines.line-index c.line-item.result c.lines.clients c.clients_behind-clients.result here c.lines.invariant.count c.clients_behind-clients.ensures.count;
      few = omega (arith, c.lines.invariant.few, c.clients_behind-clients.ensures.few);
      commands_are = commands_more c.args.lines.now c.lines.line-index c.line-item.result c.lines.commands c.commands_behind-commands.result here c.lines.invariant.commands_are c.commands_behind-commands.ensures;
      few_commands = at_most_more c.lines.line-index c.lines.commands c.commands_behind-commands.result c.line-item.result.form c.lines.invariant.few_commands c.commands_behind-commands.ensures;
    }

pub returns : goal.returns
returns c = (none_all c.args.lines.now (FailsClientLine c.args.lines.now) c.lines.line-index (omega arith) c.lines.invariant.none, tt)

pub returns-then-is_over_in_clients : goal.returns-then-is_over_in_clients
returns-then-is_over_in_clients c =
    let here : slice_get c.args.lines.now c.lines.line-index ≡ Some c.line-item.result = slice_get_read c.args.lines.now (length c.args.lines.now) c.lines.line-index c.line-item.result refl c.lines-test.true c.line-item.is in
    refuses {X = Unit {0}} (FailsIn c.args.lines.now (FailsClientLine c.args.lines.now)) (λ _. Unit {0}) c.refused.result c.line-item.result.line 46 c.refused.ensures
    (found_first c.args.lines.now (FailsClientLine c.args.lines.now) c.lines.line-index 46 c.line-item.result c.requires.rises c.lines.invariant.none here (over_first c.is_over_in_clients.result (is_over_in_clients (given_before client_given c.args.lines.now c.lines.line-index) (commands_before c.args.lines.now c.lines.line-index) c.line-item.result.form) (same_test c.args.lines.now c.lines.line-index c.line-item.result.form c.lines.clients c.lines.commands c.is_over_in_clients.result c.is_over_in_clients.ensures c.lines.invariant.count c.lines.invariant.commands_are) c.if-is_over_in_clients.true))
