use Rattle.std.proofs.Common.{◌≡◌, Some, length, refl, arith, slice_get}
use Rattle.std.proofs.lemmas.Option.{slice_get_read}
use Rattle.plan_checker.proofs.Keeping.{domains_begin, domains_next, domains_all}
use Rattle.plan_checker.proofs.tables.domains_of.Goals as goal

pub domains-init : goal.domains-init
domains-init c = domains_begin c.args.loaded.now c.args.domains.now c.new.result c.new-2.result c.new-3.result c.new.ensures c.new-2.ensures c.new-3.ensures

pub put-requires : goal.put-requires
put-requires c = omega (arith, c.domains.invariant.few, c.domains-test.true, c.requires)

pub domains-preserved : goal.domains-preserved
domains-preserved c =
    let here : slice_get c.args.domains.now c.domains.number ≡ Some c.index-domains-number.result = slice_get_read c.args.domains.now (length c.args.domains.now) c.domains.number c.index-domains-number.result refl c.domains-test.true c.index-domains-number.is in
    domains_next c.args.loaded.now c.args.domains.now c.domains.number c.index-domains-number.result c.domains.all.names c.put.new.domains.names c.domains.all.numbers c.put.new.domains.numbers c.domains.all.facts c.put.new.domains.facts c.domains.invariant here c.in_ok-put.ensures

pub returns : goal.returns
returns c = λ lines are. domains_all c.args.loaded.now c.args.domains.now lines c.domains.number c.domains.all.names c.domains.all.numbers c.domains.all.facts are c.domains.invariant (omega arith)
