use Rattle.std.specs.List.{slice_index_or}
use Rattle.std.proofs.lemmas.List.{get_or_default}
use Rattle.proxies.proofs.Returning.{returns_none, still_root, still_lent, returns_one}
use Rattle.proxies.proofs.objects.end_loans.Goals as goal

pub lent-init : goal.lent-init
lent-init c = returns_none c.args.heap.now c.args.instances.now

pub give_back-requires-clause-root : goal.give_back-requires-clause-root
give_back-requires-clause-root c =
    let o = slice_index_or c.args.lent.now c.lent.object-index 0 in
    still_root c.args.heap.now c.lent.heap c.args.instances.now c.args.lent.now c.lent.object-index o c.lent.invariant c.requires c.lent-test.true (get_or_default c.args.lent.now c.lent.object-index 0 o c.lent-test.true)

pub give_back-requires-clause-lent : goal.give_back-requires-clause-lent
give_back-requires-clause-lent c =
    let o = slice_index_or c.args.lent.now c.lent.object-index 0 in
    still_lent c.args.heap.now c.lent.heap c.args.instances.now c.args.lent.now c.lent.object-index o c.lent.invariant c.is_kept.ensures c.requires c.lent-test.true (get_or_default c.args.lent.now c.lent.object-index 0 o c.lent-test.true)

pub lent-preserved : goal.lent-preserved
lent-preserved c =
    let o = slice_index_or c.args.lent.now c.lent.object-index 0 in
    returns_one c.args.heap.now c.lent.heap c.give_back.new.self c.args.instances.now c.args.lent.now c.lent.object-index o c.owner_has_ended-ended.result c.give_back.result c.lent.invariant c.is_kept.ensures c.requires c.lent-test.true (get_or_default c.args.lent.now c.lent.object-index 0 o c.lent-test.true) c.owner_has_ended-ended.ensures c.give_back.ensures.free c.give_back.ensures.returned
