-- The walk over an owner's roots.
use Rattle.std.proofs.Common.{◌≡◌, ◌<◌, ◌+◌, ◌-◌, length, arith}
use Rattle.rref_heap.specs.Leaving.{roots_of}
use Rattle.rref_heap.specs.Spots.{rows_in}
use Rattle.rref_heap.proofs.LeftRoots.{walk_starts, walk_passes, walk_lists, walk_over, few_seen, more_ahead, ahead_root}
use Rattle.rref_heap.proofs.store.Store.list_left.Goals as goal

pub roots-init : goal.roots-init
roots-init g c = walk_starts c.args.self.now c.args.owner c.get-o.result c.args.steps.now c.requires.store c.get-o.ensures

pub list-requires-clause-store : goal.list-requires-clause-store
list-requires-clause-store g c = c.roots.invariant.becomes.store

pub list-requires-clause-root : goal.list-requires-clause-root
list-requires-clause-root g c =
    let t = c.roots-test.true in
    let pos : 0 < c.roots.o = omega arith in
    ahead_root c.args.self.now c.roots.self c.args.owner c.roots.o c.args.steps.now c.roots.steps c.requires.store c.roots.invariant pos

pub roots-smaller-then-loans-eq0 : goal.roots-smaller-then-loans-eq0
roots-smaller-then-loans-eq0 g c =
    let t = c.roots-test.true in
    let pos : 0 < c.roots.o = omega arith in
    let more = more_ahead c.args.self.now c.roots.self c.args.owner c.roots.o c.args.steps.now c.roots.steps c.requires.store c.roots.invariant pos in
    let counted = c.roots.invariant.counted in
    let ticked : c.tick.new.self ≡ c.roots.steps + 1 = c.tick.ensures in
    let less : length (roots_of (rows_in c.args.self.now.places.spots) c.args.owner) - (c.tick.new.self - c.args.steps.now) < length (roots_of (rows_in c.args.self.now.places.spots) c.args.owner) - (c.roots.steps - c.args.steps.now) = omega (arith, more, counted, ticked) in
    less

pub roots-preserved-then-loans-eq0 : goal.roots-preserved-then-loans-eq0
roots-preserved-then-loans-eq0 g c =
    let t = c.roots-test.true in
    let pos : 0 < c.roots.o = omega arith in
    let e = c.if-loans-eq0.true in
    let free : c.look-loans.result.0 ≡ 0 = omega arith in
    walk_lists c.args.self.now c.roots.self c.args.owner c.roots.o c.args.steps.now c.roots.steps c.requires.store c.roots.invariant pos c.look-loans.result.1 c.look-loans.ensures.next
    c.look-loans.result.0 c.tick.new.self c.list.new.self c.look-loans.ensures.loans free c.tick.ensures c.list.ensures.becomes c.list.ensures.links

pub roots-smaller : goal.roots-smaller
roots-smaller g c =
    let t = c.roots-test.true in
    let pos : 0 < c.roots.o = omega arith in
    let more = more_ahead c.args.self.now c.roots.self c.args.owner c.roots.o c.args.steps.now c.roots.steps c.requires.store c.roots.invariant pos in
    let counted = c.roots.invariant.counted in
    let ticked : c.tick.new.self ≡ c.roots.steps + 1 = c.tick.ensures in
    let less : length (roots_of (rows_in c.args.self.now.places.spots) c.args.owner) - (c.tick.new.self - c.args.steps.now) < length (roots_of (rows_in c.args.self.now.places.spots) c.args.owner) - (c.roots.steps - c.args.steps.now) = omega (arith, more, counted, ticked) in
    less

pub roots-preserved : goal.roots-preserved
roots-preserved g c =
    let t = c.roots-test.true in
    let pos : 0 < c.roots.o = omega arith in
    let e = c.if-loans-eq0.false in
    let lent : 0 < c.look-loans.result.0 = omega arith in
    walk_passes c.args.self.now c.roots.self c.args.owner c.roots.o c.args.steps.now c.roots.steps c.requires.store c.roots.invariant pos c.look-loans.result.1 c.look-loans.ensures.next
    c.look-loans.result.0 c.tick.new.self c.look-loans.ensures.loans lent c.tick.ensures

pub returns-clause-becomes : goal.returns-clause-becomes
returns-clause-becomes g c =
    let f = c.roots-test.false in
    let over : c.roots.o ≡ 0 = omega arith in
    walk_over c.args.self.now c.roots.self c.args.owner c.roots.o c.args.steps.now c.roots.steps c.requires.store c.roots.invariant over

pub returns-clause-steps : goal.returns-clause-steps
returns-clause-steps g c =
    let few = few_seen c.args.self.now c.roots.self c.args.owner c.roots.o c.args.steps.now c.roots.steps c.requires.store c.roots.invariant in
    let counted = c.roots.invariant.counted in
    omega (arith, few, counted)
