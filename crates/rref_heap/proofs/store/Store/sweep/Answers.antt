-- What is logged so far and what still leaves are what left at the start.
use Rattle.std.proofs.Common.{◌≡◌, length, refl, ap, arith}
use Rattle.rref_heap.specs.Leaving.{leaving_in}
use Rattle.rref_heap.specs.Spots.{rows_in}
use Rattle.rref_heap.proofs.Sweeping.{sweep_begins, sweep_goes_on, sweep_frees, sweep_frees_one, sweep_shrinks, sweep_ends, sweep_leaves_none, freed_one, freed_all}
use Rattle.rref_heap.proofs.store.Store.sweep.Goals as goal

pub numbers-init : goal.numbers-init
numbers-init c = record { sweeps = sweep_begins c.args.self.now c.sort.new.self c.requires.store c.sort.ensures.same c.sort.ensures.spare c.sort.ensures.falls; entries = refl; spare = refl }

pub take_last-requires : goal.take_last-requires
take_last-requires c = c.numbers.invariant.sweeps.becomes.store

pub put-requires : goal.put-requires
put-requires c =
    let one = sweep_frees_one c.args.self.now c.numbers.self c.take_last.new.self c.in-Some.o c.numbers.invariant.sweeps c.in-Some.ensures in
    let was = c.numbers.invariant.spare in
    let room = c.requires.spare in
    omega arith

pub numbers-smaller : goal.numbers-smaller
numbers-smaller c = sweep_shrinks c.numbers.self c.take_last.new.self c.in-Some.o c.in-Some.ensures

pub numbers-preserved : goal.numbers-preserved
numbers-preserved c =
    let one = sweep_frees_one c.args.self.now c.numbers.self c.take_last.new.self c.in-Some.o c.numbers.invariant.sweeps c.in-Some.ensures in
    let first = sweep_frees c.args.self.now c.numbers.self c.take_last.new.self c.in-Some.o c.numbers.invariant.sweeps c.in-Some.ensures in
    record {
      sweeps = sweep_goes_on c.args.self.now c.numbers.self c.take_last.new.self c.in-Some.o c.numbers.invariant.sweeps c.in-Some.ensures;
      entries = freed_one c.numbers.log.entries c.put.new.self.entries _ c.in-Some.o _ _ c.numbers.invariant.entries first c.put.ensures.entries;
      spare = (let was = c.numbers.invariant.spare in let less = c.put.ensures.spare in omega arith);
    }

pub returns-clause-becomes : goal.returns-clause-becomes
returns-clause-becomes c = sweep_ends c.args.self.now c.numbers.self c.take_last.new.self c.numbers.invariant.sweeps c.in_default.ensures

pub returns-clause-log : goal.returns-clause-log
returns-clause-log c = freed_all c.numbers.log.entries _ _ c.numbers.invariant.entries (sweep_leaves_none c.args.self.now c.numbers.self c.take_last.new.self c.numbers.invariant.sweeps c.in_default.ensures)

pub returns-clause-spare : goal.returns-clause-spare
returns-clause-spare c =
    let none : length (leaving_in (rows_in c.numbers.self.places.spots)) ≡ 0 = ap length (sweep_leaves_none c.args.self.now c.numbers.self c.take_last.new.self c.numbers.invariant.sweeps c.in_default.ensures) in
    let was = c.numbers.invariant.spare in
    omega arith
