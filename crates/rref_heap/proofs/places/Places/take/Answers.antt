use Rattle.std.proofs.Common.{◌≡◌, sym, refl, Some, None}
use Rattle.rref_heap.specs.Keyed.{key_at}
use Rattle.rref_heap.proofs.Spots.{none_unless}
use Rattle.rref_heap.proofs.Keyed.{numbered, taken_keyed, taken_spots, at_key, at_no_key}
use Rattle.rref_heap.proofs.places.Places.take.Goals as goal

pub invariant_of-self : goal.invariant_of-self
invariant_of-self c =
    let is : key_at c.self.inside.keys.items c.args.number ≡ Some c.in_ok-key.key = rw c.deref.ensures.value at (sym c.in_ok-key.ensures) in
    rw c.index_of.ensures (taken_keyed c.self.invariant c.remove.new.self c.args.number c.in_ok-key.key is c.remove.ensures.updates c.remove.ensures.len c.remove.ensures.capacity)

pub returns-clause-numbered : goal.returns-clause-numbered
returns-clause-numbered c = rw (← c.self.view_is) (numbered c.self.invariant)

pub returns-clause-value : goal.returns-clause-value
returns-clause-value c =
    let is : key_at c.self.inside.keys.items c.args.number ≡ Some c.in_ok-key.key = rw c.deref.ensures.value at (sym c.in_ok-key.ensures) in
    rw (← c.self.view_is) (sym (at_key c.self.invariant c.args.number c.in_ok-key.key c.remove.result is c.remove.ensures.value))

pub returns-clause-rest : goal.returns-clause-rest
returns-clause-rest c =
    let is : key_at c.self.inside.keys.items c.args.number ≡ Some c.in_ok-key.key = rw c.deref.ensures.value at (sym c.in_ok-key.ensures) in
    rw (← c.self.view_is) (rw (c.index_of.ensures, taken_spots c.self.invariant c.remove.new.self c.args.number c.in_ok-key.key is c.remove.ensures.updates) refl)

pub returns-in_err-key-clause-numbered : goal.returns-in_err-key-clause-numbered
returns-in_err-key-clause-numbered c = rw (← c.self.view_is) (numbered c.self.invariant)

pub returns-in_err-key-clause-rest : goal.returns-in_err-key-clause-rest
returns-in_err-key-clause-rest c =
    let is : key_at c.self.inside.keys.items c.args.number ≡ None = rw c.deref.ensures.value at (sym c.in_err-key.ensures) in
    rw (← c.self.view_is) (rw (none_unless c.args.number _ (numbered c.self.invariant) (at_no_key c.self.invariant c.args.number is)) refl)
