use Rattle.std.proofs.Common.{◌≡◌, refl, sym, ◌∙◌, Some, None}
use Rattle.rref_heap.specs.Spots.{to_leave}
use Rattle.rref_heap.specs.Keyed.{key_at}
use Rattle.rref_heap.proofs.Keyed.{changed, changed_keyed, untouched}
use Rattle.rref_heap.proofs.places.Places.set_leaving.Goals as goal

pub invariant_of-self : goal.invariant_of-self
invariant_of-self c =
    let is : key_at c.self.inside.keys.items c.args.number ≡ Some c.in-Some.key = rw c.deref.ensures.value at (sym c.in-Some.ensures) in
    changed_keyed c.self.invariant c.args.number c.in-Some.key c.index_mut.result.now _ is c.index_mut.ensures.value refl

pub returns-in-Some : goal.returns-in-Some
returns-in-Some c =
    let is : key_at c.self.inside.keys.items c.args.number ≡ Some c.in-Some.key = rw c.deref.ensures.value at (sym c.in-Some.ensures) in
    rw (← c.self.view_is) (changed c.self.invariant c.args.number c.in-Some.key to_leave c.index_mut.result.now _ is c.index_mut.ensures.value refl)

pub returns-in_default : goal.returns-in_default
returns-in_default c =
    let is : key_at c.self.inside.keys.items c.args.number ≡ None = rw c.deref.ensures.value at (sym c.key_of.ensures ∙ c.in_default.is) in
    rw (← c.self.view_is) (untouched c.self.invariant c.args.number to_leave is)
