use Rattle.std.proofs.Common.{◌≡◌, refl, arith, sym, ◌∙◌, Some, None}
use Rattle.rref_heap.specs.Spots.{to_below, spot_of}
use Rattle.rref_heap.specs.Keyed.{key_at}
use Rattle.rref_heap.proofs.Keyed.{changed, changed_keyed, untouched, at_key}
use Rattle.rref_heap.proofs.places.Places.set_below.Goals as goal

pub invariant_of-self : goal.invariant_of-self
invariant_of-self c =
    let is : key_at c.self.inside.keys.items c.args.number ≡ Some c.in-Some.key = rw c.deref.ensures.value at (sym c.in-Some.ensures) in
    changed_keyed c.self.invariant c.args.number c.in-Some.key c.index_mut-place.result.now _ is c.index_mut-place.ensures.value refl

pub returns-in-Some : goal.returns-in-Some
returns-in-Some c =
    let is : key_at c.self.inside.keys.items c.args.number ≡ Some c.in-Some.key = rw c.deref.ensures.value at (sym c.in-Some.ensures) in
    rw (← c.self.view_is) (changed c.self.invariant c.args.number c.in-Some.key (to_below c.args.cell c.args.below) c.index_mut-place.result.now _ is c.index_mut-place.ensures.value refl)

pub returns-in_default : goal.returns-in_default
returns-in_default c =
    let is : key_at c.self.inside.keys.items c.args.number ≡ None = rw c.deref.ensures.value at (sym c.key_of.ensures ∙ c.in_default.is) in
    rw (← c.self.view_is) (untouched c.self.invariant c.args.number (to_below c.args.cell c.args.below) is)

pub index_mut-requires : goal.index_mut-requires
index_mut-requires c =
    let is : key_at c.self.inside.keys.items c.args.number ≡ Some c.in-Some.key = rw c.deref.ensures.value at (sym c.in-Some.ensures) in
    let need = c.requires (spot_of c.index_mut-place.result.now) (rw (← c.self.view_is) (at_key c.self.invariant c.args.number c.in-Some.key c.index_mut-place.result.now is c.index_mut-place.ensures.value)) in
    omega (arith, need, c.index_mut-place.result.now.below.ok)
