use Rattle.std.proofs.Common.{◌≡◌, refl, ℕ, List, ap, sym, ◌∙◌, Some, None}
use Rattle.rref_heap.specs.Spots.{written, spot_of}
use Rattle.rref_heap.specs.Keyed.{key_at}
use Rattle.rref_heap.proofs.Keyed.{changed, changed_keyed, untouched, at_key}
use Rattle.rref_heap.proofs.places.Places.write.Goals as goal

pub invariant_of-self : goal.invariant_of-self
invariant_of-self c =
    let is : key_at c.self.inside.keys.items c.args.number ≡ Some c.in-Some.key = rw c.deref.ensures.value at (sym c.in-Some.ensures) in
    changed_keyed c.self.invariant c.args.number c.in-Some.key c.index_mut.result.now _ is c.index_mut.ensures.value refl

pub returns-in-Some : goal.returns-in-Some
returns-in-Some c =
    let is : key_at c.self.inside.keys.items c.args.number ≡ Some c.in-Some.key = rw c.deref.ensures.value at (sym c.in-Some.ensures) in
    rw (← c.self.view_is) (changed c.self.invariant c.args.number c.in-Some.key (written c.args.from c.args.values.now) c.index_mut.result.now _ is c.index_mut.ensures.value (ap (λ (l : List ℕ). record (spot_of c.index_mut.result.now) { cells = l }) c.write_cells.ensures))

pub returns-in_default : goal.returns-in_default
returns-in_default c =
    let is : key_at c.self.inside.keys.items c.args.number ≡ None = rw c.deref.ensures.value at (sym c.key_of.ensures ∙ c.in_default.is) in
    rw (← c.self.view_is) (untouched c.self.invariant c.args.number (written c.args.from c.args.values.now) is)

pub write_cells-requires : goal.write_cells-requires
write_cells-requires c =
    let is : key_at c.self.inside.keys.items c.args.number ≡ Some c.in-Some.key = rw c.deref.ensures.value at (sym c.in-Some.ensures) in
    let need = c.requires (spot_of c.index_mut.result.now) (rw (← c.self.view_is) (at_key c.self.invariant c.args.number c.in-Some.key c.index_mut.result.now is c.index_mut.ensures.value)) in
    need
