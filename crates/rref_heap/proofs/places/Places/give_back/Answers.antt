use Rattle.std.proofs.Common.{◌≡◌, refl, ℕ, ap, sym, ◌∙◌, Some, None}
use Rattle.rref_heap.specs.Spots.{one_fewer, spot_of}
use Rattle.rref_heap.specs.Keyed.{key_at}
use Rattle.rref_heap.proofs.Keyed.{changed, changed_keyed, untouched, at_key}
use Rattle.rref_heap.proofs.places.Places.give_back.Goals as goal

pub invariant_of-self : goal.invariant_of-self
invariant_of-self c =
    let is : key_at c.self.inside.keys.items c.args.number ≡ Some c.in-Some.key = rw c.deref.ensures.value at (sym c.in-Some.ensures) in
    changed_keyed c.self.invariant c.args.number c.in-Some.key c.index_mut.result.now _ is c.index_mut.ensures.value refl

pub returns-clause-loans : goal.returns-clause-loans
returns-clause-loans c =
    let is : key_at c.self.inside.keys.items c.args.number ≡ Some c.in-Some.key = rw c.deref.ensures.value at (sym c.in-Some.ensures) in
    rw (← c.self.view_is) (changed c.self.invariant c.args.number c.in-Some.key one_fewer c.index_mut.result.now _ is c.index_mut.ensures.value (ap (λ (k : ℕ). record (spot_of c.index_mut.result.now) { loans = k }) c.give_back_word.ensures.loans))

pub returns-in_default-clause-loans : goal.returns-in_default-clause-loans
returns-in_default-clause-loans c =
    let is : key_at c.self.inside.keys.items c.args.number ≡ None = rw c.deref.ensures.value at (sym c.key_of.ensures ∙ c.in_default.is) in
    rw (← c.self.view_is) (untouched c.self.invariant c.args.number one_fewer is)

pub give_back_word-requires : goal.give_back_word-requires
give_back_word-requires c =
    let is : key_at c.self.inside.keys.items c.args.number ≡ Some c.in-Some.key = rw c.deref.ensures.value at (sym c.in-Some.ensures) in
    let need = c.requires (spot_of c.index_mut.result.now) (rw (← c.self.view_is) (at_key c.self.invariant c.args.number c.in-Some.key c.index_mut.result.now is c.index_mut.ensures.value)) in
    need
