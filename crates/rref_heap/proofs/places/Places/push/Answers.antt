use Rattle.std.proofs.Common.{◌≡◌, ◌+◌, ◌<◌, ℕ, List, Option, ap, ◌∙◌, arith, length, map}
use Rattle.std.proofs.lemmas.List.{length-map}
use Rattle.rref_heap.specs.Keyed.{spot_under}
use Rattle.rref_heap.proofs.Keyed.{added_keyed, added_spots}
use Rattle.rref_heap.proofs.places.Places.push.Goals as goal

pub invariant_of-self : goal.invariant_of-self
invariant_of-self c =
    let room : 0 < c.self.inside.room = rw (← c.self.view_is) at c.requires.room in
    let number : c.args.place.number ≡ length (map (spot_under c.self.inside.places) c.self.inside.keys.items) + 1 = rw (← c.self.view_is) at c.requires.number in
    let long = length-map c.self.inside.keys.items (spot_under c.self.inside.places) in
    rw (c.push_reserved.ensures.items, c.push_reserved.ensures.capacity) (added_keyed c.self.invariant c.insert_reserved-key.new.self c.insert_reserved-key.result c.args.place room
    c.insert_reserved-key.ensures.was_vacant c.insert_reserved-key.ensures.updates c.insert_reserved-key.ensures.len c.insert_reserved-key.ensures.capacity (omega (arith, number, long)))

pub returns : goal.returns
returns c = rw (← c.self.view_is) (ap (λ (l : List (Option ℕ)). map (spot_under c.insert_reserved-key.new.self) l) c.push_reserved.ensures.items
    ∙ added_spots c.self.invariant c.insert_reserved-key.new.self c.insert_reserved-key.result c.args.place c.insert_reserved-key.ensures.was_vacant c.insert_reserved-key.ensures.updates)
