use Rattle.std.proofs.Common.{◌≡◌, List, Option, length, is_some, count_by, ap, arith}
use Rattle.slab.specs.Slab.{Slab, slab_len}
use Rattle.rref_heap.specs.declared.place.Place.{Place}
use Rattle.rref_heap.proofs.Keyed.{reserved}
use Rattle.rref_heap.proofs.places.Places.reserve.Goals as goal

pub invariant_of-self-in_err-reserve-2 : goal.invariant_of-self-in_err-reserve-2
invariant_of-self-in_err-reserve-2 c =
    let keys = c.self.invariant.room_for_keys in
    let more_keys = c.reserve.ensures.capacity in
    let places = c.self.invariant.room_for_places in
    let more_places = c.reserve-then-self-eq0.ensures.capacity in
    reserved c.self.invariant c.reserve.new.self.items _ c.reserve-then-self-eq0.new.self c.self.inside.room c.reserve.ensures.items (ap (λ (s : Slab Place). s.slots) c.reserve-then-self-eq0.ensures.rest_kept)
    (omega (arith, keys, more_keys)) (omega (arith, places, more_places))

pub invariant_of-self-then-self-eq0 : goal.invariant_of-self-then-self-eq0
invariant_of-self-then-self-eq0 c =
    let keys = c.in_ok-reserve.ensures.ok in
    let long = ap (λ l. length l) c.reserve.ensures.items in
    let slots = ap (λ (s : Slab Place). s.slots) c.reserve-then-self-eq0.ensures.rest_kept in
    let count : slab_len c.reserve-then-self-eq0.new.self ≡ slab_len c.self.inside.places = ap (λ (l : List (Option Place)). count_by is_some l) slots in
    let places = c.in_ok-reserve-2.ensures.room in
    reserved c.self.invariant c.reserve.new.self.items _ c.reserve-then-self-eq0.new.self 1 c.reserve.ensures.items slots
    (omega (arith, keys, long)) (omega (arith, places, count))
