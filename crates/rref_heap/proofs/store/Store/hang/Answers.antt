use Rattle.std.proofs.Common.{map, sym, ap, ◌∙◌, subst}
use Rattle.machine_defs.specs.State.{Hung}
use Rattle.machine_defs.specs.Objects.{with_placement}
use Rattle.rref_heap.specs.Changing.{on_object}
use Rattle.rref_heap.specs.Links.{Link}
use Rattle.rref_heap.specs.Spots.{PlacesValue, at, rows_in, on_spot, to_cell, to_below}
use Rattle.rref_heap.specs.Store.{Becomes}
use Rattle.rref_heap.specs.declared.store.Store.{Store}
use Rattle.rref_heap.proofs.Passing.{has_of, apart}
use Rattle.rref_heap.proofs.HungStores.{hanged, parent_within}
use Rattle.rref_heap.proofs.store.Store.hang.Goals as goal

pub unlink-requires : goal.unlink-requires
unlink-requires c = λ none. has_of c.args.self.now c.args.v _ c.requires.store c.neighbors-owner.ensures

pub set_below-requires : goal.set_below-requires
set_below-requires c = λ p is. (
    let link : Link = record { owner = c.neighbors-owner.result.0; next = c.neighbors-owner.result.2; prev = c.neighbors-owner.result.1 } in
    let same = c.set_hanging.ensures ∙ ap (λ (u : Store). record { spots = map (on_spot c.args.v (to_cell c.args.o c.args.cell)) u.places.spots; spare = u.places.spare }) c.unlink.ensures in
    parent_within c.args.self.now c.args.o c.args.cell c.args.v c.requires.store c.requires.parent c.requires.child c.requires.nests c.requires.low c.requires.stays c.requires.child_stays c.requires.within c.requires.empty link c.neighbors-owner.ensures p
    (sym (ap (λ (u : PlacesValue). at u.spots c.args.o) same) ∙ is))

pub returns : goal.returns
returns c =
    let link : Link = record { owner = c.neighbors-owner.result.0; next = c.neighbors-owner.result.2; prev = c.neighbors-owner.result.1 } in
    let places = c.set_below.ensures ∙ ap (λ (u : PlacesValue). record { spots = map (on_spot c.args.o (to_below c.args.cell c.args.v)) u.spots; spare = u.spare }) (c.set_hanging.ensures ∙ ap (λ (u : Store). record { spots = map (on_spot c.args.v (to_cell c.args.o c.args.cell)) u.places.spots; spare = u.places.spare }) c.unlink.ensures) in
    subst (λ (z : Store). Becomes c.args.self.now z (map (on_object c.args.v (with_placement (Hung c.args.o c.args.cell))) (rows_in c.args.self.now.places.spots)))
    (sym (ap (λ (u : PlacesValue). record { places = u; firsts = c.unlink.new.self.firsts; listing = c.unlink.new.self.listing; live = c.unlink.new.self.live }) places ∙ ap (λ (u : Store). record { places = record { spots = map (on_spot c.args.o (to_below c.args.cell c.args.v)) (map (on_spot c.args.v (to_cell c.args.o c.args.cell)) (apart link c.args.self.now.places.spots)); spare = c.args.self.now.places.spare }; firsts = u.firsts; listing = u.listing; live = u.live }) c.unlink.ensures))
    (hanged c.args.self.now c.args.o c.args.cell c.args.v c.requires.store c.requires.parent c.requires.child c.requires.nests c.requires.low c.requires.stays c.requires.child_stays c.requires.within c.requires.empty link c.neighbors-owner.ensures)
