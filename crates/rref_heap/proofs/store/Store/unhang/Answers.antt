use Rattle.std.proofs.Common.{◌≡◌, map, Some, None, sym, ap, ◌∙◌, subst}
use Rattle.std.specs.Option.{option_copied}
use Rattle.machine_defs.specs.declared.values.Owner.{Owner}
use Rattle.machine_defs.specs.Objects.{owned_by}
use Rattle.rref_heap.specs.HeapValue.{root_owner}
use Rattle.rref_heap.specs.Changing.{on_object}
use Rattle.rref_heap.specs.Links.{HasFirst}
use Rattle.rref_heap.specs.Spots.{PlacesValue, at, rows_in, spot_in}
use Rattle.rref_heap.specs.Store.{Becomes, linked_first}
use Rattle.rref_heap.specs.declared.store.Store.{Store}
use Rattle.rref_heap.proofs.HungStores.{found_hung, over_within, over_there, over_has, place_owner, some_owner, unhanged}
use Rattle.rref_heap.proofs.store.Store.unhang.Goals as goal

pub set_below-requires : goal.set_below-requires
set_below-requires c =
    let w = some_owner (root_owner (rows_in c.args.self.now.places.spots) c.args.o) c.requires.root in
    let full = found_hung c.args.self.now c.args.o c.args.cell c.below-v.result c.requires.store c.requires.root c.requires.full c.below-v.ensures in
    over_within c.args.self.now c.args.o c.args.cell c.below-v.result w.0 c.requires.store w.1 full

pub link-requires : goal.link-requires
link-requires c =
    let w = some_owner (root_owner (rows_in c.args.self.now.places.spots) c.args.o) c.requires.root in
    let full = found_hung c.args.self.now c.args.o c.args.cell c.below-v.result c.requires.store c.requires.root c.requires.full c.below-v.ensures in
    let q = over_there c.args.self.now c.args.o c.args.cell c.below-v.result w.0 c.requires.store w.1 full in
    let is = ap (λ (v : PlacesValue). at v.spots c.args.o) c.set_below.ensures ∙ q.1 in
    let own = place_owner (option_copied c.get.result) c.in-Some.place.now w.0 (at c.set_below.new.self.spots c.args.o) (ap (λ x. option_copied x) c.in-Some.is) c.get.ensures q.0 is q.2 in
    subst (λ (u : Owner). HasFirst c.args.self.now.firsts u) (sym own) (over_has c.args.self.now c.args.o c.args.cell c.below-v.result w.0 c.requires.store w.1 full)

pub returns-in-Some-clause-object : goal.returns-in-Some-clause-object
returns-in-Some-clause-object c = found_hung c.args.self.now c.args.o c.args.cell c.below-v.result c.requires.store c.requires.root c.requires.full c.below-v.ensures

pub returns-in-Some-clause-becomes : goal.returns-in-Some-clause-becomes
returns-in-Some-clause-becomes c = λ w owned. (
    let full = found_hung c.args.self.now c.args.o c.args.cell c.below-v.result c.requires.store c.requires.root c.requires.full c.below-v.ensures in
    let q = over_there c.args.self.now c.args.o c.args.cell c.below-v.result w c.requires.store owned full in
    let is = ap (λ (v : PlacesValue). at v.spots c.args.o) c.set_below.ensures ∙ q.1 in
    let own = place_owner (option_copied c.get.result) c.in-Some.place.now w (at c.set_below.new.self.spots c.args.o) (ap (λ x. option_copied x) c.in-Some.is) c.get.ensures q.0 is q.2 in
    let cut : PlacesValue → Store = λ v. record { places = v; firsts = c.args.self.now.firsts; listing = c.args.self.now.listing; live = c.args.self.now.live } in
    subst (λ (z : Store). Becomes c.args.self.now z (map (on_object c.below-v.result (owned_by w)) (rows_in c.args.self.now.places.spots)))
    (sym (c.link.ensures ∙ (ap (λ (u : Owner). linked_first (cut c.set_below.new.self) c.below-v.result u) own ∙ ap (λ (v : PlacesValue). linked_first (cut v) c.below-v.result w) c.set_below.ensures)))
    (unhanged c.args.self.now c.args.o c.args.cell c.below-v.result w c.requires.store owned full))

pub returns-in_default-clause-becomes : goal.returns-in_default-clause-becomes
returns-in_default-clause-becomes c = λ w owned. absurd (
    let full = found_hung c.args.self.now c.args.o c.args.cell c.below-v.result c.requires.store c.requires.root c.requires.full c.below-v.ensures in
    let q = over_there c.args.self.now c.args.o c.args.cell c.below-v.result w c.requires.store owned full in
    let is = ap (λ (v : PlacesValue). at v.spots c.args.o) c.set_below.ensures ∙ q.1 in
    let none : None ≡ Some q.0 = sym (ap (λ x. spot_in (option_copied x)) c.in_default.is) ∙ (c.get.ensures ∙ is) in cc)
