use Rattle.std.proofs.Common.{◌≡◌, ◌<◌, sym, ◌∙◌, ap, subst, arith, map}
use Rattle.rref_heap.specs.Links.{HasFirst, FirstRows}
use Rattle.rref_heap.specs.Spots.{unless_spot}
use Rattle.rref_heap.specs.declared.store.Store.{Store}
use Rattle.rref_heap.proofs.Below.{listable_of}
use Rattle.rref_heap.proofs.Passing.{has_of}
use Rattle.rref_heap.proofs.Dropping.{dropped, some_live}
use Rattle.rref_heap.proofs.store.Store.drop_object.Goals as goal

pub list_below-requires-clause-listable : goal.list_below-requires-clause-listable
list_below-requires-clause-listable c = listable_of c.args.self.now c.requires.store

pub unlink-requires : goal.unlink-requires
unlink-requires c = λ none. subst (λ (f : FirstRows). HasFirst f c.neighbors-owner.result.0) (sym c.list_below.ensures.firsts) (has_of c.args.self.now c.args.o _ c.requires.store c.neighbors-owner.ensures)

pub overflow_sub-self : goal.overflow_sub-self
overflow_sub-self c =
    let some : 0 < c.args.self.now.live = some_live c.args.self.now c.args.o c.requires.store c.requires.root in
    let same : c.unlink.new.self.live ≡ c.args.self.now.live = ap (λ (u : Store). u.live) c.unlink.ensures ∙ c.list_below.ensures.live in
    omega arith

pub returns : goal.returns
returns c =
    let some : 0 < c.args.self.now.live = some_live c.args.self.now c.args.o c.requires.store c.requires.root in
    let same : c.unlink.new.self.live ≡ c.args.self.now.live = ap (λ (u : Store). u.live) c.unlink.ensures ∙ c.list_below.ensures.live in
    let listed = c.list_below.ensures.live in
    dropped c.args.self.now c.list_below.new.self c.args.o _ _ c.requires.store c.neighbors-owner.ensures c.requires.stays c.list_below.ensures
    (c.take.ensures.rest ∙ ap (λ (u : Store). record { spots = map (unless_spot c.args.o) u.places.spots; spare = u.places.spare }) c.unlink.ensures)
    (ap (λ (u : Store). u.firsts) c.unlink.ensures) (ap (λ (u : Store). u.listing) c.unlink.ensures) (omega arith)
