use Rattle.std.proofs.Common.{ap, sym, ◌∙◌, subst, map}
use Rattle.machine_defs.specs.Objects.{owned_by}
use Rattle.rref_heap.specs.Changing.{on_object}
use Rattle.rref_heap.specs.Links.{HasFirst, Link}
use Rattle.rref_heap.specs.Spots.{rows_in}
use Rattle.rref_heap.specs.Store.{Becomes, linked_first}
use Rattle.rref_heap.specs.declared.store.Store.{Store}
use Rattle.rref_heap.proofs.Links.{has_after}
use Rattle.rref_heap.proofs.Passing.{passed, has_of}
use Rattle.rref_heap.proofs.store.Store.pass.Goals as goal

pub returns : goal.returns
returns c =
    let p : Link = record { owner = c.neighbors-owner.result.0; next = c.neighbors-owner.result.2; prev = c.neighbors-owner.result.1 } in
    subst (λ (z : Store). Becomes c.args.self.now z (map (on_object c.args.o (owned_by c.args.to)) (rows_in c.args.self.now.places.spots)))
    (sym (c.link.ensures ∙ ap (λ (s : Store). linked_first s c.args.o c.args.to) c.unlink.ensures))
    (passed c.args.self.now c.args.o p c.args.to c.requires.store c.neighbors-owner.ensures c.requires.has)

pub unlink-requires : goal.unlink-requires
unlink-requires c = λ none. has_of c.args.self.now c.args.o _ c.requires.store c.neighbors-owner.ensures

pub link-requires : goal.link-requires
link-requires c = subst (λ (z : Store). HasFirst z.firsts c.args.to) (sym c.unlink.ensures) (has_after c.args.self.now.firsts c.neighbors-owner.result.0 c.args.to c.neighbors-owner.result.1 c.neighbors-owner.result.2 c.requires.has)
