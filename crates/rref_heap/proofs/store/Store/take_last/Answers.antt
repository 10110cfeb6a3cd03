-- The last that is listed is taken out, a root out of its owner's links too.
use Rattle.std.proofs.Common.{◌∙◌, ℕ, Option, sym, ap, subst, arith}
use Rattle.rref_heap.specs.Spots.{spot_of}
use Rattle.rref_heap.specs.Links.{link_of}
use Rattle.rref_heap.specs.Store.{TakesLast}
use Rattle.rref_heap.proofs.Passing.{has_of}
use Rattle.rref_heap.proofs.Sweeping.{taken_root, taken_hung, taken_none, link_root, last_there, there_live}
use Rattle.rref_heap.proofs.store.Store.take_last.Goals as goal
use Rattle.rref_heap.proofs.store.Store.take_last.Goals.{then-is_none, else-is_none}

pub returns-in_err-o : goal.returns-in_err-o
returns-in_err-o c = subst (λ (x : Option ℕ). TakesLast c.args.self.now (record c.args.self.now { listing = c.pop.new.self }) x) (sym c.from_residual.ensures) (taken_none c.args.self.now c.pop.new.self c.in_err-o.ensures.numbers (c.pop.ensures.none c.in_err-o.was) c.in_err-o.ensures.spare)

pub overflow_sub-self : goal.overflow_sub-self
overflow_sub-self c = let l = there_live c.args.self.now c.in_ok-o.o (spot_of c.in-Some.place) c.requires (sym c.in-Some.ensures.value) in omega arith

pub unlink-requires : goal.unlink-requires
unlink-requires c = λ none. has_of c.args.self.now c.in_ok-o.o _ c.requires (ap link_of (sym c.in-Some.ensures.value) ∙ link_root c.in-Some.place c.if-is_none.ensures)

pub returns-after-is_none : goal.returns-after-is_none
returns-after-is_none c = elim c.if-is_none.branch [
  | then-is_none w ↦ taken_root c.args.self.now c.in_ok-o.o c.in-Some.place c.take.new.self c.pop.new.self c.if-is_none.self c.requires c.in-Some.ensures.value w.if-is_none.ensures c.in_ok-o.ensures.numbers c.in_ok-o.ensures.spare c.take.ensures.rest (w.self-is ∙ w.unlink.ensures)
  | else-is_none w ↦ taken_hung c.args.self.now c.in_ok-o.o c.in-Some.place c.take.new.self c.pop.new.self c.if-is_none.self c.requires c.in-Some.ensures.value w.if-is_none.ensures c.in_ok-o.ensures.numbers c.in_ok-o.ensures.spare c.take.ensures.rest w.self-is
]

pub returns-in_default : goal.returns-in_default
returns-in_default c = absurd (last_there c.args.self.now c.in_ok-o.o c.pop.new.self.numbers c.requires c.in_ok-o.ensures.numbers (sym c.in_default.ensures.value))
