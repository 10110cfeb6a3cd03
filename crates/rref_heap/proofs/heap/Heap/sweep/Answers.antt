-- What is listed is taken out.
use Rattle.std.proofs.Common.{◌≡◌, ◌+◌, ◌≤◌, ◌++◌, length, map, sym, subst}
use Rattle.machine_defs.specs.declared.entry.Entry.TheVariants as entry
use Rattle.rref_heap.specs.HeapValue.{HeapValue}
use Rattle.rref_heap.specs.Leaving.{swept_rows, leaving_in}
use Rattle.rref_heap.proofs.HeapSteps.{seen_change, heap_kept}
use Rattle.rref_heap.proofs.heap.Heap.sweep.Goals as goal

pub invariant_of-self : goal.invariant_of-self
invariant_of-self c = heap_kept c.self.inside.ready c.self.inside.store c.sweep.new.self _ c.self.invariant c.sweep.ensures.becomes

pub returns-clause-rows : goal.returns-clause-rows
returns-clause-rows c = seen_change c.self.inside.ready c.self.inside.store c.sweep.new.self (λ rows. swept_rows rows) c.args.self.now c.self.view_is c.sweep.ensures.becomes

pub returns-clause-log : goal.returns-clause-log
returns-clause-log c = subst (λ (v : HeapValue). c.sweep.new.log.entries ≡ c.args.log.now.entries ++ map entry.Free (leaving_in v.rows)) c.self.view_is c.sweep.ensures.log

pub returns-clause-spare : goal.returns-clause-spare
returns-clause-spare c = subst (λ (v : HeapValue). c.sweep.new.log.spare + length (leaving_in v.rows) ≡ c.args.log.now.spare) c.self.view_is c.sweep.ensures.spare

pub sweep-requires-clause-spare : goal.sweep-requires-clause-spare
sweep-requires-clause-spare c = subst (λ (v : HeapValue). length (leaving_in v.rows) ≤ c.args.log.now.spare) (sym c.self.view_is) c.requires
