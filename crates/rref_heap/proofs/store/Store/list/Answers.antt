use Rattle.rref_heap.proofs.Below.{listed_whole, listed_links, listable_of}
use Rattle.rref_heap.proofs.store.Store.list.Goals as goal

pub list_below-requires-clause-listable : goal.list_below-requires-clause-listable
list_below-requires-clause-listable c = listable_of c.args.self.now c.requires.store

pub list_one-requires : goal.list_one-requires
list_one-requires c = c.list_below.ensures.listable

pub returns-clause-becomes : goal.returns-clause-becomes
returns-clause-becomes c = listed_whole c.args.self.now c.list_below.new.self c.list_one.new.self c.args.o c.requires.store c.requires.root c.list_below.ensures c.list_one.ensures

pub returns-clause-links : goal.returns-clause-links
returns-clause-links c = listed_links c.args.self.now c.list_below.new.self c.list_one.new.self c.args.o c.list_below.ensures c.list_one.ensures
