use Rattle.std.proofs.Common.{◌∙◌, sym}
use Rattle.std.proofs.lemmas.Slice.Zip.{zip_end}
use Rattle.client_threads.proofs.Naming.{bound_all}
use Rattle.client_threads.proofs.names.bind.Goals as goal

pub returns : goal.returns
returns c =
    sym (bound_all _ c.args.names.now c.args.results.now c.results.held
    (zip_end c.args.names.now c.args.results.now _ _ _ c.next.new.self _ (cc) (cc) c.results.yielded_by c.in-None.is c.next.ensures.steps))
    ∙ c.results.invariant
