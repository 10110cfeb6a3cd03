use Rattle.domain_checker.specs.Shapes.{role_meant}
use Rattle.domain_checker.proofs.OneStructLaws.{in_method}
use Rattle.domain_checker.proofs.native.with_method.Goals as goal

pub returns : goal.returns
returns c = rw (← c.as_slice.ensures, ← c.as_slice-2.ensures) (in_method (role_meant c.args.role) c.args.shape.now.params.now c.args.shape.now.results.now c.as_slice.result.now c.as_slice-2.result.now c.args.found c.with_places-found.result c.with_places.result c.with_places-found.ensures c.with_places.ensures)
