use Rattle.std.proofs.Common.{◌∙◌}
use Rattle.rl_defs.specs.NativeShapes.{shape_of, import_shape}
use Rattle.domain_checker.specs.Shapes.{role_meant}
use Rattle.domain_checker.proofs.OneStructLaws.{in_traits}
use Rattle.domain_checker.proofs.native.has_one.Goals as goal

pub returns : goal.returns
returns c = c.is_one.ensures ∙ in_traits (role_meant c.args.role) c.shape_of.result.now c.import_shape.result.now c.args.own.now c.args.theirs.now (shape_of c.args.body) (import_shape c.args.body) c.with_methods-found.result c.with_methods.result c.shape_of.ensures c.import_shape.ensures c.with_methods-found.ensures c.with_methods.ensures
