-- What the tables of shapes mean.
use Rattle.std.specs.Prelude.{List, map}
use Rattle.rl_defs.specs.NativeShapes as shape
use Rattle.domain_checker.specs.declared.native.Role.{Role}
use Rattle.domain_checker.specs.declared.native.Role.TheVariants as role
use Rattle.domain_checker.specs.declared.native.Shape.{Shape}
use Rattle.domain_checker.specs.declared.native.Shape.TheVariants as given
use Rattle.domain_checker.specs.declared.native.MethodShape.{MethodShape}

abbrev pub role_meant : Role → shape.Role
role_meant role.Block = shape.Block
role_meant role.FileName = shape.FileName
role_meant role.Buffer = shape.Buffer

abbrev pub shape_meant : Shape → shape.Shape
shape_meant (given.Number w) = shape.IsNumber w
shape_meant (given.Passes r) = shape.Passes (role_meant r)
shape_meant (given.Lends r) = shape.Lends (role_meant r)

abbrev pub shapes_meant : List Shape → List shape.Shape
shapes_meant shapes = map shape_meant shapes

abbrev pub method_meant : MethodShape → shape.MethodShape
method_meant m = record { name = m.name.now; idempotent = m.idempotent; params = shapes_meant m.params.now; results = shapes_meant m.results.now }

abbrev pub methods_meant : List MethodShape → List shape.MethodShape
methods_meant methods = map method_meant methods
