-- Lists that are looked at side by side.
use Rattle.std.proofs.Common.{◌≡◌, ap, ◌∙◌, false, ◌&&◌, List, [], ◌∷◌, length, refl, arith}
use Rattle.std.specs.List.{list_all, zip}
use Rattle.std.proofs.Math.Bool.{and-false}
use Rattle.rl_defs.specs.declared.tables.Kind.{Kind}
use Rattle.rl_defs.specs.declared.tables.MethodRow.{MethodRow}
use Rattle.rl_defs.specs.declared.tables.Tables.{Tables}
use Rattle.rl_defs.specs.NativeShapes.{is_shape, are_shapes, is_method, are_methods}
use Rattle.domain_checker.specs.declared.native.Shape.{Shape}
use Rattle.domain_checker.specs.declared.native.MethodShape.{MethodShape}
use Rattle.domain_checker.specs.Shapes.{shape_meant, shapes_meant, method_meant, methods_meant}

-- kinds that are as many as the shapes
pub shapes_even : (tables : Tables) (shapes : List Shape) (kinds : List Kind) → length shapes ≡ length kinds → list_all (λ p. is_shape tables (shape_meant p.0) p.1) (zip shapes kinds) ≡ are_shapes tables (shapes_meant shapes) kinds
shapes_even tables [] [] e = refl
shapes_even tables [] (k ∷ ks) e = absurd (omega arith)
shapes_even tables (s ∷ ss) [] e = absurd (omega arith)
shapes_even tables (s ∷ ss) (k ∷ ks) e = ap (λ b. is_shape tables (shape_meant s) k && b) (shapes_even tables ss ks (omega arith))

-- kinds that aren't
pub shapes_uneven : (tables : Tables) (shapes : List Shape) (kinds : List Kind) → (length shapes ≡ length kinds → ⊥) → are_shapes tables (shapes_meant shapes) kinds ≡ false
shapes_uneven tables [] [] e = absurd (e refl)
shapes_uneven tables [] (k ∷ ks) e = refl
shapes_uneven tables (s ∷ ss) [] e = refl
shapes_uneven tables (s ∷ ss) (k ∷ ks) e = ap (λ b. is_shape tables (shape_meant s) k && b) (shapes_uneven tables ss ks (λ same. e (omega arith))) ∙ and-false (is_shape tables (shape_meant s) k)

pub methods_even : (tables : Tables) (shapes : List MethodShape) (rows : List MethodRow) → length shapes ≡ length rows → list_all (λ p. is_method tables (method_meant p.0) p.1) (zip shapes rows) ≡ are_methods tables (methods_meant shapes) rows
methods_even tables [] [] e = refl
methods_even tables [] (k ∷ ks) e = absurd (omega arith)
methods_even tables (s ∷ ss) [] e = absurd (omega arith)
methods_even tables (s ∷ ss) (k ∷ ks) e = ap (λ b. is_method tables (method_meant s) k && b) (methods_even tables ss ks (omega arith))

pub methods_uneven : (tables : Tables) (shapes : List MethodShape) (rows : List MethodRow) → (length shapes ≡ length rows → ⊥) → are_methods tables (methods_meant shapes) rows ≡ false
methods_uneven tables [] [] e = absurd (e refl)
methods_uneven tables [] (k ∷ ks) e = refl
methods_uneven tables (s ∷ ss) [] e = refl
methods_uneven tables (s ∷ ss) (k ∷ ks) e = ap (λ b. is_method tables (method_meant s) k && b) (methods_uneven tables ss ks (λ same. e (omega arith))) ∙ and-false (is_method tables (method_meant s) k)
