-- What kept shapes stand for.
use Rattle.std.specs.Prelude.{List, map}
use Rattle.sy_terms.specs.Values.{Val}
use Rattle.sy_terms.specs.Denoted.{val_of}
use Rattle.sy_loop_pointwise.specs.Shapes as shapes
use Rattle.sy_loop_pointwise.specs.declared.shape.Shape.{Shape}
use Rattle.sy_loop_pointwise.specs.declared.shape.Shape.TheVariants.{Const, Var, App, Call}

abbrev pub shape_of : {T N : Type 0} → (N → Val) → Shape T N → shapes.Shape
shape_of number (Const value) = shapes.Fixed (val_of number value)
shape_of number (Var position) = shapes.Argument position
shape_of number (App operator numbers) = shapes.Applied operator numbers
shape_of number (Call function numbers) = shapes.Called function numbers

abbrev pub shapes_of : {T N : Type 0} → (N → Val) → List (Shape T N) → List shapes.Shape
shapes_of number kept = map (shape_of number) kept
