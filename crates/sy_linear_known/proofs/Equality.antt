-- Equality of lists of coefficients, as the code tests it.
use Rattle.std.proofs.Common.{◌≡◌, refl, ap, List, [], ◌∷◌}
use Rattle.std.specs.Prelude.{◌&&◌, ◌==◌}
use Rattle.std.specs.Ordering.{int_eq}
use lib.Pointwise.{pointwise}
use Rattle.sy_linear_known.specs.Forms.{Coefficient, same_coefficients}

pub pointwise_is : (cs ds : List Coefficient) → pointwise (λ (x y : Coefficient). (x.0 == y.0) && int_eq x.1 y.1) cs ds ≡ same_coefficients cs ds
pointwise_is [] [] = refl
pointwise_is [] (d ∷ ds) = refl
pointwise_is (c ∷ cs) [] = refl
pointwise_is (c ∷ cs) (d ∷ ds) = ap (λ b. (c.0 == d.0 && int_eq c.1 d.1) && b) (pointwise_is cs ds)
