-- What tells that a tree which is good at each point meets the problem at each stored assignment.
use Rattle.std.specs.Prelude.{Bool, true, false, Option, None, Some}
use Rattle.sy_loop_goods.specs.declared.goods.Leaving.{Leaving}
use Rattle.sy_loop_pointwise.specs.declared.posed.Posed.{Posed}
use Rattle.sy_loop_pointwise.specs.declared.posed.Posed.TheVariants.{Free, Applies}

-- whether the constraint applies the function to be found
abbrev pub has_application : {T N : Type 0} → Posed T N → Bool
has_application Free = false
has_application (Applies shapes call) = true

-- whether it is known of each leaf where it is good
abbrev pub are_known : Option Leaving → Bool
are_known None = true
are_known (Some leaving) = false
