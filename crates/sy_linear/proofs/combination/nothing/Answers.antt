use Rattle.std.proofs.Common.{◌∙◌, ap₂}
use Rattle.std.specs.Prelude.{Some, None, pos, List, Option}
use Rattle.sy_frac.specs.Fraction.{Fraction}
use Rattle.sy_linear.specs.Combining.{empty_combination}
use Rattle.sy_linear.specs.declared.combination.Share.{Share}
use Rattle.sy_linear.specs.declared.combination.Combination.{Combination}
use Rattle.sy_linear.proofs.Lowest.{whole_is, zero_is}
use Rattle.sy_linear.proofs.combination.nothing.Goals as goal

abbrev of_constant : List Share → Option Fraction → Combination
of_constant shares (Some f) = record { shares = shares; constant = f }
of_constant shares None = empty_combination

pub returns : goal.returns
returns c = ap₂ of_constant c.new-2.ensures (whole_is (Some c.in-Some.constant) (pos 0) c.in-Some.ensures ∙ zero_is)
