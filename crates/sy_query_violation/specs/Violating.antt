-- The body of a problem's query, by the rows of its terms.
use Rattle.std.specs.Prelude.{true}
use Rattle.sy_terms.specs.Values.{Truth}
use Rattle.sy_terms.specs.Expr.{Expr, Exprs, Constant, Apply, none, more, append}
use Rattle.sy_terms.specs.declared.op.Op.TheVariants.{And, Not}

-- all of the terms; true where there is none
abbrev pub conjoined : Exprs → Expr
conjoined none = Constant (Truth true)
conjoined (more first rest) = Apply And (more first rest)

-- every assumption, and not every constraint
abbrev pub violated_by : Exprs → Exprs → Expr
violated_by assumptions constraints = Apply And (append assumptions (more (Apply Not (more (conjoined constraints) none)) none))
