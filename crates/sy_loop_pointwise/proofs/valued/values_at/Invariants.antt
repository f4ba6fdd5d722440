use Rattle.std.proofs.Common.{List, [], length, take}
use Rattle.std.specs.List.{AllZip}
use Rattle.sy_terms.specs.Values.{Val}
use Rattle.sy_terms.specs.Expr.{Expr}
use Rattle.sy_terms.specs.Denoted.{val_of}
use Rattle.sy_terms.specs.Fitting.{Scope}
use Rattle.sy_terms.specs.Meaning.{Function}
use Rattle.sy_terms_operators.specs.Evaluation.{HasValue}
use Rattle.sy_loop_pointwise.specs.Shapes.{AreBelow, term_of}
use Rattle.sy_loop_pointwise.specs.Valued.{EachIsValued}
use Rattle.sy_loop_pointwise.proofs.valued.values_at.Given as goal

-- each of the subterms so far has its value
abbrev pub invariant-loop-number : goal.invariant-loop-number
invariant-loop-number g l = (scope : Scope) (defined : List Function) (values : List Val) (terms : List Expr) → EachIsValued g.T.Theory.denotes scope defined values terms l.fn.found → AreBelow (length l.fn.found) l.numbers →
    AllZip (λ number value. HasValue scope defined [] values (term_of terms number) (val_of g.T.Theory.denotes value)) (take l.number-index l.numbers) l.values.items
