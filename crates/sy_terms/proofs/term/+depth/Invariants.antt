use Rattle.std.proofs.Common.{◌≡◌, min, take}
use Rattle.sy_terms.specs.Expr.{depth_of}
use Rattle.sy_terms.specs.Denoted.{exprs_of}
use Rattle.sy_terms.proofs.term.+depth.Given as goal

abbrev pub invariant-Terms::depth-loop-term : goal.invariant-Terms::depth-loop-term
invariant-Terms::depth-loop-term g l = l.greatest ≡ min l.cap (depth_of (exprs_of g.T.Theory.denotes (take l.term-index l.term-items)))
