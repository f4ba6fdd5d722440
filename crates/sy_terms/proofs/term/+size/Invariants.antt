use Rattle.std.proofs.Common.{◌≡◌, min, take}
use Rattle.sy_terms.specs.Expr.{nodes_of}
use Rattle.sy_terms.specs.Denoted.{exprs_of}
use Rattle.sy_terms.proofs.term.+size.Given as goal

abbrev pub invariant-Terms::size-loop-term : goal.invariant-Terms::size-loop-term
invariant-Terms::size-loop-term g l = l.total ≡ min l.cap (nodes_of (exprs_of g.T.Theory.denotes (take l.term-index l.term-items)))
