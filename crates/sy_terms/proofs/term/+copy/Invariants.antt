use Rattle.std.proofs.Common.{◌≡◌, take}
use Rattle.sy_terms.specs.Denoted.{exprs_of}
use Rattle.sy_terms.proofs.term.+copy.Given as goal

abbrev pub invariant-Terms::copy-loop-term : goal.invariant-Terms::copy-loop-term
invariant-Terms::copy-loop-term g l = exprs_of g.T.Theory.denotes l.items.items ≡ exprs_of g.T.Theory.denotes (take l.term-index l.term-items)
