use Rattle.std.proofs.Common.{◌≡◌, take}
use Rattle.sy_terms.specs.Denoted.{exprs_of}
use Rattle.sy_query_base.proofs.copies.copied_terms.Given as goal

abbrev pub invariant-loop-term : goal.invariant-loop-term
invariant-loop-term g l = exprs_of g.T.Theory.denotes l.copies.items ≡ exprs_of g.T.Theory.denotes (take l.term-index l.terms)
