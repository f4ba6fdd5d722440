use Rattle.std.proofs.Common.{◌≡◌, take, true}
use Rattle.sy_terms.specs.Denoted.{exprs_of}
use Rattle.sy_terms_operators.specs.Plain.{are_plain}
use Rattle.sy_rewrite_orders.proofs.names.+plain.Given as goal

abbrev pub invariant-are_plain-loop-term : goal.invariant-are_plain-loop-term
invariant-are_plain-loop-term g l = are_plain l.count (exprs_of g.T.Theory.denotes (take l.term-index l.terms)) ≡ true
