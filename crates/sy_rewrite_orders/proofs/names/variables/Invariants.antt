use Rattle.std.proofs.Common.{◌≡◌, ◌+◌, true}
use Rattle.sy_terms.specs.Denoted.{exprs_of}
use Rattle.sy_terms_operators.specs.Plain.{are_plain}
use Rattle.sy_rewrite_orders.proofs.Replaced.{MeanFirst}
use Rattle.sy_rewrite_orders.proofs.names.variables.Given as goal

abbrev pub invariant-loop-i : goal.invariant-loop-i
invariant-loop-i g l = record {
  first : MeanFirst l.count l.i (exprs_of g.T.Theory.denotes l.terms.items);
  plain : are_plain (l.count + l.i) (exprs_of g.T.Theory.denotes l.terms.items) ≡ true;
}
