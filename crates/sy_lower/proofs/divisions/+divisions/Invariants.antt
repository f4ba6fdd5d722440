use Rattle.std.proofs.Common.{◌≡◌, drop}
use Rattle.sy_terms.specs.Values.{Whole}
use Rattle.sy_terms.specs.Denoted.{exprs_of}
use Rattle.sy_lower_laws.specs.Lowering.{have_divisions}
use Rattle.sy_lower.proofs.divisions.+divisions.Given as goal

abbrev pub invariant-have_division-loop-term : goal.invariant-have_division-loop-term
invariant-have_division-loop-term l = have_divisions (exprs_of Whole (drop l.term-index l.terms)) ≡ have_divisions (exprs_of Whole l.terms)
