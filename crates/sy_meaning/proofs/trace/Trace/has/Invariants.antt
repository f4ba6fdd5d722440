use Rattle.std.proofs.Common.{◌≡◌, take, false}
use Rattle.sy_terms.specs.Denoted.{vals_of}
use Rattle.sy_terms_operators.specs.Tracing.{has_call, calls_of}
use Rattle.sy_meaning.proofs.trace.Trace.has.Given as goal

abbrev pub invariant-loop-call : goal.invariant-loop-call
invariant-loop-call g l = has_call (calls_of g.T.Theory.denotes (take l.call-index l.call-items)) l.function (vals_of g.T.Theory.denotes l.values) ≡ false
