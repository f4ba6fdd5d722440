use Rattle.std.proofs.Common.{sym, ◌∙◌}
use Rattle.sy_terms.specs.Values.{Whole}
use Rattle.sy_query_base.specs.Asked.{query_of}
use Rattle.sy_lower_laws.proofs.Lowered.{lowering_itself}
use Rattle.sy_intsolve.proofs.lowered.solved.Goals as goal

pub solve_lowered-requires-clause-lowered : goal.solve_lowered-requires-clause-lowered
solve_lowered-requires-clause-lowered c = sym (lowering_itself (query_of Whole c.args.query.now) (sym c.has_divisions.ensures ∙ c.if-not-has_divisions.true))
