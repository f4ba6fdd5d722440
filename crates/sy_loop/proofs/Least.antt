-- Solutions are of the least bound.
use Rattle.std.specs.Prelude.{List}
use Rattle.sy_terms.specs.Expr.{Expr}
use Rattle.sy_grammar_base.specs.Questions.{Question}
use Rattle.sy_query_limits.specs.declared.Limits.{Limits}
use Rattle.sy_loop_spec.specs.declared.reach.Reach.{Reach}
use Rattle.sy_loop_spec.specs.Histories.{Counterexample, IsCandidate, IsHonestHistory}
use Rattle.sy_loop_spec.proofs.Staying.{tried_in_bound}
use Rattle.sy_loop_spec.proofs.Refuted.{no_solution_within}
use Rattle.sy_loop_claims.specs.Least.{AreLeast}

-- a candidate is within an open number, below which nothing solves the problem
pub found_least : (reach : Reach) (question : Question) (limits : Limits) (history : List Counterexample) (bodies : List Expr) → IsHonestHistory reach question limits.size limits.rounds history → IsCandidate reach question limits.size history bodies →
    AreLeast reach question bodies
found_least reach question limits history bodies honest candidate = record {
  number = candidate.number;
  bound = tried_in_bound reach question limits.size history candidate.number bodies candidate.by;
  none = λ m less. no_solution_within reach question limits.size limits.rounds m history honest (candidate.number_open.below m less);
}
