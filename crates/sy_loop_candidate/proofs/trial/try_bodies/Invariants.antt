use Rattle.std.proofs.Common.{◌≡◌, map, take, All}
use Rattle.sy_terms.specs.Denoted.{expr_of}
use Rattle.sy_grammar_base.specs.Questions.{question_of}
use Rattle.sy_grammar_base.specs.Solving.{Meets}
use Rattle.sy_loop_spec.specs.Histories.{Counterexample}
use Rattle.sy_loop_spec.specs.Stored.{counterexample_of}
use Rattle.sy_loop_candidate.proofs.trial.try_bodies.Given as goal

abbrev pub invariant-loop-place : goal.invariant-loop-place
invariant-loop-place g l = record {
  same : l.points ≡ l.fn.points;
  meets : All (λ (c : Counterexample). Meets (question_of g.T.Theory.denotes l.problem) (map (expr_of g.T.Theory.denotes) l.bodies) c.assignment) (map (counterexample_of g.T.Theory.denotes) (take l.place l.stored.items));
}
