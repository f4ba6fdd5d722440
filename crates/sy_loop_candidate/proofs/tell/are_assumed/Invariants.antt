use Rattle.std.proofs.Common.{map, take, All}
use Rattle.sy_terms.specs.Denoted.{expr_of, vals_of}
use Rattle.sy_grammar_base.specs.Questions.{question_of}
use Rattle.sy_grammar_base.specs.Solving.{IsTrueUnder}
use Rattle.sy_loop_candidate.specs.Bodies.{bodies_of}
use Rattle.sy_loop_candidate.proofs.tell.are_assumed.Given as goal

abbrev pub invariant-loop-term : goal.invariant-loop-term
invariant-loop-term g l =
    All (IsTrueUnder (question_of g.T.Theory.denotes l.problem) (bodies_of g.T.Theory.denotes l.chosen) (vals_of g.T.Theory.denotes l.values)) (map (expr_of g.T.Theory.denotes) (take l.term-index l.term-items))
