use Rattle.std.proofs.Common.{map, take}
use Rattle.sy_terms.specs.Denoted.{expr_of}
use Rattle.sy_grammar_base.specs.Questions.{question_of}
use Rattle.sy_loop_spec.specs.Stored.{history_of}
use Rattle.sy_loop_truth.specs.Known.{IsHeld}
use Rattle.sy_loop_truth.specs.Traces.{AreTraced, Widens}
use Rattle.sy_loop_candidate.proofs.Asking.{SoFar}
use Rattle.sy_loop_candidate.proofs.asks.ask_all.Given as goal

abbrev pub invariant-loop-place : goal.invariant-loop-place
invariant-loop-place g l = record {
  held : IsHeld (question_of g.T.Theory.denotes l.problem) l.limits (history_of g.T.Theory.denotes l.stored) l.points;
  traced : AreTraced (question_of g.T.Theory.denotes l.problem) (take l.place (history_of g.T.Theory.denotes l.stored)) l.points (map (expr_of g.T.Theory.denotes) l.bodies);
  widens : Widens (question_of g.T.Theory.denotes l.problem) (history_of g.T.Theory.denotes l.stored) (map (expr_of g.T.Theory.denotes) l.bodies) l.fn.points l.points;
  so_far : SoFar l.fn.points l.points l.trial;
}
