use Rattle.std.proofs.Common.{◌≡◌, ◌≤◌, map, take}
use Rattle.std.specs.List.{count_by}
use Rattle.sy_terms.specs.Denoted.{expr_of}
use Rattle.sy_grammar_base.specs.Questions.{question_of}
use Rattle.sygus_drills.specs.Counts.{is_met}
use Rattle.sygus_drills.proofs.count.count_true.Given as goal

abbrev pub invariant-loop-term : goal.invariant-loop-term
invariant-loop-term g l = record {
  few : l.count ≤ l.term-index;
  counted : l.count ≡ count_by (is_met (question_of g.T.Theory.denotes l.problem) (map (expr_of g.T.Theory.denotes) l.bodies)) (take l.term-index (map (expr_of g.T.Theory.denotes) l.terms));
}
