use Rattle.std.proofs.Common.{◌≡◌, ◌≤◌, length, map}
use Rattle.std.specs.Io.KnownBytes.{Appends}
use Rattle.sy_grammar_base.specs.Questions.{question_of}
use Rattle.sygus_replies.specs.Replies.{replies_for, all_shown_for}
use Rattle.sygus_replies.specs.Texts.{texts, answer_lines}
use Rattle.sygus_answers.specs.RightAnswers.{AreRightFor}
use Rattle.sygus_solve.proofs.problems.solve.Given as goal

abbrev pub invariant-loop-problem : goal.invariant-loop-problem
invariant-loop-problem g l = record {
  count : length l.answers ≡ l.problem-index;
  right : AreRightFor g.T.Theory g.D.Decide l.settings.mode l.settings.limits l.problems l.answers;
  replied : Appends (g.O.Sink.written l.fn.out) (g.O.Sink.written l.out) (texts l.titles (map (question_of g.T.Theory.denotes) l.problems) (all_shown_for g.T.Theory g.D.Decide g.S.Prints l.settings.proofs l.answers));
  lined : Appends (g.E.Sink.written l.fn.err) (g.E.Sink.written l.err) (answer_lines 1 (replies_for g.T.Theory g.D.Decide l.answers));
  later_out : g.O.Sink.faults l.fn.out ≤ g.O.Sink.faults l.out;
  later_err : g.E.Sink.faults l.fn.err ≤ g.E.Sink.faults l.err;
}
