use Rattle.std.proofs.Common.{◌≡◌, ◌+◌, map, drop}
use Rattle.sy_grammar_base.specs.Questions.{question_of}
use Rattle.sy_reply.specs.Statements.{statement_of}
use Rattle.sy_reply_reader.specs.Replies as spec
use Rattle.sy_reply_reader.proofs.Leading.{Leads}
use Rattle.sy_reply_reader.proofs.replies.read_reply.Given as goal

abbrev pub invariant-loop-problem : goal.invariant-loop-problem
invariant-loop-problem g l = record {
  leads : Leads l.proofs l.fn.logic l.titles l.bytes (spec.statements_from l.proofs l.fn.logic l.titles l.bytes 1 (map (question_of g.T.Theory.denotes) l.fn.problems) l.fn.at)
      (map (statement_of g.T.Theory.denotes) l.stated) l.check (map (question_of g.T.Theory.denotes) (drop l.problem-index l.problem-items)) l.next;
  counted : l.check ≡ 1 + l.problem-index;
}
