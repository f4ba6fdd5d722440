use Rattle.std.proofs.Common.{All, drop}
use Rattle.sygus_replies.specs.Replies.{IsSettled, replies_for}
use Rattle.sygus_answers.proofs.search.status_of.Given as goal

abbrev pub invariant-loop-answer : goal.invariant-loop-answer
invariant-loop-answer g l = All IsSettled (replies_for g.T.Theory g.D.Decide (drop l.answer-index l.answers)) → All IsSettled (replies_for g.T.Theory g.D.Decide l.answers)
