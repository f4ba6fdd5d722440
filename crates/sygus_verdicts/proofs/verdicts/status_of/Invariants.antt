use Rattle.std.proofs.Common.{◌≡◌, drop}
use Rattle.sygus_verdicts.specs.Clauses.{verdicts_for}
use Rattle.sygus_verdicts.specs.Verdicts.{verdicts_status}
use Rattle.sygus_verdicts.proofs.verdicts.status_of.Given as goal

abbrev pub invariant-loop-answer : goal.invariant-loop-answer
invariant-loop-answer g l = verdicts_status (verdicts_for g.J.Judge (drop l.answer-index l.answers)) ≡ verdicts_status (verdicts_for g.J.Judge l.answers)
