use Rattle.sy_grammar_base.specs.Questions.{question_of}
use Rattle.sygus_solve.proofs.Found.{right_members}
use Rattle.sygus_solve.proofs.problems.answer_next.Goals as goal

pub sought-requires : goal.sought-requires
sought-requires g c = record { problem = c.requires.answerable.fits }

pub answer_text-requires-clause-members : goal.answer_text-requires-clause-members
answer_text-requires-clause-members g c = right_members g.T.Theory g.D.Decide c.args.settings.now.mode c.args.settings.now.limits (question_of g.T.Theory.denotes c.args.problem.now) c.in-Ok.answer c.in-Ok.ensures
