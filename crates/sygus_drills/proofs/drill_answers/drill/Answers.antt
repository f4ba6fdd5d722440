use Rattle.sy_grammar_base.specs.Questions.{question_of}
use Rattle.sygus_words.specs.declared.settings.Mode.TheVariants.{Drill}
use Rattle.sygus_drills.proofs.Drilled.{right_solution, thousand_asked}
use Rattle.sygus_answers.proofs.RuledOut.{not_five, five_not_small, five_not_none, five_not_one}
use Rattle.sygus_drills.proofs.drill_answers.drill.Goals as goal

pub line_of-requires-clause-closed : goal.line_of-requires-clause-closed
line_of-requires-clause-closed g c = c.requires.asks.variables

pub line_of-requires-clause-unassumed : goal.line_of-requires-clause-unassumed
line_of-requires-clause-unassumed g c = c.requires.asks.assumptions

pub line_of-requires-clause-count : goal.line_of-requires-clause-count
line_of-requires-clause-count g c = thousand_asked c.args.number _ _ c.requires.asks

pub line_of-requires-clause-solution : goal.line_of-requires-clause-solution
line_of-requires-clause-solution g c =
    right_solution g.T.Theory g.D.Decide (Drill c.args.number) c.args.limits.now (question_of g.T.Theory.denotes c.args.problem.now) c.in_ok-outcome.outcome c.in_ok-outcome.ensures

pub returns-in-Ok-write_whole-clause-answered : goal.returns-in-Ok-write_whole-clause-answered
returns-in-Ok-write_whole-clause-answered g c small = record {
  answer = c.in_ok-outcome.outcome;
  right = c.in_ok-outcome.ensures;
  one = rw c.new-answers.ensures at c.in_ok-push.ensures.ok;
  written = rw (c.as_slice.ensures, c.in-Ok.ensures) at c.in-Ok-write_whole.ensures.ok;
}

pub returns-in-Ok-write_whole-clause-all_settled : goal.returns-in-Ok-write_whole-clause-all_settled
returns-in-Ok-write_whole-clause-all_settled g c is = rw c.as_slice-in-Ok-write_whole.ensures at (c.status_of.ensures.all_settled is)

pub returns-in-Ok-write_whole-clause-some_fail : goal.returns-in-Ok-write_whole-clause-some_fail
returns-in-Ok-write_whole-clause-some_fail g c is = rw c.as_slice-in-Ok-write_whole.ensures at (c.status_of.ensures.some_fail is)

pub returns-clause-cut_off : goal.returns-clause-cut_off
returns-clause-cut_off g c is =
    let begun = rw (c.as_slice.ensures, c.in-Ok.ensures) at c.in-Err.ensures.failed in
    record {
      answer = c.in_ok-outcome.outcome;
      right = c.in_ok-outcome.ensures;
      one = rw c.new-answers.ensures at c.in_ok-push.ensures.ok;
      written = (begun.count, begun.prefix);
    }

pub returns-in-Ok-write_whole-clause-write : goal.returns-in-Ok-write_whole-clause-write
returns-in-Ok-write_whole-clause-write g c is = not_five c.status_of.result c.status_of.ensures.bound is

pub returns-in-Ok-write_whole-clause-cut_off : goal.returns-in-Ok-write_whole-clause-cut_off
returns-in-Ok-write_whole-clause-cut_off g c is = not_five c.status_of.result c.status_of.ensures.bound is

pub returns-clause-answered : goal.returns-clause-answered
returns-clause-answered g c small = five_not_small small

pub returns-clause-all_settled : goal.returns-clause-all_settled
returns-clause-all_settled g c is = five_not_none is

pub returns-clause-some_fail : goal.returns-clause-some_fail
returns-clause-some_fail g c is = five_not_one is
