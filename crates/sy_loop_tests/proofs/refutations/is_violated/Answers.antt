use Rattle.std.proofs.Common.{◌∙◌}
use Rattle.sy_terms.specs.Values.{Whole}
use Rattle.sy_grammar_base.specs.Questions.{question_of}
use Rattle.sy_loop_tests.proofs.Refuting.{no-bodies, no-rows, no-functions, no-tuples, assigned-fit}
use Rattle.sy_loop_tests.proofs.refutations.is_violated.Goals as goal

pub are_refuted-refuted-requires-clause-bodies : goal.are_refuted-refuted-requires-clause-bodies
are_refuted-refuted-requires-clause-bodies g c = no-bodies c.posed-problem.result c.as_slice.result.now (c.as_slice.ensures.value ∙ c.new-chosen.ensures.items) c.posed-problem.ensures.nothing.1

pub are_refuted-refuted-requires-clause-rows : goal.are_refuted-refuted-requires-clause-rows
are_refuted-refuted-requires-clause-rows g c = no-rows c.posed-problem.result.defs c.expect-points.result c.as_slice.result.now (c.as_slice.ensures.value ∙ c.new-chosen.ensures.items)

pub are_refuted-refuted-requires-clause-functions : goal.are_refuted-refuted-requires-clause-functions
are_refuted-refuted-requires-clause-functions g c = no-functions c.posed-problem.result c.expect-points.result (rw c.expect-points.ensures at c.new.ensures.tuples) c.posed-problem.ensures.nothing.1

pub are_refuted-refuted-requires-clause-taken : goal.are_refuted-refuted-requires-clause-taken
are_refuted-refuted-requires-clause-taken g c = no-tuples (question_of Whole c.posed-problem.result) c.expect-points.result (rw c.expect-points.ensures at c.new.ensures.tuples)

pub are_refuted-refuted-requires-clause-stored : goal.are_refuted-refuted-requires-clause-stored
are_refuted-refuted-requires-clause-stored g c = assigned-fit Whole (question_of Whole c.posed-problem.result) c.assigned-stored.result.items c.posed-problem.ensures.nothing.0 c.assigned-stored.ensures
