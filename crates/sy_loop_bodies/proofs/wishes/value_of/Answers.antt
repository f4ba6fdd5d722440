use Rattle.sy_terms.specs.Denoted.{expr_of, vals_of}
use Rattle.sy_grammar_base.proofs.Problems.{problem_definitions}
use Rattle.sy_loop_bodies.proofs.Fitting.{fits_where}
use Rattle.sy_loop_bodies.proofs.wishes.value_of.Goals as goal

pub evaluate-requires-clause-definitions : goal.evaluate-requires-clause-definitions
evaluate-requires-clause-definitions g c = problem_definitions g.T.Theory.owned g.T.Theory.numeric g.T.Theory.denotes c.args.problem.now c.requires.problem

pub evaluate-requires-clause-values : goal.evaluate-requires-clause-values
evaluate-requires-clause-values g c = c.requires.values.valid

pub evaluate-requires-clause-term : goal.evaluate-requires-clause-term
evaluate-requires-clause-term g c =
    fits_where g.T.Theory.owned g.T.Theory.denotes c.args.problem.now.defs c.as_slice.result.now c.as_slice.ensures c.as_slice-2.result.now c.args.problem.now.vars c.as_slice-2.ensures
    (vals_of g.T.Theory.denotes c.args.values.now) c.requires.values.sorted (expr_of g.T.Theory.denotes c.args.term.now) c.in_ok-sort.sort c.in_ok-sort.ensures c.if-is_none.ensures
