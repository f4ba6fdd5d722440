use Rattle.std.proofs.Common.{sym, ◌∙◌}
use mathlib.Core.Bool.{true≢false}
use Rattle.sy_terms.specs.Denoted.{val_of, vals_of}
use Rattle.sy_grammar_base.proofs.Problems.{problem_definitions}
use Rattle.sy_loop_candidate.proofs.Telling.{few, tells_true, tells_false, tells_nothing}
use Rattle.sy_loop_candidate.proofs.tell.tell.Goals as goal

pub observe-requires-clause-functions : goal.observe-requires-clause-functions
observe-requires-clause-functions g c = few g.T.Theory.owned g.T.Theory.denotes c.args.problem.now c.args.points.now c.args.chosen.now c.requires.ready

pub observe-requires-clause-rows : goal.observe-requires-clause-rows
observe-requires-clause-rows g c = rw c.as_slice-defs.ensures c.requires.ready.rows

pub returns-in_default : goal.returns-in_default
returns-in_default g c =
    tells_nothing g.T.Theory.owned g.T.Theory.denotes c.args.problem.now c.args.points.now c.args.chosen.now c.requires.ready (vals_of g.T.Theory.denotes c.args.values.now) c.args.term.now c.requires.values c.requires.term
    (rw (c.in_default.is, c.as_slice-defs.ensures) at c.in_ok-value.ensures)

pub returns-then-is_true : goal.returns-then-is_true
returns-then-is_true g c =
    tells_true g.T.Theory.owned g.T.Theory.denotes c.args.problem.now c.args.points.now c.args.chosen.now c.requires.ready (vals_of g.T.Theory.denotes c.args.values.now) c.args.term.now c.requires.values c.requires.term
    (val_of g.T.Theory.denotes c.in-Some.value) (rw (c.in-Some.is, c.as_slice-defs.ensures) at c.in_ok-value.ensures) (c.is_true.ensures.0 c.if-is_true.true)

pub returns-else-is_true : goal.returns-else-is_true
returns-else-is_true g c =
    tells_false g.T.Theory.owned g.T.Theory.denotes c.args.problem.now c.args.points.now c.args.chosen.now c.requires.ready (vals_of g.T.Theory.denotes c.args.values.now) c.args.term.now c.requires.values c.requires.term
    (val_of g.T.Theory.denotes c.in-Some.value) (rw (c.in-Some.is, c.as_slice-defs.ensures) at c.in_ok-value.ensures) (λ is. true≢false (sym (c.is_true.ensures.1 is) ∙ c.if-is_true.false))

pub observe-requires-clause-definitions : goal.observe-requires-clause-definitions
observe-requires-clause-definitions g c =
    rw c.as_slice-defs.ensures (problem_definitions g.T.Theory.owned g.T.Theory.numeric g.T.Theory.denotes c.args.problem.now c.requires.problem)
