use Rattle.std.proofs.Common.{List, sym}
use Rattle.std.proofs.lemmas.Option.{slice_get_within, get_or_from_slice_get}
use Rattle.std.proofs.lemmas.List.Elements.{AllWithin-none, AllWithin-upto}
use Rattle.sy_terms.specs.declared.sort.Value.{Value}
use Rattle.sy_terms.specs.declared.term.Term.{Term}
use Rattle.sy_grammar_base.specs.Questions.{question_of}
use Rattle.sy_loop_spec.specs.Histories.{Counterexample}
use Rattle.sy_loop_spec.specs.Stored.{counterexample_of, history_of}
use Rattle.sy_loop_candidate.specs.Bodies.{bodies_of}
use Rattle.sy_loop_candidate.specs.Refuting.{IsOpenAt}
use Rattle.sy_loop_candidate.proofs.Places.{within_more}
use Rattle.sy_loop_candidate.proofs.Telling.{assigned_at, refuted_at}
use Rattle.sy_loop_candidate.proofs.refute.are_refuted_between.Goals as goal

pub loop-place-init : goal.loop-place-init
loop-place-init g c =
    AllWithin-none (λ (k : Counterexample). IsOpenAt (question_of g.T.Theory.denotes c.args.problem.now) c.args.points.now (bodies_of g.T.Theory.denotes c.args.chosen.now) k.assignment)
    (history_of g.T.Theory.denotes c.args.stored.now) c.args.from

pub violated_constraint-requires-clause-values : goal.violated_constraint-requires-clause-values
violated_constraint-requires-clause-values g c =
    rw c.as_slice-values.ensures
    (assigned_at g.T.Theory.denotes (question_of g.T.Theory.denotes c.args.problem.now) c.args.stored.now c.loop-place.place (c.in-Some.assignment.now, c.in-Some.field-0-1.now) c.in-Some.ensures c.requires.stored)

pub returns-in-Some-2-clause-refuted : goal.returns-in-Some-2-clause-refuted
returns-in-Some-2-clause-refuted g c =
    λ _. refuted_at g.T.Theory.denotes (question_of g.T.Theory.denotes c.args.problem.now) c.args.stored.now c.loop-place.place (c.in-Some.assignment.now, c.in-Some.field-0-1.now) c.in-Some.ensures
    c.args.points.now (bodies_of g.T.Theory.denotes c.args.chosen.now) (rw c.as_slice-values.ensures at (rw c.in-Some-2.is at c.in_ok-constraint.ensures))

pub loop-place-preserved : goal.loop-place-preserved
loop-place-preserved g c =
    let pair : List (Value g.row.T-Num.Denot) × List (Term g.row.T.Denot g.row.T-Num.Denot) = (c.in-Some.assignment.now, c.in-Some.field-0-1.now) in
    within_more (λ (k : Counterexample). IsOpenAt (question_of g.T.Theory.denotes c.args.problem.now) c.args.points.now (bodies_of g.T.Theory.denotes c.args.chosen.now) k.assignment)
    (counterexample_of g.T.Theory.denotes) c.args.stored.now.items c.args.from c.loop-place.place pair (slice_get_within c.args.stored.now.items c.loop-place.place pair c.in-Some.ensures) (sym (get_or_from_slice_get c.args.stored.now.items c.loop-place.place pair pair c.in-Some.ensures))
    c.loop-place.invariant (rw c.as_slice-values.ensures at (rw c.in_default-2.is at c.in_ok-constraint.ensures))

pub returns-clause-open : goal.returns-clause-open
returns-clause-open g c =
    λ _. AllWithin-upto (λ (k : Counterexample). IsOpenAt (question_of g.T.Theory.denotes c.args.problem.now) c.args.points.now (bodies_of g.T.Theory.denotes c.args.chosen.now) k.assignment)
    (history_of g.T.Theory.denotes c.args.stored.now) c.args.from c.loop-place.place c.args.to c.loop-place-test.false c.loop-place.invariant
