use Rattle.std.proofs.Common.{sym, subst, arith}
use Rattle.std.proofs.lemmas.List.{length-map}
use Rattle.std.proofs.lemmas.Result.{IfOk-from_err}
use Rattle.sy_terms.specs.Definitions.{bodies, scope_of}
use Rattle.sy_terms.specs.Denoted.{vals_of}
use Rattle.sy_terms.specs.Meaning.{functions}
use Rattle.sy_terms.specs.declared.term.Fun.TheVariants.{Wanted}
use Rattle.sy_grammar_base.specs.Questions.{question_of}
use Rattle.sy_grammar_base.proofs.Problems.{problem_definitions}
use Rattle.sy_loop_spec.specs.Applications.{applications}
use Rattle.sy_loop_spec.specs.WrittenOut.{written_out}
use Rattle.sy_loop_pointwise.specs.Denoted.{shape_of, shapes_of}
use Rattle.sy_loop_pointwise.specs.Shapes.{AreSubterms, subterms}
use Rattle.sy_loop_pointwise.specs.Asked.{IsTheCall}
use Rattle.sy_loop_pointwise.specs.Posed.{PosesConstraint}
use Rattle.sy_loop_pointwise.specs.Valued.{AreValued}
use Rattle.sy_loop_pointwise.proofs.RestsLaws.{rests_at, leaves_at, valued_arguments}
use Rattle.sy_loop_pointwise.proofs.rest.rest_of.Goals as goal

pub returns-in-Free : goal.returns-in-Free
returns-in-Free g c = λ constraint of poses. subst (PosesConstraint (question_of g.T.Theory.denotes c.args.problem.now) constraint) c.in-Free.is poses

pub arguments_of-requires : goal.arguments_of-requires
arguments_of-requires g c = record { subterms = subst AreSubterms (sym c.shapes-shapes.ensures.shapes) c.shapes-shapes.ensures.are }

pub returns-in_default : goal.returns-in_default
returns-in_default g c = λ constraint of poses.
    let number = g.T.Theory.denotes in
    let question = question_of number c.args.problem.now in
    let call = subst (λ shapes. IsTheCall (subterms shapes) (applications (written_out question constraint)) c.in-Applies.call) (sym c.shapes-shapes.ensures.shapes) (subst (PosesConstraint question constraint) c.in-Applies.is poses) in
    absurd (c.in_default.ensures (Wanted call.application.0) call.application.1 call.is)

pub first_valued-requires-clause-definitions : goal.first_valued-requires-clause-definitions
first_valued-requires-clause-definitions g c = problem_definitions g.T.Theory.owned g.T.Theory.numeric g.T.Theory.denotes c.args.problem.now c.requires.problem

pub first_valued-requires-clause-values : goal.first_valued-requires-clause-values
first_valued-requires-clause-values g c = c.requires.values.valid

pub first_valued-requires-clause-subterms : goal.first_valued-requires-clause-subterms
first_valued-requires-clause-subterms g c = subst AreSubterms (sym c.shapes-shapes.ensures.shapes) c.shapes-shapes.ensures.are

pub returns-in-Some-2 : goal.returns-in-Some-2
returns-in-Some-2 g c = λ constraint of poses.
    let number = g.T.Theory.denotes in
    let owned = g.T.Theory.owned in
    let problem = c.args.problem.now in
    let question = question_of number problem in
    let values = vals_of number c.args.values.now in
    let shapes = shapes_of number c.shapes-shapes.result.now in
    let terms = subterms shapes in
    let call = subst (λ all. IsTheCall (subterms all) (applications (written_out question constraint)) c.in-Applies.call) (sym c.shapes-shapes.ensures.shapes) (subst (PosesConstraint question constraint) c.in-Applies.is poses) in
    let scope = scope_of owned problem.defs in
    let defined = functions (bodies number problem.defs) in
    let all = valued_arguments number scope defined values shapes c.in-Applies.call c.in-Some.arguments.now c.as_slice-in-Applies.result.now c.in_ok-found-in-Applies.found.items c.as_slice.result.now
    (Wanted call.application.0) call.application.1 c.in_ok-tuple-in-Applies.field-0
    c.in-Some.ensures call.is c.as_slice-in-Applies.ensures c.as_slice.ensures.value c.in_ok-found-in-Applies.ensures.many c.in_ok-found-in-Applies.ensures.are (c.in_ok-tuple-in-Applies.ensures scope defined values) in
    let is = subst (AreValued number scope defined values call.application.1) c.in-Some-2.is all in
    rests_at owned g.T.Theory.numeric question c.requires.problem c.requires.pointwise values c.requires.values constraint of terms c.in-Applies.call call (vals_of number c.in-Some-2.tuple) is

pub returns : goal.returns
returns g c = λ constraint of poses.
    let number = g.T.Theory.denotes in
    let owned = g.T.Theory.owned in
    let problem = c.args.problem.now in
    let question = question_of number problem in
    let values = vals_of number c.args.values.now in
    let shapes = shapes_of number c.shapes-shapes.result.now in
    let terms = subterms shapes in
    let call = subst (λ all. IsTheCall (subterms all) (applications (written_out question constraint)) c.in-Applies.call) (sym c.shapes-shapes.ensures.shapes) (subst (PosesConstraint question constraint) c.in-Applies.is poses) in
    let scope = scope_of owned problem.defs in
    let defined = functions (bodies number problem.defs) in
    let all = valued_arguments number scope defined values shapes c.in-Applies.call c.in-Some.arguments.now c.as_slice-in-Applies.result.now c.in_ok-found-in-Applies.found.items c.as_slice.result.now
    (Wanted call.application.0) call.application.1 c.in_ok-tuple-in-Applies.field-0
    c.in-Some.ensures call.is c.as_slice-in-Applies.ensures c.as_slice.ensures.value c.in_ok-found-in-Applies.ensures.many c.in_ok-found-in-Applies.ensures.are (c.in_ok-tuple-in-Applies.ensures scope defined values) in
    let is = subst (AreValued number scope defined values call.application.1) c.in-None.is all in
    leaves_at owned g.T.Theory.numeric question c.requires.problem c.requires.pointwise values c.requires.values constraint of terms c.in-Applies.call call is

pub first_valued-requires-clause-count : goal.first_valued-requires-clause-count
first_valued-requires-clause-count g c = omega (arith, c.in-Some.ensures.within, length-map c.shapes-shapes.result.now (shape_of g.T.Theory.denotes))

pub returns-in_err-found-in-Applies : goal.returns-in_err-found-in-Applies
returns-in_err-found-in-Applies g c = IfOk-from_err c.from_residual.result _ c.from_residual.ensures.0

pub returns-in_err-tuple-in-Applies : goal.returns-in_err-tuple-in-Applies
returns-in_err-tuple-in-Applies g c = IfOk-from_err c.from_residual-in_err-tuple-in-Applies.result _ c.from_residual-in_err-tuple-in-Applies.ensures.0
