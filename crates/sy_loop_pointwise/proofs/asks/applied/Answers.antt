use Rattle.std.proofs.Common.{subst}
use Rattle.sy_loop_spec.specs.Applications.{all_applications}
use Rattle.sy_loop_pointwise.specs.Denoted.{shapes_of}
use Rattle.sy_loop_pointwise.specs.Shapes.{subterms}
use Rattle.sy_loop_pointwise.specs.Asked.{AreApplications}
use Rattle.sy_loop_pointwise.proofs.Asked.{applied_once, applied_again, applied_mixed}
use Rattle.sy_loop_pointwise.proofs.asks.applied.Goals as goal

pub returns-in-Nothing : goal.returns-in-Nothing
returns-in-Nothing g c = λ function arguments is within.
    let terms = subterms (shapes_of g.T.Theory.denotes c.args.shapes.now) in
    applied_once terms function arguments c.args.number is (subst (AreApplications terms (all_applications arguments)) c.in-Nothing.is within)

pub returns-in-Calls : goal.returns-in-Calls
returns-in-Calls g c = λ function arguments is within.
    let terms = subterms (shapes_of g.T.Theory.denotes c.args.shapes.now) in
    applied_again terms function arguments c.args.number c.in-Calls.field-0 (subst (AreApplications terms (all_applications arguments)) c.in-Calls.is within)

pub returns-in-Mixed : goal.returns-in-Mixed
returns-in-Mixed g c = λ function arguments is within.
    let terms = subterms (shapes_of g.T.Theory.denotes c.args.shapes.now) in
    applied_mixed terms function arguments c.args.number (subst (AreApplications terms (all_applications arguments)) c.in-Mixed.is within)
