use Rattle.std.proofs.Common.{take}
use Rattle.sy_loop_spec.specs.Applications.{all_applications}
use Rattle.sy_loop_pointwise.specs.Denoted.{shapes_of}
use Rattle.sy_loop_pointwise.specs.Shapes.{subterms, terms_of}
use Rattle.sy_loop_pointwise.specs.Asked.{AreApplications}
use Rattle.sy_loop_pointwise.proofs.asks.asked_by.Given as goal

abbrev pub invariant-loop-number : goal.invariant-loop-number
invariant-loop-number g l =
    let terms = subterms (shapes_of g.T.Theory.denotes l.fn.shapes) in
    AreApplications terms (all_applications (terms_of terms (take l.number-index l.numbers))) l.all
