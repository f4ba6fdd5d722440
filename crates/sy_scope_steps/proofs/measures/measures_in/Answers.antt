use Rattle.sy_terms.specs.Definitions.{bodies}
use Rattle.sy_forms_items.specs.Measured.{measures_of}
use Rattle.sy_scope_steps.specs.Sizes.{measures_in}
use Rattle.sy_scope_steps.proofs.Measuring.{measured_more, measured_all}
use Rattle.sy_scope_steps.proofs.measures.measures_in.Goals as goal

pub loop-def-preserved : goal.loop-def-preserved
loop-def-preserved g c =
    measured_more g.T.Theory.denotes (measures_of c.loop-def.measures) (measures_of c.measure.new.measures) (measures_in (bodies g.T.Theory.denotes c.args.defs.now)) c.args.defs.now c.loop-def.def-index c.def-item.result
    c.loop-def-test.true c.def-item.is c.in_ok-measure.ensures c.loop-def.invariant

pub returns : goal.returns
returns g c =
    measured_all g.T.Theory.denotes (measures_of c.loop-def.measures) (measures_in (bodies g.T.Theory.denotes c.args.defs.now)) c.args.defs.now c.loop-def.def-index c.loop-def-test.false c.loop-def.invariant
