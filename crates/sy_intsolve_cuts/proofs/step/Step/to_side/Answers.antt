use Rattle.std.proofs.Common.{◌∙◌, ap}
use Rattle.sy_intsolve_cuts.specs.Steps.{side_layer}
use Rattle.sy_intsolve_cuts.specs.Stored.{layer_of}
use Rattle.sy_intsolve_cuts.proofs.Layers.{side-stands}
use Rattle.sy_intsolve_cuts.proofs.step.Step.to_side.Goals as goal

pub returns-clause-layer : goal.returns-clause-layer
returns-clause-layer c = c.step_to.ensures ∙ ap (side_layer c.args.left c.args.fork c.args.point) c.begun_or_not-beside.ensures

pub returns-clause-stands : goal.returns-clause-stands
returns-clause-stands c order query path =
    side-stands order query path c.args.fork c.args.point c.args.left c.args.other (layer_of c.step_to.result) (c.step_to.ensures ∙ ap (side_layer c.args.left c.args.fork c.args.point) c.begun_or_not-beside.ensures)
