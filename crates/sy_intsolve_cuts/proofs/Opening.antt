-- Layers with an unfinished leaf at their end show that a budget was met.
use Rattle.std.specs.Prelude.{◌≡◌, ℕ, ◌≤◌, List, []}
use Rattle.std.proofs.Common.{refl, ◌∙◌, arith}
use Rattle.sy_linear_known.specs.declared.path.Fact.{Fact}
use Rattle.sy_linear_known.specs.Seen.{LinearQuery}
use Rattle.sy_intsolve_cuts.specs.declared.step.Order.TheVariants.{First}
use Rattle.sy_intsolve_cuts.specs.Budgets.{NodesMet, OpensAt}
use Rattle.sy_intsolve_cuts.specs.Growing.{Unfinished, inner}
use Rattle.sy_intsolve_cuts.specs.Steps.{Layer, plugged, inner_of, AreLayers}
use Rattle.sy_intsolve_cuts.proofs.Layers.{grows, leads, inner-plugged}

inner-open : (layers : List Layer) → inner (plugged layers Unfinished) ≡ inner_of layers
unfolding inner
inner-open layers = inner-plugged layers Unfinished ∙ omega arith

pub nodes_met : (q : LinearQuery) (layers : List Layer) (facts : List Fact) → AreLayers First q [] layers facts → NodesMet q (inner_of layers) (plugged layers Unfinished)
nodes_met q layers facts h = record {
  growing = grows First q [] layers facts Unfinished h tt;
  all = inner-open layers;
  path = facts;
  leads = leads First q [] layers facts Unfinished facts h refl;
}

pub opens_at : (q : LinearQuery) (nodes : ℕ) (layers : List Layer) (facts : List Fact) → AreLayers First q [] layers facts → inner_of layers ≤ nodes → OpensAt q nodes (plugged layers Unfinished) facts
opens_at q nodes layers facts h l = record {
  growing = grows First q [] layers facts Unfinished h tt;
  within = omega (arith, inner-open layers, l);
  leads = leads First q [] layers facts Unfinished facts h refl;
}
