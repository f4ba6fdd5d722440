use Rattle.std.specs.Prelude.{IfSome}
use Rattle.std.proofs.Common.{◌<◌, ◌^◌, length, sym, subst}
use Rattle.sy_intsolve_paths_laws.specs.Paths.{IsPath}
use Rattle.sy_intsolve_cuts.specs.Points.{IsPointOf}
use Rattle.sy_intsolve.proofs.Points.{place-moved}
use Rattle.sy_intsolve.proofs.open.place_at.Goals as goal

pub whole_or_corner-requires : goal.whole_or_corner-requires
whole_or_corner-requires c = record {
  few = subst (λ vars. length vars < 2 ^ 31) (sym c.as_slice-vars.ensures) c.requires.asked.vars;
  path = subst (λ vars. IsPath vars c.as_slice-facts.result.now) (sym c.as_slice-vars.ensures) (subst (IsPath c.args.query.now.vars) (sym c.as_slice-facts.ensures.value) c.requires.path);
  kept = subst (λ vars. IfSome c.args.point (IsPointOf vars c.as_slice-facts.result.now)) (sym c.as_slice-vars.ensures) (subst (λ facts. IfSome c.args.point (IsPointOf c.args.query.now.vars facts)) (sym c.as_slice-facts.ensures.value) c.requires.kept);
}

pub returns : goal.returns
returns c = place-moved c.args.query.now.vars c.as_slice-vars.result.now c.args.way.now.facts.items c.as_slice-facts.result.now c.args.pivots c.in_ok-end.end.answer c.as_slice-vars.ensures c.as_slice-facts.ensures.value c.in_ok-end.ensures
