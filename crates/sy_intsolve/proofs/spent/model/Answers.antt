use Rattle.std.proofs.Common.{◌<◌, ◌^◌, length, sym, subst, ◌≡◌, true}
use Rattle.std.specs.List.{list_all}
use Rattle.sy_terms.specs.Values.{Whole}
use Rattle.sy_terms.specs.Denoted.{vals_of}
use Rattle.sy_linear_known.specs.Paths.{MeetsPath}
use Rattle.sy_linear_known.specs.Right.{Assigns, is_linear_sort}
use Rattle.sy_intsolve_paths_laws.specs.Paths.{IsPath}
use Rattle.sy_intsolve_cuts.specs.Points.{IsPointOf}
use Rattle.sy_intsolve.proofs.spent.model.Goals as goal

pub values_of-requires : goal.values_of-requires
values_of-requires c = record {
  few = subst (λ vars. length vars < 2 ^ 31) (sym c.as_slice-vars.ensures) c.requires.asked.vars;
  sorts = subst (λ vars. list_all is_linear_sort vars ≡ true) (sym c.as_slice-vars.ensures) c.requires.asked.fits.vars;
  path = subst (λ vars. IsPath vars c.as_slice-facts.result.now) (sym c.as_slice-vars.ensures) (subst (IsPath c.args.query.now.vars) (sym c.as_slice-facts.ensures.value) c.requires.path);
  at = subst (λ vars. IsPointOf vars c.as_slice-facts.result.now c.args.point.now) (sym c.as_slice-vars.ensures) (subst (λ facts. IsPointOf c.args.query.now.vars facts c.args.point.now) (sym c.as_slice-facts.ensures.value) c.requires.at);
  whole = c.requires.whole;
}

pub returns : goal.returns
returns c order limits before =
    let assigns : Assigns c.args.query.now.vars (vals_of Whole c.in_ok-values.values) = subst (λ vars. Assigns vars (vals_of Whole c.in_ok-values.values)) c.as_slice-vars.ensures c.in_ok-values.ensures.assigns in
    let meets : MeetsPath (vals_of Whole c.in_ok-values.values) c.args.way.now.facts.items = subst (MeetsPath (vals_of Whole c.in_ok-values.values)) c.as_slice-facts.ensures.value c.in_ok-values.ensures.meets in
    (assigns, c.requires.right (vals_of Whole c.in_ok-values.values) assigns meets)
