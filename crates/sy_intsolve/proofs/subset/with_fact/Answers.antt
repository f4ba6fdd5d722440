use Rattle.std.proofs.Common.{◌∷◌, ◌++◌, [], sym, subst}
use Rattle.sy_linear_known.specs.declared.path.Fact.TheVariants.{AtLeast}
use Rattle.sy_intsolve_paths_laws.specs.Paths.{IsPath}
use Rattle.sy_intsolve_paths_laws.proofs.Paths.{path-form}
use Rattle.sy_intsolve.proofs.subset.with_fact.Goals as goal

pub returns : goal.returns
returns c vars path chosen =
    subst (IsPath vars) (sym c.in_ok-push.ensures.items)
    (subst (λ f. IsPath vars (c.args.chosen.items ++ AtLeast f ∷ [])) (sym c.in_ok-copy.ensures) (path-form vars c.args.chosen.items c.in-Some.form.now chosen (c.in-Some.ensures vars path.each)))
