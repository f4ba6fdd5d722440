use Rattle.std.specs.Prelude.{◌≡◌, length}
use Rattle.std.proofs.Common.{sym, ◌∙◌, subst}
use Rattle.sy_linear_known.specs.Trees.{OverIntegers}
use Rattle.sy_simplex.specs.Problems.{IsForm}
use Rattle.sy_intsolve_cuts.proofs.Adding.{over_integers}
use Rattle.sy_intsolve_cuts.proofs.checking.suited.Goals as goal

pub returns-in-AtLeast : goal.returns-in-AtLeast
returns-in-AtLeast c =
    let same : c.in-AtLeast.form ≡ c.args.form = cc in
    (same, (subst (IsForm (length c.args.vars.now)) (sym same) (c.is_form.ensures.0 c.if-not-is_form.false), subst (λ f. OverIntegers c.args.vars.now f.coefs) (sym same) (over_integers c.args.vars.now c.args.form.coefs (sym c.suits.ensures ∙ c.if-not-suits.false))))
