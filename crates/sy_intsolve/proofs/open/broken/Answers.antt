use Rattle.std.proofs.Common.{rules, sym, subst}
use mir.Syntax.{w128}
use mir.Val.{SFits}
use Rattle.std.proofs.lemmas.Int.{to_z-of_z}
use Rattle.sy_intsolve_cuts.specs.Points.{IsFirstBroken}
use Rattle.sy_intsolve.proofs.Ends.{broken-int, lowest-at}
use Rattle.sy_intsolve.proofs.open.broken.Goals as goal

pub returns : goal.returns
returns c =
    let fits : SFits w128 c.in_ok-variable.bound = search rules in
    let first : IsFirstBroken c.args.point.now c.in_ok-variable.variable c.in_ok-variable.bound = c.in_ok-variable.ensures in (
      subst (IsFirstBroken c.args.point.now c.in_ok-variable.variable) (sym (to_z-of_z w128 c.in_ok-variable.bound fits)) first,
      broken-int c.args.query.now.vars c.args.way.now.facts.items c.args.point.now c.in_ok-variable.variable c.in_ok-variable.bound c.requires.asked.fits.vars c.requires.at first
          (lowest-at c.args.point.now c.in_ok-variable.variable c.index-point-variable.result first.within c.index-point-variable.is c.den-lowest.ensures.lowest),
    )
