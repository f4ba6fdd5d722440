use Rattle.std.proofs.Common.{◌+◌, ap, sym, subst}
use Rattle.sy_linear_known.specs.Paths.{MeetsPath}
use Rattle.sy_linear_known.specs.Right.{Assigns}
use Rattle.sy_intsolve_cuts.proofs.Wholes.{values-more, values-end, assigns, meets}
use Rattle.sy_intsolve_cuts.proofs.values.values_of.Goals as goal

pub loop-sort-preserved : goal.loop-sort-preserved
loop-sort-preserved c = record {
  kept = values-more c.args.facts.now c.args.point.now c.args.vars.now c.loop-sort.sort-index c.loop-sort.number _ c.loop-sort.values c.push.new.self c.value_of.result _ c.loop-sort-test.true c.in_ok-push.ensures.ok c.value_of.ensures c.loop-sort.invariant.kept;
  number = ap (λ n. n + 1) c.loop-sort.invariant.number;
}

pub returns-clause-assigns : goal.returns-clause-assigns
returns-clause-assigns c = subst (Assigns c.args.vars.now) (sym (values-end c.args.facts.now c.args.point.now c.args.vars.now c.loop-sort.sort-index c.loop-sort.number c.loop-sort.values _ c.loop-sort-test.false c.loop-sort.invariant.kept)) (assigns c.args.facts.now c.args.point.now 0 c.args.vars.now c.requires.sorts)

pub returns-clause-meets : goal.returns-clause-meets
returns-clause-meets c = subst (λ values. MeetsPath values c.args.facts.now) (sym (values-end c.args.facts.now c.args.point.now c.args.vars.now c.loop-sort.sort-index c.loop-sort.number c.loop-sort.values _ c.loop-sort-test.false c.loop-sort.invariant.kept)) (meets c.args.vars.now c.args.facts.now c.args.point.now c.requires.path c.requires.at c.requires.whole)
