use Rattle.std.proofs.Common.{arith}
use Rattle.std.proofs.lemmas.List.{take_all}
use Rattle.sy_gates.proofs.Gates.{grown-trans}
use Rattle.sy_gates.proofs.Joints.{joined_value}
use Rattle.sy_gates.proofs.circuit.Circuit.join_all.Goals as goal

pub loop-i-preserved : goal.loop-i-preserved
loop-i-preserved c = record {
  grown = grown-trans _ _ _ c.loop-i.invariant.grown c.join_bits.ensures.grown;
  cost = omega (arith, c.in_ok-all.ensures.cost);
  inside = c.in_ok-all.ensures.inside;
  value = λ v f. joined_value c.args.joint v c.args.bits.now c.loop-i.i _ c.loop-i.all c.in_ok-all.all (omega arith)
      (c.in_ok-all.ensures.value v f) (c.loop-i.invariant.value v (c.join_bits.ensures.grown.keeps v f));
}

pub returns-clause-value : goal.returns-clause-value
returns-clause-value c = λ v f. rw (take_all c.loop-i.i c.args.bits.now (omega arith)) at c.loop-i.invariant.value v f
