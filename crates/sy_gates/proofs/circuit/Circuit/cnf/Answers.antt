use Rattle.std.proofs.Common.{arith, ap, sym, subst, ◌+◌, length}
use Rattle.sy_gates.specs.Circuits.{InOrder}
use Rattle.sy_gates.specs.Models.{but_last}
use Rattle.sy_gates.proofs.Ways.{encode_step, final, follows-iff, ways, bound_step, bound_end, last-push}
use Rattle.sy_gates.proofs.circuit.Circuit.cnf.Goals as goal

pub loop-i-preserved : goal.loop-i-preserved
loop-i-preserved c = record {
  values = λ v. encode_step v c.self.inside.inputs c.as_slice-gates.result.now c.loop-i.i _ _ _ (omega arith)
      (c.in_ok-add_gate.ensures.value v) (c.loop-i.invariant.values v);
  count = omega (arith, c.in_ok-add_gate.ensures.count);
  bound = bound_step c.self.inside.inputs c.loop-i.i c.as_slice-gates.result.now _ _ _
      (subst (InOrder c.self.inside.inputs) (sym c.as_slice-gates.ensures) c.self.invariant.0) (omega arith)
      c.in_ok-add_gate.ensures.bound c.loop-i.invariant.bound;
}

pub returns-clause-bound : goal.returns-clause-bound
returns-clause-bound c =
    let long = ap (λ gs. length gs) c.as_slice-gates.ensures in
    bound_end c.self.inside.inputs _ c.loop-i.i c.self.inside.gates _ c.loop-i.clauses _ c.args.output
    c.in_ok-add_one.ensures c.self.view_is c.requires.inside c.loop-i.invariant.bound (omega (arith, long)) c.len.ensures

pub returns-clause-last : goal.returns-clause-last
returns-clause-last c = last-push _ _ _ c.in_ok-add_one.ensures

pub returns-clause-models : goal.returns-clause-models
returns-clause-models c = λ v. rw (← c.self.view_is)
    (follows-iff v c.self.inside.inputs c.self.inside.gates _
    (final c.self.inside.inputs c.loop-i.i c.loop-i.clauses c.add_one.new.clauses _ c.self.inside.gates
    c.as_slice-gates.result.now c.in_ok-add_one.ensures c.as_slice-gates.ensures (omega arith) c.loop-i.invariant.values v))

pub returns-clause-one_way : goal.returns-clause-one_way
returns-clause-one_way c = rw (← c.self.view_is)
    (ways c.self.inside.inputs _ c.self.inside.gates (but_last c.add_one.new.clauses) c.self.invariant.0
    (ap (λ k. c.self.inside.inputs + k) c.len.ensures)
    (final c.self.inside.inputs c.loop-i.i c.loop-i.clauses c.add_one.new.clauses _ c.self.inside.gates
    c.as_slice-gates.result.now c.in_ok-add_one.ensures c.as_slice-gates.ensures (omega arith) c.loop-i.invariant.values))
