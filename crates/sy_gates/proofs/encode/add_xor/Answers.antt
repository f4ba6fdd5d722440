use Rattle.sy_gates.specs.Circuits.{clauses_bound}
use Rattle.sy_gates.specs.Models.{clauses_value}
use Rattle.sy_gates.proofs.Encoding.{xor_clauses, count_twice, xor_bound}
use Rattle.sy_gates.proofs.encode.add_xor.Goals as goal

pub returns-clause-value : goal.returns-clause-value
returns-clause-value c = λ v. xor_clauses v (clauses_value v c.args.clauses.now) _ _ c.args.made _ _ c.args.a _ c.args.b
    c.variable-on.ensures c.negated-off.ensures c.negated-not_a.ensures
    (c.in_ok-add_differing.ensures.value v) (c.in_ok-add_differing-2.ensures.value v)

pub returns-clause-count : goal.returns-clause-count
returns-clause-count c = count_twice _ _ _ c.in_ok-add_differing.ensures.count c.in_ok-add_differing-2.ensures.count

pub returns-clause-bound : goal.returns-clause-bound
returns-clause-bound c = xor_bound (clauses_bound c.args.clauses.now) _ _ c.args.made _ _ c.args.a _ c.args.b
    c.variable-on.ensures c.negated-off.ensures c.negated-not_a.ensures
    c.in_ok-add_differing.ensures.bound c.in_ok-add_differing-2.ensures.bound
