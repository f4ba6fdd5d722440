use Rattle.sy_gates.specs.Circuits.{clauses_bound}
use Rattle.sy_gates.specs.Models.{clauses_value}
use Rattle.sy_gates.proofs.Encoding.{choose_clauses, count_twice, choose_bound}
use Rattle.sy_gates.proofs.encode.add_choose.Goals as goal

pub returns-clause-value : goal.returns-clause-value
returns-clause-value c = λ v. choose_clauses v (clauses_value v c.args.clauses.now) _ _ c.args.made _ c.args.t c.args.a c.args.b _ _ _
    c.variable-on.ensures c.negated-not_t.ensures c.negated-not_a.ensures c.negated-not_b.ensures
    (c.in_ok-add_differing.ensures.value v) (c.in_ok-add_differing-2.ensures.value v)

pub returns-clause-count : goal.returns-clause-count
returns-clause-count c = count_twice _ _ _ c.in_ok-add_differing.ensures.count c.in_ok-add_differing-2.ensures.count

pub returns-clause-bound : goal.returns-clause-bound
returns-clause-bound c = choose_bound (clauses_bound c.args.clauses.now) _ _ c.args.made _ c.args.t c.args.a c.args.b _ _ _
    c.variable-on.ensures c.negated-not_t.ensures c.negated-not_a.ensures c.negated-not_b.ensures
    c.in_ok-add_differing.ensures.bound c.in_ok-add_differing-2.ensures.bound
