use Rattle.sy_gates.proofs.Encoding.{and_clauses, and_count, and_bound}
use Rattle.sy_gates.proofs.encode.add_and.Goals as goal

pub returns-clause-value : goal.returns-clause-value
returns-clause-value c = λ v. and_clauses v c.args.clauses.now _ _ _ c.args.made c.args.a c.args.b _ _
    c.negated-not_a.ensures c.negated-not_b.ensures
    (rw (c.negated-off.ensures, c.variable-on.ensures) at c.in_ok-add_two.ensures)
    (rw (c.negated-off.ensures, c.variable-on.ensures) at c.in_ok-add_two-2.ensures)
    (rw c.variable-on.ensures at c.in_ok-add_three.ensures)

pub returns-clause-count : goal.returns-clause-count
returns-clause-count c = and_count c.args.clauses.now _ _ _ _ _ _ c.in_ok-add_two.ensures c.in_ok-add_two-2.ensures c.in_ok-add_three.ensures

pub returns-clause-bound : goal.returns-clause-bound
returns-clause-bound c = and_bound c.args.clauses.now _ _ _ c.args.made c.args.a c.args.b _ _
    c.negated-not_a.ensures c.negated-not_b.ensures
    (rw (c.negated-off.ensures, c.variable-on.ensures) at c.in_ok-add_two.ensures)
    (rw (c.negated-off.ensures, c.variable-on.ensures) at c.in_ok-add_two-2.ensures)
    (rw c.variable-on.ensures at c.in_ok-add_three.ensures)
