use Rattle.sy_gates.proofs.Encoding.{differing_clauses, differing_count, differing_bound}
use Rattle.sy_gates.proofs.encode.add_differing.Goals as goal

pub returns-clause-value : goal.returns-clause-value
returns-clause-value c = λ v. differing_clauses v c.args.clauses.now _ _ c.args.unless c.args.x c.args.y _ _
    c.negated-not_x.ensures c.negated-not_y.ensures c.in_ok-add_three.ensures c.in_ok-add_three-2.ensures

pub returns-clause-count : goal.returns-clause-count
returns-clause-count c = differing_count c.args.clauses.now _ _ _ _ c.in_ok-add_three.ensures c.in_ok-add_three-2.ensures

pub returns-clause-bound : goal.returns-clause-bound
returns-clause-bound c = differing_bound c.args.clauses.now _ _ c.args.unless c.args.x c.args.y _ _
    c.negated-not_x.ensures c.negated-not_y.ensures c.in_ok-add_three.ensures c.in_ok-add_three-2.ensures
