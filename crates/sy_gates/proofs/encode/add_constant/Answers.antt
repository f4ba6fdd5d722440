use Rattle.sy_gates.proofs.Encoding.{constant_clauses, constant_count, constant_bound}
use Rattle.sy_gates.proofs.encode.add_constant.Goals as goal

pub returns-clause-value : goal.returns-clause-value
returns-clause-value c = λ v. constant_clauses v c.args.clauses.now _ c.args.made c.args.truth c.in_ok-add_one.ensures

pub returns-clause-count : goal.returns-clause-count
returns-clause-count c = constant_count c.args.clauses.now _ _ c.in_ok-add_one.ensures

pub returns-clause-bound : goal.returns-clause-bound
returns-clause-bound c = constant_bound c.args.clauses.now _ c.args.made c.args.truth c.in_ok-add_one.ensures
