use Rattle.std.proofs.lemmas.Result.{IfOk-from_err}
use Rattle.sy_bits_words.proofs.Equalities.{equal-sort, distinct-sort}
use Rattle.sy_bits_words.proofs.equality.pair_sides.Goals as goal

pub returns-in-Equal-clause-value : goal.returns-in-Equal-clause-value
returns-in-Equal-clause-value c = λ circuit all.
    let e = (rw c.in-Some.is at c.in_ok-sides.ensures.equal) circuit all in
    rw c.in-Equal.is (record { alike = e.alike; inside = e.inside; sort = λ v. equal-sort _ _; value = e.equal })

pub returns-in-Distinct-clause-value : goal.returns-in-Distinct-clause-value
returns-in-Distinct-clause-value c = λ circuit all.
    let e = (rw c.in-Some.is at c.in_ok-sides.ensures.equal) circuit all in
    rw c.in-Distinct.is (record { alike = e.alike; inside = e.inside; sort = λ v. distinct-sort _ _; value = e.distinct })

pub returns-in_err-sides-clause-stand : goal.returns-in_err-sides-clause-stand
returns-in_err-sides-clause-stand c = IfOk-from_err c.from_residual.result _ c.from_residual.ensures.0

pub returns-in_err-sides-clause-value : goal.returns-in_err-sides-clause-value
returns-in_err-sides-clause-value c = IfOk-from_err c.from_residual.result _ c.from_residual.ensures.0
