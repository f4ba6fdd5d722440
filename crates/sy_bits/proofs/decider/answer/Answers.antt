use Rattle.std.proofs.Common.{sym, min, subst, ◌≡◌, ◌<◌, ◌^◌, length, arith}
use Rattle.sy_query_base.specs.Asked.{query_of}
use Rattle.sy_meaning_words.specs.Vectors.{vector}
use Rattle.sy_cdcl.specs.Answer.{AnswersFormula}
use Rattle.sy_bits.proofs.decider.answer.Goals as goal

pub returns-in_ok-values-in-Model : goal.returns-in_ok-values-in-Model
returns-in_ok-values-in-Model c =
    let found = subst (AnswersFormula c.args.circuit.clauses (min c.args.limits.now.clauses 2147483647)) c.in-Model.is c.requires.solved in
    c.in_ok-values-in-Model.ensures.satisfies (query_of vector c.args.query.now) (sym c.requires.variables) c.requires.clauses found.1

pub returns-else-limits-gt-MOST_LEARNED : goal.returns-else-limits-gt-MOST_LEARNED
returns-else-limits-gt-MOST_LEARNED c =
    let found = subst (AnswersFormula c.args.circuit.clauses (min c.args.limits.now.clauses 2147483647)) c.in-Fuel.is c.requires.solved in
    let many : length c.in-Fuel.log.lines ≡ c.args.limits.now.clauses = omega (arith, found.1, c.if-limits-gt-MOST_LEARNED.false) in
    let few : c.args.limits.now.clauses < 3 ^ c.args.circuit.clauses.vars = omega (arith, found.2, c.if-limits-gt-MOST_LEARNED.false) in
    rw c.into_cnf.ensures (record { circuit = c.requires.clauses; learned = found.0; many = many; few = few })
