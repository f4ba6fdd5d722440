use Rattle.std.proofs.Common.{map}
use Rattle.sy_terms.specs.Denoted.{expr_of, vals_of}
use Rattle.sy_grammar_base.specs.Questions.{question_of}
use Rattle.sy_query_base.specs.Asked.{query_of}
use Rattle.sy_verify.proofs.Judged.{holds, refuted}
use Rattle.sy_verify.proofs.judge.verify.Goals as goal

pub returns-in-Never : goal.returns-in-Never
returns-in-Never g c =
    let number = g.T.Theory.denotes in
    let question = question_of number c.args.problem.now in
    let bodies = map (expr_of number) c.args.bodies.now in
    let query = query_of number c.in-Asks.query in
    let posed = rw c.in-Asks.is at c.in_ok-function.ensures in
    let accepts = rw c.in-Never.is at c.in_ok-proof.ensures in (
      posed.0,
      holds g.D.Decide.accepted g.T.Theory.owned question bodies c.args.limits.now.weight query c.in-Never.proof posed.0 posed.1 (g.met.D.Decide.sound query c.in-Never.proof posed.2 accepts) accepts,
    )

pub returns-in-Model : goal.returns-in-Model
returns-in-Model g c =
    let number = g.T.Theory.denotes in
    let question = question_of number c.args.problem.now in
    let bodies = map (expr_of number) c.args.bodies.now in
    let posed = rw c.in-Asks.is at c.in_ok-function.ensures in
    let satisfies = rw c.in-Model.is at c.in_ok-proof.ensures in
    (posed.0, refuted question bodies (query_of number c.in-Asks.query) (vals_of number c.in-Model.values) posed.1 satisfies)
