use Rattle.std.proofs.Common.{map}
use Rattle.sy_text_items.specs.Views.{item_of}
use Rattle.sy_terms.specs.Denoted.{expr_of}
use Rattle.sy_grammar_base.specs.Questions.{question_of}
use Rattle.sy_query_base.specs.Asked.{query_of}
use Rattle.sy_verify.proofs.Judged.{proved}
use Rattle.sy_verify.proofs.rechecked.recheck.Goals as goal

pub returns-in-Proves : goal.returns-in-Proves
returns-in-Proves g c =
    let number = g.T.Theory.denotes in
    let question = question_of number c.args.problem.now in
    let bodies = map (expr_of number) c.args.bodies.now in
    let query = query_of number c.in-Asks.query in
    let posed = rw c.in-Asks.is at c.in_ok-function.ensures in
    let proves = rw c.in-Proves.is at c.in_ok-found.ensures in
    (posed.0, proved g.C.ProofChecker.proves g.T.Theory.owned question bodies c.args.limit query (item_of c.args.proof.now) posed.0 posed.1 (g.met.C.ProofChecker.sound query (item_of c.args.proof.now) posed.2 proves) proves)
