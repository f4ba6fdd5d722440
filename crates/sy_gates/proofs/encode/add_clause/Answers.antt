use Rattle.sy_gates.proofs.Encoding.{literal-more}
use Rattle.sy_gates.proofs.encode.add_clause.Goals as goal

pub loop-literal-preserved : goal.loop-literal-preserved
loop-literal-preserved c = literal-more c.args.literals.now c.loop-literal.clause _ c.loop-literal.literal-index _
    c.loop-literal.invariant c.in_ok-push.ensures.ok c.loop-literal-test.true
