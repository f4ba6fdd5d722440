use Rattle.std.proofs.Common.{◌∙◌, sym, map, arith}
use Rattle.sy_terms.specs.Denoted.{expr_of}
use Rattle.sy_grammar_base.specs.Questions.{question_of}
use Rattle.sygus_drills.specs.Counts.{is_met}
use Rattle.sygus_drills.proofs.Counting.{counted_yes, counted_no, counted_all}
use Rattle.sygus_drills.proofs.count.count_true.Goals as goal
use Rattle.sygus_drills.proofs.count.count_true.Goals.{then-branch, else-branch}

pub loop-term-preserved : goal.loop-term-preserved
loop-term-preserved g c =
    let p = is_met (question_of g.T.Theory.denotes c.args.problem.now) (map (expr_of g.T.Theory.denotes) c.args.bodies.now) in
    let last = sym c.in_ok-holds.ensures in
    elim c.if-branch.branch [
      | then-branch w ↦ record {
        few = rw w.count-is (omega (arith, c.loop-term.invariant.few));
        counted = rw w.count-is (counted_yes p (expr_of g.T.Theory.denotes) c.args.terms.now c.loop-term.term-index c.term-item.result c.loop-term.count c.loop-term-test.true c.term-item.is c.loop-term.invariant.counted (last ∙ w.if-branch.true));
      }
      | else-branch w ↦ record {
        few = rw w.count-is (omega (arith, c.loop-term.invariant.few));
        counted = rw w.count-is (counted_no p (expr_of g.T.Theory.denotes) c.args.terms.now c.loop-term.term-index c.term-item.result c.loop-term.count c.loop-term-test.true c.term-item.is c.loop-term.invariant.counted (last ∙ w.if-branch.false));
      }
    ]

pub returns : goal.returns
returns g c =
    counted_all (is_met (question_of g.T.Theory.denotes c.args.problem.now) (map (expr_of g.T.Theory.denotes) c.args.bodies.now)) (expr_of g.T.Theory.denotes) c.args.terms.now c.loop-term.term-index
    c.loop-term.count c.loop-term-test.false c.loop-term.invariant.counted
