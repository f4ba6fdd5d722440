use Rattle.std.proofs.Common.{◌∙◌, sym}
use Rattle.sy_clauses.specs.Marking.{clause_of}
use Rattle.sy_cdcl.proofs.Inspect.{found_at}
use Rattle.sy_cdcl.proofs.Shorter.{covered_more, covered_same}
use Rattle.sy_cdcl.proofs.shortening.covers.Goals as goal

pub loop-other-preserved-then-is_same : goal.loop-other-preserved-then-is_same
loop-other-preserved-then-is_same c =
    covered_same c.args.clause.now c.loop-other.other-index _ c.args.literal (clause_of c.args.marks.now) c.loop-other-test.true c.loop-other.invariant
    (sym c.is_same.ensures ∙ c.if-is_same.true)

pub loop-other-preserved : goal.loop-other-preserved
loop-other-preserved c =
    covered_more c.args.clause.now c.loop-other.other-index _ c.args.literal (clause_of c.args.marks.now) c.loop-other-test.true c.loop-other.invariant
    (sym c.has.ensures ∙ c.if-not-has.false)

pub returns-then-not-has : goal.returns-then-not-has
returns-then-not-has c = record {
  var = _;
  positive = _;
  has = found_at c.args.clause.now c.loop-other.other-index _ c.loop-other-test.true;
  different = sym c.is_same.ensures ∙ c.if-is_same.false;
  missing = sym c.has.ensures ∙ c.if-not-has.true;
}
