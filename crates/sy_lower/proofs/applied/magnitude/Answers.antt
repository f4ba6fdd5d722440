use Rattle.sy_terms.specs.Values.{Whole}
use Rattle.sy_terms.specs.Denoted.{expr_of}
use Rattle.sy_lower.proofs.Making.{is_magnitude}
use Rattle.sy_lower.proofs.applied.magnitude.Goals as goal

pub returns : goal.returns
returns c =
    is_magnitude (expr_of Whole c.args.term.now) _ (expr_of Whole c.in_ok-negation.negation) (expr_of Whole c.in_ok-test.test) (expr_of Whole c.in_ok-tested.tested) (expr_of Whole c.in_ok-negated.negated) (expr_of Whole c.in_ok-itself.itself) (expr_of Whole c.in_ok-choice.choice)
    c.number.ensures c.in_ok-tested.ensures c.in_ok-test.ensures c.in_ok-negated.ensures c.in_ok-negation.ensures c.in_ok-itself.ensures c.in_ok-choice.ensures
