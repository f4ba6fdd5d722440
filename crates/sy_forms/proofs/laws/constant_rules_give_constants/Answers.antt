use Rattle.sy_forms.proofs.Rules.{constant_rule}
use Rattle.sy_forms.proofs.laws.constant_rules_give_constants.Goals as goal

pub returns : goal.returns
returns c = constant_rule
