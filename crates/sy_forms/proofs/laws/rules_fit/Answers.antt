use Rattle.sy_forms.proofs.Rules.{rule_fits}
use Rattle.sy_forms.proofs.laws.rules_fit.Goals as goal

pub returns : goal.returns
returns c = rule_fits
