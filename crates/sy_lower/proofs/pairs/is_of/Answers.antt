use Rattle.std.proofs.Common.{sym, ◌∙◌}
use Rattle.sy_terms.specs.Values.{Whole}
use Rattle.sy_terms.specs.Denoted.{expr_of}
use Rattle.sy_lower.specs.Kept.{pair_in}
use Rattle.sy_lower.proofs.Found.{other_key}
use Rattle.sy_lower.proofs.pairs.is_of.Goals as goal

pub returns-then-own-key : goal.returns-then-own-key
returns-then-own-key c = sym (other_key (pair_in c.args.pair.now) (expr_of Whole c.args.dividend.now) c.args.divisor (λ e. c.if-own-key.true (c.requires.own ∙ e ∙ sym c.requires.key)))
