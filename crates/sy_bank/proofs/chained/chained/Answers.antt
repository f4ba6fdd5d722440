use Rattle.std.proofs.Common.{refl}
use Rattle.sy_grammar_base.specs.Patterns.{filled}
use Rattle.sy_grammar_base.specs.Written.{pattern_of-Non}
use Rattle.sy_bank_level.specs.Shared.{term_from-Filled, tree_from-Filled}
use Rattle.sy_bank.proofs.chained.chained.Goals as goal

pub returns : goal.returns
unfolding filled
returns g c = rw (c.in_ok-new.ensures.ok, term_from-Filled, tree_from-Filled, c.in_ok-part.ensures.ok, pattern_of-Non, c.in_ok-push.ensures.ok, c.in_ok-passed.ensures, c.in_ok-clone.ensures.cases, c.in_ok-copied_values.ensures, c.as_slice.ensures) refl
