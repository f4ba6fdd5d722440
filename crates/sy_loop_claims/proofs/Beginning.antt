-- Searches that may have no round.
use Rattle.std.proofs.Common.{◌≡◌, arith, []}
use Rattle.sy_grammar_base.specs.Questions.{Question}
use Rattle.sy_query_limits.specs.declared.Limits.{Limits}
use Rattle.sy_loop_spec.specs.declared.reach.Reach.{Reach}
use Rattle.sy_loop_spec.specs.Budgets.{RoundsMet}

-- before the first round all rounds are done
pub rounds_none : (reach : Reach) (question : Question) (limits : Limits) → limits.rounds ≡ 0 → RoundsMet reach question limits.size limits.rounds []
rounds_none reach question limits none = record { honest = record { few = omega arith; each = λ place c at. absurd (cc) }; all = omega (arith, none) }
