-- What is passed is all that chain rules offer of terms of the size.
use Rattle.std.proofs.Common.{◌≡◌, ℕ, List, [], ◌∷◌, Some, arith, subst}
use Rattle.sy_terms.specs.Expr.{Expr}
use Rattle.sy_grammar_base.specs.Patterns.{Pattern, Constant, Variable, Occurrence, Apply, Invoke, filled, own_size}
use Rattle.sy_grammar_base.specs.Trees.{Template, rule_at}
use Rattle.sy_bank_level.specs.Banks.{Entry}
use Rattle.sy_bank_level.specs.Covering.{AreKept, sizes, terms, Offers}
use Rattle.sy_bank_level.specs.Filling.{World, LevelState, all_levels, TermIsDone}
use Rattle.sy_bank.specs.Passing.{ArePassed}

occurrence-done : (w : World) (s : LevelState) (size n rule to : ℕ) (term : Expr) (chosen : List Entry) → ArePassed w s size → rule_at w.syntax n rule ≡ Some (Template (Occurrence to)) →
    AreKept (all_levels w s) (to ∷ []) chosen → sizes chosen ≡ size → filled (Occurrence to) (terms chosen) ≡ term → TermIsDone w s n size term
unfolding filled
occurrence-done w s size n rule to term [] passed at kept sized is = absurd kept
occurrence-done w s size n rule to term (entry ∷ []) passed at kept sized is = subst (TermIsDone w s n size) is (passed n rule to at entry kept.0 (omega (arith, sized)))
occurrence-done w s size n rule to term (entry ∷ other ∷ rest) passed at kept sized is = absurd kept.1

-- where chain rules are passed, all is done that one of them offers
pub passed-offers : (w : World) (s : LevelState) (size n rule : ℕ) (pattern : Pattern) (term : Expr) → ArePassed w s size → rule_at w.syntax n rule ≡ Some (Template pattern) → own_size pattern ≡ 0 →
    Offers w.syntax w.pool (all_levels w s) (Some (Template pattern)) size term → TermIsDone w s n size term
passed-offers w s size n rule (Constant value) term passed at own offers = absurd (omega (arith, own))
passed-offers w s size n rule (Variable position) term passed at own offers = absurd (omega (arith, own))
passed-offers w s size n rule (Occurrence to) term passed at own offers = occurrence-done w s size n rule to term offers.0 passed at offers.1 (omega (arith, offers.2)) offers.3
passed-offers w s size n rule (Apply operator arguments) term passed at own offers = absurd (omega (arith, own))
passed-offers w s size n rule (Invoke definition arguments) term passed at own offers = absurd (omega (arith, own))
