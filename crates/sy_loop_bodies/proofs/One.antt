-- The one function to be found.
use Rattle.std.proofs.Common.{◌≡◌, ap, arith, List, [], ◌∷◌, length, slice_get, Some}
use Rattle.sy_grammar_base.specs.Questions.{Goal}

pub one_goal : (goals : List Goal) (goal : Goal) → length goals ≡ 1 → slice_get goals 0 ≡ Some goal → goals ≡ goal ∷ []
one_goal [] goal one at = absurd (omega (arith, one))
one_goal (g ∷ []) goal one at = let same : g ≡ goal = cc in ap (λ (x : Goal). x ∷ []) same
one_goal (g ∷ h ∷ rest) goal one at = absurd (omega (arith, one))
