-- Points, one by one.
use Rattle.std.proofs.Common.{◌≡◌, List, [], ◌∷◌, ◌++◌, map, All, true, inl, inr, subst, sym}
use Rattle.sy_terms.specs.Values.{Val}
use Rattle.sy_terms.specs.Theories.{sort_of_value, valid}
use Rattle.sy_terms.specs.declared.sort.Sort.{Sort}
use Rattle.sy_bank_level.proofs.KeptLaws.{at-end}
use Rattle.sy_bank_level.specs.Rows.{ArePointsOf}

-- one point more
pub points-more : (sorts : List Sort) (points : List (List Val)) (point : List Val) → All (λ value. valid value ≡ true) point → map sort_of_value point ≡ sorts → ArePointsOf sorts points → ArePointsOf sorts (points ++ point ∷ [])
points-more sorts points point valued sorted are k found at = elim (at-end points k point found at) [
  | inl before ↦ are k found before
  | inr last ↦ subst (λ (p : List Val). All (λ value. valid value ≡ true) p × (map sort_of_value p ≡ sorts)) (sym last.1) (valued, sorted)
]
