-- The rows of three kept terms.
use Rattle.std.proofs.Common.{◌≡◌, zero, suc, List, [], ◌∷◌, subst}
use Rattle.std.proofs.lemmas.Option.{none-some}
use Rattle.sy_terms.specs.Values.{Val}
use Rattle.sy_terms.specs.Fitting.{Scope}
use Rattle.sy_terms.specs.Meaning.{Function}
use Rattle.sy_bank.specs.Banks.{Entry}
use Rattle.sy_bank_level.specs.Columns.{HasRow}
use Rattle.sy_bank_level.specs.Chosen.{AreRows}

pub three-rows : (scope : Scope) (defined : List Function) (points : List (List Val)) (a b c : Entry) →
    HasRow scope defined points a.term a.row → HasRow scope defined points b.term b.row → HasRow scope defined points c.term c.row → AreRows scope defined points (a ∷ b ∷ c ∷ [])
three-rows scope defined points a b c x y z zero entry at = let same : a ≡ entry = cc in subst (λ (e : Entry). HasRow scope defined points e.term e.row) same x
three-rows scope defined points a b c x y z (suc zero) entry at = let same : b ≡ entry = cc in subst (λ (e : Entry). HasRow scope defined points e.term e.row) same y
three-rows scope defined points a b c x y z (suc (suc zero)) entry at = let same : c ≡ entry = cc in subst (λ (e : Entry). HasRow scope defined points e.term e.row) same z
three-rows scope defined points a b c x y z (suc (suc (suc i))) entry at = absurd (none-some entry at)
