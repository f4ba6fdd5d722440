-- Rows of lists of parts, part by part.
use Rattle.std.proofs.Common.{◌≡◌, ℕ, zero, suc, ◌+◌, ◌<◌, List, [], ◌∷◌, ◌++◌, length, take, drop, refl, ap, sym, ◌∙◌, Some, get_or, map, false, true}
use Rattle.std.proofs.lemmas.Option.{none-some, slice_get-get_or}
use denote.Ref.{Bor}
use Rattle.sy_terms.specs.Values.{Val}
use Rattle.sy_terms.specs.Expr as expr
use Rattle.sy_terms.specs.Expr.{Exprs, Apply}
use Rattle.sy_terms.specs.Theories.{sort_of_value}
use Rattle.sy_terms.specs.Meaning.{Function, computable}
use Rattle.sy_terms.specs.Fitting.{Scope}
use Rattle.sy_terms.specs.declared.op.Op.{Op}
use Rattle.sy_terms_operators.proofs.Cases as cases
use Rattle.sy_terms_operators.proofs.Lists.{HaveValues-none}
use Rattle.sy_grammar_base.specs.Patterns.{all_occurring, filled, all_filled}
use Rattle.sy_grammar_base.specs.Written.{pattern_of, patterns_of}
use Rattle.sy_grammar_base.specs.declared.part.Part.{Part}
use Rattle.sy_bank_level.specs.Rows.{IsLostAt}
use Rattle.sy_bank_level.specs.Covering.{terms}
use Rattle.sy_bank_level.specs.Columns.{FitsAt, FitAt, HasRow, HaveRows}
use Rattle.sy_bank_level.specs.declared.kept.Kept.{Kept}
use Rattle.sy_bank_level.specs.Stored.{chosen_of}
use Rattle.sy_bank_level.specs.Chosen.{AreRows}
use Rattle.sy_bank_columns.specs.Found.{IsOneLostAt}
use Rattle.sy_bank_columns.proofs.ByPoint.{rows-last}
use Rattle.sy_bank_level.proofs.Fillings.{filled-next}
use Rattle.sy_bank_columns.proofs.Fillings.{fits-at, lost-at, chosen-from}
use Rattle.sy_bank_columns.proofs.Forms.{point-at}

-- the operator belongs to the logic, where there is a point
pub apply-owned : (scope : Scope) (points : List (List Val)) (operator : Op) (arguments : Exprs) → FitsAt scope points (Apply operator arguments) → (k : ℕ) → k < length points → scope.owned operator ≡ true
apply-owned scope points operator arguments fit k within = let p = point-at points k within in cases.Apply-owned (fit k p.0 p.1)

-- no rows of no terms
pub rows-none : {N : Type 0} (number : N → Val) (scope : Scope) (defined : List Function) (points : List (List Val)) → HaveRows scope defined points expr.none []
rows-none {N} number scope defined points = record {
  sized = λ i row at. absurd (none-some row at);
  each = λ k point at. HaveValues-none N number scope defined [] point;
}

pub rows-from : {T N : Type 0} (number : N → Val) (scope : Scope) (defined : List Function) (points : List (List Val)) (n : ℕ) (chosen : List (Bor (Kept T N))) → AreRows scope defined points (chosen_of number chosen) → AreRows scope defined points (chosen_of number (drop n chosen))
rows-from number scope defined points zero chosen rows = rows
rows-from number scope defined points (suc n) [] rows = rows
rows-from number scope defined points (suc n) (first ∷ chosen) rows = rows-from number scope defined points n chosen (λ i entry at. rows (suc i) entry at)

-- one part fits at each point where all do
pub part-fits : {T N : Type 0} (number : N → Val) (scope : Scope) (points : List (List Val)) (parts : List (Part T N)) (i : ℕ) (part : Part T N) (chosen rest : List (Bor (Kept T N))) (used : ℕ) → i < length parts → part ≡ get_or parts i part →
    used ≡ length (all_occurring (patterns_of number (take i parts))) → rest ≡ drop used chosen →
    FitAt scope points (all_filled (patterns_of number parts) (terms (chosen_of number chosen))) → FitsAt scope points (filled (pattern_of number part) (terms (chosen_of number rest)))
part-fits number scope points parts i part chosen rest used within is at same fit k point here =
    let found = fits-at number scope (map sort_of_value point) parts i part (terms (chosen_of number chosen)) (fit k point here).sorts (slice_get-get_or parts i part within ∙ ap Some (sym is)) (fit k point here).is in
    record { sort = found.0; is = rw (same, chosen-from number used chosen, at) found.1 }

-- where one part isn't computable, the list isn't
pub part-lost : {T N : Type 0} (number : N → Val) (defined : List Function) (points : List (List Val)) (parts : List (Part T N)) (i : ℕ) (part : Part T N) (chosen rest : List (Bor (Kept T N))) (used : ℕ) → i < length parts → part ≡ get_or parts i part →
    used ≡ length (all_occurring (patterns_of number (take i parts))) → rest ≡ drop used chosen →
    (k : ℕ) → IsLostAt defined points (filled (pattern_of number part) (terms (chosen_of number rest))) k → IsOneLostAt defined points (all_filled (patterns_of number parts) (terms (chosen_of number chosen))) k
part-lost {T} {N} number defined points parts i part chosen rest used within is at same k lost = record {
  point = lost.point;
  at = lost.at;
  lost = lost-at number defined lost.point parts i part (terms (chosen_of number chosen)) (slice_get-get_or parts i part within ∙ ap Some (sym is)) (let here : computable defined [] lost.point (filled (pattern_of number part) (terms (chosen_of number rest))) ≡ false = lost.lost in ap (λ ts. computable defined [] lost.point (filled (pattern_of number part) ts)) (sym (ap (λ (r : List (Bor (Kept T N))). terms (chosen_of number r)) same ∙ chosen-from number used chosen ∙ ap (λ n. drop n (terms (chosen_of number chosen))) at)) ∙ here);
}

mapped-last : {X : Type 0} (f : X → List Val) (xs : List X) (x : X) → map f (xs ++ x ∷ []) ≡ map f xs ++ f x ∷ []
mapped-last f [] x = refl
mapped-last f (y ∷ xs) x = ap (λ (rest : List (List Val)). f y ∷ rest) (mapped-last f xs x)

-- the rows of parts, with one part more
pub rows-next : {T N X : Type 0} (number : N → Val) (scope : Scope) (defined : List Function) (points : List (List Val)) (parts : List (Part T N)) (i : ℕ) (part : Part T N) (chosen rest : List (Bor (Kept T N))) (used : ℕ) (f : X → List Val) (rows : List X) (row : X) →
    i < length parts → part ≡ get_or parts i part → used ≡ length (all_occurring (patterns_of number (take i parts))) → rest ≡ drop used chosen →
    HaveRows scope defined points (all_filled (patterns_of number (take i parts)) (terms (chosen_of number chosen))) (map f rows) → HasRow scope defined points (filled (pattern_of number part) (terms (chosen_of number rest))) (f row) →
    HaveRows scope defined points (all_filled (patterns_of number (take (i + 1) parts)) (terms (chosen_of number chosen))) (map f (rows ++ row ∷ []))
rows-next number scope defined points parts i part chosen rest used f rows row within is at same have has =
    let has' : HasRow scope defined points (filled (pattern_of number part) (drop used (terms (chosen_of number chosen)))) (f row) = rw (← chosen-from number used chosen, ← same) has in
    rw (filled-next number parts i part (terms (chosen_of number chosen)) used within is at, mapped-last f rows row)
    (rows-last scope defined points (all_filled (patterns_of number (take i parts)) (terms (chosen_of number chosen))) (filled (pattern_of number part) (drop used (terms (chosen_of number chosen)))) (map f rows) (f row) have has')
