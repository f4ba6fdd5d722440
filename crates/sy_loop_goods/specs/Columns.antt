-- Columns of truth values: which leaves are good at a point.
use Rattle.std.specs.Prelude.{ℕ, Bool, true, false, List, [], ◌∷◌, map, nat_eq, slice_index_or}
use Rattle.sy_terms.specs.Values.{Val}
use Rattle.sy_terms.specs.Expr.{Expr}
use Rattle.sy_grammar_base.specs.Questions.{Question}
use Rattle.sy_bank_level.specs.Banks.{Entry}
use Rattle.sy_loop_spec.specs.Resting.{IsGoodAt, IsBadAt}
use Rattle.sy_loop_truth.specs.declared.rest.Rest.{Rest}

-- whether it rests on the point of this number
abbrev pub is_on : ℕ → Rest → Bool
is_on point rest = nat_eq rest.point point

-- what stands in the columns at a place
abbrev pub row_from : List (List Bool) → ℕ → List Bool
row_from columns place = map (λ (column : List Bool). slice_index_or column place false) columns

-- the body is good at the tuple, or bad
abbrev pub IsSaid : Question → List (List Val) → List Val → Expr → Bool → Type 0
IsSaid question assignments tuple body true = IsGoodAt question assignments tuple body
IsSaid question assignments tuple body false = IsBadAt question assignments tuple body

-- a value for each of the leaves, which says whether it is good at the tuple
abbrev pub IsColumn : Question → List (List Val) → List Val → List Entry → List Bool → Type 0
IsColumn question assignments tuple [] [] = Unit {0}
IsColumn question assignments tuple [] (good ∷ goods) = ⊥
IsColumn question assignments tuple (entry ∷ leaves) [] = ⊥
IsColumn question assignments tuple (entry ∷ leaves) (good ∷ goods) = IsSaid question assignments tuple entry.term good × IsColumn question assignments tuple leaves goods

-- such a column for each of the tuples
abbrev pub AreColumns : Question → List (List Val) → List Entry → List (List Val) → List (List Bool) → Type 0
AreColumns question assignments leaves [] [] = Unit {0}
AreColumns question assignments leaves [] (column ∷ columns) = ⊥
AreColumns question assignments leaves (tuple ∷ tuples) [] = ⊥
AreColumns question assignments leaves (tuple ∷ tuples) (column ∷ columns) = IsColumn question assignments tuple leaves column × AreColumns question assignments leaves tuples columns
