-- When bodies solve a problem, and which bodies its grammars have.
use Rattle.std.specs.Prelude.{ℕ, ◌-◌, ◌≤◌, ◌≡◌, true, List, [], ◌∷◌, map, All, ⊤}
use Rattle.sy_terms.specs.Values.{Val, Truth}
use Rattle.sy_terms.specs.Expr.{Expr}
use Rattle.sy_terms.specs.Meaning.{meaning, function_from, functions}
use Rattle.sy_terms.specs.Theories.{sort_of_value, valid}
use Rattle.sy_terms.specs.declared.sort.Sort.{Sort}
use Rattle.sy_grammar_base.specs.Trees.{Tree, Derives, IsMember, tree_size}
use Rattle.sy_grammar_base.specs.Questions.{Goal, Question}

-- values of these sorts
pub record AreValues (sorts : List Sort) (values : List Val) : Type 0 where
  pub sorted : map sort_of_value values ≡ sorts
  pub valid : All (λ value. valid value ≡ true) values

-- the term is true, where the functions to be found have these bodies and the variables these values
abbrev pub IsTrueUnder : Question → List Expr → List Val → Expr → Type 0
IsTrueUnder question bodies values term =
    meaning (functions question.definitions) (map (function_from (functions question.definitions)) bodies) values term ≡ Truth true

-- where the bodies make every assumption true, they make every constraint true
abbrev pub Meets : Question → List Expr → List Val → Type 0
Meets question bodies values =
    All (IsTrueUnder question bodies values) question.assumptions → All (IsTrueUnder question bodies values) question.constraints

-- they do so at all values of the variables
abbrev pub Solves : Question → List Expr → Type 0
Solves question bodies = (values : List Val) → AreValues question.variables values → Meets question bodies values

-- there is a body for each function to be found, a member of its grammar
abbrev pub AreMembers : List Goal → List Expr → Type 0
AreMembers [] [] = ⊤
AreMembers [] (body ∷ bodies) = ⊥
AreMembers (goal ∷ goals) [] = ⊥
AreMembers (goal ∷ goals) (body ∷ bodies) = IsMember goal.grammar body × AreMembers goals bodies

-- each body has a derivation, and their sizes sum to at most n
abbrev pub AreWithin : List Val → ℕ → List Goal → List Expr → Type 0
AreWithin pool n [] [] = ⊤
AreWithin pool n [] (body ∷ bodies) = ⊥
AreWithin pool n (goal ∷ goals) [] = ⊥
AreWithin pool n (goal ∷ goals) (body ∷ bodies) =
    (tree : Tree) × Derives goal.grammar 0 tree body × (tree_size goal.grammar pool 0 tree ≤ n) × AreWithin pool (n - tree_size goal.grammar pool 0 tree) goals bodies
