-- Bodies before a solver judges them: members of their grammars, with a query within the weight.
use Rattle.std.specs.Prelude.{ℕ, zero, suc, Bool, ◌≡◌, ◌<◌, ◌≤◌, List, [], ◌∷◌}
use Rattle.sy_terms.specs.Values.{Val}
use Rattle.sy_terms.specs.Expr.{Expr}
use Rattle.sy_terms.specs.declared.op.Op.{Op}
use Rattle.sy_terms.specs.declared.sort.Sort.{Sort}
use Rattle.sy_grammar_base.specs.Questions.{Goal, Question}
use Rattle.sy_grammar_base.specs.Solving.{AreMembers}
use Rattle.sy_grammar_base.specs.Trees.{IsMember}
use Rattle.sy_query_base.specs.Asked.{query_of, query_weight, QueryFits}
use Rattle.sy_query_base.specs.Queries.{violating}
use Rattle.sy_verify.specs.declared.posed.Posed.{Posed}
use Rattle.sy_verify.specs.declared.posed.Posed.TheVariants.{NotMember, Heavy, Asks}

-- the function of this number is the first whose body is no member of its grammar
abbrev pub IsFirstOutside : List Goal → List Expr → ℕ → Type 0
IsFirstOutside (goal ∷ goals) (body ∷ bodies) zero = IsMember goal.grammar body → ⊥
IsFirstOutside (goal ∷ goals) (body ∷ bodies) (suc number) = IsMember goal.grammar body × IsFirstOutside goals bodies number
IsFirstOutside [] bodies number = ⊥
IsFirstOutside (goal ∷ goals) [] number = ⊥

-- the bodies are members of their grammars, and their query weighs no more than the limit
pub record IsPosed (owned : Op → Bool) (question : Question) (bodies : List Expr) (limit : ℕ) : Type 0 where
  pub members : AreMembers question.goals bodies
  pub light : query_weight owned (violating question bodies) ≤ limit

-- the bodies are members, and their query weighs more than the limit
pub record IsHeavy (owned : Op → Bool) (question : Question) (bodies : List Expr) (limit : ℕ) : Type 0 where
  pub members : AreMembers question.goals bodies
  pub heavy : limit < query_weight owned (violating question bodies)

-- what is to be asked of the bodies: the query is theirs
abbrev pub Poses : {T N : Type 0} → (Op → Bool) → (Sort → Bool) → (N → Val) → Question → ℕ → List Expr → Posed T N → Type 0
Poses owned numeric number question limit bodies (NotMember function) = IsFirstOutside question.goals bodies function
Poses owned numeric number question limit bodies Heavy = IsHeavy owned question bodies limit
Poses owned numeric number question limit bodies (Asks query) =
    IsPosed owned question bodies limit × (query_of number query ≡ violating question bodies) × QueryFits owned numeric (query_of number query)
