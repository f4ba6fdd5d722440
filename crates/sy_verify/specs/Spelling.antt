-- What is said of bodies whose query's clauses are asked for.
use Rattle.std.specs.Prelude.{ℕ, Bool, List}
use Rattle.sy_terms.specs.Expr.{Expr}
use Rattle.sy_terms.specs.declared.op.Op.{Op}
use Rattle.sy_grammar_base.specs.Questions.{Question}
use Rattle.sy_query_base.specs.Asked.{Query}
use Rattle.sy_query_base.specs.Queries.{violating}
use Rattle.sy_verify.specs.Posing.{IsFirstOutside, IsHeavy, IsPosed}
use Rattle.sy_verify.specs.declared.spelled.Spelled.{Spelled}
use Rattle.sy_verify.specs.declared.spelled.Spelled.TheVariants.{NotMember, Heavy, Clauses, NoClauses}

abbrev pub IsSpelled : (Op → Bool) → (Query → List ℕ → Type 0) → (Query → Type 0) → Question → ℕ → List Expr → Spelled → Type 0
IsSpelled owned spells lacks question limit bodies (NotMember function) = IsFirstOutside question.goals bodies function
IsSpelled owned spells lacks question limit bodies Heavy = IsHeavy owned question bodies limit
IsSpelled owned spells lacks question limit bodies (Clauses text) =
    IsPosed owned question bodies limit × spells (violating question bodies) text
IsSpelled owned spells lacks question limit bodies NoClauses =
    IsPosed owned question bodies limit × lacks (violating question bodies)
