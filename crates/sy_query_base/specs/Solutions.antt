-- Solutions with their proofs.
use Rattle.std.specs.Prelude.{List}
use Rattle.sy_terms.specs.Expr.{Expr}
use Rattle.sy_grammar_base.specs.Questions.{Question}
use Rattle.sy_grammar_base.specs.Solving.{AreMembers, Solves}
use Rattle.sy_query_base.specs.Asked.{Query}
use Rattle.sy_query_base.specs.Queries.{violating}

-- the bodies are members of their grammars and solve the problem together, and the proof is accepted for their query
pub record IsSolution {P : Type 0} (accepted : Query → P → Type 0) (question : Question) (bodies : List Expr) (proof : P) : Type 0 where
  pub members : AreMembers question.goals bodies
  pub solves : Solves question bodies
  pub proved : accepted (violating question bodies) proof
