-- What is found of bodies and a proof in text.
use Rattle.std.specs.Prelude.{ℕ, Bool, List}
use Rattle.sy_text_items.specs.Items.{Item}
use Rattle.sy_terms.specs.Expr.{Expr}
use Rattle.sy_terms.specs.declared.op.Op.{Op}
use Rattle.sy_grammar_base.specs.Questions.{Question}
use Rattle.sy_grammar_base.specs.Solving.{Solves}
use Rattle.sy_query_base.specs.Asked.{Query}
use Rattle.sy_query_base.specs.Queries.{violating}
use Rattle.sy_verify.specs.Posing.{IsFirstOutside, IsHeavy, IsPosed}
use Rattle.sy_verify.specs.declared.proof_checker.Checking.{Checking}
use Rattle.sy_verify.specs.declared.proof_checker.Checking.TheVariants.{Proves, Fails, Overflows}
use Rattle.sy_verify.specs.declared.rechecked.Rechecked.{Rechecked}
use Rattle.sy_verify.specs.declared.rechecked.Rechecked.TheVariants.{Accepted, NotMember, Heavy, Rejected, Range}

-- what a checker says of an item as a proof for a query
abbrev pub IsChecking : (Query → Item → Type 0) → (Query → Item → Type 0) → (Query → Item → ℕ → Type 0) → Query → Item → Checking → Type 0
IsChecking proves fails overflows query item Proves = proves query item
IsChecking proves fails overflows query item Fails = fails query item
IsChecking proves fails overflows query item (Overflows node) = overflows query item node

-- the bodies solve the problem, and the item proves it
pub record IsProved (proves : Query → Item → Type 0) (question : Question) (bodies : List Expr) (item : Item) : Type 0 where
  pub solves : Solves question bodies
  pub proof : proves (violating question bodies) item

-- In the last three cases the query was asked, and the checker says so of the item: they exclude each other where what the
-- checker says does.
abbrev pub IsRechecked : (Op → Bool) → (Query → Item → Type 0) → (Query → Item → Type 0) → (Query → Item → ℕ → Type 0) → Question → ℕ → List Expr → Item → Rechecked → Type 0
IsRechecked owned proves fails overflows question limit bodies item Accepted =
    IsPosed owned question bodies limit × IsProved proves question bodies item
IsRechecked owned proves fails overflows question limit bodies item (NotMember function) = IsFirstOutside question.goals bodies function
IsRechecked owned proves fails overflows question limit bodies item Heavy = IsHeavy owned question bodies limit
IsRechecked owned proves fails overflows question limit bodies item Rejected =
    IsPosed owned question bodies limit × fails (violating question bodies) item
IsRechecked owned proves fails overflows question limit bodies item (Range node) =
    IsPosed owned question bodies limit × overflows (violating question bodies) item node
