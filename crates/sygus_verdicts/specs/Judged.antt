-- Which judgements of statements are right.
use Rattle.std.specs.Prelude.{List, [], ◌∷◌, Option, Some, None}
use Rattle.sy_text_items.specs.Items.{Item}
use Rattle.sy_terms.specs.Expr.{Expr}
use Rattle.sy_grammar_base.specs.Questions.{Question}
use Rattle.sy_reply.specs.Statements.{Statement, Nothing, Bodies}

-- something is found exactly of bodies, and it is right
abbrev pub IsJudged : {A : Type 0} → (Question → List Expr → Option Item → A → Type 0) → Question → Statement → Option A → Type 0
IsJudged Right question Nothing None = Unit {0}
IsJudged Right question Nothing (Some found) = ⊥
IsJudged Right question (Bodies bodies proof) None = ⊥
IsJudged Right question (Bodies bodies proof) (Some found) = Right question bodies proof found

-- so of the statements on the first questions, in order
unfoldable pub AreJudged : {A : Type 0} → (Question → List Expr → Option Item → A → Type 0) → List Question → List Statement → List (Option A) → Type 0
AreJudged Right questions statements [] = Unit {0}
AreJudged Right [] statements (answer ∷ answers) = ⊥
AreJudged Right (question ∷ questions) [] (answer ∷ answers) = ⊥
AreJudged Right (question ∷ questions) (statement ∷ statements) (answer ∷ answers) =
    IsJudged Right question statement answer × AreJudged Right questions statements answers
