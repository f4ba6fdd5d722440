-- The verdicts on definitions with their proofs, and on the clauses of their query.
use Rattle.std.specs.Prelude.{ℕ, Bool, ◌≡◌, List, Option, Some, None}
use Rattle.sy_text_items.specs.Items.{Item}
use Rattle.sy_terms.specs.Expr.{Expr}
use Rattle.sy_terms.specs.declared.op.Op.{Op}
use Rattle.sy_grammar_base.specs.Questions.{Question}
use Rattle.sy_query_limits.specs.declared.FailName.TheVariants.{Range, Weight}
use Rattle.sy_query_base.specs.Asked.{Query}
use Rattle.sy_verify.specs.Rechecking.{IsRechecked}
use Rattle.sy_verify.specs.declared.rechecked.Rechecked.{Rechecked}
use Rattle.sy_verify.specs.declared.rechecked.Rechecked.TheVariants as rechecked
use Rattle.sy_verify.specs.declared.spelled.Spelled.{Spelled}
use Rattle.sy_verify.specs.declared.spelled.Spelled.TheVariants as spelled
use Rattle.sygus_verdicts.specs.Verdicts as verdicts

-- definitions without a proof are rejected
abbrev pub IsRecheckedWith : (Op → Bool) → (Query → Item → Type 0) → (Query → Item → Type 0) → (Query → Item → ℕ → Type 0) → Question → ℕ → List Expr → Option Item → Rechecked → Type 0
IsRecheckedWith owned proves fails overflows question limit bodies None found = found ≡ rechecked.Rejected
IsRecheckedWith owned proves fails overflows question limit bodies (Some item) found =
    IsRechecked owned proves fails overflows question limit bodies item found

abbrev pub verdict_rechecked : Rechecked → verdicts.Verdict
verdict_rechecked rechecked.Accepted = verdicts.Accepted
verdict_rechecked (rechecked.NotMember function) = verdicts.NotMember function
verdict_rechecked rechecked.Heavy = verdicts.Budget Weight
verdict_rechecked rechecked.Rejected = verdicts.Rejected
verdict_rechecked (rechecked.Range node) = verdicts.Budget Range

abbrev pub verdict_spelled : Spelled → verdicts.Verdict
verdict_spelled (spelled.NotMember function) = verdicts.NotMember function
verdict_spelled spelled.Heavy = verdicts.Budget Weight
verdict_spelled (spelled.Clauses text) = verdicts.Clauses text
verdict_spelled spelled.NoClauses = verdicts.NoClauses
