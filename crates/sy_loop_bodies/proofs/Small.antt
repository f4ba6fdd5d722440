-- Kept terms of the start symbol, and members within a bound.
use Rattle.std.proofs.Common.{◌≡◌, ◌≤◌, ℕ, suc, List, [], ◌∷◌, map, refl, sym, subst, arith, Bool, true, slice_get, Some}
use Rattle.std.specs.List.{All}
use Rattle.std.proofs.lemmas.List.Elements.{All-nil, All-cons}
use Rattle.sy_terms.specs.Values.{Val}
use Rattle.sy_terms.specs.Expr.{Expr}
use Rattle.sy_terms.specs.Denoted.{expr_of}
use Rattle.sy_terms.specs.declared.op.Op.{Op}
use Rattle.sy_terms.specs.declared.op.Op.TheVariants as ops
use Rattle.sy_terms.specs.declared.sort.Sort.{Sort}
use Rattle.sy_terms.specs.declared.sort.Sort.TheVariants as sorts
use Rattle.sy_terms.specs.declared.term.Term.{Term}
use Rattle.sy_terms_operators.specs.Evaluation.{BodiesFit}
use Rattle.sy_grammar_base.specs.Fits.{QuestionFits}
use Rattle.sy_grammar_base.specs.Trees.{Tree, Derives, tree_size}
use Rattle.sy_grammar_base.specs.Questions.{Goal, Question, question_of, signatures}
use Rattle.sy_grammar_base.specs.Solving.{AreWithin}
use Rattle.sy_grammar_base.specs.declared.problem.Problem.{Problem}
use Rattle.sy_grammar_base.proofs.Candidates.{bodies_fit}
use Rattle.sy_bank_level.specs.Banks.{Entry, Merged, kept_at}
use Rattle.sy_loop_candidate.proofs.Ending.{members}
use Rattle.sy_loop_bodies.specs.Banked.{IsOneBank}

-- members within a bound fit as bodies
pub within_fit : {T N : Type 0} (owned : Op → Bool) (numeric : Sort → Bool) (number : N → Val) (problem : Problem T N) (bound : ℕ) (bodies : List (Term T N)) → QuestionFits owned numeric (question_of number problem) → (numeric sorts.Int ≡ true → owned ops.Neg ≡ true) →
    AreWithin (question_of number problem).pool bound (question_of number problem).goals (map (expr_of number) bodies) → BodiesFit owned number problem.defs bodies (signatures problem)
within_fit owned numeric number problem bound bodies fit negation within =
    bodies_fit owned numeric number problem bodies fit negation (members (question_of number problem).pool bound (question_of number problem).goals (map (expr_of number) bodies) within)

-- a derivation of the one body
pub one_within : (question : Question) (goal : Goal) (bound : ℕ) (tree : Tree) (term : Expr) → question.goals ≡ goal ∷ [] → Derives goal.grammar 0 tree term → tree_size goal.grammar question.pool 0 tree ≤ bound → AreWithin question.pool bound question.goals (term ∷ [])
one_within question goal bound tree term one derives small =
    subst (λ (goals : List Goal). AreWithin question.pool bound goals (term ∷ [])) (sym one) (tree, derives, small, tt)

all_from_at : {X : Type 0} (P : X → Type 0) (xs : List X) → ((k : ℕ) (x : X) → slice_get xs k ≡ Some x → P x) → All P xs
all_from_at P [] each = All-nil P
all_from_at P (x ∷ xs) each = All-cons P x xs (each 0 x refl) (all_from_at P xs (λ k y at. each (suc k) y at))

-- kept terms of a size within the bound are members within it
pub kept_small : (question : Question) (bank : Merged) (size bound : ℕ) → IsOneBank question bank → size ≤ bound → All (λ (entry : Entry). AreWithin question.pool bound question.goals (entry.term ∷ [])) (kept_at bank.levels 0 size)
kept_small question bank size bound is small = all_from_at (λ (entry : Entry). AreWithin question.pool bound question.goals (entry.term ∷ [])) (kept_at bank.levels 0 size)
    (λ place entry at.
    let found = is.honest.each 0 size place entry at in
    one_within question is.goal bound entry.tree entry.term is.one found.1.derives (omega (arith, found.0, found.1.sized, small)))
