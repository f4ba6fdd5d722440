-- Assignments after which a search ended, and the bank of the one function.
use Rattle.std.proofs.Common.{◌≡◌, ◌∙◌, ap, arith, ℕ, zero, suc, List, [], ◌∷◌, length, slice_get, Some}
use Rattle.std.specs.Option.{option_map}
use Rattle.std.proofs.lemmas.Option.{slice_get-map}
use Rattle.sy_terms.specs.Values.{Val}
use Rattle.sy_terms.specs.Denoted.{vals_of}
use Rattle.sy_terms.specs.declared.sort.Value.{Value}
use Rattle.sy_terms.specs.declared.term.Term.{Term}
use Rattle.sy_grammar_base.specs.Questions.{Goal, Question, question_of}
use Rattle.sy_grammar_base.specs.Solving.{AreValues}
use Rattle.sy_grammar_base.specs.declared.problem.Problem.{Problem}
use Rattle.sy_query_limits.specs.declared.Limits.{Limits}
use Rattle.sy_points.specs.declared.stored.Stored.{Stored}
use Rattle.sy_bank_level.specs.Banks.{Entry, Merged}
use Rattle.sy_loop_bodies.specs.Banked.{IsOneBank}
use Rattle.sy_loop_spec.specs.declared.reach.Reach.TheVariants.{Joins}
use Rattle.sy_loop_spec.specs.Budgets.{BankMet}
use Rattle.sy_loop_spec.specs.Histories.{Counterexample, IsHonestHistory}
use Rattle.sy_loop_spec.specs.Stored.{counterexample_of, history_of}
use Rattle.sy_loop_spec.specs.declared.outcome.LoopRange.{LoopRange}
use Rattle.sy_loop_spec.specs.declared.outcome.LoopRange.TheVariants.{Member, Checked}
use Rattle.sy_loop_spec.specs.Right.{HasLeftRange}

only_goal : (goals : List Goal) (place : ℕ) (goal : Goal) → length goals ≡ 1 → slice_get goals place ≡
    Some goal → goals ≡ goal ∷ []
only_goal [] place goal one at = absurd (cc)
only_goal (first ∷ []) zero goal one at =
    let same : first ≡ goal = cc in
    ap (λ (g : Goal). g ∷ []) same
only_goal (first ∷ []) (suc place) goal one at = absurd (cc)
only_goal (first ∷ second ∷ rest) place goal one at = absurd (omega (arith, one))

-- the bank that is full is that of the one function
pub one_bank : (question : Question) (size rounds limit : ℕ) (history : List Counterexample) (function : ℕ)
    (bank : Merged) (nonterminal : ℕ) (next : Entry) → length question.goals ≡ 1
    → BankMet Joins question size rounds limit history function bank nonterminal next → IsOneBank question bank
one_bank question size rounds limit history function bank nonterminal next one is = record {
  goal = is.goal;
  one = only_goal question.goals function is.goal one is.at;
  honest = is.sound;
}

-- assignments of an honest history are of the problem's variables
pub honest_assigned : {T N : Type 0} (number : N → Val) (problem : Problem T N) (size rounds : ℕ) (stored :
    Stored T N) → IsHonestHistory Joins (question_of number problem) size rounds (history_of number stored) →
    (place : ℕ) (pair : List (Value N) × List (Term T N)) → slice_get stored.items place ≡ Some pair →
    AreValues problem.vars (vals_of number pair.0)
honest_assigned number problem size rounds stored honest place pair at =
    (honest.each place (counterexample_of number pair) (slice_get-map (counterexample_of number) stored.items place
    ∙ ap (option_map (counterexample_of number)) at)).values

-- so are those after which a number left the 128 bits
pub left_assigned : {T N : Type 0} (number : N → Val) (problem : Problem T N) (limits : Limits) (stored : Stored T
    N) (left : LoopRange T N) → HasLeftRange number Joins (question_of number problem) limits (history_of number
    stored) left →
    (place : ℕ) (pair : List (Value N) × List (Term T N)) → slice_get stored.items place ≡ Some pair →
    AreValues problem.vars (vals_of number pair.0)
left_assigned number problem limits stored (Member function term tuple) leaves = honest_assigned number problem
    limits.size limits.rounds stored leaves.honest
left_assigned number problem limits stored (Checked bodies assignment) leaves = honest_assigned number problem
    limits.size limits.rounds stored leaves.honest
