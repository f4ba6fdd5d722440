-- Where every value of a theory's operators fits, no right answer says that a number left its range.
use Rattle.std.specs.Prelude.{ℕ, zero, suc, Bool, true, false, List, [], ◌∷◌, map, Option, Some, None, slice_get, ◌≡◌, refl, All}
use Rattle.std.proofs.Common.{subst, inl, inr}
use Rattle.std.proofs.lemmas.List.Elements.{All-head, All-tail, All-contains, Contains-append_cases}
use Rattle.std.specs.Option.{option_map}
use Rattle.sy_terms.specs.Values.{Val}
use Rattle.sy_terms.specs.Expr.{Expr}
use Rattle.sy_terms.specs.Theories.{fits}
use Rattle.sy_terms.specs.Meaning.{function_from, functions}
use Rattle.sy_terms.specs.Fitting.{sort_in}
use Rattle.sy_terms.specs.declared.op.Op.{Op}
use Rattle.sy_terms.specs.declared.op.Op.TheVariants as ops
use Rattle.sy_terms.specs.declared.sort.Sort.{Sort}
use Rattle.sy_terms.specs.declared.sort.Sort.TheVariants as sorts
use Rattle.sy_grammar_base.specs.Fits.{with_functions, wanted_of, GoalFits, QuestionFits}
use Rattle.sy_grammar_base.specs.Questions.{Goal, Question}
use Rattle.sy_grammar_base.specs.Solving.{AreMembers}
use Rattle.sy_grammar_base.specs.Trees.{Syntax, Nonterminal, Tree, Node, ConstantLeaf, VariableLeaf, Derives, rule_of, node_yield, constant_yield, variable_yield, yield_from, yields_from}
use Rattle.sy_grammar_base.proofs.Filling.{sort_at}
use Rattle.sy_grammar_base.proofs.Members.{member_fits, derived_fits}
use Rattle.sy_loop_spec.specs.declared.reach.Reach.{Reach}
use Rattle.sy_query_limits.specs.declared.Limits.{Limits}
use Rattle.sy_loop_spec.specs.Budgets.{CheckedLeaves, MemberLeaves}
use Rattle.sy_loop_spec.specs.Histories.{Counterexample}
use Rattle.sy_loop_candidate.proofs.Ending.{candidate_members}
use Rattle.sy_terms.specs.Denoted.{expr_of, vals_of}
use Rattle.sy_loop_spec.specs.Right.{HasLeftRange}
use Rattle.sy_loop_spec.specs.declared.outcome.LoopRange.{LoopRange}
use Rattle.sy_loop_spec.specs.declared.outcome.LoopRange.TheVariants.{Member, Checked}
use Rattle.sygus_answers.proofs.Computing.{AreTotal, none_total, more_total, computes, body_total, definitions_total}

-- what derives a term is a nonterminal of the grammar
found_sort : (found : Option Nonterminal) (rule : ℕ) (children : List ℕ → Option (List Expr)) (term : Expr) → node_yield (rule_of found rule) children ≡ Some term → (sort : Sort) × (option_map (λ (x : Nonterminal). x.sort) found ≡ Some sort)
found_sort None rule children term e = absurd cc
found_sort (Some x) rule children term e = (x.sort, refl)

constant_sort : (found : Option Nonterminal) (rule : ℕ) (value : Val) (term : Expr) → constant_yield (rule_of found rule) value ≡ Some term → (sort : Sort) × (option_map (λ (x : Nonterminal). x.sort) found ≡ Some sort)
constant_sort None rule value term e = absurd cc
constant_sort (Some x) rule value term e = (x.sort, refl)

variable_sort : (found : Option Nonterminal) (rule : ℕ) (arguments : List Sort) (position : ℕ) (term : Expr) → variable_yield (rule_of found rule) arguments position ≡ Some term → (sort : Sort) × (option_map (λ (x : Nonterminal). x.sort) found ≡ Some sort)
variable_sort None rule arguments position term e = absurd cc
variable_sort (Some x) rule arguments position term e = (x.sort, refl)

derives_sorted : (syntax : Syntax) (nonterminal : ℕ) (tree : Tree) (term : Expr) → Derives syntax nonterminal tree term → (sort : Sort) × (sort_at syntax nonterminal ≡ Some sort)
unfolding yield_from
derives_sorted syntax nonterminal (Node rule children) term e = found_sort (slice_get syntax.nonterminals nonterminal) rule (λ occurrences. yields_from syntax occurrences children) term e
derives_sorted syntax nonterminal (ConstantLeaf rule value) term e = constant_sort (slice_get syntax.nonterminals nonterminal) rule value term e
derives_sorted syntax nonterminal (VariableLeaf rule position) term e = variable_sort (slice_get syntax.nonterminals nonterminal) rule syntax.arguments position term e

module _ (owned : Op → Bool) (numeric : Sort → Bool) (negation : numeric sorts.Int ≡ true → owned ops.Neg ≡ true) (always : (op : Op) (values : List Val) → owned op ≡ true → fits op values ≡ true) where
  question_total : (question : Question) → QuestionFits owned numeric question → AreTotal (functions question.definitions)
  question_total question fit = definitions_total owned always question.signatures question.definitions fit.definitions

  -- members of the grammars, as functions to be found
  members_total : (question : Question) (goals : List Goal) (bodies : List Expr) → AreTotal (functions question.definitions) → All (GoalFits owned numeric question.signatures) goals → AreMembers goals bodies
      → AreTotal (map (function_from (functions question.definitions)) bodies)
  members_total question [] [] all fit members = none_total
  members_total question [] (body ∷ bodies) all fit members = absurd members
  members_total question (goal ∷ goals) [] all fit members = absurd members
  members_total question (goal ∷ goals) (body ∷ bodies) all fit members =
      let scope = with_functions owned question.signatures [] in
      let here = All-head (GoalFits owned numeric question.signatures) goal goals fit in
      let sorted = member_fits numeric scope goal.grammar negation here.formed goal.signature.gives body here.start members.0 in
      let defined = functions question.definitions in
      more_total (function_from defined body) (map (function_from defined) bodies) (body_total owned always scope goal.grammar.arguments defined body goal.signature.gives refl all sorted)
      (members_total question goals bodies all (All-tail (GoalFits owned numeric question.signatures) goal goals fit) members.1)

  all_at : {X : Type 0} (P : X → Type 0) (xs : List X) (k : ℕ) (x : X) → All P xs → slice_get xs k ≡ Some x → P x
  all_at P [] k x each at = absurd cc
  all_at P (y ∷ xs) zero x each at = let same : y ≡ x = cc in subst P same (All-head P y xs each)
  all_at P (y ∷ xs) (suc k) x each at = all_at P xs k x (All-tail P y xs each) at

  contradicts : (b : Bool) → b ≡ true → b ≡ false → ⊥
  contradicts b is not = cc

  -- a term that is asked of bodies doesn't leave the range
  never_checked : (reach : Reach) (question : Question) (size rounds : ℕ) (history : List Counterexample) (bodies : List Expr) (assignment : List Val) → QuestionFits owned numeric question
      → CheckedLeaves reach question size rounds history bodies assignment → ⊥
  never_checked reach question size rounds history bodies assignment fit left =
      let defined = functions question.definitions in
      let wanted = map (function_from defined) bodies in
      let all = question_total question fit in
      let members = candidate_members reach question size history bodies left.candidate in
      let others = members_total question question.goals bodies all fit.goals members in
      elim (Contains-append_cases question.assumptions question.constraints left.term left.asked) [
        | inl within ↦ contradicts _ (computes owned always (with_functions owned question.signatures []) question.variables defined wanted assignment left.term sorts.Bool refl all others
            (All-contains (λ term. sort_in (with_functions owned question.signatures []) question.variables term ≡ Some sorts.Bool) question.assumptions left.term fit.assumptions within)) left.leaves
        | inr within ↦ contradicts _ (computes owned always (with_functions owned question.signatures (wanted_of question)) question.variables defined wanted assignment left.term sorts.Bool refl all others
            (All-contains (λ term. sort_in (with_functions owned question.signatures (wanted_of question)) question.variables term ≡ Some sorts.Bool) question.constraints left.term fit.constraints within)) left.leaves
      ]

  -- nor does a member
  never_member : (reach : Reach) (question : Question) (size rounds : ℕ) (history : List Counterexample) (function : ℕ) (term : Expr) (tuple : List Val) → QuestionFits owned numeric question
      → MemberLeaves reach question size rounds history function term tuple → ⊥
  never_member reach question size rounds history function term tuple fit left =
      let scope = with_functions owned question.signatures [] in
      let here = all_at (GoalFits owned numeric question.signatures) question.goals function left.goal fit.goals left.at in
      let found = derives_sorted left.goal.grammar left.nonterminal left.tree term left.derives in
      let sorted = derived_fits numeric scope left.goal.grammar negation here.formed left.nonterminal found.0 left.tree term found.1 left.derives in
      contradicts _ (computes owned always scope left.goal.grammar.arguments (functions question.definitions) [] tuple term found.0 refl (question_total question fit) none_total sorted) left.leaves

  -- so no number leaves the range
  pub never_leaves : {T N : Type 0} (number : N → Val) (reach : Reach) (question : Question) (limits : Limits) (history : List Counterexample) (left : LoopRange T N) → QuestionFits owned numeric question
      → HasLeftRange number reach question limits history left → ⊥
  never_leaves number reach question limits history (Member function term tuple) fit leaves =
      never_member reach question limits.size limits.rounds history function (expr_of number term) (vals_of number tuple) fit leaves
  never_leaves number reach question limits history (Checked bodies assignment) fit leaves =
      never_checked reach question limits.size limits.rounds history (map (expr_of number) bodies) (vals_of number assignment) fit leaves
