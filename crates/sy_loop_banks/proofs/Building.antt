-- Banks over what is known.
use Rattle.std.proofs.Common.{◌≡◌, ◌<◌, ◌+◌, ◌++◌, ⊎_elim, refl, ap, sym, subst, ◌∙◌, ℕ, Bool, List, [], ◌∷◌, length, map, get_or, arith, slice_get, Some, None}
use Rattle.std.specs.Prelude.{IfSome, false, Option, Err}
use Rattle.std.specs.Option.{option_map}
use Rattle.std.specs.List.{All, Contains}
use Rattle.std.proofs.lemmas.List.{length-append}
use Rattle.std.proofs.lemmas.Option.{get_or_from_slice_get, slice_get-map, slice_get_read, slice_get_within}
use Rattle.std.proofs.lemmas.List.Elements.{All-contains, All-weaker, All-contains_itself}
use Rattle.sy_terms.specs.Values.{Val}
use Rattle.sy_terms.specs.Denoted.{expr_of, vals_of}
use Rattle.sy_terms.specs.Definitions.{bodies}
use Rattle.sy_terms.specs.Fitting.{Signature}
use Rattle.sy_terms.specs.Meaning.{Function, functions, computable}
use Rattle.sy_terms.specs.declared.op.Op.{Op}
use Rattle.sy_terms.specs.declared.sort.Sort.{Sort}
use Rattle.sy_grammar_base.specs.Fits.{wanted_of, GrammarFits, QuestionFits}
use Rattle.sy_grammar_base.specs.Grown.{syntax_from}
use Rattle.sy_grammar_base.specs.Trees.{Syntax, tree_size}
use Rattle.sy_grammar_base.specs.Questions.{Goal, Question, goal_of, question_of}
use Rattle.sy_grammar_base.specs.declared.problem.Problem.{Problem}
use Rattle.sy_grammar_base.specs.declared.problem.Wanted.{Wanted}
use Rattle.sy_grammar_base.proofs.Problems.{problem_grammars}
use Rattle.sy_query_limits.specs.declared.Limits.{Limits}
use Rattle.sy_points.specs.Asked.{Asked, of_function}
use Rattle.sy_bank_level.specs.Banks.{Entry, Lost, Merged, IsDropped}
use Rattle.sy_bank_level.specs.Rows.{ArePointsOf}
use Rattle.sy_bank_level.specs.Bank.{merged_of}
use Rattle.sy_bank.specs.Promised.{IsBank, BankIsWhole, BankIsFull}
use Rattle.sy_bank.specs.declared.bank.BankEnd.{BankEnd}
use Rattle.sy_bank.specs.declared.bank.BankEnd.TheVariants as ends
use Rattle.sy_bank.specs.Answers.{OnBank, IfFull}
use Rattle.sy_bank_level.specs.Stored.{entry_of}
use Rattle.sy_loop_banks.specs.declared.banks.Banks.{Banks}
use Rattle.sy_loop_spec.specs.Histories.{Counterexample, IsMet, IsOpenNumber}
use Rattle.sy_loop_spec.proofs.Staying.{open_down}
use Rattle.sy_loop_spec.specs.declared.reach.Reach.{Reach}
use Rattle.sy_loop_spec.specs.Budgets.{BankMet, MemberLeaves}
use Rattle.sy_loop_truth.specs.Known.{IsKnown}
use Rattle.sy_loop_truth.proofs.Items.{has_place}
use Rattle.sy_loop_banks.specs.Banks.{IsBankOf, IsWholeOf, IsFullOf, AreBanks, BanksAreBuilt, IsFullBank}
use Rattle.sy_loop_spec.specs.Right.{HasLeftRange}
use Rattle.sy_loop_spec.specs.declared.outcome.LoopRange.{LoopRange}
use Rattle.sy_loop_spec.specs.declared.outcome.LoopRange.TheVariants.{Member, Checked}
use Rattle.sy_loop_banks.specs.Dropping.{IsPlaced, IsDroppedBy}
use Rattle.sy_bank_level.proofs.KeptLaws.{at-end}

-- a function's grammar fits
pub grammar_fits : {T N : Type 0} (owned : Op → Bool) (numeric : Sort → Bool) (number : N → Val) (problem : Problem T N) (function : ℕ) (wanted : Wanted T N) → QuestionFits owned numeric (question_of number problem) → slice_get problem.wanted function ≡ Some wanted → GrammarFits owned numeric number problem wanted
grammar_fits owned numeric number problem function wanted fit at =
    All-contains (GrammarFits owned numeric number problem) problem.wanted wanted (problem_grammars owned numeric number problem fit) (has_place problem.wanted function wanted at)

-- a function's goal
pub goal_at : {T N : Type 0} (number : N → Val) (problem : Problem T N) (function : ℕ) (wanted : Wanted T N) → slice_get problem.wanted function ≡ Some wanted → slice_get (question_of number problem).goals function ≡ Some (goal_of number wanted)
goal_at number problem function wanted at = slice_get-map (goal_of number) problem.wanted function ∙ ap (option_map (goal_of number)) at

-- a function's tuples are of its arguments
pub points_fit : {T N : Type 0} (owned : Op → Bool) (numeric : Sort → Bool) (number : N → Val) (reach : Reach) (problem : Problem T N) (limits : Limits) (history : List Counterexample) (asked : Asked) (function : ℕ) (wanted : Wanted T N) (tuples : List (List Val)) →
    QuestionFits owned numeric (question_of number problem) → IsKnown reach (question_of number problem) limits history asked → slice_get problem.wanted function ≡ Some wanted → of_function asked function ≡ tuples → ArePointsOf wanted.grammar.args tuples
points_fit owned numeric number reach problem limits history asked function wanted tuples fit known at is k point place =
    let it = known.held.taken function point (subst (λ ts. Contains ts point) (sym is) (has_place tuples k point place)) in
    let fits = grammar_fits owned numeric number problem function wanted fit at in
    let found : slice_get (wanted_of (question_of number problem)) function ≡ Some (goal_of number wanted).signature =
    slice_get-map (λ (goal : Goal). goal.signature) (question_of number problem).goals function ∙ ap (option_map (λ (goal : Goal). goal.signature)) (goal_at number problem function wanted at) in
    let same : Some it.signature ≡ Some (goal_of number wanted).signature = sym it.at ∙ found in
    let signature : it.signature ≡ (goal_of number wanted).signature = cc in
    (it.valid, it.sorted ∙ ap (λ (s : Signature). s.takes) signature ∙ sym fits.arguments)

-- what stands at a place of a list of images
pub image_at : {A B : Type 0} (f : A → B) (xs : List A) (k : ℕ) (x : A) → k < length xs → x ≡ get_or xs k x → slice_get (map f xs) k ≡ Some (f x)
image_at f xs k x within at = slice_get-map f xs k ∙ ap (option_map f) (slice_get_read xs (length xs) k x refl within at)

-- two lists of images that differ there
pub differ : {A B : Type 0} (f : A → B) (xs ys : List A) (k : ℕ) (x y : A) → k < length xs → x ≡ get_or xs k x → k < length ys → y ≡ get_or ys k y → (f x ≡ f y → ⊥) → map f xs ≡ map f ys → ⊥
differ f xs ys k x y within at within' at' other same =
    let both : Some (f x) ≡ Some (f y) = sym (image_at f xs k x within at) ∙ ap (λ zs. slice_get zs k) same ∙ image_at f ys k y within' at' in
    let equal : f x ≡ f y = cc in
    other equal

-- the tuples of a function
pub tuples_at : (asked : Asked) (function : ℕ) (tuples : List (List Val)) → slice_get asked.tuples function ≡ Some tuples → of_function asked function ≡ tuples
tuples_at asked function tuples at = get_or_from_slice_get asked.tuples function tuples [] at

-- the first banks
pub record AreFirst (question : Question) (limits : Limits) (asked : Asked) (level function : ℕ) (banks : List Merged) : Type 0 where
  pub each : (place : ℕ) (bank : Merged) → slice_get banks place ≡ Some bank → IsBankOf question limits asked level place bank
  pub whole : (place : ℕ) (bank : Merged) → slice_get banks place ≡ Some bank → IsWholeOf question place bank
  pub all : length banks ≡ function

pub no_banks : (question : Question) (limits : Limits) (asked : Asked) (level : ℕ) → AreFirst question limits asked level 0 []
no_banks question limits asked level = record { each = λ place bank at. absurd (cc); whole = λ place bank at. absurd (cc); all = refl }

pub one_bank_more : (question : Question) (limits : Limits) (asked : Asked) (level function : ℕ) (banks : List Merged) (bank : Merged) → AreFirst question limits asked level function banks → IsBankOf question limits asked level function bank → IsWholeOf question function bank →
    AreFirst question limits asked level (function + 1) (banks ++ bank ∷ [])
one_bank_more question limits asked level function banks bank first of whole = record {
  each = λ place b at. ⊎_elim
      (λ (old : slice_get banks place ≡ Some b). first.each place b old)
      (λ (last : (place ≡ length banks) × (b ≡ bank)). subst (λ n. IsBankOf question limits asked level n b) (sym (last.0 ∙ first.all)) (subst (IsBankOf question limits asked level function) (sym last.1) of))
      (at-end banks place bank b at);
  whole = λ place b at. ⊎_elim
      (λ (old : slice_get banks place ≡ Some b). first.whole place b old)
      (λ (last : (place ≡ length banks) × (b ≡ bank)). subst (λ n. IsWholeOf question n b) (sym (last.0 ∙ first.all)) (subst (IsWholeOf question function) (sym last.1) whole))
      (at-end banks place bank b at);
  all = omega (arith, first.all, length-append banks (bank ∷ []));
}

pub all_banks : (question : Question) (limits : Limits) (asked : Asked) (level function : ℕ) (banks : List Merged) → AreFirst question limits asked level function banks → function ≡ length question.goals → AreBanks question limits asked level banks
all_banks question limits asked level function banks first all = record { each = first.each; whole = first.whole; all = first.all ∙ all }

-- what a function's bank is
pub bank_of : {T N : Type 0} (number : N → Val) (problem : Problem T N) (limits : Limits) (asked : Asked) (level function : ℕ) (wanted : Wanted T N) (tuples : List (List Val)) (bank : Merged) → slice_get problem.wanted function ≡ Some wanted → of_function asked function ≡ tuples →
    IsBank (syntax_from number wanted.grammar) (functions (bodies number problem.defs)) (vals_of number problem.pool) tuples level limits.bank bank → IsBankOf (question_of number problem) limits asked level function bank
bank_of number problem limits asked level function wanted tuples bank at is built = record {
  goal = goal_of number wanted;
  at = goal_at number problem function wanted at;
  is = subst (λ ts. IsBank (syntax_from number wanted.grammar) (functions (bodies number problem.defs)) (vals_of number problem.pool) ts level limits.bank bank) (sym is) built;
}

pub whole_of : {T N : Type 0} (number : N → Val) (problem : Problem T N) (function : ℕ) (wanted : Wanted T N) (bank : Merged) → slice_get problem.wanted function ≡ Some wanted →
    BankIsWhole (syntax_from number wanted.grammar) (functions (bodies number problem.defs)) (vals_of number problem.pool) bank → IsWholeOf (question_of number problem) function bank
whole_of number problem function wanted bank at whole = record { goal = goal_of number wanted; at = goal_at number problem function wanted at; whole = whole }

pub full_of : {T N : Type 0} (number : N → Val) (problem : Problem T N) (limits : Limits) (function : ℕ) (wanted : Wanted T N) (bank : Merged) (nonterminal : ℕ) (next : Entry) → slice_get problem.wanted function ≡ Some wanted →
    BankIsFull (syntax_from number wanted.grammar) (functions (bodies number problem.defs)) (vals_of number problem.pool) limits.bank bank nonterminal next → IsFullOf (question_of number problem) limits function bank nonterminal next
full_of number problem limits function wanted bank nonterminal next at full = record { goal = goal_of number wanted; at = goal_at number problem function wanted at; full = full }

-- all tuples of a function were met
points_met : (reach : Reach) (question : Question) (limits : Limits) (history : List Counterexample) (asked : Asked) (function : ℕ) (tuples : List (List Val)) → IsKnown reach question limits history asked → tuples ≡ of_function asked function → All (IsMet reach question limits.size history function) tuples
points_met reach question limits history asked function tuples known is =
    All-weaker (Contains tuples) (IsMet reach question limits.size history function) (λ tuple at. known.met function tuple (subst (λ ts. Contains ts tuple) is at)) tuples (All-contains_itself tuples)

-- a full bank is the cause
pub bank_met : (reach : Reach) (question : Question) (limits : Limits) (history : List Counterexample) (asked : Asked) (level function : ℕ) (bank : Merged) (nonterminal : ℕ) (next : Entry) → IsKnown reach question limits history asked → length history < limits.rounds → IsOpenNumber reach question limits.size history level →
    IsBankOf question limits asked level function bank → IsFullOf question limits function bank nonterminal next → BankMet reach question limits.size limits.rounds limits.bank history function bank nonterminal next
bank_met reach question limits history asked level function bank nonterminal next known room opened of full =
    let same_goal : Some full.goal ≡ Some of.goal = sym full.at ∙ of.at in
    let goal : full.goal ≡ of.goal = cc in
    let is : BankIsFull of.goal.grammar (functions question.definitions) question.pool limits.bank bank nonterminal next = subst (λ (g : Goal). BankIsFull g.grammar (functions question.definitions) question.pool limits.bank bank nonterminal next) goal full.full in
    record {
      honest = known.honest;
      room = room;
      goal = of.goal;
      at = of.at;
      sound = of.is.honest;
      size_open = subst (IsOpenNumber reach question limits.size history) (sym of.is.up) opened;
      met = points_met reach question limits history asked function bank.points known of.is.over;
      all = is.full;
      none = is.none_lost;
      new = is.new;
    }

lost_at : (syntax : Syntax) (defined : List Function) (pool : List Val) (points : List (List Val)) (upto : ℕ) (dropped : Option Lost) (lost : Lost) → dropped ≡ Some lost → IfSome dropped (IsDropped syntax defined pool points upto) → IsDropped syntax defined pool points upto lost
lost_at syntax defined pool points upto dropped lost is if_some = let at = subst (λ d. IfSome d (IsDropped syntax defined pool points upto)) is if_some in at

-- a dropped term is the cause
pub member_leaves : (reach : Reach) (question : Question) (limits : Limits) (history : List Counterexample) (asked : Asked) (level function : ℕ) (bank : Merged) (lost : Lost) (tuple : List Val) → IsKnown reach question limits history asked → length history < limits.rounds → IsOpenNumber reach question limits.size history level →
    IsBankOf question limits asked level function bank → bank.dropped ≡ Some lost → slice_get bank.points lost.point ≡ Some tuple → MemberLeaves reach question limits.size limits.rounds history function lost.term tuple
member_leaves reach question limits history asked level function bank lost tuple known room opened of is at =
    let dropped = lost_at of.goal.grammar (functions question.definitions) question.pool bank.points bank.upto bank.dropped lost is of.is.lost in
    let same_point : Some dropped.is.point ≡ Some tuple = sym dropped.is.at ∙ at in
    let point : dropped.is.point ≡ tuple = cc in
    record {
      honest = known.honest;
      room = room;
      goal = of.goal;
      at = of.at;
      nonterminal = dropped.nonterminal;
      tree = dropped.tree;
      derives = dropped.derives;
      size_open = open_down reach question limits.size history (tree_size of.goal.grammar question.pool dropped.nonterminal dropped.tree) level (omega (arith, dropped.small, of.is.up)) opened;
      met = All-contains (IsMet reach question limits.size history function) bank.points tuple (points_met reach question limits history asked function bank.points known of.is.over) (has_place bank.points lost.point tuple at);
      leaves = subst (λ p. computable (functions question.definitions) [] p lost.term ≡ false) point dropped.is.lost;
    }

-- a bank that is full
pub built_full : {T N : Type 0} (number : N → Val) (problem : Problem T N) (limits : Limits) (asked : Asked) (level function : ℕ) (wanted : Wanted T N) (tuples : List (List Val)) (end : BankEnd T N) (banks : Banks T N) → slice_get problem.wanted function ≡ Some wanted → of_function asked function ≡ tuples →
    OnBank number (Err end) (IsBank (syntax_from number wanted.grammar) (functions (bodies number problem.defs)) (vals_of number problem.pool) tuples level limits.bank) →
    IfFull number (Err end) (BankIsFull (syntax_from number wanted.grammar) (functions (bodies number problem.defs)) (vals_of number problem.pool) limits.bank) →
    IsFullBank function end banks → BanksAreBuilt number (question_of number problem) limits asked level banks
built_full number problem limits asked level function wanted tuples ends.Want banks at is bank full made = absurd made
built_full number problem limits asked level function wanted tuples (ends.Full found nonterminal next) banks at is bank full made =
    subst (BanksAreBuilt number (question_of number problem) limits asked level) (sym made)
    (bank_of number problem limits asked level function wanted tuples (merged_of number found) at is bank, full_of number problem limits function wanted (merged_of number found) nonterminal (entry_of number next) at full)

-- a dropped term was dropped at one of the points
pub placed : (question : Question) (limits : Limits) (asked : Asked) (level function : ℕ) (bank : Merged) → IsBankOf question limits asked level function bank → IsPlaced bank
placed question limits asked level function bank of = at bank.dropped of.is.lost
  where
    at : (dropped : Option Lost) → IfSome dropped (IsDropped of.goal.grammar (functions question.definitions) question.pool bank.points bank.upto) → IfSome dropped (λ (lost : Lost). lost.point < length bank.points)
    at None is = tt
    at (Some lost) is = slice_get_within bank.points lost.point is.is.point is.is.at

-- it is the cause
pub dropped_leaves : {T N : Type 0} (number : N → Val) (reach : Reach) (question : Question) (limits : Limits) (history : List Counterexample) (asked : Asked) (level function : ℕ) (bank : Merged) (left : LoopRange T N) → IsKnown reach question limits history asked → length history < limits.rounds →
    IsOpenNumber reach question limits.size history level → IsBankOf question limits asked level function bank → IsDroppedBy number function bank left → HasLeftRange number reach question limits history left
dropped_leaves number reach question limits history asked level function bank (Checked bodies assignment) known room opened of by = absurd by
dropped_leaves number reach question limits history asked level function bank (Member other term tuple) known room opened of by =
    let leaves = member_leaves reach question limits history asked level function bank by.0 (vals_of number tuple) known room opened of by.1 by.4 in
    subst (λ f. MemberLeaves reach question limits.size limits.rounds history f (expr_of number term) (vals_of number tuple)) (sym by.2)
    (subst (λ t. MemberLeaves reach question limits.size limits.rounds history function t (vals_of number tuple)) (sym by.3) leaves)
