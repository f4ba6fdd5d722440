-- The names of fails over each theory.
use Rattle.std.specs.Prelude.{Bool, true, false, not, List, [], ◌∷◌, map, All, ◌≡◌, refl}
use Rattle.std.proofs.lemmas.List.Elements.{All-nil, All-cons, All-head, All-tail}
use Rattle.sy_terms.specs.Values.{Val}
use Rattle.sy_terms.specs.Theories.{fits, in_ints}
use Rattle.sy_terms.specs.declared.op.Op.{Op}
use Rattle.sy_terms.specs.declared.op.Op.TheVariants as ops
use Rattle.sy_grammar_base.specs.Fits.{QuestionFits}
use Rattle.sy_grammar_base.specs.Questions.{Question}
use Rattle.sy_meaning_words.specs.declared.word.Word.{Word}
use Rattle.sy_meaning_words.specs.Vectors as vectors
use Rattle.sy_query_limits.specs.declared.Limits.{Limits}
use Rattle.sy_intsolve_cuts.specs.Budgets as int_budgets
use Rattle.sy_intsolve_cuts.specs.declared.spent.IntSpent.{IntSpent}
use Rattle.sy_intsolve_cuts.specs.declared.spent.IntSpent.TheVariants.{Nodes, Pivots}
use Rattle.sy_intsolve_cuts.specs.declared.spent.IntSpent.TheVariants as spent
use Rattle.sy_bits.specs.Proofs as bits
use Rattle.sy_bits.specs.declared.answers.BvProof.{BvProof}
use Rattle.sy_bits.specs.declared.answers.BvSpent.{BvSpent}
use Rattle.sy_bits.specs.declared.answers.BvSpent.TheVariants.{Clauses}
use Rattle.sy_loop_spec.specs.declared.outcome.FailCause.TheVariants.{Size, Rounds, Points, Bank, Weight, Decide, Range}
use Rattle.sy_loop_spec.specs.declared.outcome.Outcome.{Outcome}
use Rattle.sy_loop_spec.specs.declared.outcome.Outcome.TheVariants.{Found, Infeasible, Fail}
use Rattle.sygus_answers.proofs.Ranges.{never_leaves}
use Rattle.sygus_replies.specs.Replies.{reply_of}
use Rattle.sygus_replies.specs.Answered.{AreRight}
use Rattle.sygus_words.specs.declared.settings.Mode.{Mode}
use Rattle.sygus_answers.specs.RightAnswers.{RightOutcome}
use Rattle.sygus_answers.specs.Answers.{is_of_integers, is_of_vectors, IsNotNamed}

-- over integers only the solver names its budgets, and none of its budgets is that of vectors
int_named : {T P N : Type 0} (number : N → Val) (outcome : Outcome T P IntSpent N) → IsNotNamed is_of_vectors (reply_of number int_budgets.budget outcome)
int_named number (Found bodies proof) = tt
int_named number Infeasible = tt
int_named number (Fail Size) = refl
int_named number (Fail (Rounds stored)) = refl
int_named number (Fail (Points stored function bodies assignment tuples)) = refl
int_named number (Fail (Bank stored function bank nonterminal next)) = refl
int_named number (Fail (Weight stored bodies)) = refl
int_named number (Fail (Decide stored bodies (Nodes tree))) = refl
int_named number (Fail (Decide stored bodies (Pivots tree path run))) = refl
int_named number (Fail (Decide stored bodies (spent.Range tree why))) = refl
int_named number (Fail (Range stored left)) = refl

pub ints_named : {T P N : Type 0} (number : N → Val) (outcomes : List (Outcome T P IntSpent N)) → All (IsNotNamed is_of_vectors) (map (reply_of number int_budgets.budget) outcomes)
ints_named number [] = All-nil (IsNotNamed is_of_vectors)
ints_named number (outcome ∷ outcomes) =
    All-cons (IsNotNamed is_of_vectors) (reply_of number int_budgets.budget outcome) (map (reply_of number int_budgets.budget) outcomes) (int_named number outcome) (ints_named number outcomes)

-- over bit vectors no number leaves its range: only operators of integers give numbers that may
fit_but_integers : (op : Op) (values : List Val) → in_ints op ≡ false → fits op values ≡ true
unfolding fits
fit_but_integers ops.Neg values other = cc
fit_but_integers ops.Abs values other = cc
fit_but_integers ops.Sub values other = cc
fit_but_integers ops.Add values other = cc
fit_but_integers ops.Mul values other = cc
fit_but_integers ops.Div values other = cc
fit_but_integers _ values other = refl

negated : (b : Bool) → not b ≡ true → b ≡ false
negated false is = refl
negated true is = cc

pub vectors_fit : (op : Op) (values : List Val) → vectors.owned op ≡ true → fits op values ≡ true
vectors_fit op values owned = fit_but_integers op values (negated (in_ints op) owned)

bit_named : {T : Type 0} (mode : Mode) (limits : Limits) (question : Question) (outcome : Outcome T BvProof BvSpent Word) → QuestionFits vectors.owned vectors.is_bits question
    → RightOutcome vectors.owned vectors.vector bits.Accepted bits.budget bits.Shows mode limits question outcome → IsNotNamed is_of_integers (reply_of vectors.vector bits.budget outcome)
bit_named mode limits question (Found bodies proof) fit right = tt
bit_named mode limits question Infeasible fit right = tt
bit_named mode limits question (Fail Size) fit right = refl
bit_named mode limits question (Fail (Rounds stored)) fit right = refl
bit_named mode limits question (Fail (Points stored function bodies assignment tuples)) fit right = refl
bit_named mode limits question (Fail (Bank stored function bank nonterminal next)) fit right = refl
bit_named mode limits question (Fail (Weight stored bodies)) fit right = refl
bit_named mode limits question (Fail (Decide stored bodies (Clauses cnf log))) fit right = refl
bit_named mode limits question (Fail (Range stored left)) fit right =
    absurd (never_leaves vectors.owned vectors.is_bits (λ e. absurd cc) vectors_fit vectors.vector _ question limits _ left fit right.right)

pub bits_named : {T : Type 0} (mode : Mode) (limits : Limits) (questions : List Question) (outcomes : List (Outcome T BvProof BvSpent Word)) → All (QuestionFits vectors.owned vectors.is_bits) questions
    → AreRight (RightOutcome vectors.owned vectors.vector bits.Accepted bits.budget bits.Shows mode limits) questions outcomes → All (IsNotNamed is_of_integers) (map (reply_of vectors.vector bits.budget) outcomes)
unfolding AreRight
bits_named mode limits questions [] fit right = All-nil (IsNotNamed is_of_integers)
bits_named mode limits [] (outcome ∷ outcomes) fit right = absurd right
bits_named mode limits (question ∷ questions) (outcome ∷ outcomes) fit right =
    All-cons (IsNotNamed is_of_integers) (reply_of vectors.vector bits.budget outcome) (map (reply_of vectors.vector bits.budget) outcomes)
    (bit_named mode limits question outcome (All-head (QuestionFits vectors.owned vectors.is_bits) question questions fit) right.0)
    (bits_named mode limits questions outcomes (All-tail (QuestionFits vectors.owned vectors.is_bits) question questions fit) right.1)
