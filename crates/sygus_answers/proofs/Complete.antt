-- Right answers are complete.
use Rattle.std.specs.Prelude.{Bool, List, [], ◌∷◌, map}
use Rattle.sy_terms.specs.Values.{Val, Whole}
use Rattle.sy_terms.specs.declared.op.Op.{Op}
use Rattle.sy_meaning_integers.specs.Lia as lia
use Rattle.sy_meaning_words.specs.Vectors as vectors
use Rattle.sy_grammar_base.specs.Questions.{Question}
use Rattle.sy_query_limits.specs.declared.FailName.{FailName}
use Rattle.sy_query_limits.specs.declared.Limits.{Limits}
use Rattle.sy_query_base.specs.Asked.{Query}
use Rattle.sy_intsolve_cuts.specs.Budgets as int_budgets
use Rattle.sy_intsolve_cuts.specs.declared.spent.IntSpent.{IntSpent}
use Rattle.sy_intsolve_cuts.specs.declared.spent.IntSpent.TheVariants as spent
use Rattle.sy_intsolve.specs.Proofs as int_proofs
use Rattle.sy_bits.specs.Proofs as bits
use Rattle.sy_bits.specs.declared.answers.BvSpent.{BvSpent}
use Rattle.sy_bits.specs.declared.answers.BvSpent.TheVariants as bits_spent
use Rattle.sy_loop.specs.Solvable.{IsFoundOrLimited}
use Rattle.sy_loop.proofs.Solvable.{complete}
use Rattle.sy_loop_spec.specs.declared.outcome.FailCause.TheVariants as causes
use Rattle.sy_loop_spec.specs.declared.outcome.Outcome.{Outcome}
use Rattle.sy_loop_spec.specs.declared.outcome.Outcome.TheVariants.{Found, Infeasible, Fail}
use Rattle.sygus_words.specs.Reaches.{reach_of}
use Rattle.sygus_replies.specs.Answered.{AreRight}
use Rattle.sygus_replies.specs.Replies.{reply_of}
use Rattle.sygus_words.specs.declared.settings.Mode.{Mode}
use Rattle.sygus_answers.specs.Answers.{replies_of}
use Rattle.sygus_answers.specs.declared.answers.Answers.{Answers}
use Rattle.sygus_answers.specs.declared.answers.Answers.TheVariants.{Idle, Ints, Bits, IntChecks, BitChecks, IntRechecks, BitRechecks, IntSpellings, BitSpellings}
use Rattle.sygus_answers.specs.Complete.{AreComplete, IsDefinedOrLimited, IsOtherLimit}
use Rattle.sygus_answers.specs.RightAnswers.{AreRightAnswers, RightOutcome}

-- no solver names a budget as the bound
ints_other : (it : IntSpent) → IsOtherLimit (int_budgets.budget it)
ints_other (spent.Nodes tree) = tt
ints_other (spent.Pivots tree path run) = tt
ints_other (spent.Range tree why) = tt

bits_other : (it : BvSpent) → IsOtherLimit (bits.budget it)
bits_other (bits_spent.Clauses cnf log) = tt

module _ {T P S N : Type 0} (owned : Op → Bool) (number : N → Val) (accepted : Query → P → Type 0) (budget : S → FailName) (shows : Query → Limits → FailName → S → Type 0)
    (other : (it : S) → IsOtherLimit (budget it)) (mode : Mode) (limits : Limits) where
  -- the reply of an outcome
  replied : (outcome : Outcome T P S N) → IsFoundOrLimited outcome → IsDefinedOrLimited (reply_of number budget outcome)
  replied (Found bodies proof) is = tt
  replied Infeasible is = is
  replied (Fail causes.Size) is = is
  replied (Fail (causes.Rounds stored)) is = tt
  replied (Fail (causes.Points stored function bodies assignment tuples)) is = tt
  replied (Fail (causes.Bank stored function bank nonterminal next)) is = tt
  replied (Fail (causes.Weight stored bodies)) is = tt
  replied (Fail (causes.Decide stored bodies it)) is = other it
  replied (Fail (causes.Range stored left)) is = tt

  all_complete : (questions : List Question) (outcomes : List (Outcome T P S N)) → AreRight (RightOutcome owned number accepted budget shows mode limits) questions outcomes
      → AreComplete mode limits questions (map (reply_of number budget) outcomes)
  unfolding AreRight
  all_complete questions [] right = tt
  all_complete [] (outcome ∷ outcomes) right = absurd right
  all_complete (question ∷ questions) (outcome ∷ outcomes) right = (
    λ some. replied outcome (complete owned number accepted budget shows (reach_of mode) question limits outcome right.0.right some),
    all_complete questions outcomes right.1,
  )

-- over either theory
pub answers_complete : (mode : Mode) (limits : Limits) (questions : List Question) (answers : Answers) → AreRightAnswers mode limits questions answers → AreComplete mode limits questions (replies_of answers)
unfolding AreRight
answers_complete mode limits questions Idle right = tt
answers_complete mode limits questions (Ints outcomes) right =
    all_complete lia.owned Whole int_proofs.Accepted int_budgets.budget int_proofs.ShowsFor ints_other mode limits questions outcomes right
answers_complete mode limits questions (Bits outcomes) right =
    all_complete vectors.owned vectors.vector bits.Accepted bits.budget bits.Shows bits_other mode limits questions outcomes right
answers_complete mode limits questions (IntChecks found) right = absurd right
answers_complete mode limits questions (BitChecks found) right = absurd right
answers_complete mode limits questions (IntRechecks found) right = absurd right
answers_complete mode limits questions (BitRechecks found) right = absurd right
answers_complete mode limits questions (IntSpellings found) right = absurd right
answers_complete mode limits questions (BitSpellings found) right = absurd right
