-- What becomes of candidates.
use Rattle.std.specs.Prelude.{ℕ, ◌≡◌, ◌<◌, List}
use Rattle.sy_terms.specs.Expr.{Expr}
use Rattle.sy_grammar_base.specs.Questions.{Question}
use Rattle.sy_points.specs.Asked.{Asked}
use Rattle.sy_loop_spec.specs.Adding.{room}
use Rattle.sy_loop_spec.specs.Histories.{Counterexample}
use Rattle.sy_loop_spec.specs.Trials.{IsRefuted}
use Rattle.sy_loop_truth.specs.Traces.{AreTraced, AsksMore, LeavesRangeAt, MeetAll}
use Rattle.sy_loop_truth.specs.declared.calls.Adding.{Adding}
use Rattle.sy_loop_truth.specs.declared.calls.Adding.TheVariants as adding
use Rattle.sy_loop_truth.specs.declared.calls.Adding.TheVariants.{There, New}
use Rattle.sy_loop_candidate.specs.declared.trial.Trial.{Trial}
use Rattle.sy_loop_candidate.specs.declared.trial.Trial.TheVariants as trials
use Rattle.sy_loop_candidate.specs.declared.trial.Trial.TheVariants.{Due, Refuted, Asks, Full}

-- the trial by what became of the calls at the assignment of this place
abbrev pub trial_of : Adding → ℕ → Trial
trial_of There place = Refuted
trial_of New place = Asks
trial_of (adding.Full function) place = Full function place

-- what becomes of a candidate
abbrev pub Tries : Question → List Counterexample → List Expr → Asked → Asked → Trial → Type 0
Tries question history bodies before after Due =
    MeetAll question history bodies × AreTraced question history after bodies × (after ≡ before)
Tries question history bodies before after Refuted = IsRefuted question history after bodies × (after ≡ before)
Tries question history bodies before after Asks = room after < room before
Tries question history bodies before after (Full function place) = AsksMore question history after bodies function place
Tries question history bodies before after (trials.Leaves place) = LeavesRangeAt question history bodies place
