-- What comes of bodies that are tried one after the other.
use Rattle.std.specs.Prelude.{Bool, ◌≡◌, ◌<◌, List, length}
use Rattle.sy_terms.specs.Values.{Val}
use Rattle.sy_terms.specs.declared.op.Op.{Op}
use Rattle.sy_grammar_base.specs.Questions.{Question}
use Rattle.sy_query_limits.specs.declared.FailName.{FailName}
use Rattle.sy_query_limits.specs.declared.Limits.{Limits}
use Rattle.sy_query_base.specs.Asked.{Query}
use Rattle.sy_points.specs.Asked.{Asked}
use Rattle.sy_loop_spec.specs.declared.reach.Reach.{Reach}
use Rattle.sy_loop_spec.specs.Histories.{Counterexample}
use Rattle.sy_loop_truth.specs.Known.{left}
use Rattle.sy_loop_candidate.specs.Steps.{IsCandidateEnd}
use Rattle.sy_loop_candidate.specs.declared.step.Step.{Step}
use Rattle.sy_loop_candidate.specs.declared.step.Step.TheVariants.{Next, Again}
use Rattle.sy_loop_candidate.specs.declared.step.Step.TheVariants as steps
use Rattle.sy_loop_spec.specs.Adding.{KnownGrows}

-- a fact where nothing new is learned
abbrev pub OnNext : {T P S N : Type 0} → Type 0 → Step T P S N → Type 0
OnNext fact Next = fact
OnNext fact Again = Unit {0}
OnNext fact (steps.End end) = Unit {0}

-- what comes of bodies that are tried, by what is known before and after
abbrev pub Goes : {T P S N : Type 0} → (Op → Bool) → (N → Val) → (Query → P → Type 0) → (S → FailName) → (Query → Limits → FailName → S → Type 0) → Reach → Question → Limits → List Counterexample → Asked → List Counterexample → Asked → Step T P S N → Type 0
Goes owned number accepted budget shows reach question limits history asked history' asked' Next = (history' ≡ history) × (asked' ≡ asked)
Goes owned number accepted budget shows reach question limits history asked history' asked' Again =
    (left limits history' asked' < left limits history asked) × KnownGrows history asked history' asked' × (length history' < limits.rounds)
Goes owned number accepted budget shows reach question limits history asked history' asked' (steps.End end) =
    IsCandidateEnd owned number accepted budget shows reach question limits history' asked' end
