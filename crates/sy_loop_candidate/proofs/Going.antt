-- What comes of bodies that are tried one after the other.
use Rattle.std.proofs.Common.{◌≡◌, ◌<◌, ⊎_elim, inr, ap, sym, subst, ◌∙◌, ℕ, Bool, List, [], ◌∷◌, length, arith}
use Rattle.std.specs.Prelude.{◌⊎◌}
use Rattle.std.specs.List.{Contains}
use Rattle.std.proofs.lemmas.List.Elements.{Contains-append_left}
use Rattle.std.proofs.lemmas.List.{length-map}
use Rattle.sy_terms.specs.Values.{Val}
use Rattle.sy_terms.specs.Expr.{Expr}
use Rattle.sy_terms.specs.declared.op.Op.{Op}
use Rattle.sy_grammar_base.specs.Questions.{Question}
use Rattle.sy_query_limits.specs.declared.FailName.{FailName}
use Rattle.sy_query_limits.specs.declared.Limits.{Limits}
use Rattle.sy_query_base.specs.Asked.{Query}
use Rattle.sy_points.specs.Asked.{Asked}
use Rattle.sy_points.specs.declared.stored.Stored.{Stored}
use Rattle.sy_loop_spec.specs.declared.reach.Reach.{Reach}
use Rattle.sy_loop_spec.specs.Histories.{Counterexample}
use Rattle.sy_loop_spec.specs.Stored.{counterexample_of, history_of}
use Rattle.sy_loop_truth.specs.Known.{left}
use Rattle.sy_loop_candidate.specs.Steps.{Decides, IsStored, Steps}
use Rattle.sy_loop_truth.specs.Traces as traces
use Rattle.sy_loop_candidate.specs.declared.step.Step.{Step}
use Rattle.sy_loop_candidate.specs.declared.step.Step.TheVariants.{Next, Again}
use Rattle.sy_loop_candidate.specs.declared.step.Step.TheVariants as steps
use Rattle.sy_loop_spec.specs.Trials.{IsRefuted}
use Rattle.sy_loop_spec.specs.Adding.{KnownGrows}
use Rattle.sy_loop_candidate.specs.Going.{Goes, OnNext}

-- as many stored pairs as the history has
pub same_room : {T N : Type 0} (number : N → Val) (before after : Stored T N) (rounds : ℕ) → history_of number after ≡ history_of number before → length before.items < rounds → length after.items < rounds
same_room number before after rounds same room =
    omega (arith, room, ap length same, length-map before.items (counterexample_of number), length-map after.items (counterexample_of number))

-- what a candidate leaves has what was known
grown : (question : Question) (bodies : List Expr) (history history' : List Counterexample) (asked asked' : Asked) → (history' ≡ history) ⊎ IsStored question bodies history history' asked' → traces.TuplesGrow asked asked' → KnownGrows history asked history' asked'
grown question bodies history history' asked asked' stored grows = record {
  stored = λ c of. ⊎_elim
      (λ (same : history' ≡ history). subst (λ h. Contains h c) (sym same) of)
      (λ (more : IsStored question bodies history history' asked'). subst (λ h. Contains h c) (sym more.is) (Contains-append_left history (more.counterexample ∷ []) c of))
      stored;
  tuples = grows.keeps;
}

-- facts of where nothing new is learned
pub next_weaker : {T P S N : Type 0} (A B : Type 0) (step : Step T P S N) → (A → B) → OnNext A step → OnNext B step
next_weaker A B Next weaker fact = weaker fact
next_weaker A B Again weaker fact = tt
next_weaker A B (steps.End end) weaker fact = tt

pub next_always : {T P S N : Type 0} (A : Type 0) (step : Step T P S N) → A → OnNext A step
next_always A Next fact = fact
next_always A Again fact = tt
next_always A (steps.End end) fact = tt

module _ {T P S N : Type 0} (owned : Op → Bool) (number : N → Val) (accepted : Query → P → Type 0) (budget : S → FailName) (shows : Query → Limits → FailName → S → Type 0) (reach : Reach) (question : Question) (limits : Limits) where
  -- one candidate
  pub goes_by : (bodies : List Expr) (history history' : List Counterexample) (asked asked' : Asked) (step : Step T P S N) → Steps owned number accepted budget shows reach question limits bodies history asked history' asked' step → traces.TuplesGrow asked asked' →
      Goes owned number accepted budget shows reach question limits history asked history' asked' step
  goes_by bodies history history' asked asked' Next came grows = (came.1, came.2)
  goes_by bodies history history' asked asked' Again came grows = (came.0, grown question bodies history history' asked asked' came.1 grows, came.2)
  goes_by bodies history history' asked asked' (steps.End end) came grows = came.0

  -- one that was due
  pub decided_goes : (bodies : List Expr) (history history' : List Counterexample) (asked asked' : Asked) (step : Step T P S N) → Decides owned number accepted budget shows reach question limits bodies history asked history' asked' step → traces.TuplesGrow asked asked' →
      Goes owned number accepted budget shows reach question limits history asked history' asked' step
  decided_goes bodies history history' asked asked' Next came grows = absurd came
  decided_goes bodies history history' asked asked' Again came grows = (came.0, grown question bodies history history' asked asked' (inr came.1) grows, came.2)
  decided_goes bodies history history' asked asked' (steps.End end) came grows = came.0

  -- by which something new is learned
  pub never_next : (A : Type 0) (bodies : List Expr) (history history' : List Counterexample) (asked asked' : Asked) (step : Step T P S N) → Decides owned number accepted budget shows reach question limits bodies history asked history' asked' step → OnNext A step
  never_next A bodies history history' asked asked' Next came = absurd came
  never_next A bodies history history' asked asked' Again came = tt
  never_next A bodies history history' asked asked' (steps.End end) came = tt

  -- after others by which nothing changed
  pub goes_after : (first history history' : List Counterexample) (initial asked asked' : Asked) (step : Step T P S N) → history ≡ first → asked ≡ initial → Goes owned number accepted budget shows reach question limits history asked history' asked' step →
      Goes owned number accepted budget shows reach question limits first initial history' asked' step
  goes_after first history history' initial asked asked' Next same same' came = (came.0 ∙ same, came.1 ∙ same')
  goes_after first history history' initial asked asked' Again same same' came =
      (subst (λ h. left limits history' asked' < left limits h initial) same (subst (λ a. left limits history' asked' < left limits history a) same' came.0), subst (λ h. KnownGrows h initial history' asked') same (subst (λ a. KnownGrows history a history' asked') same' came.1), came.2)
  goes_after first history history' initial asked asked' (steps.End end) same same' came = came

  -- where nothing new is learned, it is refuted
  pub refuted_by : (A : Type 0) (bodies : List Expr) (history history' : List Counterexample) (asked asked' : Asked) (step : Step T P S N) → Steps owned number accepted budget shows reach question limits bodies history asked history' asked' step →
      (IsRefuted question history asked bodies → A) → OnNext A step
  refuted_by A bodies history history' asked asked' Next came then = then came.0
  refuted_by A bodies history history' asked asked' Again came then = tt
  refuted_by A bodies history history' asked asked' (steps.End end) came then = tt
