-- What is known before the first round.
use Rattle.std.proofs.Common.{◌≡◌, ◌≤◌, refl, ap, sym, subst, ◌∙◌, ℕ, zero, suc, List, [], length, arith, replicate, slice_index_or}
use Rattle.std.specs.List.{All, Contains}
use Rattle.std.proofs.lemmas.List.{length-replicate}
use Rattle.std.proofs.lemmas.List.Elements.{All-replicate}
use Rattle.sy_terms.specs.Values.{Val}
use Rattle.sy_grammar_base.specs.Questions.{Question}
use Rattle.sy_query_limits.specs.declared.Limits.{Limits}
use Rattle.sy_points.specs.Asked.{Asked, AreDistinct}
use Rattle.sy_loop_spec.specs.declared.reach.Reach.{Reach}
use Rattle.sy_loop_truth.specs.Known.{IsKnown}
use Rattle.sy_loop_truth.proofs.Traced.{no_element}

no_tuples : (functions function : ℕ) → let none : List (List Val) = [] in slice_index_or (replicate functions none) function [] ≡ none
no_tuples zero function = refl
no_tuples (suc functions) zero = refl
no_tuples (suc functions) (suc function) = no_tuples functions function

-- nothing is known yet
pub nothing_known : (reach : Reach) (question : Question) (limits : Limits) (asked : Asked) (functions : ℕ) → functions ≡ length question.goals → asked.tuples ≡ replicate functions [] → asked.limit ≡ limits.points → IsKnown reach question limits [] asked
nothing_known reach question limits asked functions all none limit =
    let is_none : (function : ℕ) (tuple : List Val) → Contains (slice_index_or asked.tuples function []) tuple → ⊥ =
    λ function tuple at. no_element tuple (subst (λ ts. Contains ts tuple) (ap (λ lists. slice_index_or lists function []) none ∙ no_tuples functions function) at) in
    let bounded : AreDistinct [] × (0 ≤ asked.limit) = (tt, omega arith) in
    record {
      held = record {
        assigned = λ place c at. absurd (cc);
        limit = limit;
        functions = ap length none ∙ length-replicate functions [] ∙ all;
        bounded = subst (λ lists. All (λ (ts : List (List Val)). AreDistinct ts × (length ts ≤ asked.limit)) lists) (sym none) (All-replicate (λ (ts : List (List Val)). AreDistinct ts × (length ts ≤ asked.limit)) functions [] bounded);
        taken = λ function tuple at. absurd (is_none function tuple at);
      };
      honest = record { few = omega arith; each = λ place c at. absurd (cc) };
      met = λ function tuple at. absurd (is_none function tuple at);
    }
