-- Facts of a path, and points that meet them one after the other.
use Rattle.std.specs.Prelude.{◌≡◌, ℕ, zero, suc, ◌<◌, ◌+◌, Bool, true, false, List, [], ◌∷◌, length, get_or, take, All, Some, slice_get, Result, Ok}
use Rattle.std.proofs.Common.{sym, subst}
use Rattle.std.proofs.lemmas.List.{take_more}
use Rattle.std.proofs.lemmas.List.Elements.{All-nil, All-head, All-tail}
use Rattle.sy_frac.specs.Fraction.{Fraction}
use Rattle.sy_terms.specs.Values.{Truth}
use Rattle.sy_terms.specs.Expr.{Constant}
use Rattle.sy_terms.specs.declared.sort.Sort.{Sort}
use Rattle.sy_linear_known.specs.declared.path.Fact.{Fact}
use Rattle.sy_linear_known.specs.Points.{form_value_at}
use Rattle.sy_linear_known.specs.Trees.{Farkas, forms, IsContradiction}
use Rattle.sy_linear_known.specs.declared.tree.CheckEnd.{CheckEnd}
use Rattle.sy_linear.specs.Judging.{Judgement, Accepted, TellsJudgement, contradiction_judged, judged}
use Rattle.sy_linear.proofs.Refuting.{accepted}
use Rattle.sy_simplex.specs.Problems.{numbers}
use Rattle.sy_frac.specs.Rational.{is_negative_rational}
use Rattle.sy_intsolve_cuts.specs.Points.{IsPointOf, IsMetBy}
use Rattle.sy_intsolve_cuts.proofs.Wholes.{at-more}

-- what all have, the one at a place has
pub all_at : (P : Fact → Type 0) (facts : List Fact) (i : ℕ) (fact : Fact) → All P facts → slice_get facts i ≡ Some fact → P fact
all_at P [] i fact h e = absurd cc
all_at P (first ∷ facts) zero fact h e =
    let same : first ≡ fact = cc in
    subst P same (All-head P first facts h)
all_at P (first ∷ facts) (suc i) fact h e = all_at P facts i fact (All-tail P first facts h) e

-- of a point of a path only its own length and its truth values are asked where there are no facts
pub at_none : (vars : List Sort) (path : List Fact) (point : List Fraction) → IsPointOf vars path point → IsPointOf vars [] point
at_none vars path point h = record {
  len = h.len;
  met = All-nil (λ f. is_negative_rational (form_value_at f (numbers point)) ≡ false);
  truths = h.truths;
}

-- one fact more is met
pub at_next : (vars : List Sort) (facts : List Fact) (i : ℕ) (point : List Fraction) (fact : Fact) → i < length facts → IsPointOf vars (take i facts) point → IsMetBy point (get_or facts i fact) → IsPointOf vars (take (i + 1) facts) point
at_next vars facts i point fact l h m = subst (λ path. IsPointOf vars path point) (sym (take_more facts i fact l)) (at-more vars (take i facts) point (get_or facts i fact) h m)

-- an answer `true` says that it is accepted
pub told : (result : Result Bool CheckEnd) (b : Bool) (judgement : Judgement) → result ≡ Ok b → b ≡ true → TellsJudgement result judgement → judgement ≡ Accepted
told result b judgement e f h = subst (λ t. TellsJudgement (Ok t) judgement) f (subst (λ r. TellsJudgement r judgement) e h)

-- accepted multipliers combine the forms to a negative constant
pub contradicted : (path : List Fact) (ms : List Fraction) (n : ℕ) → contradiction_judged path n ms ≡ Accepted → IsContradiction ms (forms path)
unfolding judged
contradicted path ms n e = accepted (record { vars = []; body = Constant (Truth true) }) path n (Farkas ms) e
