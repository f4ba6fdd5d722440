-- Bodies whose query is never satisfied solve the problem.
use Rattle.std.specs.Prelude.{◌⊎◌, true, false, List, [], ◌∷◌, ◌≡◌, refl, map, All}
use Rattle.std.proofs.Common.{⊎_elim, inl, inr, subst}
use Rattle.std.proofs.lemmas.List.Elements.{All-nil, All-cons, All-head, All-tail}
use Rattle.sy_terms.specs.Values.{Val, Truth, Whole, Bits}
use Rattle.sy_terms.specs.Expr.{Expr}
use Rattle.sy_terms.specs.Meaning.{meaning, functions, function_from}
use Rattle.sy_grammar_base.specs.Questions.{Question}
use Rattle.sy_grammar_base.specs.Solving.{IsTrueUnder, Meets, AreMembers}
use Rattle.sy_query_base.specs.Asked.{Query, IsNever}
use Rattle.sy_query_base.specs.Queries.{violating, Violates, IsViolation}
use Rattle.sy_query_base.specs.Solutions.{IsSolution}

-- a value is true or isn't
true_or_not : (value : Val) → (value ≡ Truth true) ⊎ (value ≡ Truth true → ⊥)
true_or_not (Truth true) = inl refl
true_or_not (Truth false) = inr (λ e. cc)
true_or_not (Whole z) = inr (λ e. cc)
true_or_not (Bits w n) = inr (λ e. cc)

all_true_or_not : (question : Question) (bodies : List Expr) (values : List Val) (terms : List Expr) → All (IsTrueUnder question bodies values) terms ⊎ (All (IsTrueUnder question bodies values) terms → ⊥)
all_true_or_not question bodies values [] = inl (All-nil (IsTrueUnder question bodies values))
all_true_or_not question bodies values (term ∷ terms) =
    let P : Expr → Type 0 = IsTrueUnder question bodies values in
    ⊎_elim
    (λ (first : P term). ⊎_elim
    (λ (rest : All P terms). inl (All-cons P term terms first rest))
    (λ (not : All P terms → ⊥). inr (λ (all : All P (term ∷ terms)). not (All-tail P term terms all)))
    (all_true_or_not question bodies values terms))
    (λ (not : P term → ⊥). inr (λ (all : All P (term ∷ terms)). not (All-head P term terms all)))
    (true_or_not (meaning (functions question.definitions) (map (function_from (functions question.definitions)) bodies) values term))

pub meets_unless : (question : Question) (bodies : List Expr) (values : List Val) → (Violates question bodies values → ⊥) → Meets question bodies values
meets_unless question bodies values none assumed = ⊎_elim
    (λ (all : All (IsTrueUnder question bodies values) question.constraints). all)
    (λ (not : All (IsTrueUnder question bodies values) question.constraints → ⊥). absurd (none (assumed, not)))
    (all_true_or_not question bodies values question.constraints)

-- bodies whose query is never satisfied solve the problem
pub solved : {P : Type 0} (accepted : Query → P → Type 0) (question : Question) (bodies : List Expr) (query : Query) (proof : P) → query ≡ violating question bodies → IsViolation question bodies query → IsNever query →
    accepted query proof → AreMembers question.goals bodies → IsSolution accepted question bodies proof
solved accepted question bodies query proof is says never accepts are_members =
    let never' : IsNever (violating question bodies) = subst IsNever is never in
    let says' : IsViolation question bodies (violating question bodies) = subst (IsViolation question bodies) is says in
    record {
      members = are_members;
      solves = λ values are. meets_unless question bodies values (λ violates. never' values are ((says' values are).1 violates).true);
      proved = subst (λ q. accepted q proof) is accepts;
    }
