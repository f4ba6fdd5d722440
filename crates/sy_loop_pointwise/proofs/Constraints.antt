-- Constraints that are kept make a pointwise problem.
use Rattle.std.specs.Prelude.{ℕ, zero, suc, ◌<◌, List, [], ◌∷◌, ◌≡◌, refl, ◌++◌, length, map, All, slice_get, Option, Some, None, Bool, IsTrue, MatchOption}
use Rattle.std.proofs.Common.{ap, sym, ◌∙◌, subst, arith, get_or, inl, inr}
use Rattle.std.proofs.lemmas.Bool.{true≢false}
use Rattle.std.specs.Option.{is_some, option_map}
use Rattle.std.proofs.lemmas.Option.{slice_get-get_or, slice_get_within, slice_get-map, get_or_from_slice_get}
use Rattle.std.proofs.lemmas.List.Elements.{All-get_or}
use Rattle.sy_terms.specs.Values.{Val}
use Rattle.sy_terms.specs.Denoted.{expr_of}
use Rattle.sy_terms.specs.Expr.{Expr, Exprs, none}
use Rattle.sy_terms.specs.declared.term.Term.{Term}
use Rattle.sy_grammar_base.specs.Questions.{Question}
use Rattle.sy_loop_spec.specs.Applications.{applications}
use Rattle.sy_loop_spec.specs.Pointwise.{IsPosed, IsPointwise}
use Rattle.sy_loop_spec.specs.WrittenOut.{written_out}
use Rattle.sy_loop_pointwise.proofs.Lists.{at_more}
use Rattle.sy_loop_pointwise.specs.Posed.{PosesConstraint, ArePosed}
use Rattle.sy_loop_pointwise.specs.declared.posed.Posed.{Posed}
use Rattle.sy_loop_pointwise.specs.declared.posed.Posed.TheVariants.{Free, Applies}
use Rattle.sy_loop_pointwise.proofs.Asked.{nothing_at_once}

-- the constraint's applications have one list of arguments
pub is_posed : {T N : Type 0} (question : Question) (constraint : Expr) (posed : Posed T N) → PosesConstraint question constraint posed → (arguments : Exprs) × IsPosed (written_out question constraint) arguments
is_posed question constraint Free nothing =
    let all = nothing_at_once (applications (written_out question constraint)) nothing in
    (none, record { same = all.same; plain = all.plain })
is_posed question constraint (Applies shapes call) is = (is.application.1, record { same = is.at_once.same; plain = is.at_once.plain })

there : {A : Type 0} (items : List A) (place : ℕ) → place < length items → (item : A) × (slice_get items place ≡ Some item)
there [] place within = absurd (omega (arith, within))
there (item ∷ items) zero within = (item, refl)
there (item ∷ items) (suc place) within = there items place (omega (arith, within))

pub all_posed : {T N : Type 0} (question : Question) (all : List (Posed T N)) → length question.goals ≡ 1 → ArePosed question all → IsPointwise question
all_posed {T} {N} question all one are = record {
  one = one;
  posed = λ place other within.
      let posed = there all place (omega (arith, within, are.many)) in
      let constraint = get_or question.constraints place other in
      is_posed question constraint posed.0 (are.each place constraint posed.0 (slice_get-get_or question.constraints place other within) posed.1);
}

-- a constraint whose applications have no one list of arguments
pub not_pointwise : (question : Question) (place : ℕ) (constraint : Expr) → slice_get question.constraints place ≡ Some constraint → ((arguments : Exprs) → IsPosed (written_out question constraint) arguments → ⊥) → IsPointwise question → ⊥
not_pointwise question place constraint at never pointwise =
    let found = All-get_or (λ term. (arguments : Exprs) × IsPosed (written_out question term) arguments) question.constraints place constraint (slice_get_within question.constraints place constraint at) pointwise.posed in
    let this = subst (λ term. (arguments : Exprs) × IsPosed (written_out question term) arguments) (get_or_from_slice_get question.constraints place constraint constraint at) found in
    never this.0 this.1

-- the constraint at a place
pub constraint_at : {T N : Type 0} (number : N → Val) (constraints slice : List (Term T N)) (place : ℕ) (term : Term T N) → slice ≡ constraints → place < length slice → term ≡ get_or slice place term →
    slice_get (map (expr_of number) constraints) place ≡ Some (expr_of number term)
constraint_at {T} {N} number constraints slice place term same within is =
    let at : slice_get slice place ≡ Some term = slice_get-get_or slice place term within ∙ ap (λ (t : Term T N). Some t) (sym is) in
    slice_get-map (expr_of number) constraints place ∙ ap (λ (ts : List (Term T N)). option_map (expr_of number) (slice_get ts place)) (sym same) ∙ ap (option_map (expr_of number)) at

-- one constraint more is kept
pub kept_more : {T N : Type 0} (question : Question) (all : List (Posed T N)) (index : ℕ) (constraint : Expr) (posed : Posed T N) → length all ≡ index →
    ((place : ℕ) (other : Expr) (found : Posed T N) → slice_get question.constraints place ≡ Some other → slice_get all place ≡ Some found → PosesConstraint question other found) →
    slice_get question.constraints index ≡ Some constraint → PosesConstraint question constraint posed →
    (place : ℕ) (other : Expr) (found : Posed T N) → slice_get question.constraints place ≡ Some other → slice_get (all ++ posed ∷ []) place ≡ Some found → PosesConstraint question other found
kept_more {T} {N} question all index constraint posed many each here poses place other found at there = elim (at_more all posed place found there) [
  | inl before ↦ each place other found at before
  | inr end ↦
      let same : Some constraint ≡ Some other = sym here ∙ ap (slice_get question.constraints) (sym (end.0 ∙ many)) ∙ at in
      let is : constraint ≡ other = cc in
      subst (λ (p : Posed T N). PosesConstraint question other p) end.1 (subst (λ e. PosesConstraint question e posed) is poses)
]

-- an answer by whether something was found
pub answered : {X : Type 0} (found : Option X) (P : Type 0) (Q : X → Type 0) (answer : Bool) → answer ≡ is_some found → MatchOption found (P → ⊥) (λ x. P × Q x) → (IsTrue answer → P) × (P → IsTrue answer)
answered None P Q answer is told = (λ yes. absurd (true≢false (sym yes ∙ is)), λ p. absurd (told p))
answered (Some x) P Q answer is told = (λ yes. told.0, λ p. is)
