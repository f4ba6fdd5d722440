-- What a solver's answer to the query of bodies says of the bodies.
use Rattle.std.specs.Prelude.{ℕ, Bool, ◌≡◌, refl, List}
use Rattle.std.proofs.Common.{subst, sym}
use Rattle.sy_text_items.specs.Items.{Item}
use Rattle.sy_terms.specs.Values.{Val}
use Rattle.sy_terms.specs.Expr.{Expr}
use Rattle.sy_terms.specs.declared.op.Op.{Op}
use Rattle.sy_grammar_base.specs.Questions.{Question}
use Rattle.sy_query_base.specs.Asked.{Query, Satisfies, IsNever}
use Rattle.sy_query_base.specs.Queries.{violating, IsViolation}
use Rattle.sy_query_base.specs.Solutions.{IsSolution}
use Rattle.sy_query_base.proofs.Solved.{solved}
use Rattle.sy_query_base.proofs.Violations.{says}
use Rattle.sy_verify.specs.Checking.{IsCounterexample}
use Rattle.sy_verify.specs.Posing.{IsPosed}
use Rattle.sy_verify.specs.Rechecking.{IsProved}

-- a query that is never satisfied
pub holds : {P : Type 0} (accepted : Query → P → Type 0) (owned : Op → Bool) (question : Question) (bodies : List Expr) (limit : ℕ) (query : Query) (proof : P) → IsPosed owned question bodies limit → query ≡ violating question bodies →
    IsNever query → accepted query proof → IsSolution accepted question bodies proof
holds accepted owned question bodies limit query proof posed is never accepts =
    solved accepted question bodies query proof is (subst (IsViolation question bodies) (sym is) (says question bodies)) never accepts posed.members

-- values that satisfy it
pub refuted : (question : Question) (bodies : List Expr) (query : Query) (values : List Val) → query ≡ violating question bodies → Satisfies query values → IsCounterexample question bodies values
refuted question bodies query values is satisfies =
    let satisfies' : Satisfies (violating question bodies) values = subst (λ q. Satisfies q values) is satisfies in
    record { sorted = satisfies'.sorted; violates = (says question bodies values satisfies'.sorted).0 satisfies' }

-- a query that an item proves never to be satisfied
pub proved : (proves : Query → Item → Type 0) (owned : Op → Bool) (question : Question) (bodies : List Expr) (limit : ℕ) (query : Query) (item : Item) → IsPosed owned question bodies limit → query ≡ violating question bodies →
    IsNever query → proves query item → IsProved proves question bodies item
proved proves owned question bodies limit query item posed is never proof =
    let solution = solved proves question bodies query item is (subst (IsViolation question bodies) (sym is) (says question bodies)) never proof posed.members in
    record { solves = solution.solves; proof = subst (λ q. proves q item) is proof }
