-- What a solver's answer to the query of bodies says of them.
use Rattle.std.proofs.Common.{◌≡◌, ℕ, List, map, subst}
use Rattle.sy_terms.specs.Denoted.{expr_of, vals_of}
use Rattle.sy_terms.specs.declared.term.Term.{Term}
use Rattle.sy_terms.specs.declared.theory.Theory.{Ghosts as TheoryOf}
use Rattle.sy_grammar_base.specs.Questions.{question_of}
use Rattle.sy_grammar_base.specs.Solving.{AreValues}
use Rattle.sy_grammar_base.specs.declared.problem.Problem.{Problem}
use Rattle.sy_query_limits.specs.declared.Limits.{Limits}
use Rattle.sy_query_base.specs.Asked.{Query, IsNever}
use Rattle.sy_query_base.specs.Queries.{violating, IsViolation}
use Rattle.sy_query_base.specs.Answers.{Answers}
use Rattle.sy_query_base.specs.declared.decide.Decide.{Ghosts as DecideOf}
use Rattle.sy_query_base.specs.declared.verdict.Verdict.{Verdict}
use Rattle.sy_query_base.specs.declared.verdict.Verdict.TheVariants.{Never, Model, Spent}
use Rattle.sy_loop_candidate.proofs.Ending.{members}
use Rattle.sy_query_base.proofs.Solved.{solved}
use Rattle.sy_loop_bodies.specs.Clauses.{AreWithinFor, IsVerdictFor}

pub verdict_on_bodies : {T N D P S : Type 0} (theory : TheoryOf T N) (solver : DecideOf D T P S N) (problem : Problem T N) (limits : Limits) (bound : ℕ) (bodies : List (Term T N)) (query : Query) (verdict : Verdict T P S N) →
    ((proof : P) → solver.accepted query proof → IsNever query) → query ≡ violating (question_of theory.denotes problem) (map (expr_of theory.denotes) bodies) →
    IsViolation (question_of theory.denotes problem) (map (expr_of theory.denotes) bodies) query → AreWithinFor theory problem bound bodies →
    Answers theory.denotes solver.accepted solver.budget solver.shows query limits verdict → IsVerdictFor theory solver problem bound bodies verdict
verdict_on_bodies theory solver problem limits bound bodies query (Never proof) never is violations within accepts =
    let question = question_of theory.denotes problem in
    let terms = map (expr_of theory.denotes) bodies in
    (solved solver.accepted question terms query proof is violations (never proof accepts) accepts (members question.pool bound question.goals terms within), within)
verdict_on_bodies theory solver problem limits bound bodies query (Model values) never is violations within satisfies =
    subst (λ (asked : Query). AreValues asked.variables (vals_of theory.denotes values)) is satisfies.sorted
verdict_on_bodies theory solver problem limits bound bodies query (Spent kept) never is violations within shows = tt
