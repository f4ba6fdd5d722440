-- What the simplex method answers is so of the path whose forms it is given.
use Rattle.std.specs.Prelude.{◌≡◌, List, length, Result, Ok, Err, IfOk}
use Rattle.std.proofs.Common.{sym, subst}
use Rattle.sy_terms.specs.declared.sort.Sort.{Sort}
use Rattle.sy_linear_known.specs.declared.form.Form.{Form}
use Rattle.sy_linear_known.specs.declared.path.Fact.{Fact}
use Rattle.sy_linear_known.specs.Trees.{forms}
use Rattle.sy_simplex.specs.declared.answer.Ended.{Ended}
use Rattle.sy_simplex.specs.declared.answer.Feasible.{Feasible}
use Rattle.sy_simplex.specs.declared.answer.Feasible.TheVariants.{Point, Conflict, Pivots, Range}
use Rattle.sy_simplex.specs.Problems.{AreForms}
use Rattle.sy_simplex.specs.Answers.{AnswerIsSound}
use Rattle.sy_intsolve_paths_laws.specs.Paths.{IsPath}
use Rattle.sy_intsolve_cuts.specs.Points.{IsSoundFor}
use Rattle.sy_intsolve_cuts.proofs.Dense.{path-forms}
use Rattle.sy_intsolve_cuts.proofs.Corners.{point-corner}
use Rattle.sy_intsolve_cuts.proofs.Conflicts.{refutation-contradiction}

pub forms-asked : (vars : List Sort) (path : List Fact) (fs : List Form) → IsPath vars path → fs ≡ forms path → AreForms (length vars) fs
forms-asked vars path fs p e = subst (AreForms (length vars)) (sym e) (path-forms vars path p)

answer-sound : (vars : List Sort) (path : List Fact) (answer : Feasible) → IsPath vars path → AnswerIsSound (length vars) (forms path) answer → IsSoundFor vars path answer
answer-sound vars path (Point point) p h = point-corner vars path point p h
answer-sound vars path (Conflict multipliers) p h = refutation-contradiction (length vars) (forms path) multipliers (path-forms vars path p) h.0 h.2 h.1
answer-sound vars path (Pivots run) p h = tt
answer-sound vars path (Range run) p h = tt

pub result-sound : {E : Type 0} (vars : List Sort) (path : List Fact) (fs : List Form) (result : Result Ended E) → IsPath vars path → fs ≡ forms path → IfOk result (λ end. AnswerIsSound (length vars) fs end.answer) → IfOk result (λ end. IsSoundFor vars path end.answer)
result-sound vars path fs (Ok end) p e h = answer-sound vars path end.answer p (subst (λ gs. AnswerIsSound (length vars) gs end.answer) e h)
result-sound vars path fs (Err want) p e h = tt
