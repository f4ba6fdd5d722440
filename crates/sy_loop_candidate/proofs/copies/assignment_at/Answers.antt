use Rattle.std.proofs.Common.{◌≡◌, ◌∙◌, List, arith}
use Rattle.std.proofs.lemmas.Result.{IfOk-weaker}
use Rattle.sy_terms.specs.declared.sort.Value.{Value}
use Rattle.sy_terms.specs.declared.term.Term.{Term}
use Rattle.sy_loop_candidate.specs.Steps.{IsStoredAt}
use Rattle.sy_loop_candidate.proofs.Assignments.{stored_copy}
use Rattle.sy_loop_candidate.proofs.copies.assignment_at.Goals as goal

pub unreachable-requires : goal.unreachable-requires
unreachable-requires g c = omega (arith, c.requires, c.in_default.ensures)

pub returns : goal.returns
returns g c =
    let number = g.T.Theory.denotes in
    let pair : List (Value g.row.T-Num.Denot) × List (Term g.row.T.Denot g.row.T-Num.Denot) = (c.in-Some.assignment.now, c.in-Some.field-0-1.now) in
    IfOk-weaker c.copied_values.result (λ (copy : List (Value g.row.T-Num.Denot)). copy ≡ c.as_slice.result.now) (IsStoredAt number c.args.stored.now c.args.place)
    (λ copy same. stored_copy number c.args.stored.now c.args.place pair copy c.in-Some.ensures (same ∙ c.as_slice.ensures)) c.copied_values.ensures
