use Rattle.std.proofs.Common.{◌≡◌}
use Rattle.sygus_answers.proofs.Lines.{idle_line}
use Rattle.sygus_drills.proofs.drills.drill.Goals as goal

pub returns-in-Err-clause-memory_line : goal.returns-in-Err-clause-memory_line
returns-in-Err-clause-memory_line g c is =
    let not : c.unanswered.result.status ≡ 5 → ⊥ = λ h. cc in
    idle_line _ _ _ _ c.unanswered.ensures.answers (c.unanswered.ensures.written not).1
