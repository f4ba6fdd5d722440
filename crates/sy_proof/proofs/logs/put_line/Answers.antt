use Rattle.std.proofs.Common.{◌++◌, ◌∷◌, [], ap, ◌∙◌, List, ℕ}
use Rattle.sy_proof.specs.Lists.{spaced}
use Rattle.sy_proof.specs.Logs.{steps_items}
use Rattle.sy_proof.proofs.LogsAgain.{line_text}
use Rattle.sy_proof.proofs.logs.put_line.Goals as goal

pub returns-clause-text : goal.returns-clause-text
returns-clause-text c =
    let line = c.args.line.now in
    c.in_ok-push.ensures.ok
    ∙ ap (λ (text : List ℕ). text ++ 41 ∷ []) (c.in_ok-put_steps.ensures.text ∙ ap (λ (steps : _). c.put_number.new.out ++ spaced (steps_items steps)) c.as_slice.ensures)
    ∙ ap (λ (text : List ℕ). (text ++ spaced (steps_items line.steps)) ++ 41 ∷ []) c.in_ok-put_number.ensures.text
    ∙ line_text line c.args.out.now c.append.new.self c.in_ok-append.ensures.ok
