use Rattle.std.proofs.Common.{◌++◌, ◌∷◌, [], ap, ◌∙◌, List, ℕ, subst}
use Rattle.std.specs.Prelude.{All}
use Rattle.sy_proof.specs.Lists.{each_item, spaced}
use Rattle.sy_proof.specs.Logs.{line_item, LineIsSmall}
use Rattle.sy_proof.proofs.LogsAgain.{log_text, reads_again}
use Rattle.sy_proof.proofs.logs.write_log.Goals as goal

pub returns-clause-text : goal.returns-clause-text
returns-clause-text c =
    c.in_ok-append-2.ensures.ok
    ∙ ap (λ (text : List ℕ). text ++ 41 ∷ 10 ∷ []) (c.in_ok-put_lines.ensures.text ∙ ap (λ (lines : _). c.append.new.self ++ spaced (each_item line_item lines)) c.as_slice.ensures)
    ∙ ap (λ (text : List ℕ). (text ++ spaced (each_item line_item c.args.log.now.lines)) ++ 41 ∷ 10 ∷ []) (c.in_ok-append.ensures.ok ∙ ap (λ (text : List ℕ). text ++ 40 ∷ 108 ∷ 111 ∷ 103 ∷ []) c.new-out.ensures)
    ∙ log_text c.args.log.now.lines

pub returns-clause-again : goal.returns-clause-again
returns-clause-again c = reads_again c.args.log.now.lines c.append-2.new.self (subst (All LineIsSmall) c.as_slice.ensures c.in_ok-put_lines.ensures.small) (returns-clause-text c)
