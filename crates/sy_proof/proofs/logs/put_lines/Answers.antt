use Rattle.std.proofs.Common.{◌<◌, ◌∷◌, length, refl, subst, arith, List}
use Rattle.std.specs.Prelude.{All}
use Rattle.std.proofs.lemmas.List.{take_all}
use Rattle.std.proofs.lemmas.List.Elements.{All-more}
use Rattle.sy_clauses.specs.declared.Line.{Line}
use Rattle.sy_proof.specs.Lists.{each_item, spaced}
use Rattle.sy_text.specs.Spelling.{item_text}
use Rattle.sy_proof.specs.Logs.{line_item, LineIsSmall}
use Rattle.sy_proof.proofs.Lists.{written_step}
use Rattle.sy_proof.proofs.logs.put_lines.Goals as goal

pub loop-line-preserved : goal.loop-line-preserved
loop-line-preserved c =
    let within : c.loop-line.line-index < length c.args.lines.now = omega arith in
    record {
      text = written_step (λ (lines : List Line). spaced (each_item line_item lines)) (λ (line : Line). 32 ∷ item_text (line_item line)) (λ line lines. refl) c.args.lines.now c.loop-line.line-index c.line-item.result c.line-item.result c.loop-line.out c.put_line.new.out _ within c.line-item.is c.in_ok-put_line.ensures.text c.loop-line.invariant.text;
      small = All-more LineIsSmall c.args.lines.now c.loop-line.line-index c.line-item.result within c.loop-line.invariant.small (subst LineIsSmall c.line-item.is c.in_ok-put_line.ensures.small);
    }

pub returns-clause-small : goal.returns-clause-small
returns-clause-small c = subst (All LineIsSmall) (take_all c.loop-line.line-index c.args.lines.now (omega arith)) c.loop-line.invariant.small
