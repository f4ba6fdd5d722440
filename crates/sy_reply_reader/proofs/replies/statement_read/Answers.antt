use Rattle.std.proofs.Common.{map}
use Rattle.std.proofs.lemmas.Result.{err_from_is_err_and}
use Rattle.std.specs.Option.{option_map}
use Rattle.sy_text_items.specs.Views.{item_of}
use Rattle.sy_terms.specs.Denoted.{expr_of}
use Rattle.sy_grammar_base.specs.Questions.{question_of}
use Rattle.sy_reply_reader.proofs.Leading.{statement_unread, statement_ends, statement_gives}
use Rattle.sy_reply_reader.proofs.replies.statement_read.Goals as goal

pub returns-in_err-item-clause-read : goal.returns-in_err-item-clause-read
returns-in_err-item-clause-read g c =
    let s = c.args.source in
    let p = err_from_is_err_and c.from_residual.result c.from_residual.ensures.1 in
    rw (p.1, p.2)
    (statement_unread s.proofs s.logic s.titles.now s.bytes.now c.args.check (question_of g.T.Theory.denotes c.args.problem.now) c.args.at c.in_err-item.field-0.0 c.in_err-item.ensures.read)

pub returns-in_err-read-clause-read : goal.returns-in_err-read-clause-read
returns-in_err-read-clause-read g c =
    let s = c.args.source in
    let p = err_from_is_err_and c.from_residual-in_err-read.result c.from_residual-in_err-read.ensures.1 in
    rw (p.1, p.2)
    (statement_ends s.proofs s.logic s.titles.now s.bytes.now c.args.check (question_of g.T.Theory.denotes c.args.problem.now) c.args.at (item_of c.in_ok-item.item, c.in_ok-item.behind) c.in_err-read.field-0.0
    c.in_ok-item.ensures.read c.in_err-read.ensures)

pub returns-clause-read : goal.returns-clause-read
returns-clause-read g c =
    let s = c.args.source in
    statement_gives s.proofs s.logic s.titles.now s.bytes.now c.args.check (question_of g.T.Theory.denotes c.args.problem.now) c.args.at _ c.stated_by.result (item_of c.in_ok-item.item, c.in_ok-item.behind)
    (option_map (map (expr_of g.T.Theory.denotes)) c.in_ok-read.field-0) c.in_ok-item.ensures.read c.in_ok-read.ensures c.stated_by.ensures.read
