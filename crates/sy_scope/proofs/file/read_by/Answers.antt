use Rattle.std.proofs.lemmas.Result.{err_from_is_err_and}
use Rattle.sy_scope_steps.specs.Files.{file_read}
use Rattle.sy_scope.proofs.Fits.{read_fit}
use Rattle.sy_scope.proofs.Wishes.{wished_by, ends_wished}
use Rattle.sy_scope.proofs.file.read_by.Goals as goal

pub returns-in_err-read_commands-clause-read : goal.returns-in_err-read_commands-clause-read
returns-in_err-read_commands-clause-read g c =
    let p = err_from_is_err_and c.from_residual.result c.from_residual.ensures.1 in
    rw (p.1, p.2) (ends_wished c.in_err-read_commands.field-0.0 (file_read c.args.bytes.now) c.in_err-read_commands.ensures.read)

pub returns-clause-read : goal.returns-clause-read
returns-clause-read g c =
    wished_by g.T.Theory.denotes c.args.opened.logic c.read_commands.new.context (file_read c.args.bytes.now) c.replace-questions.result c.in_ok-titles.titles
    c.in_ok-read_commands.ensures.read c.in_ok-read_commands.ensures.logic c.replace-questions.ensures.value c.in_ok-titles.ensures

pub returns-clause-fit : goal.returns-clause-fit
returns-clause-fit g c =
    rw c.replace-questions.ensures.value
    (read_fit g.T.Theory.owned g.T.Theory.numeric g.T.Theory.denotes c.args.opened.logic c.read_commands.new.context c.args.bytes.now
    c.requires.theory c.in_ok-read_commands.ensures.logic c.in_ok-read_commands.ensures.read)
