use Rattle.sy_bank_level.specs.Task.{world, level_state_of, IsStop}
use Rattle.sy_bank_level.specs.declared.filling.Stop.TheVariants.{Want}
use Rattle.sy_bank_level.proofs.Exits.{not-ok, ends}
use Rattle.sy_bank.proofs.rules.try_part.Goals as goal

pub choose-requires-clause-task : goal.choose-requires-clause-task
choose-requires-clause-task g c = c.requires.task

pub choose-requires-clause-rule : goal.choose-requires-clause-rule
choose-requires-clause-rule g c = rw (c.in_ok-part.ensures.ok, c.in_ok-copied_part.ensures) c.requires.rule

pub choose-requires-clause-steady : goal.choose-requires-clause-steady
choose-requires-clause-steady g c = c.requires.steady

pub returns-clause-steady : goal.returns-clause-steady
returns-clause-steady g c = c.choose.ensures.steady

pub returns-clause-grows : goal.returns-clause-grows
returns-clause-grows g c = c.choose.ensures.grows

pub returns-clause-stop : goal.returns-clause-stop
returns-clause-stop g c = c.choose.ensures.stop

pub returns-in_err-copied_part-clause-steady : goal.returns-in_err-copied_part-clause-steady
returns-in_err-copied_part-clause-steady g c = not-ok _ c.from_residual.result Want c.from_residual.ensures.1

pub returns-in_err-copied_part-clause-grows : goal.returns-in_err-copied_part-clause-grows
returns-in_err-copied_part-clause-grows g c = not-ok _ c.from_residual.result Want c.from_residual.ensures.1

pub returns-in_err-copied_part-clause-tried : goal.returns-in_err-copied_part-clause-tried
returns-in_err-copied_part-clause-tried g c = not-ok _ c.from_residual.result Want c.from_residual.ensures.1

pub returns-in_err-copied_part-clause-stop : goal.returns-in_err-copied_part-clause-stop
returns-in_err-copied_part-clause-stop g c =
    let number = g.T.Theory.denotes in
    ends (IsStop number (world g.T.Theory.owned number c.args.task.now) (level_state_of number c.args.filling.now)) c.from_residual.result Want c.from_residual.ensures.1 tt

pub returns-in_err-part-clause-steady : goal.returns-in_err-part-clause-steady
returns-in_err-part-clause-steady g c = not-ok _ c.from_residual-in_err-part.result Want c.from_residual-in_err-part.ensures.1

pub returns-in_err-part-clause-grows : goal.returns-in_err-part-clause-grows
returns-in_err-part-clause-grows g c = not-ok _ c.from_residual-in_err-part.result Want c.from_residual-in_err-part.ensures.1

pub returns-in_err-part-clause-tried : goal.returns-in_err-part-clause-tried
returns-in_err-part-clause-tried g c = not-ok _ c.from_residual-in_err-part.result Want c.from_residual-in_err-part.ensures.1

pub returns-in_err-part-clause-stop : goal.returns-in_err-part-clause-stop
returns-in_err-part-clause-stop g c =
    let number = g.T.Theory.denotes in
    ends (IsStop number (world g.T.Theory.owned number c.args.task.now) (level_state_of number c.args.filling.now)) c.from_residual-in_err-part.result Want c.from_residual-in_err-part.ensures.1 tt
