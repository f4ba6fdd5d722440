use Rattle.sy_loop_beyond.proofs.again.wished_bank.Goals as goal

pub returns : goal.returns
returns g c = c.bank_over.ensures.honest
