use Rattle.sy_loop_banks.proofs.bank.new_bank.Goals as goal

pub returns-clause-bank : goal.returns-clause-bank
returns-clause-bank g c = c.build.ensures.bank

pub returns-clause-whole : goal.returns-clause-whole
returns-clause-whole g c = c.build.ensures.whole

pub returns-clause-full : goal.returns-clause-full
returns-clause-full g c = c.build.ensures.full

pub returns-clause-built : goal.returns-clause-built
returns-clause-built g c = c.build.ensures.built
