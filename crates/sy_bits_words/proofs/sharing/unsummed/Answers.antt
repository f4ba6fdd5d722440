use Rattle.sy_bits_words.proofs.Tables.{all-grown}
use Rattle.sy_bits_words.proofs.sharing.unsummed.Goals as goal

pub returns-in_ok-signal-in_default-clause-stand : goal.returns-in_ok-signal-in_default-clause-stand
returns-in_ok-signal-in_default-clause-stand c = all-grown c.args.circuit.now c.applied.new.circuit c.args.words.now c.in_ok-signal-in_default.ensures.grown c.requires.stand
