use Rattle.std.proofs.Common.{◌≡◌, arith}
use Rattle.sy_bank_level.specs.Stored.{entry_of}
use Rattle.sy_bank_level.proofs.Hashes.{none-kept}
use Rattle.sy_bank_level.proofs.level.Level.new.Goals as goal

pub returns : goal.returns
returns g c =
    let all : c.loop.counter ≡ c.args.nonterminals = grind arith in
    rw (c.loop.invariant, all) (none-kept (entry_of g.T.Theory.denotes) c.args.nonterminals)
