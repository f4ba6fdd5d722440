use Rattle.std.proofs.Common.{◌≡◌, ◌∙◌, ap, subst, sym, map}
use Rattle.sy_terms.specs.Denoted.{vals_of}
use Rattle.sy_bank_level.specs.Rows.{ArePointsOf}
use Rattle.sy_bank_level.specs.Bank.{merged_of}
use Rattle.sy_loop_banks.proofs.banks.take_bank.Goals as goal

pub grow-requires-clause-points : goal.grow-requires-clause-points
grow-requires-clause-points g c =
    let same : (merged_of g.T.Theory.denotes c.in-Some.bank).points ≡ map (vals_of g.T.Theory.denotes) c.args.points.now =
    sym c.points.ensures ∙ c.are_same.ensures.0 c.if-are_same.true ∙ ap (map (vals_of g.T.Theory.denotes)) c.as_slice.ensures in
    subst (ArePointsOf c.args.wanted.now.grammar.args) (sym same) c.requires.points

pub returns-clause-bank : goal.returns-clause-bank
returns-clause-bank g c = c.new_bank.ensures.bank

pub returns-clause-whole : goal.returns-clause-whole
returns-clause-whole g c = c.new_bank.ensures.whole

pub returns-clause-full : goal.returns-clause-full
returns-clause-full g c = c.new_bank.ensures.full

pub returns-clause-built : goal.returns-clause-built
returns-clause-built g c = c.new_bank.ensures.built
