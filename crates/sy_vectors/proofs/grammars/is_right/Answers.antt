use Rattle.std.proofs.Common.{sym, ◌∙◌}
use Rattle.sy_terms.specs.Definitions.{scope_of}
use Rattle.sy_grammar.proofs.Numbering.{numbered}
use Rattle.sy_vectors.proofs.grammars.is_right.Goals as goal

pub derive-requires : goal.derive-requires
derive-requires g c =
    let formed = sym c.well_formed-2.ensures ∙ c.if-not-well_formed.false in
    record { numbered = rw (c.new-grammar.ensures.args, c.new-grammar.ensures.nons) (numbered g.T.Theory.numeric (scope_of g.T.Theory.owned c.new-defs.result) _ formed) }
