use Rattle.std.proofs.Common.{sym, ◌∙◌}
use Rattle.sy_terms.specs.Definitions.{scope_of}
use Rattle.sy_meaning_integers.specs.Lia.{owned, numeric}
use Rattle.sy_grammar_base.proofs.Numbering.{numbered}
use Rattle.bench_parts.proofs.derive.derived.Goals as goal

pub both_derived-requires : goal.both_derived-requires
both_derived-requires c =
    let formed = sym c.well_formed-2.ensures ∙ c.if-not-well_formed.false in
    rw (c.new-grammar.ensures.args, c.new-grammar.ensures.nons) (numbered numeric (scope_of owned c.new-defs.result) _ formed)
