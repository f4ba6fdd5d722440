use Rattle.std.proofs.Common.{ap, ◌∙◌}
use Rattle.sy_terms.specs.Values.{Bits}
use Rattle.sy_meaning_core.proofs.Masks.{lowest_fits}
use Rattle.sy_meaning_words.proofs.word.Word.lowest.Goals as goal

pub made-requires : goal.made-requires
made-requires c = rw c.lowest.ensures (lowest_fits c.args.width c.args.number c.requires.least c.requires.most)

pub returns : goal.returns
returns c = c.made.ensures ∙ ap (Bits c.args.width) c.lowest.ensures
