use Rattle.std.proofs.Common.{◌≡◌, length, take, drop, map}
use Rattle.sy_terms.specs.Denoted.{expr_of, exprs_of}
use Rattle.sy_grammar_base.specs.Patterns.{all_occurring, all_filled}
use Rattle.sy_grammar_base.specs.Written.{patterns_of}
use Rattle.sy_bank_level.proofs.fill.+filled.Given as goal

abbrev pub invariant-filled_parts-loop-part : goal.invariant-filled_parts-loop-part
invariant-filled_parts-loop-part g l = record {
  left_is : l.left ≡ drop (length (all_occurring (patterns_of g.T.Theory.denotes (take l.part-index l.part-items)))) l.terms;
  whole : exprs_of g.T.Theory.denotes l.filled.items.items ≡ all_filled (patterns_of g.T.Theory.denotes (take l.part-index l.part-items)) (map (expr_of g.T.Theory.denotes) l.terms);
}
