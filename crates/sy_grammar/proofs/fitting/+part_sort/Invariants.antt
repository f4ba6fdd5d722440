use Rattle.std.proofs.Common.{◌≡◌}
use Rattle.std.specs.Option.{option_map}
use Rattle.sy_terms.specs.Definitions.{scope_of}
use Rattle.sy_grammar_base.specs.Formed.{pattern_sorts, syntax_with}
use Rattle.sy_grammar.specs.Seen.{after_all, taken}
use Rattle.sy_grammar.specs.declared.seen.Seen.TheVariants.{Nothing}
use Rattle.sy_grammar_base.specs.Written.{patterns_of}
use Rattle.sy_grammar.proofs.Fitted.{sorts_left, taken_left}
use Rattle.sy_grammar.proofs.fitting.+part_sort.Given as goal

abbrev pub invariant-seen_sorts-loop-part : goal.invariant-seen_sorts-loop-part
invariant-seen_sorts-loop-part g l =
    let number = g.T.Theory.denotes in
    let scope = scope_of g.T.Theory.owned l.defs in
    let syntax = syntax_with number l.args l.nons in
    option_map (after_all Nothing) (pattern_sorts scope syntax (patterns_of number l.fn.parts.items.items)) ≡ option_map (after_all l.seen) (sorts_left number scope syntax l.part-items l.part-index)

abbrev pub invariant-have_sorts-loop-i : goal.invariant-have_sorts-loop-i
invariant-have_sorts-loop-i g l =
    let number = g.T.Theory.denotes in
    let scope = scope_of g.T.Theory.owned l.defs in
    let syntax = syntax_with number l.args l.nons in
    taken l.wanted (pattern_sorts scope syntax (patterns_of number l.fn.parts.items.items)) ≡ taken_left number scope syntax l.part-items l.wanted l.i
