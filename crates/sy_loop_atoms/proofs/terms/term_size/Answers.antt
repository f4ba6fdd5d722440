use Rattle.std.proofs.Common.{subst}
use Rattle.std.proofs.lemmas.List.Elements.{All-get_or}
use Rattle.std.proofs.lemmas.Option.{get_or_from_slice_get, slice_get_within}
use Rattle.sy_terms.specs.Definitions.{scope_of}
use Rattle.sy_grammar_base.specs.Fits.{GrammarFits}
use Rattle.sy_grammar_base.specs.Grown.{syntax_from}
use Rattle.sy_grammar_base.proofs.Numbering.{numbered}
use Rattle.sy_grammar_base.proofs.Problems.{problem_grammars}
use Rattle.sy_loop_atoms.proofs.terms.term_size.Goals as goal

pub derive-requires : goal.derive-requires
derive-requires g c =
    let wanted = c.in-Some.wanted.now in
    let problem = c.args.setting.now.problem.now in
    let Fits = GrammarFits g.T.Theory.owned g.T.Theory.numeric g.T.Theory.denotes problem in
    let grammars = problem_grammars g.T.Theory.owned g.T.Theory.numeric g.T.Theory.denotes problem c.requires in
    let within = slice_get_within problem.wanted 0 wanted c.in-Some.ensures in
    let same = get_or_from_slice_get problem.wanted 0 wanted wanted c.in-Some.ensures in
    let fits = subst Fits same (All-get_or Fits problem.wanted 0 wanted within grammars) in
    let scope = scope_of g.T.Theory.owned problem.defs in
    record { numbered = numbered g.T.Theory.numeric scope (syntax_from g.T.Theory.denotes wanted.grammar) fits.formed }
