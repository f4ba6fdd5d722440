use Rattle.std.proofs.Common.{arith, ap, ◌∙◌}
use Rattle.std.specs.Option.{option_map}
use Rattle.std.proofs.lemmas.List.{length-map}
use Rattle.std.proofs.lemmas.List.Elements.{All-contains}
use Rattle.std.proofs.lemmas.Option.{slice_get-map}
use Rattle.sy_terms.specs.Denoted.{expr_of}
use Rattle.sy_terms.specs.Definitions.{scope_of}
use Rattle.sy_grammar_base.specs.Fits.{GrammarFits}
use Rattle.sy_grammar_base.specs.Grown.{syntax_from, tree_of}
use Rattle.sy_grammar_base.specs.Questions.{question_of, goal_of}
use Rattle.sy_grammar_base.proofs.Numbering.{numbered}
use Rattle.sy_grammar_base.proofs.Problems.{problem_grammars}
use Rattle.sy_loop_truth.proofs.Items.{has_place}
use Rattle.sy_loop_bodies.proofs.One.{one_goal}
use Rattle.sy_loop_bodies.proofs.Small.{one_within}
use Rattle.sy_loop_bodies.proofs.guess.is_small.Goals as goal

pub derive-requires : goal.derive-requires
derive-requires g c =
    let wanted = c.in-Some.wanted.now in
    let problem = c.args.task.now.problem.now in
    let grammars = problem_grammars g.T.Theory.owned g.T.Theory.numeric g.T.Theory.denotes problem c.requires.problem in
    let fits = All-contains (GrammarFits g.T.Theory.owned g.T.Theory.numeric g.T.Theory.denotes problem) problem.wanted wanted grammars (has_place problem.wanted 0 wanted c.in-Some.ensures) in
    record { numbered = numbered g.T.Theory.numeric (scope_of g.T.Theory.owned c.args.task.now.problem.now.defs) (syntax_from g.T.Theory.denotes wanted.grammar) fits.formed }

pub returns : goal.returns
returns g c _ =
    let wanted = c.in-Some.wanted.now in
    let question = question_of g.T.Theory.denotes c.args.task.now.problem.now in
    let goal = goal_of g.T.Theory.denotes wanted in
    let at = slice_get-map (goal_of g.T.Theory.denotes) c.args.task.now.problem.now.wanted 0 ∙ ap (option_map (goal_of g.T.Theory.denotes)) c.in-Some.ensures in
    let one = one_goal question.goals goal (omega (arith, c.requires.one, length-map c.args.task.now.problem.now.wanted (goal_of g.T.Theory.denotes))) at in
    one_within question goal c.args.task.now.bound (tree_of g.T.Theory.denotes c.in-Some-found.derivation) (expr_of g.T.Theory.denotes c.args.term.now) one (rw c.in-Some-found.is at c.in_ok-found.ensures)
    (omega (arith, c.derivation_size-size.ensures, c.saturating_add-most.ensures, c.if-size-most.false))
