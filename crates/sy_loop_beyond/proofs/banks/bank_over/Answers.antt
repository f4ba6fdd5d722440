use Rattle.std.proofs.Common.{◌∙◌, ap, arith, map, subst, List}
use Rattle.std.specs.Option.{option_map}
use Rattle.std.proofs.lemmas.List.{length-map}
use Rattle.std.proofs.lemmas.List.Elements.{All-contains}
use Rattle.std.proofs.lemmas.Option.{slice_get-map}
use Rattle.sy_terms.specs.Denoted.{vals_of}
use Rattle.sy_terms.specs.declared.sort.Sort.{Sort}
use Rattle.sy_grammar_base.specs.Fits.{GrammarFits}
use Rattle.sy_grammar_base.specs.Questions.{goal_of, question_of}
use Rattle.sy_bank_level.specs.Rows.{ArePointsOf}
use Rattle.sy_grammar_base.proofs.Problems.{problem_definitions, problem_grammars}
use Rattle.sy_loop_truth.proofs.Items.{has_place}
use Rattle.sy_loop_bodies.proofs.One.{one_goal}
use Rattle.sy_loop_beyond.proofs.banks.bank_over.Goals as goal

pub bank_of-requires-clause-definitions : goal.bank_of-requires-clause-definitions
bank_of-requires-clause-definitions g c = problem_definitions g.T.Theory.owned g.T.Theory.numeric g.T.Theory.denotes c.args.problem.now c.requires.problem

pub bank_of-requires-clause-formed : goal.bank_of-requires-clause-formed
bank_of-requires-clause-formed g c =
    let problem = c.args.problem.now in
    let wanted = c.in-Some.wanted.now in
    let grammars = problem_grammars g.T.Theory.owned g.T.Theory.numeric g.T.Theory.denotes problem c.requires.problem in
    (All-contains (GrammarFits g.T.Theory.owned g.T.Theory.numeric g.T.Theory.denotes problem) problem.wanted wanted grammars (has_place problem.wanted 0 wanted c.in-Some.ensures)).formed

pub bank_of-requires-clause-points : goal.bank_of-requires-clause-points
bank_of-requires-clause-points g c =
    subst (λ (sorts : List Sort). ArePointsOf sorts (map (vals_of g.T.Theory.denotes) c.in-Some-2.points)) (c.as_slice.ensures ∙ c.args-2.ensures)
    (rw c.in-Some-2.is at c.in_ok-points.ensures.sorted)

pub returns-clause-honest : goal.returns-clause-honest
returns-clause-honest g c =
    let question = question_of g.T.Theory.denotes c.args.problem.now in
    let wanted = c.in-Some.wanted.now in
    let at = slice_get-map (goal_of g.T.Theory.denotes) c.args.problem.now.wanted 0 ∙ ap (option_map (goal_of g.T.Theory.denotes)) c.in-Some.ensures in
    record {
      goal = goal_of g.T.Theory.denotes wanted;
      one = one_goal question.goals (goal_of g.T.Theory.denotes wanted) (omega (arith, c.requires.one, length-map c.args.problem.now.wanted (goal_of g.T.Theory.denotes))) at;
      honest = c.in_ok-bank.ensures.honest;
    }
