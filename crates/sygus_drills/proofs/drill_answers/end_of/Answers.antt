use Rattle.std.proofs.Common.{◌≡◌, ◌∙◌, ap, map, length, arith}
use Rattle.std.proofs.lemmas.List.{length-map}
use Rattle.sy_terms.specs.Denoted.{expr_of}
use Rattle.sy_grammar_base.specs.Questions.{question_of}
use Rattle.sygus_drills.specs.declared.line.DrillEnd.TheVariants.{Met}
use Rattle.sygus_drills.proofs.Counting.{all_met}
use Rattle.sygus_drills.proofs.drill_answers.end_of.Goals as goal

pub count_met-requires-clause-members : goal.count_met-requires-clause-members
count_met-requires-clause-members g c = let solution = rw c.in-Found.is at c.requires.solution in solution.0

pub count_met-requires-clause-few : goal.count_met-requires-clause-few
count_met-requires-clause-few g c = omega (arith, c.requires.count, length-map c.args.problem.now.constraints (expr_of g.T.Theory.denotes))

pub returns-in_ok-met-in-Found : goal.returns-in_ok-met-in-Found
returns-in_ok-met-in-Found g c =
    let solution = rw c.in-Found.is at c.requires.solution in
    let all = all_met (question_of g.T.Theory.denotes c.args.problem.now) (map (expr_of g.T.Theory.denotes) c.in-Found.bodies) c.requires.closed c.requires.unassumed solution.1 in
    let met : c.in_ok-met-in-Found.met ≡ 1000 = c.in_ok-met-in-Found.ensures ∙ all ∙ c.requires.count in
    rw c.in-Found.is (ap Met met)
