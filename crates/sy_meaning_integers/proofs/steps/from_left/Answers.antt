use Rattle.std.proofs.Common.{◌∙◌, rules}
use Rattle.std.specs.Int.{w128}
use Rattle.std.proofs.lemmas.Int.{to_z-of_z}
use Rattle.sy_meaning_integers.proofs.Folds.{fold-found}
use Rattle.sy_meaning_integers.proofs.steps.from_left.Goals as goal

pub returns-in-Some : goal.returns-in-Some
returns-in-Some g c =
    fold-found g.S.Step.exact c.args.values.now c.in-Some.first.now c.in-Some.rest.now _ c.fold.result c.in-Some.ensures.cases.0 c.requires
    (to_z-of_z w128 c.whole.result (search rules) ∙ c.whole.ensures) c.fold.ensures
