use Rattle.std.proofs.Common.{◌∙◌, rules}
use Rattle.std.specs.Int.{w128}
use Rattle.std.proofs.lemmas.Int.{to_z-of_z}
use Rattle.sy_terms.specs.Values.{Whole}
use Rattle.sy_terms.specs.Denoted.{vals_of}
use Rattle.sy_meaning_integers.proofs.Single.{neg-found}
use Rattle.sy_meaning_integers.proofs.unary.negated.Goals as goal

pub returns : goal.returns
returns c =
    neg-found (vals_of Whole c.args.values.now) _ c.negate.result c.requires (to_z-of_z w128 c.number_at.result (search rules) ∙ c.number_at.ensures) c.negate.ensures
