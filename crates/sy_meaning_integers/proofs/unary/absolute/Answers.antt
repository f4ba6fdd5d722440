use Rattle.std.proofs.Common.{◌∙◌, rules}
use Rattle.std.specs.Int.{w128}
use Rattle.std.proofs.lemmas.Int.{to_z-of_z}
use Rattle.sy_terms.specs.Values.{Whole}
use Rattle.sy_terms.specs.Denoted.{vals_of}
use Rattle.sy_meaning_integers.proofs.Single.{abs-found}
use Rattle.sy_meaning_integers.proofs.unary.absolute.Goals as goal

pub returns : goal.returns
returns c =
    abs-found (vals_of Whole c.args.values.now) _ c.magnitude.result c.requires (to_z-of_z w128 c.number_at.result (search rules) ∙ c.number_at.ensures) c.magnitude.ensures
