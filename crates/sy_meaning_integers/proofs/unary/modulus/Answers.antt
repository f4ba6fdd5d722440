use Rattle.std.proofs.Common.{◌∙◌, rules}
use Rattle.std.specs.Int.{w128}
use Rattle.std.proofs.lemmas.Int.{to_z-of_z}
use Rattle.sy_terms.specs.Values.{Whole}
use Rattle.sy_terms.specs.Denoted.{vals_of}
use Rattle.sy_meaning_integers.proofs.Single.{mod-found}
use Rattle.sy_meaning_integers.proofs.unary.modulus.Goals as goal

pub returns : goal.returns
returns c =
    mod-found (vals_of Whole c.args.values.now) _ _ _ c.requires
    (to_z-of_z w128 c.number_at.result (search rules) ∙ c.number_at.ensures)
    (to_z-of_z w128 c.number_at-2.result (search rules) ∙ c.number_at-2.ensures)
    (to_z-of_z w128 c.remainder.result (search rules) ∙ c.remainder.ensures)
