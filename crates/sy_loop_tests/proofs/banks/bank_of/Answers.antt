use Rattle.std.proofs.Common.{◌≡◌, ◌∷◌, [], ◌∙◌, sym, subst, List}
use Rattle.sy_terms.specs.Values.{Val}
use Rattle.sy_bank.specs.Rows.{ArePointsOf}
use Rattle.sy_loop_tests.proofs.banks.bank_of.Goals as goal

pub build-requires-clause-points : goal.build-requires-clause-points
build-requires-clause-points g c =
    let args : c.new-grammar.result.args ≡ c.args.sort ∷ [] = c.new-grammar.ensures.args ∙ c.one-args.ensures in
    rw args c.points-points.ensures

pub grow-requires-clause-points : goal.grow-requires-clause-points
grow-requires-clause-points g c =
    let args : c.new-grammar.result.args ≡ c.args.sort ∷ [] = c.new-grammar.ensures.args ∙ c.one-args.ensures in
    rw args (subst (λ (points : List (List Val)). ArePointsOf (c.args.sort ∷ []) points) (sym c.in-Ok.ensures.bank.over) c.points-points.ensures)
