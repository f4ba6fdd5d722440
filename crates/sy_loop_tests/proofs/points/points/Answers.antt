use Rattle.std.proofs.Common.{◌≡◌, ◌∷◌, [], ap, map, true}
use Rattle.std.proofs.lemmas.List.{map-append}
use Rattle.std.proofs.lemmas.List.Elements.{All-nil, All-cons}
use Rattle.sy_terms.specs.Denoted.{val_of, vals_of}
use Rattle.sy_terms.specs.Theories.{valid}
use Rattle.sy_bank.proofs.Points.{points-more}
use Rattle.sy_loop_tests.proofs.points.points.Goals as goal

pub loop-word-preserved : goal.loop-word-preserved
loop-word-preserved g c =
    let number = g.T.Theory.denotes in
    let pushed = rw c.expect.ensures at c.push.ensures.ok in
    rw (pushed, map-append, c.one.ensures)
    (points-more (c.args.sort ∷ []) (map (vals_of number) c.loop-word.points) (val_of number c.in-Some-value.value ∷ [])
    (All-cons (λ v. valid v ≡ true) (val_of number c.in-Some-value.value) [] c.in-Some-value.ensures.valid (All-nil (λ v. valid v ≡ true))) (ap (λ sort. sort ∷ []) c.in-Some-value.ensures.sort) c.loop-word.invariant)
