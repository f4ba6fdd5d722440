use Rattle.std.proofs.Common.{◌≡◌, ℕ, length, map, refl, subst, sym, arith, add-one}
use Rattle.std.proofs.lemmas.Option.{slice_get_read}
use Rattle.sy_terms.specs.Denoted.{expr_of}
use Rattle.sy_grammar_base.specs.Questions.{goal_of}
use Rattle.sy_verify.specs.Posing.{IsFirstOutside}
use Rattle.sy_verify.proofs.Outside.{members_more, outside_at}
use Rattle.sy_verify.proofs.members.first_outside.Goals as goal

pub returns-in-Ok : goal.returns-in-Ok
returns-in-Ok g c =
    let number = g.T.Theory.denotes in
    let wanted = c.args.wanted.now in
    let bodies = c.args.bodies.now in
    let place = c.loop-place.place in
    let at = slice_get_read wanted (length wanted) place c.index-wanted-place.result refl (omega arith) c.index-wanted-place.is in
    let also = slice_get_read bodies (length bodies) place c.index-bodies-place.result refl (omega (arith, c.requires.as_many)) c.index-bodies-place.is in
    let outside = outside_at number wanted bodies place c.index-wanted-place.result c.index-bodies-place.result at also (λ member. let yes = c.in_ok-member.ensures.1 member in cc) c.loop-place.invariant in
    let same : place ≡ c.in-Ok.number = sym c.in-Ok.ensures.1 in
    subst (IsFirstOutside (map (goal_of number) wanted) (map (expr_of number) bodies)) same outside

pub loop-place-preserved : goal.loop-place-preserved
loop-place-preserved g c =
    let wanted = c.args.wanted.now in
    let bodies = c.args.bodies.now in
    let place = c.loop-place.place in
    let at = slice_get_read wanted (length wanted) place c.index-wanted-place.result refl (omega arith) c.index-wanted-place.is in
    let also = slice_get_read bodies (length bodies) place c.index-bodies-place.result refl (omega (arith, c.requires.as_many)) c.index-bodies-place.is in
    rw add-one (members_more g.T.Theory.denotes wanted bodies place c.index-wanted-place.result c.index-bodies-place.result at also (c.in_ok-member.ensures.0 (cc)) c.loop-place.invariant)
