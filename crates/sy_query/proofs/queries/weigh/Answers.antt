use Rattle.std.proofs.Common.{arith, ap, ◌∙◌, Err}
use Rattle.std.proofs.lemmas.Result.{IfOk-from_err}
use Rattle.sy_query.proofs.Itself as itself
use Rattle.sy_query.proofs.Walking.{kept-error, not-error}
use Rattle.sy_query.proofs.queries.weigh.Goals as goal

pub place-requires-clause-term : goal.place-requires-clause-term
place-requires-clause-term g c =
    let same = (λ k. (c.new-room.ensures.sorts k).items) ∙ (c.in_ok-to_vec.ensures.items_if_clones_equal (λ x y h. h) ∙ c.as_slice.ensures) in
    itself.body-fits g.T.Theory.owned g.T.Theory.denotes _ _ _ _ c.args.query.now.body (c.as_slice-2.ensures ∙ c.new-defs.ensures) (c.as_slice-3.ensures ∙ c.new-bodies.ensures) same c.requires.body

pub returns-in_err-_placed-clause-heavy : goal.returns-in_err-_placed-clause-heavy
returns-in_err-_placed-clause-heavy g c h =
    let same = (λ k. (c.new-room.ensures.sorts k).items) ∙ (c.in_ok-to_vec.ensures.items_if_clones_equal (λ x y h. h) ∙ c.as_slice.ensures) in
    let weight = itself.body-weight g.T.Theory.owned g.T.Theory.denotes _ _ _ _ c.args.query.now.body (c.as_slice-2.ensures ∙ c.new-defs.ensures) (c.as_slice-3.ensures ∙ c.new-bodies.ensures) same c.requires.body in
    let heavy = c.in_err-_placed.ensures.heavy (ap Err (kept-error c.from_residual-in_err-_placed.result _ _ c.from_residual-in_err-_placed.ensures.1 h)) in
    omega (arith, weight, heavy, c.new-room.ensures.weight)

pub returns-clause-weight : goal.returns-clause-weight
returns-clause-weight g c =
    let same = (λ k. (c.new-room.ensures.sorts k).items) ∙ (c.in_ok-to_vec.ensures.items_if_clones_equal (λ x y h. h) ∙ c.as_slice.ensures) in
    let weight = itself.body-weight g.T.Theory.owned g.T.Theory.denotes _ _ _ _ c.args.query.now.body (c.as_slice-2.ensures ∙ c.new-defs.ensures) (c.as_slice-3.ensures ∙ c.new-bodies.ensures) same c.requires.body in
    let taken = c.in_ok-_placed.ensures.ok.weight in
    omega (arith, weight, taken, c.new-room.ensures.weight)

pub returns-in_err-to_vec-clause-heavy : goal.returns-in_err-to_vec-clause-heavy
returns-in_err-to_vec-clause-heavy g c h = not-error c.from_residual.result _ _ c.from_residual.ensures.1 (λ same. cc) h

pub place-requires-clause-small : goal.place-requires-clause-small
place-requires-clause-small g c = omega (arith, c.new-room.ensures.weight, c.ranges.cap)

pub overflow_cast-result : goal.overflow_cast-result
overflow_cast-result g c =
    let taken = c.in_ok-_placed.ensures.ok.weight in
    omega (arith, taken, c.new-room.ensures.weight, c.ranges.cap)

pub overflow_sub-result : goal.overflow_sub-result
overflow_sub-result g c =
    let taken = c.in_ok-_placed.ensures.ok.weight in
    omega (arith, taken, c.new-room.ensures.weight)

pub returns-clause-light : goal.returns-clause-light
returns-clause-light g c = omega arith

pub returns-clause-heavy : goal.returns-clause-heavy
returns-clause-heavy g c h = absurd cc

pub returns-in_err-_placed-clause-weight : goal.returns-in_err-_placed-clause-weight
returns-in_err-_placed-clause-weight g c = IfOk-from_err c.from_residual-in_err-_placed.result _ c.from_residual-in_err-_placed.ensures.0

pub returns-in_err-_placed-clause-light : goal.returns-in_err-_placed-clause-light
returns-in_err-_placed-clause-light g c = IfOk-from_err c.from_residual-in_err-_placed.result _ c.from_residual-in_err-_placed.ensures.0

pub returns-in_err-to_vec-clause-weight : goal.returns-in_err-to_vec-clause-weight
returns-in_err-to_vec-clause-weight g c = IfOk-from_err c.from_residual.result _ c.from_residual.ensures.0

pub returns-in_err-to_vec-clause-light : goal.returns-in_err-to_vec-clause-light
returns-in_err-to_vec-clause-light g c = IfOk-from_err c.from_residual.result _ c.from_residual.ensures.0
