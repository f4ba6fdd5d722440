use Rattle.std.proofs.Common.{arith, ap, ◌∙◌, sym, subst, refl, Err, map}
use Rattle.std.proofs.lemmas.Result.{IfOk-from_err}
use Rattle.sy_terms.specs.Denoted.{expr_of}
use Rattle.sy_terms.specs.declared.op.Op.TheVariants as ops
use Rattle.sy_grammar_base.specs.Questions.{question_of}
use Rattle.sy_grammar_base.proofs.Problems.{problem_definitions, problem_variables, problem_assumptions, problem_constraints}
use Rattle.sy_query_base.specs.Asked.{Query, QueryFits, query_weight}
use Rattle.sy_query_base.specs.Queries.{IsViolation}
use Rattle.sy_query_base.proofs.Violations.{says}
use Rattle.sy_query.proofs.Problem as problem
use Rattle.sy_query.proofs.Walking.{kept-error, not-error}
use Rattle.sy_query.proofs.queries.build.Goals as goal

pub place_all-requires-clause-definitions : goal.place_all-requires-clause-definitions
place_all-requires-clause-definitions g c = rw c.as_slice-defs.ensures (problem_definitions g.T.Theory.owned g.T.Theory.numeric g.T.Theory.denotes c.args.problem.now c.requires.problem)

pub place_all-requires-clause-terms : goal.place_all-requires-clause-terms
place_all-requires-clause-terms g c =
    let same = (λ k. (c.new-room.ensures.sorts k).items) ∙ (c.in_ok-to_vec.ensures.items_if_clones_equal (λ x y h. h) ∙ c.as_slice-vars.ensures) in
    rw (c.as_slice-defs.ensures, c.as_slice-bodies.ensures, c.as_slice-assumptions.ensures, same) (problem.terms-fit g.T.Theory.owned g.T.Theory.denotes c.args.problem.now c.args.bodies.now c.args.problem.now.assumptions c.requires.bodies (problem_assumptions g.T.Theory.owned g.T.Theory.numeric g.T.Theory.denotes c.args.problem.now c.requires.problem))

pub returns-in_err-assumptions-clause-heavy : goal.returns-in_err-assumptions-clause-heavy
returns-in_err-assumptions-clause-heavy g c h =
    let same = (λ k. (c.new-room.ensures.sorts k).items) ∙ (c.in_ok-to_vec.ensures.items_if_clones_equal (λ x y h. h) ∙ c.as_slice-vars.ensures) in
    let heavy = c.in_err-assumptions.ensures.heavy (ap Err (kept-error c.from_residual-in_err-assumptions.result _ _ c.from_residual-in_err-assumptions.ensures.1 h)) in
    let taken = problem.taken-heavy g.T.Theory.owned g.T.Theory.denotes c.args.problem.now c.args.bodies.now c.args.problem.now.assumptions c.new-room.result.sorts.items c.new-room.result.left.weight same (rw (c.as_slice-defs.ensures, c.as_slice-bodies.ensures, c.as_slice-assumptions.ensures) at heavy) in
    let whole = problem.query-weight g.T.Theory.owned g.T.Theory.numeric g.T.Theory.denotes c.args.problem.now c.args.bodies.now (g.met.T.Theory.core ops.And refl) (g.met.T.Theory.core ops.Not refl) c.requires.problem c.requires.bodies in
    omega (arith, whole, taken, c.new-room.ensures.weight)

pub place_all-requires-2-clause-definitions : goal.place_all-requires-2-clause-definitions
place_all-requires-2-clause-definitions g c = rw c.as_slice-defs.ensures (problem_definitions g.T.Theory.owned g.T.Theory.numeric g.T.Theory.denotes c.args.problem.now c.requires.problem)

pub place_all-requires-2-clause-sized : goal.place_all-requires-2-clause-sized
place_all-requires-2-clause-sized g c =
    let same = c.in_ok-assumptions.ensures.kept ∙ ((λ k. (c.new-room.ensures.sorts k).items) ∙ (c.in_ok-to_vec.ensures.items_if_clones_equal (λ x y h. h) ∙ c.as_slice-vars.ensures)) in
    rw same (problem.variables-sized g.T.Theory.numeric c.args.problem.now.vars (problem_variables g.T.Theory.owned g.T.Theory.numeric g.T.Theory.denotes c.args.problem.now c.requires.problem))

pub place_all-requires-2-clause-terms : goal.place_all-requires-2-clause-terms
place_all-requires-2-clause-terms g c =
    let same = c.in_ok-assumptions.ensures.kept ∙ ((λ k. (c.new-room.ensures.sorts k).items) ∙ (c.in_ok-to_vec.ensures.items_if_clones_equal (λ x y h. h) ∙ c.as_slice-vars.ensures)) in
    rw (c.as_slice-defs.ensures, c.as_slice-bodies.ensures, c.as_slice-constraints.ensures, same) (problem.terms-fit g.T.Theory.owned g.T.Theory.denotes c.args.problem.now c.args.bodies.now c.args.problem.now.constraints c.requires.bodies (problem_constraints g.T.Theory.owned g.T.Theory.numeric g.T.Theory.denotes c.args.problem.now c.requires.problem))

pub returns-in_err-constraints-clause-heavy : goal.returns-in_err-constraints-clause-heavy
returns-in_err-constraints-clause-heavy g c h =
    let first = (λ k. (c.new-room.ensures.sorts k).items) ∙ (c.in_ok-to_vec.ensures.items_if_clones_equal (λ x y h. h) ∙ c.as_slice-vars.ensures) in
    let same = c.in_ok-assumptions.ensures.kept ∙ first in
    let before = problem.taken g.T.Theory.owned g.T.Theory.denotes c.args.problem.now c.args.bodies.now c.args.problem.now.assumptions c.new-room.result.sorts.items c.new-room.result.left c.place_all.new.room.left _ _ first (rw (c.as_slice-defs.ensures, c.as_slice-bodies.ensures, c.as_slice-assumptions.ensures) at c.in_ok-assumptions.ensures.ok) in
    let heavy = c.in_err-constraints.ensures.heavy (ap Err (kept-error c.from_residual-in_err-constraints.result _ _ c.from_residual-in_err-constraints.ensures.1 h)) in
    let taken = problem.taken-heavy g.T.Theory.owned g.T.Theory.denotes c.args.problem.now c.args.bodies.now c.args.problem.now.constraints c.place_all.new.room.sorts.items c.place_all.new.room.left.weight same (rw (c.as_slice-defs.ensures, c.as_slice-bodies.ensures, c.as_slice-constraints.ensures) at heavy) in
    let whole = problem.query-weight g.T.Theory.owned g.T.Theory.numeric g.T.Theory.denotes c.args.problem.now c.args.bodies.now (g.met.T.Theory.core ops.And refl) (g.met.T.Theory.core ops.Not refl) c.requires.problem c.requires.bodies in
    omega (arith, whole, before, taken, c.new-room.ensures.weight)

pub returns-in_err-take-clause-heavy : goal.returns-in_err-take-clause-heavy
returns-in_err-take-clause-heavy g c h =
    let first = (λ k. (c.new-room.ensures.sorts k).items) ∙ (c.in_ok-to_vec.ensures.items_if_clones_equal (λ x y h. h) ∙ c.as_slice-vars.ensures) in
    let same = c.in_ok-assumptions.ensures.kept ∙ first in
    let before = problem.taken g.T.Theory.owned g.T.Theory.denotes c.args.problem.now c.args.bodies.now c.args.problem.now.assumptions c.new-room.result.sorts.items c.new-room.result.left c.place_all.new.room.left _ _ first (rw (c.as_slice-defs.ensures, c.as_slice-bodies.ensures, c.as_slice-assumptions.ensures) at c.in_ok-assumptions.ensures.ok) in
    let after = problem.taken g.T.Theory.owned g.T.Theory.denotes c.args.problem.now c.args.bodies.now c.args.problem.now.constraints c.place_all.new.room.sorts.items c.place_all.new.room.left c.place_all-2.new.room.left _ _ same (rw (c.as_slice-defs.ensures, c.as_slice-bodies.ensures, c.as_slice-constraints.ensures) at c.in_ok-constraints.ensures.ok) in
    let heavy = c.in_err-take.ensures.heavy in
    let whole = problem.query-weight g.T.Theory.owned g.T.Theory.numeric g.T.Theory.denotes c.args.problem.now c.args.bodies.now (g.met.T.Theory.core ops.And refl) (g.met.T.Theory.core ops.Not refl) c.requires.problem c.requires.bodies in
    omega (arith, whole, before, after, heavy, c.new-room.ensures.weight)

pub returns-clause-query : goal.returns-clause-query
returns-clause-query g c =
    let first = (λ k. (c.new-room.ensures.sorts k).items) ∙ (c.in_ok-to_vec.ensures.items_if_clones_equal (λ x y h. h) ∙ c.as_slice-vars.ensures) in
    let are = rw (c.as_slice-defs.ensures, c.as_slice-bodies.ensures, c.as_slice-assumptions.ensures) at c.in_ok-assumptions.ensures.ok in
    let also = rw (c.as_slice-defs.ensures, c.as_slice-bodies.ensures, c.as_slice-constraints.ensures) at c.in_ok-constraints.ensures.ok in
    problem.query-is c.args.problem.now.vars c.in_ok-vars.vars _ _ (c.in_ok-vars.ensures ∙ c.as_slice-vars.ensures)
    (problem.body-built g.T.Theory.owned g.T.Theory.denotes c.args.problem.now c.args.bodies.now c.new-room.result.sorts.items c.place_all.new.room.sorts.items _ _ _ _ _ _ _ _ first c.in_ok-assumptions.ensures.kept are also (sym c.take.ensures.counted ∙ c.if-not-room.false) c.in_ok-body.ensures)

pub returns-clause-fits : goal.returns-clause-fits
returns-clause-fits g c =
    subst (λ (q : Query). QueryFits g.T.Theory.owned g.T.Theory.numeric q) (sym (returns-clause-query g c))
    (problem.query-fits g.T.Theory.owned g.T.Theory.numeric g.T.Theory.denotes c.args.problem.now c.args.bodies.now (g.met.T.Theory.core ops.And refl) (g.met.T.Theory.core ops.Not refl) c.requires.problem c.requires.bodies)

pub returns-clause-violations : goal.returns-clause-violations
returns-clause-violations g c =
    subst (λ (q : Query). IsViolation (question_of g.T.Theory.denotes c.args.problem.now) (map (expr_of g.T.Theory.denotes) c.args.bodies.now) q) (sym (returns-clause-query g c))
    (says (question_of g.T.Theory.denotes c.args.problem.now) (map (expr_of g.T.Theory.denotes) c.args.bodies.now))

pub returns-clause-light : goal.returns-clause-light
returns-clause-light g c =
    let first = (λ k. (c.new-room.ensures.sorts k).items) ∙ (c.in_ok-to_vec.ensures.items_if_clones_equal (λ x y h. h) ∙ c.as_slice-vars.ensures) in
    let same = c.in_ok-assumptions.ensures.kept ∙ first in
    let before = problem.taken g.T.Theory.owned g.T.Theory.denotes c.args.problem.now c.args.bodies.now c.args.problem.now.assumptions c.new-room.result.sorts.items c.new-room.result.left c.place_all.new.room.left _ _ first (rw (c.as_slice-defs.ensures, c.as_slice-bodies.ensures, c.as_slice-assumptions.ensures) at c.in_ok-assumptions.ensures.ok) in
    let after = problem.taken g.T.Theory.owned g.T.Theory.denotes c.args.problem.now c.args.bodies.now c.args.problem.now.constraints c.place_all.new.room.sorts.items c.place_all.new.room.left c.place_all-2.new.room.left _ _ same (rw (c.as_slice-defs.ensures, c.as_slice-bodies.ensures, c.as_slice-constraints.ensures) at c.in_ok-constraints.ensures.ok) in
    let last = c.in_ok-take.ensures.ok in
    let whole = ap (query_weight g.T.Theory.owned) (returns-clause-query g c) ∙ problem.query-weight g.T.Theory.owned g.T.Theory.numeric g.T.Theory.denotes c.args.problem.now c.args.bodies.now (g.met.T.Theory.core ops.And refl) (g.met.T.Theory.core ops.Not refl) c.requires.problem c.requires.bodies in
    omega (arith, whole, before, after, last, c.new-room.ensures.weight)

pub returns-in_err-to_vec-clause-heavy : goal.returns-in_err-to_vec-clause-heavy
returns-in_err-to_vec-clause-heavy g c h = not-error c.from_residual.result _ _ c.from_residual.ensures.1 (λ same. cc) h

pub returns-in_err-body-clause-heavy : goal.returns-in_err-body-clause-heavy
returns-in_err-body-clause-heavy g c h = not-error c.from_residual-in_err-body.result _ _ c.from_residual-in_err-body.ensures.1 (λ same. cc) h

pub returns-in_err-vars-clause-heavy : goal.returns-in_err-vars-clause-heavy
returns-in_err-vars-clause-heavy g c h = not-error c.from_residual-in_err-vars.result _ _ c.from_residual-in_err-vars.ensures.1 (λ same. cc) h

pub returns-then-not-room-clause-heavy : goal.returns-then-not-room-clause-heavy
returns-then-not-room-clause-heavy g c h = absurd cc

pub returns-clause-heavy : goal.returns-clause-heavy
returns-clause-heavy g c h = absurd cc

pub place_all-requires-clause-sized : goal.place_all-requires-clause-sized
place_all-requires-clause-sized g c =
    let same = (λ k. (c.new-room.ensures.sorts k).items) ∙ (c.in_ok-to_vec.ensures.items_if_clones_equal (λ x y h. h) ∙ c.as_slice-vars.ensures) in
    rw same (problem.variables-sized g.T.Theory.numeric c.args.problem.now.vars (problem_variables g.T.Theory.owned g.T.Theory.numeric g.T.Theory.denotes c.args.problem.now c.requires.problem))

pub place_all-requires-clause-small : goal.place_all-requires-clause-small
place_all-requires-clause-small g c = omega (arith, c.new-room.ensures.weight, c.ranges.limit)

pub place_all-requires-2-clause-small : goal.place_all-requires-2-clause-small
place_all-requires-2-clause-small g c =
    let taken = c.in_ok-assumptions.ensures.ok.weight in
    omega (arith, taken, c.new-room.ensures.weight, c.ranges.limit)

pub returns-in_err-assumptions-clause-query : goal.returns-in_err-assumptions-clause-query
returns-in_err-assumptions-clause-query g c = IfOk-from_err c.from_residual-in_err-assumptions.result _ c.from_residual-in_err-assumptions.ensures.0

pub returns-in_err-assumptions-clause-fits : goal.returns-in_err-assumptions-clause-fits
returns-in_err-assumptions-clause-fits g c = IfOk-from_err c.from_residual-in_err-assumptions.result _ c.from_residual-in_err-assumptions.ensures.0

pub returns-in_err-assumptions-clause-violations : goal.returns-in_err-assumptions-clause-violations
returns-in_err-assumptions-clause-violations g c = IfOk-from_err c.from_residual-in_err-assumptions.result _ c.from_residual-in_err-assumptions.ensures.0

pub returns-in_err-assumptions-clause-light : goal.returns-in_err-assumptions-clause-light
returns-in_err-assumptions-clause-light g c = IfOk-from_err c.from_residual-in_err-assumptions.result _ c.from_residual-in_err-assumptions.ensures.0

pub returns-in_err-constraints-clause-query : goal.returns-in_err-constraints-clause-query
returns-in_err-constraints-clause-query g c = IfOk-from_err c.from_residual-in_err-constraints.result _ c.from_residual-in_err-constraints.ensures.0

pub returns-in_err-constraints-clause-fits : goal.returns-in_err-constraints-clause-fits
returns-in_err-constraints-clause-fits g c = IfOk-from_err c.from_residual-in_err-constraints.result _ c.from_residual-in_err-constraints.ensures.0

pub returns-in_err-constraints-clause-violations : goal.returns-in_err-constraints-clause-violations
returns-in_err-constraints-clause-violations g c = IfOk-from_err c.from_residual-in_err-constraints.result _ c.from_residual-in_err-constraints.ensures.0

pub returns-in_err-constraints-clause-light : goal.returns-in_err-constraints-clause-light
returns-in_err-constraints-clause-light g c = IfOk-from_err c.from_residual-in_err-constraints.result _ c.from_residual-in_err-constraints.ensures.0

pub returns-in_err-to_vec-clause-query : goal.returns-in_err-to_vec-clause-query
returns-in_err-to_vec-clause-query g c = IfOk-from_err c.from_residual.result _ c.from_residual.ensures.0

pub returns-in_err-to_vec-clause-fits : goal.returns-in_err-to_vec-clause-fits
returns-in_err-to_vec-clause-fits g c = IfOk-from_err c.from_residual.result _ c.from_residual.ensures.0

pub returns-in_err-to_vec-clause-violations : goal.returns-in_err-to_vec-clause-violations
returns-in_err-to_vec-clause-violations g c = IfOk-from_err c.from_residual.result _ c.from_residual.ensures.0

pub returns-in_err-to_vec-clause-light : goal.returns-in_err-to_vec-clause-light
returns-in_err-to_vec-clause-light g c = IfOk-from_err c.from_residual.result _ c.from_residual.ensures.0

pub returns-in_err-body-clause-query : goal.returns-in_err-body-clause-query
returns-in_err-body-clause-query g c = IfOk-from_err c.from_residual-in_err-body.result _ c.from_residual-in_err-body.ensures.0

pub returns-in_err-body-clause-fits : goal.returns-in_err-body-clause-fits
returns-in_err-body-clause-fits g c = IfOk-from_err c.from_residual-in_err-body.result _ c.from_residual-in_err-body.ensures.0

pub returns-in_err-body-clause-violations : goal.returns-in_err-body-clause-violations
returns-in_err-body-clause-violations g c = IfOk-from_err c.from_residual-in_err-body.result _ c.from_residual-in_err-body.ensures.0

pub returns-in_err-body-clause-light : goal.returns-in_err-body-clause-light
returns-in_err-body-clause-light g c = IfOk-from_err c.from_residual-in_err-body.result _ c.from_residual-in_err-body.ensures.0

pub returns-in_err-vars-clause-query : goal.returns-in_err-vars-clause-query
returns-in_err-vars-clause-query g c = IfOk-from_err c.from_residual-in_err-vars.result _ c.from_residual-in_err-vars.ensures.0

pub returns-in_err-vars-clause-fits : goal.returns-in_err-vars-clause-fits
returns-in_err-vars-clause-fits g c = IfOk-from_err c.from_residual-in_err-vars.result _ c.from_residual-in_err-vars.ensures.0

pub returns-in_err-vars-clause-violations : goal.returns-in_err-vars-clause-violations
returns-in_err-vars-clause-violations g c = IfOk-from_err c.from_residual-in_err-vars.result _ c.from_residual-in_err-vars.ensures.0

pub returns-in_err-vars-clause-light : goal.returns-in_err-vars-clause-light
returns-in_err-vars-clause-light g c = IfOk-from_err c.from_residual-in_err-vars.result _ c.from_residual-in_err-vars.ensures.0
