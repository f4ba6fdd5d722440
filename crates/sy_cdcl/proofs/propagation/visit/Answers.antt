use Rattle.std.proofs.Common.{◌≡◌, ◌∙◌, ◌+◌, ℕ, sym, subst, arith, Some, None}
use Rattle.std.specs.Prelude.{slice_get}
use Rattle.std.proofs.lemmas.Option.{slice_get_within}
use Rattle.std.proofs.lemmas.Result.{IfOk-from_err}
use Rattle.sy_cdcl.specs.Storing.{clauses_in}
use Rattle.sy_cdcl.specs.Watching.{list_at, AllWatched}
use Rattle.sy_cdcl.proofs.Listing.{list_within, list_of-lt}
use Rattle.sy_cdcl.proofs.Visiting.{visiting_first, visiting_stayed, visiting_moved, visiting_forced, visiting_shorter, visiting_last}
use Rattle.sy_cdcl.proofs.propagation.visit.Goals as goal

pub loop-number-init : goal.loop-number-init
loop-number-init c =
    visiting_first (clauses_in c.args.store.now) c.args.trail.now c.args.watches.now c.args.entry
    c.negated-falsified.result c.list_index-list.result c.requires.ready c.requires.vars c.requires.watching c.requires.at
    record { var = c.negated-falsified.ensures.var; sign = c.negated-falsified.ensures.sign } c.list_index-list.ensures

pub overflow_add-place : goal.overflow_add-place
overflow_add-place c = omega (arith, c.in-Some.ensures.next)

pub loop-number-smaller-in-Stay : goal.loop-number-smaller-in-Stay
loop-number-smaller-in-Stay c =
    let h = slice_get_within (list_at c.loop-number.watches.lists.items c.list_index-list.result) c.loop-number.place c.in-Some.number (sym c.in-Some.ensures.found) in
    omega arith

pub loop-number-preserved-in-Stay : goal.loop-number-preserved-in-Stay
loop-number-preserved-in-Stay c =
    visiting_stayed (clauses_in c.args.store.now) c.args.trail.now c.loop-number.trail c.loop-number.watches c.args.watches.now.head
    c.list_index-list.result c.loop-number.place c.in-Some.number c.args.entry c.negated-falsified.result
    record { var = c.negated-falsified.ensures.var; sign = c.negated-falsified.ensures.sign } c.loop-number.invariant (sym c.in-Some.ensures.found)
    c.in-Stay.ensures

pub change-requires-clause-place : goal.change-requires-clause-place
change-requires-clause-place c =
    slice_get_within (list_at c.loop-number.watches.lists.items c.list_index-list.result) c.loop-number.place c.in-Some.number (sym c.in-Some.ensures.found)

pub change-requires-clause-list : goal.change-requires-clause-list
change-requires-clause-list c =
    list_within c.loop-number.watches.lists.items c.list_index-list.result c.loop-number.place c.in-Some.number (sym c.in-Some.ensures.found)

pub change-requires-clause-number : goal.change-requires-clause-number
change-requires-clause-number c =
    let m = c.in-Move.ensures in
    let w = slice_get_within (clauses_in c.args.store.now) c.in-Some.number m.clause m.at in
    let p = c.loop-number.invariant.watching.pairs in
    omega arith

pub change-requires-clause-second : goal.change-requires-clause-second
change-requires-clause-second c =
    let m = c.in-Move.ensures in
    let i = c.loop-number.invariant in
    list_of-lt c.in-Move.pair.second _ _
    (i.vars c.in-Some.number m.clause c.in-Move.pair.second.var c.in-Move.pair.second.positive m.at m.other.has) i.watching.lists

pub loop-number-smaller-in-Move : goal.loop-number-smaller-in-Move
loop-number-smaller-in-Move c =
    visiting_shorter (clauses_in c.args.store.now) c.args.trail.now c.loop-number.trail c.loop-number.watches c.change.new.self
    c.args.watches.now.head c.list_index-list.result c.loop-number.place c.in-Some.number c.args.entry c.negated-falsified.result c.in-Move.pair
    record { var = c.negated-falsified.ensures.var; sign = c.negated-falsified.ensures.sign } c.list_index-list.ensures
    c.loop-number.invariant (sym c.in-Some.ensures.found) c.in-Move.ensures c.in_ok-change-in-Move.ensures.lists

pub loop-number-preserved-in-Move : goal.loop-number-preserved-in-Move
loop-number-preserved-in-Move c =
    let m = c.in-Move.ensures in
    let i = c.loop-number.invariant in
    let w = slice_get_within (clauses_in c.args.store.now) c.in-Some.number m.clause m.at in
    let p = i.watching.pairs in
    visiting_moved (clauses_in c.args.store.now) c.args.trail.now c.loop-number.trail c.loop-number.watches c.change.new.self
    c.args.watches.now.head c.list_index-list.result c.loop-number.place c.in-Some.number c.args.entry c.negated-falsified.result c.in-Move.pair
    record { var = c.negated-falsified.ensures.var; sign = c.negated-falsified.ensures.sign } c.list_index-list.ensures
    i (sym c.in-Some.ensures.found)
    (list_within c.loop-number.watches.lists.items c.list_index-list.result c.loop-number.place c.in-Some.number (sym c.in-Some.ensures.found))
    (list_of-lt c.in-Move.pair.second _ _
    (i.vars c.in-Some.number m.clause c.in-Move.pair.second.var c.in-Move.pair.second.positive m.at m.other.has) i.watching.lists)
    (omega arith) m c.in_ok-change-in-Move.ensures.lists c.in_ok-change-in-Move.ensures.pairs c.in_ok-change-in-Move.ensures.head

pub overflow_add-place-in-Force : goal.overflow_add-place-in-Force
overflow_add-place-in-Force c = omega (arith, c.in-Some.ensures.next)

pub loop-number-smaller : goal.loop-number-smaller
loop-number-smaller c =
    let h = slice_get_within (list_at c.loop-number.watches.lists.items c.list_index-list.result) c.loop-number.place c.in-Some.number (sym c.in-Some.ensures.found) in
    omega arith

pub loop-number-preserved : goal.loop-number-preserved
loop-number-preserved c =
    visiting_forced (clauses_in c.args.store.now) c.args.trail.now c.loop-number.trail c.force.new.trail c.loop-number.watches
    c.args.watches.now.head c.list_index-list.result c.loop-number.place c.in-Some.number c.args.entry c.negated-falsified.result c.in-Force.literal
    (Some c.in-Some.number)
    record { var = c.negated-falsified.ensures.var; sign = c.negated-falsified.ensures.sign } c.loop-number.invariant (sym c.in-Some.ensures.found)
    c.in-Force.ensures c.in_ok-force-in-Force.ensures.ready c.in_ok-force-in-Force.ensures.entries c.in_ok-force-in-Force.ensures.extends

pub returns-clause-ends : goal.returns-clause-ends
returns-clause-ends c =
    let i = c.loop-number.invariant in
    let none : slice_get (list_at c.loop-number.watches.lists.items c.list_index-list.result) c.loop-number.place ≡ None =
    sym c.watcher.ensures.found ∙ c.in_default.is in
    let all = visiting_last (clauses_in c.args.store.now) c.args.trail.now c.loop-number.trail c.loop-number.watches
    c.args.watches.now.head c.list_index-list.result c.loop-number.place c.args.entry i none in
    subst (λ (h : ℕ). AllWatched (clauses_in c.args.store.now) c.loop-number.trail (h + 1) c.loop-number.watches.pairs.items) (sym i.unmoved) all

pub returns-in_err-change-in-Move-clause-ready : goal.returns-in_err-change-in-Move-clause-ready
returns-in_err-change-in-Move-clause-ready c = IfOk-from_err c.from_residual.result _ c.from_residual.ensures.0

pub returns-in_err-change-in-Move-clause-extends : goal.returns-in_err-change-in-Move-clause-extends
returns-in_err-change-in-Move-clause-extends c = IfOk-from_err c.from_residual.result _ c.from_residual.ensures.0

pub returns-in_err-change-in-Move-clause-watching : goal.returns-in_err-change-in-Move-clause-watching
returns-in_err-change-in-Move-clause-watching c = IfOk-from_err c.from_residual.result _ c.from_residual.ensures.0

pub returns-in_err-change-in-Move-clause-head : goal.returns-in_err-change-in-Move-clause-head
returns-in_err-change-in-Move-clause-head c = IfOk-from_err c.from_residual.result _ c.from_residual.ensures.0

pub returns-in_err-change-in-Move-clause-ends : goal.returns-in_err-change-in-Move-clause-ends
returns-in_err-change-in-Move-clause-ends c = IfOk-from_err c.from_residual.result _ c.from_residual.ensures.0

pub returns-in_err-force-in-Force-clause-ready : goal.returns-in_err-force-in-Force-clause-ready
returns-in_err-force-in-Force-clause-ready c = IfOk-from_err c.from_residual-in_err-force-in-Force.result _ c.from_residual-in_err-force-in-Force.ensures.0

pub returns-in_err-force-in-Force-clause-extends : goal.returns-in_err-force-in-Force-clause-extends
returns-in_err-force-in-Force-clause-extends c = IfOk-from_err c.from_residual-in_err-force-in-Force.result _ c.from_residual-in_err-force-in-Force.ensures.0

pub returns-in_err-force-in-Force-clause-watching : goal.returns-in_err-force-in-Force-clause-watching
returns-in_err-force-in-Force-clause-watching c = IfOk-from_err c.from_residual-in_err-force-in-Force.result _ c.from_residual-in_err-force-in-Force.ensures.0

pub returns-in_err-force-in-Force-clause-head : goal.returns-in_err-force-in-Force-clause-head
returns-in_err-force-in-Force-clause-head c = IfOk-from_err c.from_residual-in_err-force-in-Force.result _ c.from_residual-in_err-force-in-Force.ensures.0

pub returns-in_err-force-in-Force-clause-ends : goal.returns-in_err-force-in-Force-clause-ends
returns-in_err-force-in-Force-clause-ends c = IfOk-from_err c.from_residual-in_err-force-in-Force.result _ c.from_residual-in_err-force-in-Force.ensures.0
