use Rattle.std.proofs.Common.{Bool, subst}
use Rattle.std.specs.Prelude.{MatchBool}
use Rattle.std.proofs.lemmas.Result.{IfOk-from_err}
use Rattle.sy_clauses.specs.Clauses.{literals}
use Rattle.sy_cdcl.specs.Storing.{clauses_in}
use Rattle.sy_clauses.specs.New.{HasTrue, IsFalse}
use Rattle.sy_cdcl.specs.Trails.{kept_values}
use Rattle.sy_cdcl.proofs.Listing.{list_of-lt}
use Rattle.sy_cdcl.proofs.Push.{extends_refl}
use Rattle.sy_cdcl.proofs.Attaching.{attached_paired, attached_skipped}
use Rattle.sy_cdcl.proofs.propagation.attach_clause.Goals as goal

pub watch-requires-clause-first : goal.watch-requires-clause-first
watch-requires-clause-first c =
    list_of-lt c.in-Some.first _ _
    (c.requires.vars c.args.number (literals c.args.clause.now) c.in-Some.first.var c.in-Some.first.positive c.requires.at c.in-Some.ensures)
    c.requires.attached.lists

pub watch-requires-clause-second : goal.watch-requires-clause-second
watch-requires-clause-second c =
    let s = c.in-Some-another.second in
    list_of-lt s _ _
    (c.requires.vars c.args.number (literals c.args.clause.now) s.var s.positive c.requires.at c.in-Some-another.ensures.has)
    c.requires.attached.lists

pub returns-in-Some-another-clause-ends : goal.returns-in-Some-another-clause-ends
returns-in-Some-another-clause-ends c =
    let f = c.in-Some.first in
    let s = c.in-Some-another.second in
    attached_paired (clauses_in c.args.store.now) c.args.trail.now c.args.watches.now c.watch.new.self c.args.number
    (literals c.args.clause.now) record { first = f; second = s } c.requires.attached c.requires.at c.in-Some.ensures c.in-Some-another.ensures
    (list_of-lt f _ _ (c.requires.vars c.args.number (literals c.args.clause.now) f.var f.positive c.requires.at c.in-Some.ensures) c.requires.attached.lists)
    (list_of-lt s _ _ (c.requires.vars c.args.number (literals c.args.clause.now) s.var s.positive c.requires.at c.in-Some-another.ensures.has) c.requires.attached.lists)
    c.in_ok-watch.ensures.lists c.in_ok-watch.ensures.pairs c.watch.ensures.head

pub returns-clause-ends : goal.returns-clause-ends
returns-clause-ends c =
    attached_skipped (clauses_in c.args.store.now) c.args.trail.now c.settle.new.trail c.args.watches.now c.skip.new.self
    c.args.number (literals c.args.clause.now) c.in_ok-settle.ensures.ready c.in_ok-settle.ensures.extends c.requires.attached c.requires.at
    (subst (λ (b : Bool). MatchBool b (HasTrue (kept_values c.settle.new.trail.values.items) (literals c.args.clause.now))
    (IsFalse (kept_values c.settle.new.trail.values.items) (literals c.args.clause.now))) c.if-not-branch.false c.in_ok-settle.ensures.ends)
    c.skip.ensures.lists c.in_ok-skip.ensures.pairs c.skip.ensures.head

pub returns-in_default-clause-extends : goal.returns-in_default-clause-extends
returns-in_default-clause-extends c = extends_refl c.args.trail.now

pub returns-in_default-clause-ends : goal.returns-in_default-clause-ends
returns-in_default-clause-ends c = λ v s h. (let e = c.in_default.ensures v s in cc)

pub returns-in-Some-another-clause-extends : goal.returns-in-Some-another-clause-extends
returns-in-Some-another-clause-extends c = extends_refl c.args.trail.now

pub returns-then-not-branch-clause-ends : goal.returns-then-not-branch-clause-ends
returns-then-not-branch-clause-ends c =
    subst (λ (b : Bool). MatchBool b (HasTrue (kept_values c.settle.new.trail.values.items) (literals c.args.clause.now))
    (IsFalse (kept_values c.settle.new.trail.values.items) (literals c.args.clause.now))) c.if-not-branch.true c.in_ok-settle.ensures.ends

pub returns-in_err-settle-clause-ready : goal.returns-in_err-settle-clause-ready
returns-in_err-settle-clause-ready c = IfOk-from_err c.from_residual-in_err-settle.result _ c.from_residual-in_err-settle.ensures.0

pub returns-in_err-settle-clause-extends : goal.returns-in_err-settle-clause-extends
returns-in_err-settle-clause-extends c = IfOk-from_err c.from_residual-in_err-settle.result _ c.from_residual-in_err-settle.ensures.0

pub returns-in_err-settle-clause-ends : goal.returns-in_err-settle-clause-ends
returns-in_err-settle-clause-ends c = IfOk-from_err c.from_residual-in_err-settle.result _ c.from_residual-in_err-settle.ensures.0

pub returns-in_err-skip-clause-ready : goal.returns-in_err-skip-clause-ready
returns-in_err-skip-clause-ready c = IfOk-from_err c.from_residual-in_err-skip.result _ c.from_residual-in_err-skip.ensures.0

pub returns-in_err-skip-clause-extends : goal.returns-in_err-skip-clause-extends
returns-in_err-skip-clause-extends c = IfOk-from_err c.from_residual-in_err-skip.result _ c.from_residual-in_err-skip.ensures.0

pub returns-in_err-skip-clause-ends : goal.returns-in_err-skip-clause-ends
returns-in_err-skip-clause-ends c = IfOk-from_err c.from_residual-in_err-skip.result _ c.from_residual-in_err-skip.ensures.0
