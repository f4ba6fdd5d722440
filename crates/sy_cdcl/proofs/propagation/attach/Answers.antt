use Rattle.std.proofs.Common.{Bool, ◌+◌, arith, subst}
use Rattle.std.specs.Prelude.{MatchBool}
use Rattle.std.proofs.lemmas.Result.{IfOk-from_err}
use Rattle.sy_clauses.specs.Clauses.{literals}
use Rattle.sy_cdcl.specs.Storing.{clauses_in}
use Rattle.sy_clauses.specs.New.{IsFalse}
use Rattle.sy_cdcl.specs.Trails.{kept_values}
use Rattle.sy_cdcl.specs.Watching.{IsAttached}
use Rattle.sy_cdcl.proofs.Push.{extends_refl, extends_trans, vars_kept}
use Rattle.sy_cdcl.proofs.Attaching.{attached_all, past}
use Rattle.sy_cdcl.proofs.propagation.attach.Goals as goal

pub loop-number-preserved : goal.loop-number-preserved
loop-number-preserved c =
    let known = clauses_in c.args.store.now in
    let i = c.loop-number.invariant in
    let e = c.in_ok-attach_clause.ensures in
    let t = c.attach_clause.new.trail in
    record {
      ready = e.ready;
      extends = extends_trans c.args.trail.now c.loop-number.trail t i.extends e.extends;
      vars = vars_kept known c.loop-number.trail t e.extends i.vars;
      attached = subst (λ (b : Bool). MatchBool b (IsAttached known t c.attach_clause.new.watches (c.loop-number.number + 1))
          (IsFalse (kept_values t.values.items) (literals c.in-Some.clause.now))) c.if-not-branch.false e.ends;
    }

pub returns-clause-ends : goal.returns-clause-ends
returns-clause-ends c =
    let known = clauses_in c.args.store.now in
    let i = c.loop-number.invariant in
    let n = c.requires.count in
    let end = c.loop-number.auto.number-end in
    attached_all known c.loop-number.trail c.loop-number.watches c.loop-number.number i.attached (omega arith) (omega arith)

pub loop-number-init : goal.loop-number-init
loop-number-init c = record {
  ready = c.requires.ready;
  extends = extends_refl c.args.trail.now;
  vars = c.requires.vars;
  attached = c.requires.attached;
}

-- each number below the count has a clause
pub loop-number-preserved-in_default : goal.loop-number-preserved-in_default
loop-number-preserved-in_default c =
    let beyond = past (clauses_in c.args.store.now) c.loop-number.number c.in_default.ensures in
    absurd (omega (arith, beyond, c.requires.count, c.loop-number-test.true))

pub returns-then-not-branch-clause-ready : goal.returns-then-not-branch-clause-ready
returns-then-not-branch-clause-ready c = c.in_ok-attach_clause.ensures.ready

pub returns-then-not-branch-clause-extends : goal.returns-then-not-branch-clause-extends
returns-then-not-branch-clause-extends c =
    extends_trans c.args.trail.now c.loop-number.trail c.attach_clause.new.trail c.loop-number.invariant.extends c.in_ok-attach_clause.ensures.extends

pub returns-then-not-branch-clause-ends : goal.returns-then-not-branch-clause-ends
returns-then-not-branch-clause-ends c =
    let known = clauses_in c.args.store.now in
    let t = c.attach_clause.new.trail in
    record {
      clause = literals c.in-Some.clause.now;
      at = c.in-Some.ensures;
      all_false = subst (λ (b : Bool). MatchBool b (IsAttached known t c.attach_clause.new.watches (c.loop-number.number + 1))
          (IsFalse (kept_values t.values.items) (literals c.in-Some.clause.now))) c.if-not-branch.true c.in_ok-attach_clause.ensures.ends;
    }

pub returns-clause-ready : goal.returns-clause-ready
returns-clause-ready c = c.loop-number.invariant.ready

pub returns-clause-extends : goal.returns-clause-extends
returns-clause-extends c = c.loop-number.invariant.extends

pub returns-in_err-attach_clause-clause-ready : goal.returns-in_err-attach_clause-clause-ready
returns-in_err-attach_clause-clause-ready c = IfOk-from_err c.from_residual.result _ c.from_residual.ensures.0

pub returns-in_err-attach_clause-clause-extends : goal.returns-in_err-attach_clause-clause-extends
returns-in_err-attach_clause-clause-extends c = IfOk-from_err c.from_residual.result _ c.from_residual.ensures.0

pub returns-in_err-attach_clause-clause-ends : goal.returns-in_err-attach_clause-clause-ends
returns-in_err-attach_clause-clause-ends c = IfOk-from_err c.from_residual.result _ c.from_residual.ensures.0
