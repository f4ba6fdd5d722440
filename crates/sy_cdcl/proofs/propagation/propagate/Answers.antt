use Rattle.std.proofs.Common.{◌≡◌, ◌+◌, ◌<◌, ℕ, arith, refl, subst, Option, length}
use Rattle.std.specs.Prelude.{MatchOption}
use Rattle.std.proofs.lemmas.Result.{IfOk-from_err}
use Rattle.sy_cdcl.specs.Storing.{clauses_in}
use Rattle.sy_cdcl.specs.Trails.{kept_values}
use Rattle.sy_cdcl.specs.Status.{IsConflict}
use Rattle.sy_cdcl.specs.Watching.{AllWatched}
use Rattle.sy_cdcl.proofs.Push.{extends_trans, vars_kept}
use Rattle.sy_cdcl.proofs.Visiting.{watching_next, all_settled}
use Rattle.sy_cdcl.proofs.propagation.propagate.Goals as goal

pub loop-watches-preserved : goal.loop-watches-preserved
loop-watches-preserved c =
    let known = clauses_in c.args.store.now in
    let i = c.loop-watches.invariant in
    let e = c.in_ok-number.ensures in
    let t = c.visit.new.trail in
    let w = c.visit.new.watches in
    let all : AllWatched known t (w.head + 1) w.pairs.items =
    subst (λ (o : Option ℕ). MatchOption o (AllWatched known t (w.head + 1) w.pairs.items)
    (λ number. IsConflict known (kept_values t.values.items) number)) c.in_default.is e.ends in
    let test = c.loop-watches-test.true in
    let len = c.len.ensures in
    let longer = e.extends.longer in
    let head = e.head in
    let more : w.head < length t.entries.items = omega (arith, c.loop-watches.trail.entries.ok.0) in
    record {
      ready = e.ready;
      extends = extends_trans c.args.trail.now c.loop-watches.trail t i.extends e.extends;
      vars = vars_kept known c.loop-watches.trail t e.extends i.vars;
      watching = watching_next known t w record { pairs = w.pairs; lists = w.lists; head = w.head + 1 } e.watching more all refl refl refl;
    }

pub returns-clause-ends : goal.returns-clause-ends
returns-clause-ends c =
    let known = clauses_in c.args.store.now in
    let i = c.loop-watches.invariant in
    let test = c.loop-watches-test.false in
    let len = c.len.ensures in
    let within = i.watching.head in
    let whole : c.loop-watches.watches.head ≡ length c.loop-watches.trail.entries.items = omega (arith, c.loop-watches.trail.entries.ok.0) in
    (whole, all_settled known c.loop-watches.trail c.loop-watches.watches i.ready i.watching whole)

pub returns-in_err-number-clause-ready : goal.returns-in_err-number-clause-ready
returns-in_err-number-clause-ready c = IfOk-from_err c.from_residual.result _ c.from_residual.ensures.0

pub returns-in_err-number-clause-extends : goal.returns-in_err-number-clause-extends
returns-in_err-number-clause-extends c = IfOk-from_err c.from_residual.result _ c.from_residual.ensures.0

pub returns-in_err-number-clause-watching : goal.returns-in_err-number-clause-watching
returns-in_err-number-clause-watching c = IfOk-from_err c.from_residual.result _ c.from_residual.ensures.0

pub returns-in_err-number-clause-ends : goal.returns-in_err-number-clause-ends
returns-in_err-number-clause-ends c = IfOk-from_err c.from_residual.result _ c.from_residual.ensures.0
