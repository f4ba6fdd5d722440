use Rattle.std.proofs.Common.{◌≡◌, ◌∙◌, ℕ, Option, sym, subst, length}
use Rattle.std.specs.Prelude.{MatchOption}
use Rattle.std.proofs.lemmas.Result.{IfOk-from_err}
use Rattle.sy_cdcl.specs.Storing.{clauses_in}
use Rattle.sy_clauses.specs.New.{AllSettled}
use Rattle.sy_cdcl.specs.Trails.{VarsBelow, kept_values}
use Rattle.sy_cdcl.specs.Status.{IsConflict}
use Rattle.sy_cdcl.proofs.Levels.{levels_kept}
use Rattle.sy_cdcl.proofs.Attaching.{watching_decided}
use Rattle.sy_cdcl.proofs.solver.search.Goals as goal

pub propagate-requires-clause-vars : goal.propagate-requires-clause-vars
propagate-requires-clause-vars c =
    let known = clauses_in c.args.store.now in
    subst (λ (n : ℕ). VarsBelow n known) (sym c.loop-conflict.invariant.all) c.requires.vars

pub returns-in-Some-clause-levels : goal.returns-in-Some-clause-levels
returns-in-Some-clause-levels c =
    levels_kept (clauses_in c.args.store.now) c.loop-conflict.trail c.propagate.new.trail
    c.loop-conflict.invariant.ready c.in_ok-conflict.ensures.extends c.loop-conflict.invariant.levels

pub returns-in_default-choose-clause-levels : goal.returns-in_default-choose-clause-levels
returns-in_default-choose-clause-levels c =
    levels_kept (clauses_in c.args.store.now) c.loop-conflict.trail c.propagate.new.trail
    c.loop-conflict.invariant.ready c.in_ok-conflict.ensures.extends c.loop-conflict.invariant.levels

pub decide-requires-clause-levels : goal.decide-requires-clause-levels
decide-requires-clause-levels c =
    levels_kept (clauses_in c.args.store.now) c.loop-conflict.trail c.propagate.new.trail
    c.loop-conflict.invariant.ready c.in_ok-conflict.ensures.extends c.loop-conflict.invariant.levels

pub loop-conflict-preserved : goal.loop-conflict-preserved
loop-conflict-preserved c =
    let known = clauses_in c.args.store.now in
    let t = c.propagate.new.trail in
    let w = c.propagate.new.watches in
    let e = c.in_ok-decide.ensures in
    let quiet : (w.head ≡ length t.entries.items) × AllSettled (kept_values t.values.items) known =
    subst (λ (o : Option ℕ). MatchOption o ((w.head ≡ length t.entries.items) × AllSettled (kept_values t.values.items) known)
    (λ number. IsConflict known (kept_values t.values.items) number)) c.in_default.is c.in_ok-conflict.ensures.ends in
    record {
      ready = e.ready;
      levels = e.levels;
      all = e.vars ∙ c.in_ok-conflict.ensures.extends.vars ∙ c.loop-conflict.invariant.all;
      watching = watching_decided known t c.decide.new.trail w _ c.in_ok-conflict.ensures.watching quiet.0 e.entries e.starts e.vars;
    }

pub returns-in_err-conflict-clause-ready : goal.returns-in_err-conflict-clause-ready
returns-in_err-conflict-clause-ready c = IfOk-from_err c.from_residual.result _ c.from_residual.ensures.0

pub returns-in_err-conflict-clause-levels : goal.returns-in_err-conflict-clause-levels
returns-in_err-conflict-clause-levels c = IfOk-from_err c.from_residual.result _ c.from_residual.ensures.0

pub returns-in_err-conflict-clause-all : goal.returns-in_err-conflict-clause-all
returns-in_err-conflict-clause-all c = IfOk-from_err c.from_residual.result _ c.from_residual.ensures.0

pub returns-in_err-conflict-clause-watching : goal.returns-in_err-conflict-clause-watching
returns-in_err-conflict-clause-watching c = IfOk-from_err c.from_residual.result _ c.from_residual.ensures.0

pub returns-in_err-conflict-clause-ends : goal.returns-in_err-conflict-clause-ends
returns-in_err-conflict-clause-ends c = IfOk-from_err c.from_residual.result _ c.from_residual.ensures.0

pub returns-in_err-decide-clause-ready : goal.returns-in_err-decide-clause-ready
returns-in_err-decide-clause-ready c = IfOk-from_err c.from_residual-in_err-decide.result _ c.from_residual-in_err-decide.ensures.0

pub returns-in_err-decide-clause-levels : goal.returns-in_err-decide-clause-levels
returns-in_err-decide-clause-levels c = IfOk-from_err c.from_residual-in_err-decide.result _ c.from_residual-in_err-decide.ensures.0

pub returns-in_err-decide-clause-all : goal.returns-in_err-decide-clause-all
returns-in_err-decide-clause-all c = IfOk-from_err c.from_residual-in_err-decide.result _ c.from_residual-in_err-decide.ensures.0

pub returns-in_err-decide-clause-watching : goal.returns-in_err-decide-clause-watching
returns-in_err-decide-clause-watching c = IfOk-from_err c.from_residual-in_err-decide.result _ c.from_residual-in_err-decide.ensures.0

pub returns-in_err-decide-clause-ends : goal.returns-in_err-decide-clause-ends
returns-in_err-decide-clause-ends c = IfOk-from_err c.from_residual-in_err-decide.result _ c.from_residual-in_err-decide.ensures.0
