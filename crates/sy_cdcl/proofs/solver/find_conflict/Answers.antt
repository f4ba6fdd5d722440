use Rattle.std.proofs.Common.{◌≡◌, List, Option, ℕ, sym, subst, vec_len}
use Rattle.std.specs.Prelude.{MatchOption}
use Rattle.std.proofs.lemmas.Result.{IfOk-from_err}
use Rattle.sy_clauses.specs.Clauses.{Clause}
use Rattle.sy_clauses.specs.New.{AllSettled}
use Rattle.sy_cdcl.specs.Trails.{VarsBelow, TrailIsReady, LevelsSettled, AllValued, kept_values}
use Rattle.sy_cdcl.specs.Status.{IsConflict}
use Rattle.sy_cdcl.specs.Watching.{IsWatching}
use Rattle.sy_cdcl.proofs.States.{sound_searched}
use Rattle.sy_cdcl.proofs.solver.find_conflict.Goals as goal

pub search-requires-clause-ready : goal.search-requires-clause-ready
search-requires-clause-ready c =
    subst (λ (ks : List Clause). TrailIsReady ks c.args.state.now.trail) (sym c.requires.sound.stored) c.requires.sound.ready

pub search-requires-clause-levels : goal.search-requires-clause-levels
search-requires-clause-levels c =
    subst (λ (ks : List Clause). LevelsSettled ks c.args.state.now.trail) (sym c.requires.sound.stored) c.requires.sound.levels

pub search-requires-clause-vars : goal.search-requires-clause-vars
search-requires-clause-vars c =
    subst (λ (ks : List Clause). VarsBelow c.args.cnf.now.vars ks) (sym c.requires.sound.stored) c.requires.sound.vars

pub search-requires-clause-watching : goal.search-requires-clause-watching
search-requires-clause-watching c =
    subst (λ (ks : List Clause). IsWatching ks c.args.state.now.trail c.args.state.now.watches) (sym c.requires.sound.stored)
    c.requires.sound.watching

pub returns-clause-sound : goal.returns-clause-sound
returns-clause-sound c =
    let e = c.in_ok-conflict.ensures in
    sound_searched c.args.cnf.now c.args.state.now c.search.new.trail c.search.new.watches c.search.new.order c.requires.sound
    e.ready e.levels e.all e.watching

pub returns-clause-ends : goal.returns-clause-ends
returns-clause-ends c =
    let t = c.search.new.trail in
    subst (λ (ks : List Clause). MatchOption c.in_ok-conflict.conflict
    (AllSettled (kept_values t.values.items) ks × AllValued c.args.cnf.now.vars t)
    (λ number. IsConflict ks (kept_values t.values.items) number)) c.requires.sound.stored c.in_ok-conflict.ensures.ends

pub returns-in_err-conflict-clause-sound : goal.returns-in_err-conflict-clause-sound
returns-in_err-conflict-clause-sound c = IfOk-from_err c.from_residual.result _ c.from_residual.ensures.0

pub returns-in_err-conflict-clause-ends : goal.returns-in_err-conflict-clause-ends
returns-in_err-conflict-clause-ends c = IfOk-from_err c.from_residual.result _ c.from_residual.ensures.0
