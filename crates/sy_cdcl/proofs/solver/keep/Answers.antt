use Rattle.std.proofs.Common.{◌≡◌, ◌∙◌, ℕ, ◌++◌, ◌∷◌, [], List, sym, subst, ap, refl, Some, length, vec_len}
use Rattle.std.specs.Prelude.{slice_get, MatchOption}
use Rattle.std.proofs.lemmas.Result.{IfOk-from_err}
use Rattle.sy_clauses.specs.declared.Lit.{Lit}
use Rattle.sy_clauses.specs.Clauses.{Clause, literals, known_clauses}
use Rattle.sy_clauses.specs.New.{Partial, IsUnit}
use Rattle.sy_cdcl_literals.specs.declared.entries.Entry.{Entry}
use Rattle.sy_cdcl.specs.Trails.{TrailIsReady, LevelsSettled}
use Rattle.sy_cdcl.specs.Storing.{clauses_in}
use Rattle.sy_cdcl.specs.Watching.{IsWatching, IsSkipped, IsPaired}
use Rattle.sy_cdcl.proofs.Push.{same_values, ready_forced, extends_push}
use Rattle.sy_cdcl.proofs.Levels.{levels_kept}
use Rattle.sy_cdcl.proofs.Growth.{known_more, ready_known, levels_known}
use Rattle.sy_cdcl.proofs.Listing.{list_of-lt}
use Rattle.sy_cdcl.proofs.Attaching.{watching_learned, last_inside}
use Rattle.sy_cdcl.proofs.solver.keep.Goals as goal

get_end : (xs : List Clause) (x : Clause) → slice_get (xs ++ x ∷ []) (length xs) ≡ Some x
get_end [] x = refl
get_end (y ∷ ys) x = get_end ys x

pub assign-requires-clause-within : goal.assign-requires-clause-within
assign-requires-clause-within c = c.requires.vars c.args.lesson.literal.var c.args.lesson.literal.positive c.requires.unit.has

pub assign-requires-clause-unvalued : goal.assign-requires-clause-unvalued
assign-requires-clause-unvalued c =
    c.requires.ready.assignment.agrees c.args.lesson.literal.var ∙ c.requires.unit.unvalued

pub watch_lesson-requires-clause-literal : goal.watch_lesson-requires-clause-literal
watch_lesson-requires-clause-literal c =
    list_of-lt c.args.lesson.literal _ _
    (c.requires.vars c.args.lesson.literal.var c.args.lesson.literal.positive c.requires.unit.has) c.requires.watching.lists

pub watch_lesson-requires-clause-last : goal.watch_lesson-requires-clause-last
watch_lesson-requires-clause-last c =
    last_inside c.args.trail.now.entries.items (literals c.args.lesson.clause) c.args.lesson.last (vec_len c.args.trail.now.values) (length c.args.watches.now.lists.items)
    c.requires.last c.requires.vars c.requires.watching.lists

pub returns-clause-ready : goal.returns-clause-ready
returns-clause-ready c =
    let t = c.args.trail.now in
    let new = literals c.args.lesson.clause in
    let known = known_clauses c.args.cnf.now.clauses c.args.derived.now.items in
    let grown : known_clauses c.args.cnf.now.clauses c.push-2.new.self.items ≡ known ++ new ∷ [] =
    ap (known_clauses c.args.cnf.now.clauses) c.in_ok-push-2.ensures.items ∙ known_more c.args.cnf.now.clauses c.args.derived.now.items c.args.lesson.clause in
    let at : slice_get (known ++ new ∷ []) c.args.number ≡ Some new =
    subst (λ (n : ℕ). slice_get (known ++ new ∷ []) n ≡ Some new) c.requires.number (get_end known new) in
    let unit = subst (λ (f : Partial). IsUnit f new c.args.lesson.literal.var c.args.lesson.literal.positive) (sym (same_values t c.requires.ready.assignment.agrees)) c.requires.unit in
    let e : Entry = record { literal = c.args.lesson.literal; reason = Some c.args.number } in
    subst (λ (ks : List Clause). TrailIsReady ks c.assign.new.self) (sym grown)
    (ready_forced (known ++ new ∷ []) t c.assign.new.self e c.args.number new (ready_known known new t c.requires.ready)
    c.in_ok-assign.ensures.entries c.assign.ensures.starts c.in_ok-assign.ensures.agrees refl at unit)

pub returns-clause-levels : goal.returns-clause-levels
returns-clause-levels c =
    let t = c.args.trail.now in
    let new = literals c.args.lesson.clause in
    let known = known_clauses c.args.cnf.now.clauses c.args.derived.now.items in
    let grown : known_clauses c.args.cnf.now.clauses c.push-2.new.self.items ≡ known ++ new ∷ [] =
    ap (known_clauses c.args.cnf.now.clauses) c.in_ok-push-2.ensures.items ∙ known_more c.args.cnf.now.clauses c.args.derived.now.items c.args.lesson.clause in
    let e : Entry = record { literal = c.args.lesson.literal; reason = Some c.args.number } in
    subst (λ (ks : List Clause). LevelsSettled ks c.assign.new.self) (sym grown)
    (levels_kept (known ++ new ∷ []) t c.assign.new.self (ready_known known new t c.requires.ready)
    (extends_push t c.assign.new.self e c.in_ok-assign.ensures.entries c.assign.ensures.starts c.in_ok-assign.ensures.vars c.in_ok-assign.ensures.fewer)
    (levels_known known new t c.requires.levels c.requires.lowest))

pub returns-clause-watching : goal.returns-clause-watching
returns-clause-watching c =
    let t = c.args.trail.now in
    let w = c.args.watches.now in
    let w' = c.watch_lesson.new.watches in
    let new = literals c.args.lesson.clause in
    let known = known_clauses c.args.cnf.now.clauses c.args.derived.now.items in
    let grown : known_clauses c.args.cnf.now.clauses c.push-2.new.self.items ≡ known ++ new ∷ [] =
    ap (known_clauses c.args.cnf.now.clauses) c.in_ok-push-2.ensures.items ∙ known_more c.args.cnf.now.clauses c.args.derived.now.items c.args.lesson.clause in
    let e : Entry = record { literal = c.args.lesson.literal; reason = Some c.args.number } in
    subst (λ (ks : List Clause). IsWatching ks c.assign.new.self w') (sym grown)
    (watching_learned known new t c.assign.new.self w w' c.args.lesson.literal c.args.lesson.last e c.requires.ready c.requires.watching c.requires.head
    c.requires.unit c.requires.lowest c.requires.last c.requires.vars refl c.in_ok-assign.ensures.entries c.assign.ensures.starts c.in_ok-assign.ensures.vars
    (subst (λ (n : ℕ). MatchOption c.args.lesson.last (IsSkipped w w') (λ second. IsPaired w w' n record { first = c.args.lesson.literal; second = second }))
    (sym c.requires.number) c.in_ok-watch_lesson.ensures.watched) c.watch_lesson.ensures.head)

pub returns-clause-stored : goal.returns-clause-stored
returns-clause-stored c =
    let new = literals c.args.lesson.clause in
    let known = known_clauses c.args.cnf.now.clauses c.args.derived.now.items in
    let grown : known_clauses c.args.cnf.now.clauses c.push-2.new.self.items ≡ known ++ new ∷ [] =
    ap (known_clauses c.args.cnf.now.clauses) c.in_ok-push-2.ensures.items ∙ known_more c.args.cnf.now.clauses c.args.derived.now.items c.args.lesson.clause in
    let stored : clauses_in c.push.new.self ≡ clauses_in c.args.store.now ++ new ∷ [] =
    subst (λ (ls : List Lit). clauses_in c.push.new.self ≡ clauses_in c.args.store.now ++ literals ls ∷ []) c.as_slice.ensures c.in_ok-push.ensures.clauses in
    stored ∙ ap (λ (ks : List Clause). ks ++ new ∷ []) c.requires.stored ∙ sym grown

pub returns-in_err-push-clause-stored : goal.returns-in_err-push-clause-stored
returns-in_err-push-clause-stored c = IfOk-from_err c.from_residual.result _ c.from_residual.ensures.0

pub returns-in_err-push-clause-fit : goal.returns-in_err-push-clause-fit
returns-in_err-push-clause-fit c = IfOk-from_err c.from_residual.result _ c.from_residual.ensures.0

pub returns-in_err-push-clause-derived : goal.returns-in_err-push-clause-derived
returns-in_err-push-clause-derived c = IfOk-from_err c.from_residual.result _ c.from_residual.ensures.0

pub returns-in_err-push-clause-ready : goal.returns-in_err-push-clause-ready
returns-in_err-push-clause-ready c = IfOk-from_err c.from_residual.result _ c.from_residual.ensures.0

pub returns-in_err-push-clause-levels : goal.returns-in_err-push-clause-levels
returns-in_err-push-clause-levels c = IfOk-from_err c.from_residual.result _ c.from_residual.ensures.0

pub returns-in_err-push-clause-watching : goal.returns-in_err-push-clause-watching
returns-in_err-push-clause-watching c = IfOk-from_err c.from_residual.result _ c.from_residual.ensures.0

pub returns-in_err-push-clause-all : goal.returns-in_err-push-clause-all
returns-in_err-push-clause-all c = IfOk-from_err c.from_residual.result _ c.from_residual.ensures.0

pub returns-in_err-push-2-clause-stored : goal.returns-in_err-push-2-clause-stored
returns-in_err-push-2-clause-stored c = IfOk-from_err c.from_residual-in_err-push-2.result _ c.from_residual-in_err-push-2.ensures.0

pub returns-in_err-push-2-clause-fit : goal.returns-in_err-push-2-clause-fit
returns-in_err-push-2-clause-fit c = IfOk-from_err c.from_residual-in_err-push-2.result _ c.from_residual-in_err-push-2.ensures.0

pub returns-in_err-push-2-clause-derived : goal.returns-in_err-push-2-clause-derived
returns-in_err-push-2-clause-derived c = IfOk-from_err c.from_residual-in_err-push-2.result _ c.from_residual-in_err-push-2.ensures.0

pub returns-in_err-push-2-clause-ready : goal.returns-in_err-push-2-clause-ready
returns-in_err-push-2-clause-ready c = IfOk-from_err c.from_residual-in_err-push-2.result _ c.from_residual-in_err-push-2.ensures.0

pub returns-in_err-push-2-clause-levels : goal.returns-in_err-push-2-clause-levels
returns-in_err-push-2-clause-levels c = IfOk-from_err c.from_residual-in_err-push-2.result _ c.from_residual-in_err-push-2.ensures.0

pub returns-in_err-push-2-clause-watching : goal.returns-in_err-push-2-clause-watching
returns-in_err-push-2-clause-watching c = IfOk-from_err c.from_residual-in_err-push-2.result _ c.from_residual-in_err-push-2.ensures.0

pub returns-in_err-push-2-clause-all : goal.returns-in_err-push-2-clause-all
returns-in_err-push-2-clause-all c = IfOk-from_err c.from_residual-in_err-push-2.result _ c.from_residual-in_err-push-2.ensures.0

pub returns-in_err-assign-clause-stored : goal.returns-in_err-assign-clause-stored
returns-in_err-assign-clause-stored c = IfOk-from_err c.from_residual-in_err-assign.result _ c.from_residual-in_err-assign.ensures.0

pub returns-in_err-assign-clause-fit : goal.returns-in_err-assign-clause-fit
returns-in_err-assign-clause-fit c = IfOk-from_err c.from_residual-in_err-assign.result _ c.from_residual-in_err-assign.ensures.0

pub returns-in_err-assign-clause-derived : goal.returns-in_err-assign-clause-derived
returns-in_err-assign-clause-derived c = IfOk-from_err c.from_residual-in_err-assign.result _ c.from_residual-in_err-assign.ensures.0

pub returns-in_err-assign-clause-ready : goal.returns-in_err-assign-clause-ready
returns-in_err-assign-clause-ready c = IfOk-from_err c.from_residual-in_err-assign.result _ c.from_residual-in_err-assign.ensures.0

pub returns-in_err-assign-clause-levels : goal.returns-in_err-assign-clause-levels
returns-in_err-assign-clause-levels c = IfOk-from_err c.from_residual-in_err-assign.result _ c.from_residual-in_err-assign.ensures.0

pub returns-in_err-assign-clause-watching : goal.returns-in_err-assign-clause-watching
returns-in_err-assign-clause-watching c = IfOk-from_err c.from_residual-in_err-assign.result _ c.from_residual-in_err-assign.ensures.0

pub returns-in_err-assign-clause-all : goal.returns-in_err-assign-clause-all
returns-in_err-assign-clause-all c = IfOk-from_err c.from_residual-in_err-assign.result _ c.from_residual-in_err-assign.ensures.0

pub returns-in_err-watch_lesson-clause-stored : goal.returns-in_err-watch_lesson-clause-stored
returns-in_err-watch_lesson-clause-stored c = IfOk-from_err c.from_residual-in_err-watch_lesson.result _ c.from_residual-in_err-watch_lesson.ensures.0

pub returns-in_err-watch_lesson-clause-fit : goal.returns-in_err-watch_lesson-clause-fit
returns-in_err-watch_lesson-clause-fit c = IfOk-from_err c.from_residual-in_err-watch_lesson.result _ c.from_residual-in_err-watch_lesson.ensures.0

pub returns-in_err-watch_lesson-clause-derived : goal.returns-in_err-watch_lesson-clause-derived
returns-in_err-watch_lesson-clause-derived c = IfOk-from_err c.from_residual-in_err-watch_lesson.result _ c.from_residual-in_err-watch_lesson.ensures.0

pub returns-in_err-watch_lesson-clause-ready : goal.returns-in_err-watch_lesson-clause-ready
returns-in_err-watch_lesson-clause-ready c = IfOk-from_err c.from_residual-in_err-watch_lesson.result _ c.from_residual-in_err-watch_lesson.ensures.0

pub returns-in_err-watch_lesson-clause-levels : goal.returns-in_err-watch_lesson-clause-levels
returns-in_err-watch_lesson-clause-levels c = IfOk-from_err c.from_residual-in_err-watch_lesson.result _ c.from_residual-in_err-watch_lesson.ensures.0

pub returns-in_err-watch_lesson-clause-watching : goal.returns-in_err-watch_lesson-clause-watching
returns-in_err-watch_lesson-clause-watching c = IfOk-from_err c.from_residual-in_err-watch_lesson.result _ c.from_residual-in_err-watch_lesson.ensures.0

pub returns-in_err-watch_lesson-clause-all : goal.returns-in_err-watch_lesson-clause-all
returns-in_err-watch_lesson-clause-all c = IfOk-from_err c.from_residual-in_err-watch_lesson.result _ c.from_residual-in_err-watch_lesson.ensures.0
