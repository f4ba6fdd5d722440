use Rattle.std.proofs.Common.{◌≡◌, ◌∙◌, ℕ, ◌+◌, ◌-◌, ◌<◌, List, sym, ap, subst, arith, Some, not, true}
use Rattle.std.specs.Prelude.{slice_get}
use Rattle.std.proofs.lemmas.Result.{IfOk-from_err}
use Rattle.sy_clauses.specs.declared.Step.{Step}
use Rattle.sy_clauses.specs.Clauses.{Clause, known_clauses, line_clause, after_step, resolved, literals}
use Rattle.sy_clauses.specs.Marking.{clause_of}
use Rattle.sy_clauses.specs.New.{IsUnit}
use Rattle.sy_cdcl.specs.Trails.{level_start}
use Rattle.sy_cdcl.specs.Conflicts.{value_below}
use Rattle.sy_cdcl.specs.Short.{HasMore, IsShort, IsCovered, IsWithin}
use Rattle.sy_cdcl.proofs.Push.{some_is}
use Rattle.sy_cdcl.proofs.Learning.{line_more, step_gave, start_within}
use Rattle.sy_cdcl.proofs.Shorter.{short_next, short_within, resolved_within, resolved_out, short_step, unit_within}
use Rattle.sy_cdcl.proofs.shortening.shorten.Goals as goal

pub loop-top-init : goal.loop-top-init
loop-top-init c =
    let start = c.level_start-top.ensures in
    record {
      below = omega arith;
      line = c.requires.line;
      unit = c.requires.unit;
      within = λ v s h. h;
      short = λ p e n d l k i r a h. absurd (omega arith);
      listed = c.requires.listed;
    }

pub loop-top-preserved-then-not-falsifies : goal.loop-top-preserved-then-not-falsifies
loop-top-preserved-then-not-falsifies c =
    let t = c.args.trail.now in
    let known = known_clauses c.args.cnf.now.clauses c.args.derived.now in
    let i = c.loop-top.invariant in
    let above = c.loop-top-test.true in
    let next : c.loop-top.top ≡ c.loop-top.top - 1 + 1 = omega arith in
    record {
      below = omega (arith, i.below);
      line = i.line;
      unit = i.unit;
      within = i.within;
      short = short_next known t.entries.items (c.loop-top.top - 1) (level_start t.starts.items) (clause_of c.loop-top.marks) c.entry_at-entry.result
          (subst (λ (n : ℕ). IsShort known t.entries.items n (level_start t.starts.items) (clause_of c.loop-top.marks)) next i.short)
          c.entry_at-entry.ensures
          (λ n d r a h. absurd (let z = sym h ∙ sym c.falsifies.ensures ∙ c.if-not-falsifies.true in cc));
      listed = i.listed;
    }

pub loop-top-preserved-in_default : goal.loop-top-preserved-in_default
loop-top-preserved-in_default c =
    let t = c.args.trail.now in
    let known = known_clauses c.args.cnf.now.clauses c.args.derived.now in
    let i = c.loop-top.invariant in
    let above = c.loop-top-test.true in
    let next : c.loop-top.top ≡ c.loop-top.top - 1 + 1 = omega arith in
    record {
      below = omega (arith, i.below);
      line = i.line;
      unit = i.unit;
      within = i.within;
      short = short_next known t.entries.items (c.loop-top.top - 1) (level_start t.starts.items) (clause_of c.loop-top.marks) c.entry_at-entry.result
          (subst (λ (n : ℕ). IsShort known t.entries.items n (level_start t.starts.items) (clause_of c.loop-top.marks)) next i.short)
          c.entry_at-entry.ensures
          (λ n d r a h. absurd (let z = sym r ∙ c.in_default.is in cc));
      listed = i.listed;
    }

pub loop-top-preserved-in_default-clause_at : goal.loop-top-preserved-in_default-clause_at
loop-top-preserved-in_default-clause_at c =
    let t = c.args.trail.now in
    let known = known_clauses c.args.cnf.now.clauses c.args.derived.now in
    let i = c.loop-top.invariant in
    let above = c.loop-top-test.true in
    let next : c.loop-top.top ≡ c.loop-top.top - 1 + 1 = omega arith in
    record {
      below = omega (arith, i.below);
      line = i.line;
      unit = i.unit;
      within = i.within;
      short = short_next known t.entries.items (c.loop-top.top - 1) (level_start t.starts.items) (clause_of c.loop-top.marks) c.entry_at-entry.result
          (subst (λ (n : ℕ). IsShort known t.entries.items n (level_start t.starts.items) (clause_of c.loop-top.marks)) next i.short)
          c.entry_at-entry.ensures
          (λ n d r a h.
          let q : c.in-Some.number ≡ n = some_is (sym c.in-Some.is ∙ r) in
          absurd (let z = sym a ∙ ap (slice_get known) (sym q) ∙ c.in_default-clause_at.ensures in cc));
      listed = i.listed;
    }

pub loop-top-preserved-then-not-covers : goal.loop-top-preserved-then-not-covers
loop-top-preserved-then-not-covers c =
    let t = c.args.trail.now in
    let known = known_clauses c.args.cnf.now.clauses c.args.derived.now in
    let i = c.loop-top.invariant in
    let above = c.loop-top-test.true in
    let e = c.entry_at-entry.result in
    let old = clause_of c.loop-top.marks in
    let next : c.loop-top.top ≡ c.loop-top.top - 1 + 1 = omega arith in
    record {
      below = omega (arith, i.below);
      line = i.line;
      unit = i.unit;
      within = i.within;
      short = short_next known t.entries.items (c.loop-top.top - 1) (level_start t.starts.items) old e
          (subst (λ (n : ℕ). IsShort known t.entries.items n (level_start t.starts.items) old) next i.short)
          c.entry_at-entry.ensures
          (λ n d r a h.
          let q : c.in-Some.number ≡ n = some_is (sym c.in-Some.is ∙ r) in
          let same : literals c.in-Some-clause_at.clause.now ≡ d = some_is (sym c.in-Some-clause_at.ensures ∙ ap (slice_get known) q ∙ a) in
          subst (λ (x : Clause). HasMore x e.literal old) same c.if-not-covers.ensures);
      listed = i.listed;
    }

pub loop-top-preserved : goal.loop-top-preserved
loop-top-preserved c =
    let t = c.args.trail.now in
    let known = known_clauses c.args.cnf.now.clauses c.args.derived.now in
    let i = c.loop-top.invariant in
    let above = c.loop-top-test.true in
    let below = i.below in
    let once = c.requires.ready.assignment.once in
    let e = c.entry_at-entry.result in
    let p = c.loop-top.top - 1 in
    let start = level_start t.starts.items in
    let old = clause_of c.loop-top.marks in
    let new = clause_of c.advance.new.marks in
    let r = c.in-Some.number in
    let at : slice_get t.entries.items p ≡ Some e = c.entry_at-entry.ensures in
    let lower : p < start = omega arith in
    let next : c.loop-top.top ≡ p + 1 = omega arith in
    let hit : old e.literal.var (not e.literal.positive) ≡ true = sym c.falsifies.ensures ∙ c.if-not-falsifies.false in
    let forced = c.requires.ready.justified.forced p e r at c.in-Some.is in
    let same_clause : literals c.in-Some-clause_at.clause.now ≡ forced.clause = some_is (sym c.in-Some-clause_at.ensures ∙ forced.at) in
    let covered : IsCovered forced.clause e.literal old =
    subst (λ (x : Clause). IsCovered x e.literal old) same_clause c.if-not-covers.ensures in
    let step : Step = record { var = e.literal.var; with = r } in
    let wanted = resolved e.literal.var (not e.literal.positive) old forced.clause in
    let gives = short_step known t p r e old c.args.literal once at lower i.unit hit forced in
    let same : new ≡ wanted = step_gave c.in_ok-advance.field-0 (after_step known old step) new wanted c.in_ok-advance.ensures.exact gives in
    let line = line_more known c.loop-top.longer.first c.loop-top.longer.steps step old new i.line (gives ∙ ap Some (sym same)) in
    let less = resolved_within old forced.clause e.literal covered in
    record {
      below = omega (arith, i.below);
      line = subst (λ (ss : List Step). line_clause known record { first = c.loop-top.longer.first; steps = ss } ≡ Some new) (sym c.in_ok-push.ensures.ok) line;
      unit = subst (λ (x : Clause). IsUnit (value_below t) x c.args.literal.var c.args.literal.positive) (sym same)
          (unit_within t p r e old c.args.literal known once at lower i.unit forced covered);
      within = subst (λ (x : Clause). IsWithin x (clause_of c.args.marks.now)) (sym same) (λ v s h. i.within v s (less v s h));
      short = subst (λ (x : Clause). IsShort known t.entries.items p start x) (sym same)
          (short_next known t.entries.items p start wanted e
          (short_within known t.entries.items (p + 1) start old wanted
          (subst (λ (n : ℕ). IsShort known t.entries.items n start old) next i.short) less)
          at (λ n d k a h. absurd (let z = sym h ∙ resolved_out known t.entries.items p r old e once at forced in cc)));
      listed = c.in_ok-advance.ensures.listed;
    }

pub entry_at-entry-requires : goal.entry_at-entry-requires
entry_at-entry-requires c =
    let below = c.loop-top.invariant.below in
    let above = c.loop-top-test.true in
    let within = start_within _ c.args.trail.now c.requires.ready in
    omega arith

pub returns-clause-short : goal.returns-clause-short
returns-clause-short c =
    let t = c.args.trail.now in
    let known = known_clauses c.args.cnf.now.clauses c.args.derived.now in
    let zero : c.loop-top.top ≡ 0 = omega (arith, c.loop-top-test.false) in
    subst (λ (n : ℕ). IsShort known t.entries.items n (level_start t.starts.items) (clause_of c.loop-top.marks)) zero c.loop-top.invariant.short

pub returns-in_err-advance-clause-line : goal.returns-in_err-advance-clause-line
returns-in_err-advance-clause-line c = IfOk-from_err c.from_residual.result _ c.from_residual.ensures.0

pub returns-in_err-advance-clause-unit : goal.returns-in_err-advance-clause-unit
returns-in_err-advance-clause-unit c = IfOk-from_err c.from_residual.result _ c.from_residual.ensures.0

pub returns-in_err-advance-clause-within : goal.returns-in_err-advance-clause-within
returns-in_err-advance-clause-within c = IfOk-from_err c.from_residual.result _ c.from_residual.ensures.0

pub returns-in_err-advance-clause-short : goal.returns-in_err-advance-clause-short
returns-in_err-advance-clause-short c = IfOk-from_err c.from_residual.result _ c.from_residual.ensures.0

pub returns-in_err-advance-clause-listed : goal.returns-in_err-advance-clause-listed
returns-in_err-advance-clause-listed c = IfOk-from_err c.from_residual.result _ c.from_residual.ensures.0

pub returns-in_err-push-clause-line : goal.returns-in_err-push-clause-line
returns-in_err-push-clause-line c = IfOk-from_err c.from_residual-in_err-push.result _ c.from_residual-in_err-push.ensures.0

pub returns-in_err-push-clause-unit : goal.returns-in_err-push-clause-unit
returns-in_err-push-clause-unit c = IfOk-from_err c.from_residual-in_err-push.result _ c.from_residual-in_err-push.ensures.0

pub returns-in_err-push-clause-within : goal.returns-in_err-push-clause-within
returns-in_err-push-clause-within c = IfOk-from_err c.from_residual-in_err-push.result _ c.from_residual-in_err-push.ensures.0

pub returns-in_err-push-clause-short : goal.returns-in_err-push-clause-short
returns-in_err-push-clause-short c = IfOk-from_err c.from_residual-in_err-push.result _ c.from_residual-in_err-push.ensures.0

pub returns-in_err-push-clause-listed : goal.returns-in_err-push-clause-listed
returns-in_err-push-clause-listed c = IfOk-from_err c.from_residual-in_err-push.result _ c.from_residual-in_err-push.ensures.0
