use Rattle.std.proofs.Common.{◌≡◌, ℕ, ◌+◌, ◌-◌, ◌<◌, true, false, refl, arith, ap, sym, subst, ◌∙◌, length, Some}
use Rattle.std.specs.Prelude.{slice_get}
use Rattle.std.proofs.lemmas.List.{length-replicate}
use Rattle.std.proofs.lemmas.Option.{slice_get_read}
use Rattle.sy_clauses.specs.Needed.{needs, AreNeededFrom}
use Rattle.sy_clauses.proofs.MarksLaws.{last_needed, marked_line, unmarked_line}
use Rattle.sy_clauses.proofs.marking.mark_needed.Goals as goal

pub loop-place-init : goal.loop-place-init
loop-place-init c =
    let long : length c.mark_last.new.needed ≡ length c.args.lines.now =
    c.mark_last.ensures.long ∙ ap length c.requires ∙ length-replicate (length c.args.lines.now) false in
    record {
      long = long;
      within = omega arith;
      needed = last_needed c.args.formula c.args.lines.now c.args.needed.now c.mark_last.new.needed c.requires long
          c.mark_last.ensures;
    }

pub loop-place-preserved-then-is_needed : goal.loop-place-preserved-then-is_needed
loop-place-preserved-then-is_needed c =
    let at = c.loop-place.place - 1 in
    let next : c.loop-place.place ≡ at + 1 = omega (arith, c.loop-place-test.true) in
    let within : at < length c.args.lines.now =
    omega (arith, c.loop-place.invariant.within, c.loop-place-test.true) in
    let is : slice_get c.args.lines.now at ≡ Some c.index-lines-place.result =
    slice_get_read c.args.lines.now (length c.args.lines.now) at c.index-lines-place.result refl within
    c.index-lines-place.is in
    let marked : needs c.loop-place.needed at ≡ true = sym c.is_needed.ensures ∙ c.if-is_needed.true in
    record {
      long = c.mark_named.ensures.long ∙ c.loop-place.invariant.long;
      within = omega (arith, within);
      needed = marked_line c.args.formula c.args.lines.now at c.index-lines-place.result c.loop-place.needed
          c.mark_named.new.needed c.loop-place.invariant.long is marked
          (subst (λ (n : ℕ). AreNeededFrom c.args.formula c.args.lines.now n (needs c.loop-place.needed)) next
          c.loop-place.invariant.needed) c.mark_named.ensures;
    }

pub loop-place-preserved : goal.loop-place-preserved
loop-place-preserved c =
    let at = c.loop-place.place - 1 in
    let next : c.loop-place.place ≡ at + 1 = omega (arith, c.loop-place-test.true) in
    let marked : needs c.loop-place.needed at ≡ false = sym c.is_needed.ensures ∙ c.if-is_needed.false in
    record {
      long = c.loop-place.invariant.long;
      within = omega (arith, c.loop-place.invariant.within);
      needed = unmarked_line c.args.formula c.args.lines.now at c.loop-place.needed marked
          (subst (λ (n : ℕ). AreNeededFrom c.args.formula c.args.lines.now n (needs c.loop-place.needed)) next
          c.loop-place.invariant.needed);
    }

pub returns-clause-needed : goal.returns-clause-needed
returns-clause-needed c =
    let none : c.loop-place.place ≡ 0 = omega (arith, c.loop-place-test.false) in
    subst (λ (n : ℕ). AreNeededFrom c.args.formula c.args.lines.now n (needs c.loop-place.needed)) none
    c.loop-place.invariant.needed
