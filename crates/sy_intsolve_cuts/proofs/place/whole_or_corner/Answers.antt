use Rattle.std.specs.Prelude.{IfSome}
use Rattle.std.proofs.Common.{subst, inl}
use Rattle.sy_intsolve_cuts.specs.Points.{IsPointOf, ValuesAreWhole}
use Rattle.sy_intsolve_cuts.proofs.Places.{corner-place}
use Rattle.sy_intsolve_cuts.proofs.place.whole_or_corner.Goals as goal

pub returns-then-are_whole : goal.returns-then-are_whole
returns-then-are_whole c = record {
  at = subst (λ o. IfSome o (IsPointOf c.args.vars.now c.args.facts.now)) c.in-Some.is c.requires.kept;
  place = inl (subst ValuesAreWhole c.as_slice.ensures (c.are_whole.ensures c.if-are_whole.true));
}

pub returns : goal.returns
returns c = corner-place c.args.vars.now c.args.facts.now c.args.pivots c.in_ok-end.end.answer c.in_ok-end.ensures.sound c.in_ok-end.ensures.exact
