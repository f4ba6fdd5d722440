use Rattle.std.proofs.Common.{◌∙◌, ◌≡◌, length, sym, refl, arith, inl, inr}
use Rattle.std.proofs.lemmas.Bool.{false≢true}
use Rattle.sy_terms.specs.Denoted.{val_of}
use Rattle.sy_bank_level.proofs.Comparing.{left-all, left-first, left-next, left-none, same-length}
use Rattle.sy_bank_level.proofs.rows.same_rows.Goals as goal

pub loop-x-init : goal.loop-x-init
loop-x-init g c =
    rw (c.into_iter-x-iterator.ensures.into_iter_gives, c.zip-x-items.ensures.first)
    (left-all (val_of g.T.Theory.denotes) c.args.a.now c.args.b.now c.iter.result.rest.now c.zip-x-items.result.b.rest.now c.if-a-b.false c.iter.ensures.rest c.zip-x-items.ensures.second.0)

pub returns-then-not-same_value : goal.returns-then-not-same_value
returns-then-not-same_value g c = (
  λ no. absurd (false≢true no),
  λ same. sym c.if-not-same_value.true ∙ c.same_value.ensures.1
      (left-first (val_of g.T.Theory.denotes) c.args.a.now c.args.b.now c.loop-x.x-iterator.a.rest.now c.loop-x.x-iterator.b.rest.now c.next.new.self.a.rest.now c.next.new.self.b.rest.now c.in-Some.x.now c.in-Some.y.now
      c.loop-x.invariant c.in-Some.ensures.steps.0 c.in-Some.ensures.steps.1 same),
)

pub loop-x-preserved : goal.loop-x-preserved
loop-x-preserved g c =
    left-next (val_of g.T.Theory.denotes) c.args.a.now c.args.b.now c.loop-x.x-iterator.a.rest.now c.loop-x.x-iterator.b.rest.now c.next.new.self.a.rest.now c.next.new.self.b.rest.now c.in-Some.x.now c.in-Some.y.now
    c.loop-x.invariant c.in-Some.ensures.steps.0 c.in-Some.ensures.steps.1 (c.same_value.ensures.0 c.if-not-same_value.false)

pub returns-then-a-b : goal.returns-then-a-b
returns-then-a-b g c = (
  λ no. absurd (false≢true no),
  λ same. absurd (c.if-a-b.true (same-length (val_of g.T.Theory.denotes) c.args.a.now c.args.b.now same)),
)

pub returns : goal.returns
returns g c =
    let left = c.loop-x.invariant in
    let none : length c.loop-x.x-iterator.a.rest.now ≡ 0 = elim c.in-None.ensures.steps [
      | inl first ↦ first.1.0
      | inr second ↦ omega (arith, left.long, second.1.0)
    ] in
    let whole = left-none (val_of g.T.Theory.denotes) c.args.a.now c.args.b.now c.loop-x.x-iterator.a.rest.now c.loop-x.x-iterator.b.rest.now left none in
    (λ yes. whole, λ same. refl)
