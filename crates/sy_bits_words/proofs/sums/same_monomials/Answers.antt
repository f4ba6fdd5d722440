use Rattle.std.proofs.Common.{◌∙◌, ◌≡◌, length, sym, refl, arith, inl, inr}
use Rattle.std.proofs.lemmas.Bool.{false≢true}
use Rattle.sy_bits_words.specs.Sums.{monomial_content}
use Rattle.sy_bits_words.proofs.Contents.{left-all, left-first, left-next, left-none, same-length}
use Rattle.sy_bits_words.proofs.sums.same_monomials.Goals as goal

pub loop-x-init : goal.loop-x-init
loop-x-init c =
    rw (c.into_iter-x-iterator.ensures.into_iter_gives, c.zip-x-items.ensures.first)
    (left-all monomial_content c.args.a.now c.args.b.now c.iter.result.rest.now c.zip-x-items.result.b.rest.now c.if-a-b.false c.iter.ensures.rest c.zip-x-items.ensures.second.0)

pub returns-then-not-same_monomial : goal.returns-then-not-same_monomial
returns-then-not-same_monomial c = (
  λ no. absurd (false≢true no),
  λ same. sym c.if-not-same_monomial.true ∙ c.same_monomial.ensures.1
      (left-first monomial_content c.args.a.now c.args.b.now c.loop-x.x-iterator.a.rest.now c.loop-x.x-iterator.b.rest.now c.next.new.self.a.rest.now c.next.new.self.b.rest.now c.in-Some.x.now c.in-Some.y.now
      c.loop-x.invariant c.in-Some.ensures.steps.0 c.in-Some.ensures.steps.1 same),
)

pub loop-x-preserved : goal.loop-x-preserved
loop-x-preserved c =
    left-next monomial_content c.args.a.now c.args.b.now c.loop-x.x-iterator.a.rest.now c.loop-x.x-iterator.b.rest.now c.next.new.self.a.rest.now c.next.new.self.b.rest.now c.in-Some.x.now c.in-Some.y.now
    c.loop-x.invariant c.in-Some.ensures.steps.0 c.in-Some.ensures.steps.1 (c.same_monomial.ensures.0 c.if-not-same_monomial.false)

pub returns-then-a-b : goal.returns-then-a-b
returns-then-a-b c = (
  λ no. absurd (false≢true no),
  λ same. absurd (c.if-a-b.true (same-length monomial_content c.args.a.now c.args.b.now same)),
)

pub returns : goal.returns
returns c =
    let left = c.loop-x.invariant in
    let none : length c.loop-x.x-iterator.a.rest.now ≡ 0 = elim c.in-None.ensures.steps [
      | inl first ↦ first.1.0
      | inr second ↦ omega (arith, left.long, second.1.0)
    ] in
    let whole = left-none monomial_content c.args.a.now c.args.b.now c.loop-x.x-iterator.a.rest.now c.loop-x.x-iterator.b.rest.now left none in
    (λ yes. whole, λ same. refl)
