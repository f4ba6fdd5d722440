use Rattle.std.proofs.Common.{◌∙◌, ap, ◌≡◌, ◌∷◌, [], arith}
use Rattle.std.specs.Prelude.{not, ◌++◌, ◌||◌}
use Rattle.sy_terms.specs.Values.{truth}
use Rattle.sy_gates.specs.Circuits.{bit_value}
use Rattle.sy_bits_operators.specs.Signals.{signal_value, signals_bound}
use Rattle.sy_bits_operators.proofs.Rows.{implied-is, bound-last}
use Rattle.sy_bits_operators.proofs.truths.implied.Goals as goal

pub all_true-requires-clause-inside : goal.all_true-requires-clause-inside
all_true-requires-clause-inside c =
    let e : c.args.signals.now ≡ c.in-Some.premises.now ++ c.in-Some.conclusion.now ∷ [] = c.in-Some.ensures.cases.0 in
    let b = ap signals_bound e ∙ bound-last c.in-Some.premises.now c.in-Some.conclusion.now in
    omega (arith, b, c.requires.inside)

pub or-requires-clause-left : goal.or-requires-clause-left
or-requires-clause-left c =
    let e : c.args.signals.now ≡ c.in-Some.premises.now ++ c.in-Some.conclusion.now ∷ [] = c.in-Some.ensures.cases.0 in
    let b = ap signals_bound e ∙ bound-last c.in-Some.premises.now c.in-Some.conclusion.now in
    omega (arith, b, c.requires.inside, c.bit.ensures.bound, c.all_true.ensures.grown.more)

pub returns-in_ok-bit-in-Some-clause-value : goal.returns-in_ok-bit-in-Some-clause-value
returns-in_ok-bit-in-Some-clause-value c = λ v f.
    let e : c.args.signals.now ≡ c.in-Some.premises.now ++ c.in-Some.conclusion.now ∷ [] = c.in-Some.ensures.cases.0 in
    c.in_ok-bit-in-Some.ensures.value v f
    ∙ ap (λ b. b || bit_value v c.negated.result) (c.bit.ensures.value v)
    ∙ ap (λ b. truth (signal_value v c.in-Some.conclusion.now) || b) (c.negated.ensures.value v ∙ ap not (c.in_ok-all-in-Some.ensures.value v (c.or.ensures.grown.keeps v f)))
    ∙ implied-is v c.args.signals.now c.in-Some.premises.now c.in-Some.conclusion.now e
