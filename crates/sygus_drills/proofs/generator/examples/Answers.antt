use Rattle.std.proofs.Common.{◌≡◌, ℕ, suc, ◌+◌, List, ◌∷◌, ◌++◌, [], map, refl, sym, ap, arith, ◌∙◌}
use Rattle.std.specs.List.{range_with_len}
use Rattle.std.proofs.lemmas.List.FromFn.{map-range_with_len_more}
use Rattle.sygus_drills.specs.Examples.{state_at, next_state, example_of, examples}
use Rattle.sygus_drills.specs.declared.generator.Example.{Example}
use Rattle.sygus_drills.proofs.generator.examples.Goals as goal

-- the state before the first, and the state after one more
state_first : (number : ℕ) → number ≡ state_at number 0
unfolding state_at
state_first number = refl

state_after : (number i : ℕ) → state_at number (i + 1) ≡ next_state (state_at number i)
unfolding state_at
state_after number i = let e : i + 1 ≡ suc i = omega arith in rw e refl

pub loop-init : goal.loop-init
loop-init c = record { state = state_first c.args.number; examples = c.new-examples.ensures }

pub loop-preserved : goal.loop-preserved
loop-preserved c =
    let number = c.args.number in
    let i = c.loop.counter in
    let at : ℕ → Example = λ j. example_of number (state_at number j) in
    let state : c.next_state-state.result ≡ state_at number (i + 1) = c.next_state-state.ensures ∙ ap next_state c.loop.invariant.state ∙ sym (state_after number i) in
    let one : c.example_of.result ≡ at (i + 1) = c.example_of.ensures ∙ ap (example_of number) state in
    record {
      state = state;
      examples = c.in_ok-push.ensures.ok
          ∙ ap (λ (l : List Example). l ++ c.example_of.result ∷ []) c.loop.invariant.examples
          ∙ ap (λ (x : Example). map at (range_with_len 1 i) ++ x ∷ []) one
          ∙ sym (map-range_with_len_more at 1 i (i + 1) (omega arith));
    }

pub returns : goal.returns
unfolding examples
returns c =
    let all : c.loop.counter ≡ 1000 = omega (arith, c.loop.auto.counter-end, c.loop-test.false) in
    rw all at c.loop.invariant.examples
