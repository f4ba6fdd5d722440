-- Rounds of a search.
use Rattle.std.proofs.Common.{◌≡◌, ◌<◌, ◌+◌, ◌*◌, ap, subst, ◌∙◌, ℕ, Bool, List, arith}
use Rattle.std.proofs.Math.Nat.{mul-lt-mul_of_pos_right}
use Rattle.sy_terms.specs.Values.{Val}
use Rattle.sy_grammar_base.specs.Questions.{Question}
use Rattle.sy_terms.specs.declared.op.Op.{Op}
use Rattle.sy_query_base.specs.Asked.{Query}
use Rattle.sy_query_limits.specs.declared.FailName.{FailName}
use Rattle.sy_query_limits.specs.declared.Limits.{Limits}
use Rattle.sy_points.specs.Asked.{Asked}
use Rattle.sy_loop_spec.specs.declared.reach.Reach.{Reach}
use Rattle.sy_loop_spec.specs.Histories.{Counterexample}
use Rattle.sy_loop_truth.specs.Known.{left}
use Rattle.sy_loop.specs.Rounds.{work, Rounds}
use Rattle.sy_loop.specs.declared.round.Round.{Round}

-- more is known
pub again_less : (limits : Limits) (history history' : List Counterexample) (asked asked' : Asked) (level : ℕ) → left limits history' asked' < left limits history asked → work limits history' asked' level < work limits history asked level
again_less limits history history' asked asked' level less =
    let product : left limits history' asked' * (limits.size + 1) < left limits history asked * (limits.size + 1) = mul-lt-mul_of_pos_right less (omega arith) in
    omega (arith, product)

-- the next size
pub next_less : (limits : Limits) (history history' : List Counterexample) (asked asked' : Asked) (level : ℕ) → history' ≡ history → asked' ≡ asked → level < limits.size → work limits history' asked' (level + 1) < work limits history asked level
next_less limits history history' asked asked' level same same' more =
    let product : left limits history' asked' * (limits.size + 1) ≡ left limits history asked * (limits.size + 1) = ap (λ h. left limits h asked' * (limits.size + 1)) same ∙ ap (λ a. left limits history a * (limits.size + 1)) same' in
    omega (arith, product, more)

-- the same of what was known before
pub rounds_from : {T P S N : Type 0} (owned : Op → Bool) (number : N → Val) (accepted : Query → P → Type 0) (budget : S → FailName) (shows : Query → Limits → FailName → S → Type 0) (reach : Reach) (question : Question) (limits : Limits)
    (history history' : List Counterexample) (asked asked' : Asked) (level : ℕ) (round : Round T P S N) → history' ≡ history → asked' ≡ asked → Rounds owned number accepted budget shows reach question limits history' asked' level round →
    Rounds owned number accepted budget shows reach question limits history asked level round
rounds_from owned number accepted budget shows reach question limits history history' asked asked' level round same same' comes =
    subst (λ h. Rounds owned number accepted budget shows reach question limits h asked level round) same (subst (λ a. Rounds owned number accepted budget shows reach question limits history' a level round) same' comes)
