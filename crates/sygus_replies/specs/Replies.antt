-- What is answered to a check-synth, apart from a theory and from memory.
use Rattle.std.specs.Prelude.{ℕ, Bool, true, false, List, [], map}
use Rattle.sy_terms.specs.Values.{Val}
use Rattle.sy_terms.specs.Expr.{Expr}
use Rattle.sy_terms.specs.Denoted.{expr_of}
use Rattle.sy_terms.specs.declared.theory.Theory.{Ghosts as TheoryOf}
use Rattle.sy_query_limits.specs.declared.FailName.{FailName}
use Rattle.sy_query_base.specs.declared.decide.Decide.{Ghosts as DecideOf}
use Rattle.sy_loop_spec.specs.Names.{fail_name_of}
use Rattle.sy_loop_spec.specs.declared.outcome.Outcome.{Outcome}
use Rattle.sy_loop_spec.specs.declared.outcome.Outcome.TheVariants.{Found, Fail}
use Rattle.sy_loop_spec.specs.declared.outcome.Outcome.TheVariants as outcomes
use Rattle.sygus_replies.specs.declared.prints.Prints.{Ghosts as PrintsOf}

-- a body for each function to be found; that no bodies solve the problem; or the name of what ended the search
pub data Reply : Type 0 where
  Defined : (bodies : List Expr) → Reply
  Infeasible : Reply
  Failed : (name : FailName) → Reply

-- the reply of an outcome, where a number stands for a value and a solver names its budgets
abbrev pub reply_of : {T P S N : Type 0} → (N → Val) → (S → FailName) → Outcome T P S N → Reply
reply_of number budget (Found bodies proof) = Defined (map (expr_of number) bodies)
reply_of number budget outcomes.Infeasible = Infeasible
reply_of number budget (Fail cause) = Failed (fail_name_of budget cause)

-- the same of a theory and a solver
abbrev pub reply_for : {T N D P S : Type 0} → TheoryOf T N → DecideOf D T P S N → Outcome T P S N → Reply
reply_for theory solver outcome = reply_of theory.denotes solver.budget outcome

abbrev pub replies_for : {T N D P S : Type 0} → TheoryOf T N → DecideOf D T P S N → List (Outcome T P S N) → List Reply
replies_for theory solver outcomes = map (reply_for theory solver) outcomes

-- a reply as it is shown: with the line of its proof, which is empty where there is none, or none is asked for
pub record Shown : Type 0 where
  pub reply : Reply
  pub proof : List ℕ

-- the lines of proofs, where these are asked for
abbrev pub if_asked : {P : Type 0} → Bool → (P → List ℕ) → P → List ℕ
if_asked true line proof = line proof
if_asked false line proof = []

-- the line of the proof of an outcome, where proofs have lines
abbrev pub proof_line : {T P S N : Type 0} → (P → List ℕ) → Outcome T P S N → List ℕ
proof_line line (Found bodies proof) = line proof
proof_line line outcomes.Infeasible = []
proof_line line (Fail cause) = []

abbrev pub shown_of : {T P S N : Type 0} → (N → Val) → (S → FailName) → (P → List ℕ) → Outcome T P S N → Shown
shown_of number budget line outcome = record { reply = reply_of number budget outcome; proof = proof_line line outcome }

-- the same of a theory, a solver and a printer, with or without proofs
abbrev pub shown_for : {T N D P S X : Type 0} → TheoryOf T N → DecideOf D T P S N → PrintsOf X P → Bool → Outcome T P S N → Shown
shown_for theory solver prints proofs outcome = shown_of theory.denotes solver.budget (if_asked proofs prints.line) outcome

abbrev pub all_shown_for : {T N D P S X : Type 0} → TheoryOf T N → DecideOf D T P S N → PrintsOf X P → Bool → List (Outcome T P S N) → List Shown
all_shown_for theory solver prints proofs outcomes = map (shown_for theory solver prints proofs) outcomes

-- the reply is no fail
abbrev pub IsSettled : Reply → Type 0
IsSettled (Defined bodies) = Unit {0}
IsSettled Infeasible = Unit {0}
IsSettled (Failed name) = ⊥

-- the reply is a fail
abbrev pub IsFail : Reply → Type 0
IsFail (Defined bodies) = ⊥
IsFail Infeasible = ⊥
IsFail (Failed name) = Unit {0}
