-- What is said of a reply to a check-synth.
use Rattle.std.specs.Prelude.{ℕ, ◌≡◌, Bool, true, false, List, All, Option, Some, None, if◌then◌else◌}
use Rattle.std.specs.List.{list_all}
use Rattle.sy_terms.specs.Values.{Val}
use Rattle.sy_terms.specs.Theories.{valid}
use Rattle.sy_query_limits.specs.declared.FailName.{FailName}

-- the definitions solve the problem; a proof in text shows that they do, or it doesn't; there are no definitions; the body of
-- the function of this number is the first that is no member of its grammar; the definitions violate the problem at these values
-- of its variables; the named limit was reached; or this is the text of the clauses of the definitions' query, or it has none
pub data Verdict : Type 0 where
  Holds : Verdict
  Accepted : Verdict
  Rejected : Verdict
  NoDefinitions : Verdict
  NotMember : (function : ℕ) → Verdict
  Refuted : (values : List Val) → Verdict
  Budget : (name : FailName) → Verdict
  Clauses : (text : List ℕ) → Verdict
  NoClauses : Verdict

-- the definitions solve the problem, a proof shows it, or here are the clauses that were asked for
abbrev pub is_good : Verdict → Bool
is_good Holds = true
is_good Accepted = true
is_good Rejected = false
is_good NoDefinitions = false
is_good (NotMember function) = false
is_good (Refuted values) = false
is_good (Budget name) = false
is_good (Clauses text) = true
is_good NoClauses = false

-- the values of a verdict are values of their sorts
abbrev pub IsPrintable : Verdict → Type 0
IsPrintable Holds = Unit {0}
IsPrintable Accepted = Unit {0}
IsPrintable Rejected = Unit {0}
IsPrintable NoDefinitions = Unit {0}
IsPrintable (NotMember function) = Unit {0}
IsPrintable (Refuted values) = All (λ value. valid value ≡ true) values
IsPrintable (Budget name) = Unit {0}
IsPrintable (Clauses text) = Unit {0}
IsPrintable NoClauses = Unit {0}

-- the verdict on a reply, of which this was found where it gives definitions
abbrev pub verdict_on : {A : Type 0} → (A → Verdict) → Option A → Verdict
verdict_on verdict None = NoDefinitions
verdict_on verdict (Some found) = verdict found

-- 0 where all verdicts are good, else 1
abbrev pub verdicts_status : List Verdict → ℕ
verdicts_status verdicts = if list_all is_good verdicts then 0 else 1
