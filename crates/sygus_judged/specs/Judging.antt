-- Judgements of the replies in a file.
use Rattle.std.specs.Prelude.{ℕ, Bool, true, false, ◌≡◌, List, [], map, ⊤, Option, Some, None, Ok, length}
use Rattle.std.specs.Io.KnownBytes.{Appends}
use Rattle.sy_terms.specs.Values.{Val, Whole}
use Rattle.sy_terms.specs.declared.op.Op.{Op}
use Rattle.sy_terms.specs.declared.sort.Logic.{Logic}
use Rattle.sy_terms.specs.declared.sort.Logic.TheVariants.{Lia}
use Rattle.sy_meaning_integers.specs.Lia as lia
use Rattle.sy_meaning_words.specs.Vectors as vectors
use Rattle.sy_grammar_base.specs.Questions.{Question}
use Rattle.sy_query_limits.specs.declared.FailName.{FailName}
use Rattle.sy_query_limits.specs.declared.Limits.{Limits}
use Rattle.sy_query_base.specs.Asked.{Query}
use Rattle.sy_intsolve_cuts.specs.Budgets as int_budgets
use Rattle.sy_intsolve.specs.Proofs as int_proofs
use Rattle.sy_bits.specs.Proofs as bits
use Rattle.sy_scope_causes.specs.declared.titles.Titles.{Titles}
use Rattle.sy_scope_names.specs.Jobs.{Wish}
use Rattle.sy_reply.specs.Ends.{ReplyReading}
use Rattle.sy_reply.specs.Statements.{Statement}
use Rattle.sy_reply_reader.specs.Replies.{statements_from}
use Rattle.sy_text_items.specs.Items.{Item}
use Rattle.sy_verify.specs.Checking.{IsChecked}
use Rattle.sy_verify.specs.Spelling.{IsSpelled}
use Rattle.sy_verify.specs.declared.checked.Checked.{Checked}
use Rattle.sy_verify.specs.declared.rechecked.Rechecked.{Rechecked}
use Rattle.sy_verify.specs.declared.spelled.Spelled.{Spelled}
use Rattle.sy_verify_proofs.specs.Logs as logs
use Rattle.sy_verify_proofs.specs.Trees as trees
use Rattle.sygus_answers.specs.Answers.{AreOfLogic}
use Rattle.sygus_answers.specs.declared.answers.Answers.{Answers}
use Rattle.sygus_answers.specs.declared.answers.Answers.TheVariants.{Idle, Ints, Bits, IntChecks, BitChecks, IntRechecks, BitRechecks, IntSpellings, BitSpellings}
use Rattle.sygus_verdicts.specs.Judged.{AreJudged}
use Rattle.sygus_verdicts.specs.Lines.{verdict_lines, WritesMostLines}
use Rattle.sygus_verdicts.specs.Verdicts.{Verdict, verdict_on, verdicts_status}
use Rattle.sygus_verdicts.specs.Found.{verdict_found}
use Rattle.sygus_verdicts.specs.Proofs.{IsRecheckedWith, verdict_rechecked, verdict_spelled}
use Rattle.sygus_words.specs.declared.settings.Mode.{Mode}
use Rattle.sygus_words.specs.declared.settings.Mode.TheVariants.{Solve, Least, Check, Recheck, Clauses, Drill}
use Rattle.sygus_words.specs.declared.settings.Settings.{Settings}

-- the modes in which the item of a proof follows each reply
abbrev pub wants_proofs : Mode → Bool
wants_proofs Solve = false
wants_proofs Least = false
wants_proofs Check = false
wants_proofs Recheck = true
wants_proofs Clauses = false
wants_proofs (Drill n) = false

-- what is found of each statement by a solver is right
abbrev pub AreFound : {T P S N : Type 0} → (Op → Bool) → (N → Val) → (Query → P → Type 0) → (S → FailName) → (Query → Limits → FailName → S → Type 0) → Limits → List Question → List Statement → List (Option (Checked T P S N)) → Type 0
AreFound owned number accepted budget shows limits questions statements answers =
    AreJudged (λ question bodies proof found. IsChecked owned number accepted budget shows question limits bodies found) questions statements answers

-- so by a checker of the proofs that follow
abbrev pub AreRechecked : (Op → Bool) → (Query → Item → Type 0) → (Query → Item → Type 0) → (Query → Item → ℕ → Type 0) → Limits → List Question → List Statement → List (Option Rechecked) → Type 0
AreRechecked owned proves fails overflows limits questions statements answers =
    AreJudged (λ question bodies proof found. IsRecheckedWith owned proves fails overflows question limits.weight bodies proof found) questions statements answers

-- the clauses of each statement's query say what it says
abbrev pub AreSpelled : (Op → Bool) → (Query → List ℕ → Type 0) → (Query → Type 0) → Limits → List Question → List Statement → List (Option Spelled) → Type 0
AreSpelled owned spells lacks limits questions statements answers =
    AreJudged (λ question bodies proof found. IsSpelled owned spells lacks question limits.weight bodies found) questions statements answers

-- so over either theory; the outcomes of searches are no judgements
abbrev pub AreRightVerdicts : Limits → List Question → List Statement → Answers → Type 0
AreRightVerdicts limits questions statements Idle = ⊤
AreRightVerdicts limits questions statements (Ints outcomes) = ⊥
AreRightVerdicts limits questions statements (Bits outcomes) = ⊥
AreRightVerdicts limits questions statements (IntChecks answers) =
    AreFound lia.owned Whole int_proofs.Accepted int_budgets.budget int_proofs.ShowsFor limits questions statements answers
AreRightVerdicts limits questions statements (BitChecks answers) =
    AreFound vectors.owned vectors.vector bits.Accepted bits.budget bits.Shows limits questions statements answers
AreRightVerdicts limits questions statements (IntRechecks answers) =
    AreRechecked lia.owned trees.TreeProves trees.TreeFails trees.TreeOverflows limits questions statements answers
AreRightVerdicts limits questions statements (BitRechecks answers) =
    AreRechecked vectors.owned logs.LogProves logs.LogFails logs.LogOverflows limits questions statements answers
AreRightVerdicts limits questions statements (IntSpellings answers) =
    AreSpelled lia.owned trees.SpellsClauses trees.LacksClauses limits questions statements answers
AreRightVerdicts limits questions statements (BitSpellings answers) =
    AreSpelled vectors.owned logs.SpellsClauses logs.LacksClauses limits questions statements answers

-- what is judged of replies is what the mode judges
abbrev pub AreOfMode : Mode → Answers → Type 0
AreOfMode mode Idle = ⊤
AreOfMode mode (Ints outcomes) = ⊥
AreOfMode mode (Bits outcomes) = ⊥
AreOfMode mode (IntChecks answers) = mode ≡ Check
AreOfMode mode (BitChecks answers) = mode ≡ Check
AreOfMode mode (IntRechecks answers) = mode ≡ Recheck
AreOfMode mode (BitRechecks answers) = mode ≡ Recheck
AreOfMode mode (IntSpellings answers) = mode ≡ Clauses
AreOfMode mode (BitSpellings answers) = mode ≡ Clauses

-- the verdicts on the first replies
abbrev pub verdicts_of : Answers → List Verdict
verdicts_of Idle = []
verdicts_of (Ints outcomes) = []
verdicts_of (Bits outcomes) = []
verdicts_of (IntChecks answers) = map (verdict_on (verdict_found Whole int_budgets.budget)) answers
verdicts_of (BitChecks answers) = map (verdict_on (verdict_found vectors.vector bits.budget)) answers
verdicts_of (IntRechecks answers) = map (verdict_on verdict_rechecked) answers
verdicts_of (BitRechecks answers) = map (verdict_on verdict_rechecked) answers
verdicts_of (IntSpellings answers) = map (verdict_on verdict_spelled) answers
verdicts_of (BitSpellings answers) = map (verdict_on verdict_spelled) answers

-- where no logic is set, there are no problems, and none is needed
abbrev pub logic_or : Option Logic → Logic
logic_or None = Lia
logic_or (Some logic) = logic

-- what the replies of a file state, from an offset on, with proofs or without
abbrev pub replies_read : Bool → List ℕ → ℕ → Wish → ReplyReading (List Statement)
replies_read proofs file at wish = statements_from proofs (logic_or wish.logic) wish.titles file 1 wish.questions at

-- each reply has its verdict, all lines are written, and nothing else; the status tells whether all are good
pub record WritesVerdicts (status : ℕ) (answers : Answers) (out out' err err' : Option (List ℕ)) (wish : Wish) : Type 0 where
  pub every : length (verdicts_of answers) ≡ length wish.questions
  pub lined : Appends out out' (verdict_lines wish.titles 1 (verdicts_of answers))
  pub good : status ≡ verdicts_status (verdicts_of answers)
  pub silent : err' ≡ err

-- the lines of the verdicts so far are written
abbrev pub WritesLines : Answers → Option (List ℕ) → Option (List ℕ) → Wish → Type 0
WritesLines answers out out' wish = Appends out out' (verdict_lines wish.titles 1 (verdicts_of answers))

-- they are, but cut off in the last one
abbrev pub WritesLinesCut : Answers → Option (List ℕ) → Option (List ℕ) → Wish → Type 0
WritesLinesCut answers out out' wish = WritesMostLines wish.titles (verdicts_of answers) out out'

-- the replies are read, the judgements so far are right, and this was written of them
pub record JudgesReplies (settings : Settings) (file : List ℕ) (at : ℕ) (wish : Wish) (answers : Answers) (Written : Wish → Type 0) : Type 0 where
  pub statements : List Statement
  pub stated : replies_read (wants_proofs settings.mode) file at wish ≡ Ok statements
  pub logic : AreOfLogic wish.logic answers
  pub mode : AreOfMode settings.mode answers
  pub right : AreRightVerdicts settings.limits wish.questions statements answers
  pub written : Written wish
