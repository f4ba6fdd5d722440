-- What the reader gives, apart from memory.
use Rattle.std.specs.Prelude.{ℕ, List, [], map, Option, Some, None, Result, Ok, Err, ◌≡◌, ◌+◌, ◌<◌, ◌≤◌, length}
use Rattle.sy_terms.specs.declared.sort.Logic.{Logic}
use Rattle.sy_terms.specs.declared.sort.Logic.TheVariants.{Lia, Bv}
use Rattle.sy_scope_causes.specs.declared.cause.Refused.{Refused}
use Rattle.sy_grammar_base.specs.Questions.{question_of}
use Rattle.sy_terms.specs.Values.{Val, Whole}
use Rattle.sy_scope_causes.specs.declared.titles.Titles.{Titles}
use Rattle.sy_grammar_base.specs.declared.problem.Problem.{Problem}
use Rattle.sy_meaning_words.specs.Vectors.{vector}
use Rattle.sy_scope_ends.specs.declared.ScopeEnd.{ScopeEnd}
use Rattle.sy_scope_ends.specs.declared.ScopeEnd.TheVariants as ends
use Rattle.sy_scope_names.specs.Contexts.{Context, beginning, with_logic}
use Rattle.sy_scope_steps.specs.Files.{FileOutcome, file_from}
use Rattle.sy_scope_names.specs.Jobs.{Wish}
use Rattle.sy_scope.specs.declared.job.Job.{Job}
use Rattle.sy_scope.specs.declared.job.Job.TheVariants as jobs
use Rattle.sy_scope.specs.declared.file.Opened.{Opened}

-- what was read, seen by view, is the outcome, unless memory ran out
abbrev pub EndsAs : {Y : Type 0} → ScopeEnd → Result Y Refused → Type 0
EndsAs ends.Want outcome = Unit {0}
EndsAs (ends.Refused refused) outcome = outcome ≡ Err refused

abbrev pub ReadsFile : {X Y : Type 0} → (X → Y) → Result X ScopeEnd → Result Y Refused → Type 0
ReadsFile view (Ok x) outcome = outcome ≡ Ok (view x)
ReadsFile view (Err end) outcome = EndsAs end outcome

-- the commands from an offset on, of which the first has a number, give what the whole file gives
pub record LeadsToOutcome (file : List ℕ) (at command : ℕ) (context : Context) (outcome : FileOutcome) : Type 0 where
  pub turns : ℕ
  pub enough : length file < at + turns
  pub within : at ≤ length file
  pub counted : command ≤ at + 1
  pub same : file_from turns command file at context ≡ outcome

-- a context in which a logic was set, or none
abbrev pub opened_by : Option Logic → Context
opened_by None = beginning
opened_by (Some logic) = with_logic logic beginning

-- the commands before the logic are done
abbrev pub Opens : List ℕ → Option Opened → FileOutcome → Type 0
Opens file None outcome = outcome ≡ Ok beginning
Opens file (Some opened) outcome = LeadsToOutcome file opened.at opened.command (with_logic opened.logic beginning) outcome

abbrev pub OpensAs : List ℕ → Result (Option Opened) ScopeEnd → FileOutcome → Type 0
OpensAs file (Ok opened) outcome = Opens file opened outcome
OpensAs file (Err end) outcome = EndsAs end outcome

-- what is asked over a theory, with the names of the functions
abbrev pub wish_over : {T N : Type 0} → (N → Val) → Logic → List (Problem T N) × Titles → Wish
wish_over number logic x = record { logic = Some logic; questions = map (question_of number) x.0; titles = x.1 }

abbrev pub wish_in : Job → Wish
wish_in jobs.Idle = record { logic = None; questions = []; titles = record { wanted = []; defined = [] } }
wish_in (jobs.Ints problems titles) = wish_over Whole Lia (problems, titles)
wish_in (jobs.Bits problems titles) = wish_over vector Bv (problems, titles)
