-- Logs in text: `(log l ..)`, each line `(first v c v c ..)`, where all numbers are below 2 ^ 32.
use Rattle.std.specs.Prelude.{ℕ, ◌^◌, ◌≡◌, ◌<◌, List, [], ◌∷◌, ◌++◌, All, Option, Some, None, option_and_then, Result, Ok, Err, codes}
use Rattle.sy_text_items.specs.Items.{Item, leaf, group, Items, none, more}
use Rattle.sy_text_items.specs.declared.fault.TextFault.{TextFault}
use Rattle.sy_text.specs.Spelling.{item_text}
use Rattle.sy_clauses.specs.declared.Line.{Line}
use Rattle.sy_clauses.specs.declared.Step.{Step}
use Rattle.sy_proof.specs.Lists.{behind_word, each_in, each_item, nowhere, number_item, word_item}
use Rattle.sy_proof.specs.Numbers.{small_in}

-- ---- as it is read
abbrev pub with_step : Option ℕ → Option ℕ → Option (List Step) → Option (List Step)
with_step None clause rest = None
with_step (Some var) None rest = None
with_step (Some var) (Some clause) None = None
with_step (Some var) (Some clause) (Some rest) = Some (record { var = var; with = clause } ∷ rest)

abbrev pub steps_in : Items → Option (List Step)
steps_in none = Some []
steps_in (more var none) = None
steps_in (more var (more clause rest)) = with_step (small_in var) (small_in clause) (steps_in rest)

abbrev pub line_by : Option ℕ → Option (List Step) → Option Line
line_by None steps = None
line_by (Some first) None = None
line_by (Some first) (Some steps) = Some (record { first = first; steps = steps })

abbrev pub line_in : Item → Option Line
line_in (leaf atom place) = None
line_in (group none place) = None
line_in (group (more first steps) place) = line_by (small_in first) (steps_in steps)

-- the lines of a log
abbrev pub log_in : Item → Option (List Line)
log_in item = option_and_then (each_in line_in) (behind_word (codes "log") item)

-- ---- as it is written
abbrev pub steps_items : List Step → Items
steps_items [] = none
steps_items (step ∷ steps) = more (number_item step.var) (more (number_item step.with) (steps_items steps))

-- a step's numbers, each behind one space
abbrev pub step_text : Step → List ℕ
step_text step = (32 ∷ item_text (number_item step.var)) ++ (32 ∷ item_text (number_item step.with))

abbrev pub line_item : Line → Item
line_item line = group (more (number_item line.first) (steps_items line.steps)) nowhere

abbrev pub log_item : List Line → Item
log_item lines = group (more (word_item (codes "log")) (each_item line_item lines)) nowhere

-- ---- what is written is read again
pub record StepIsSmall (step : Step) : Type 0 where
  pub var : step.var < 2 ^ 32
  pub clause : step.with < 2 ^ 32

pub record LineIsSmall (line : Line) : Type 0 where
  pub first : line.first < 2 ^ 32
  pub steps : All StepIsSmall line.steps

-- an item was read, and it is the log of these lines
abbrev pub ReadsLog : List Line → Result (Option (Item × ℕ)) TextFault → Type 0
ReadsLog lines (Ok (Some read)) = log_in read.0 ≡ Some lines
ReadsLog lines (Ok None) = ⊥
ReadsLog lines (Err fault) = ⊥
