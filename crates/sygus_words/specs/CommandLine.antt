-- The command line of the program: `sygus [--mode solve|least|check|recheck|clauses|drill] [--size N] [--rounds N]
-- [--points N] [--bank N] [--weight N] [--clauses N] [--nodes N] [--pivots N] [--proofs] FILE`.
use Rattle.std.specs.Prelude.{◌≡◌, ◌≤◌, ℕ, Bool, true, false, List, [], ◌∷◌, Option, Some, None, bytes_eq, codes}
use Rattle.std.specs.Fmt.{decimal}
use Rattle.clap.specs.Words.{App, Rule, Text, fault_of, first_of, matches_of, new_rule}
use Rattle.clap.specs.Simple.{new_shape}
use Rattle.clap.specs.declared.builder.ArgAction.TheVariants.{Set, SetTrue}
use Rattle.sy_query_limits.specs.declared.Limits.{Limits}
use Rattle.sygus_words.specs.Numbers.{LimitIs}
use Rattle.sygus_words.specs.declared.settings.Mode.{Mode}
use Rattle.sygus_words.specs.declared.settings.Mode.TheVariants.{Solve, Least, Check, Recheck, Clauses, Drill}
use Rattle.sygus_words.specs.declared.settings.Settings.{Settings}
use Rattle.sygus_words.specs.declared.settings.WordFault.{WordFault}
use Rattle.sygus_words.specs.declared.settings.WordFault.TheVariants.{Refused, Want}

-- an option that takes one value
abbrev pub option_rule : Text → Rule
option_rule name = record (new_rule name) { long = Some name; action = Some Set }

-- an option without a value
abbrev pub flag_rule : Text → Rule
flag_rule name = record (new_rule name) { long = Some name; action = Some SetTrue }

-- the one word that is no option
abbrev pub file_rule : Rule
file_rule = record (new_rule (codes "FILE")) { action = Some Set; required = true }

-- the command, as clap reads it, without the built-in flags for help and version
abbrev pub sygus : App
sygus = record {
  top = record (new_shape (codes "sygus")) {
    rules = option_rule (codes "mode") ∷ option_rule (codes "size") ∷ option_rule (codes "rounds") ∷ option_rule (codes "points") ∷ option_rule (codes "bank")
        ∷ option_rule (codes "weight") ∷ option_rule (codes "clauses") ∷ option_rule (codes "nodes") ∷ option_rule (codes "pivots")
        ∷ flag_rule (codes "proofs") ∷ file_rule ∷ [];
    disable_help_flag = true;
    disable_version_flag = true;
  };
  subs = [];
}

-- the greatest number that mode `drill` takes
abbrev pub greatest_drill : ℕ
greatest_drill = 999999999

-- FILE is the decimal spelling of this number of a drill
abbrev pub DrillIs : Option Text → ℕ → Type 0
DrillIs file n = (file ≡ Some (decimal n)) × (n ≤ greatest_drill)

-- the word that names a mode
abbrev pub mode_word : Mode → Text
mode_word Solve = codes "solve"
mode_word Least = codes "least"
mode_word Check = codes "check"
mode_word Recheck = codes "recheck"
mode_word Clauses = codes "clauses"
mode_word (Drill n) = codes "drill"

-- FILE suits the mode: in mode `drill` a number stands there
abbrev pub FileSuits : Option Text → Mode → Type 0
FileSuits file (Drill n) = DrillIs file n
FileSuits file _ = Unit {0}

-- the mode that an option's value and FILE give
abbrev pub ModeIs : Option Text → Option Text → Mode → Type 0
ModeIs None file mode = mode ≡ Solve
ModeIs (Some text) file mode = (text ≡ mode_word mode) × FileSuits file mode

-- a flag is set
abbrev pub is_set : Option Text → Bool
is_set None = false
is_set (Some text) = bytes_eq text (codes "true")

-- whether proofs are asked for: by a flag, in mode `solve` alone
abbrev pub ProofsAre : Option Text → Mode → Bool → Type 0
ProofsAre value mode proofs = (proofs ≡ is_set value) × (proofs ≡ true → mode ≡ Solve)

-- the limits, with their defaults and greatest values
pub record AreLimits (value : Text → Option Text) (limits : Limits) : Type 0 where
  pub size : LimitIs 12 64 (value (codes "size")) limits.size
  pub rounds : LimitIs 256 1024 (value (codes "rounds")) limits.rounds
  pub points : LimitIs 512 1024 (value (codes "points")) limits.points
  pub bank : LimitIs 20000 40000 (value (codes "bank")) limits.bank
  pub weight : LimitIs 400000 1000000 (value (codes "weight")) limits.weight
  pub clauses : LimitIs 100000 400000 (value (codes "clauses")) limits.clauses
  pub nodes : LimitIs 4000 8000 (value (codes "nodes")) limits.nodes
  pub pivots : LimitIs 10000 100000 (value (codes "pivots")) limits.pivots

-- the settings that values of options and FILE give
pub record AreSettings (value : Text → Option Text) (settings : Settings) : Type 0 where
  pub mode : ModeIs (value (codes "mode")) (value (codes "FILE")) settings.mode
  pub limits : AreLimits value settings.limits
  pub proofs : ProofsAre (value (codes "proofs")) settings.mode settings.proofs
  pub file : value (codes "FILE") ≡ Some settings.file

-- the value that clap's matches of the words have for an option or for FILE
abbrev pub word_value : List Text → Text → Option Text
word_value words name = first_of name (matches_of sygus words)

-- clap refuses nothing, and its matches give the settings
pub record IsReading (words : List Text) (settings : Settings) : Type 0 where
  pub accepted : fault_of sygus words ≡ []
  pub given : AreSettings (word_value words) settings

-- words are refused only where they have no reading
abbrev pub WordsAreRefused : List Text → WordFault → Type 0
WordsAreRefused words Refused = (settings : Settings) → IsReading words settings → ⊥
WordsAreRefused words Want = Unit {0}
