-- Questions whose functions and definitions have names.
use Rattle.std.specs.Prelude.{ℕ, ◌≤◌, List, length, All, IfOk}
use Rattle.sy_reply.specs.Writable.{IsTitled}
use Rattle.sy_scope_names.specs.Contexts.{Context}
use Rattle.sy_scope_steps.specs.Files.{file_read}
use Rattle.sy_scope_names.specs.Jobs.{titles_of}

-- at most 16 questions, each titled by the names that are declared
pub record AreNamed (context : Context) : Type 0 where
  pub few : length context.questions ≤ 16
  pub each : All (IsTitled (titles_of context)) context.questions

-- so it is in every file that is read
abbrev pub FilesTitled : Type 0
FilesTitled = (file : List ℕ) → IfOk (file_read file) AreNamed
