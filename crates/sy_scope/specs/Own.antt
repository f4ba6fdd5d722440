-- Files without a reply part.
use Rattle.std.specs.Prelude.{ℕ, List, ◌≡◌, IfOk}
use Rattle.sy_scope.specs.Fronts.{front}
use Rattle.sy_scope_names.specs.Contexts.{Context}
use Rattle.sy_scope_steps.specs.Files.{file_read}

-- a file that is read is its own front
abbrev pub FilesAreFronts : Type 0
FilesAreFronts = (file : List ℕ) → IfOk (file_read file) (λ (context : Context). front file ≡ file)
