-- What files ask fits.
use Rattle.std.specs.Prelude.{ℕ, Bool, List, Some, ◌≡◌, All, IfOk}
use Rattle.sy_text_items.specs.Items.{Item}
use Rattle.sy_terms.specs.declared.op.Op.{Op}
use Rattle.sy_terms.specs.declared.sort.Logic.{Logic}
use Rattle.sy_terms.specs.declared.sort.Sort.{Sort}
use Rattle.sy_terms.specs.Logics.{IsTheoryOf}
use Rattle.sy_grammar_base.specs.Fits.{QuestionFits}
use Rattle.sy_scope_names.specs.Contexts.{Context}
use Rattle.sy_scope_steps.specs.Files.{file_read}
use Rattle.sy_scope_steps.specs.Steps.{step}
use Rattle.sy_scope.specs.Sound.{Sound}

-- a command keeps a sound context sound
abbrev pub StepsKeepSound : Type 0
StepsKeepSound = (context : Context) (item : Item) → Sound context → IfOk (step context item) Sound

-- all terms and grammars of a file's questions fit, under the theory of the file's logic
abbrev pub FilesFit : Type 0
FilesFit = (file : List ℕ) (logic : Logic) (owned : Op → Bool) (numeric : Sort → Bool) → IsTheoryOf logic owned numeric →
    IfOk (file_read file) (λ (context : Context). context.logic ≡ Some logic → All (QuestionFits owned numeric) context.questions)
