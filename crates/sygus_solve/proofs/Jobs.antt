-- Nothing is written of no replies.
use Rattle.std.proofs.Common.{ℕ, List, []}
use Rattle.std.specs.Prelude.{Option}
use Rattle.std.specs.Io.KnownBytes.{Appends}
use Rattle.sy_grammar_base.specs.Questions.{Question}
use Rattle.sy_scope_causes.specs.declared.titles.Titles.{Titles}
use Rattle.sygus_replies.specs.Texts.{texts, answer_lines}
use Rattle.sygus_replies.proofs.Steps.{appended_nothing, texts-none, lines-none}

pub texts_nothing : (titles : Titles) (questions : List Question) (before : Option (List ℕ)) → Appends before before (texts titles questions [])
texts_nothing titles questions before = rw texts-none (appended_nothing before)

pub lines_nothing : (before : Option (List ℕ)) → Appends before before (answer_lines 1 [])
lines_nothing before = rw lines-none (appended_nothing before)
