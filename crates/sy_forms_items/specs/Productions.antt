-- Rules as they are read, and the productions that they are.
use Rattle.sy_terms.specs.declared.sort.Sort.{Sort}
use Rattle.sy_grammar_base.specs.Trees as trees
use Rattle.sy_grammar_base.specs.Trees.{Production}
use Rattle.sy_forms_items.specs.Phrases.{Phrase, pattern_at}

-- a rule as it is read: a term, `(Constant s)` or `(Variable s)`
pub data Ruling : Type 0 where
  Template : (phrase : Phrase) → Ruling
  EachConstant : (sort : Sort) → Ruling
  EachVariable : (sort : Sort) → Ruling

abbrev pub production_at : Ruling → Production
production_at (Template phrase) = trees.Template (pattern_at phrase)
production_at (EachConstant sort) = trees.EachConstant sort
production_at (EachVariable sort) = trees.EachVariable sort
