-- Heads of lists, apart from memory.
use Rattle.sy_forms.specs.Terms as terms
use Rattle.sy_forms.specs.declared.head.Head.{Head}
use Rattle.sy_forms.specs.declared.head.Head.TheVariants as heads

abbrev pub head_in : Head → terms.Head
head_in (heads.Operator operator) = terms.Operator operator
head_in (heads.Function function takes gives) = terms.Function function takes.now gives
