-- Rules, apart from memory.
use Rattle.sy_terms.specs.Values.{Val}
use Rattle.sy_forms_items.specs.Meant.{phrase_of}
use Rattle.sy_forms_items.specs.Productions as rules
use Rattle.sy_forms_items.specs.declared.ruling.Ruling.{Ruling}
use Rattle.sy_forms_items.specs.declared.ruling.Ruling.TheVariants as rulings

abbrev pub ruling_of : {T N : Type 0} → (N → Val) → Ruling T N → rules.Ruling
ruling_of number (rulings.Template phrase) = rules.Template (phrase_of number phrase)
ruling_of number (rulings.EachConstant sort) = rules.EachConstant sort
ruling_of number (rulings.EachVariable sort) = rules.EachVariable sort
