-- What several phrases and bindings stand for.
use Rattle.sy_terms.specs.Values.{Val}
use Rattle.sy_forms_items.specs.Phrases as phrases
use Rattle.sy_forms.specs.Terms as terms
use Rattle.sy_forms_items.specs.Meant.{phrase_of, phrases_of}
use Rattle.sy_forms.specs.declared.apply.Several.{Several}
use Rattle.sy_forms.specs.declared.term.Bound.{Bound}
use Rattle.sy_forms.specs.declared.term.Bounds.{Bounds}

abbrev pub several_of : {T N : Type 0} → (N → Val) → Several T N → phrases.Several
several_of number x = record { phrases = phrases_of number x.phrases.items.items; sorts = x.sorts }

abbrev pub bound_of : {T N : Type 0} → (N → Val) → Bound T N → terms.Bound
bound_of number x = record { named = x.named; phrase = phrase_of number x.phrase }

abbrev pub bounds_of : {T N : Type 0} → (N → Val) → Bounds T N → terms.Bounds
bounds_of number x = record { names = x.names; terms = phrases_of number x.terms.items.items }
