-- Measures, apart from memory.
use Rattle.sy_forms_items.specs.Measures as measures
use Rattle.sy_forms_items.specs.declared.measure.Measures.{Measures}

abbrev pub measures_of : Measures → measures.Measures
measures_of x = record { sizes = x.sizes; depths = x.depths }
