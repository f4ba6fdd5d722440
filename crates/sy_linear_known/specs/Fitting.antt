-- Forms of which each number fits 128 bits.
use Rattle.std.specs.Prelude.{Bool, true, List, Option, Some, None}
use Rattle.std.specs.List.{list_all}
use Rattle.sy_linear_known.specs.declared.form.Form.{Form}
use Rattle.sy_linear_known.specs.Forms.{form_is_in_range}
use Rattle.sy_linear_known.specs.declared.sight.Sight.{Sight}
use Rattle.sy_linear_known.specs.declared.sight.Sight.TheVariants.{Linear, Settled, Open}

abbrev pub form_fits : Option Form → Bool
form_fits (Some f) = form_is_in_range f
form_fits None = true

abbrev pub sight_fits : Sight → Bool
sight_fits (Linear f) = form_is_in_range f
sight_fits (Settled b) = true
sight_fits Open = true

abbrev pub all_fit : List Sight → Bool
all_fit sights = list_all sight_fits sights
