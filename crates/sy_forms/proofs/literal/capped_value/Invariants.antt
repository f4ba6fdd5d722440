use Rattle.std.proofs.Common.{◌≡◌, ◌^◌, take}
use Rattle.std.specs.Prelude.{min}
use Rattle.sy_text_items.specs.Lexicon.{value_in}
use Rattle.sy_forms.proofs.literal.capped_value.Given as goal

abbrev pub invariant-loop-digit : goal.invariant-loop-digit
invariant-loop-digit l = l.value ≡ min (2 ^ 127) (value_in 10 (take l.digit-index l.digits))
