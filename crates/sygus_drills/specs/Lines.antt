-- The line of a number. Numbers are decimal.
use Rattle.std.specs.Prelude.{ℕ, List, [], ◌∷◌, ◌++◌, codes}
use Rattle.sy_text.specs.Spelling.{numeral_text}
use Rattle.sy_reply.specs.Lines.{fail_name}
use Rattle.sygus_drills.specs.declared.line.DrillEnd.{DrillEnd}
use Rattle.sygus_drills.specs.declared.line.DrillEnd.TheVariants.{Met, Infeasible, Failed}

abbrev pub met_text : ℕ → List ℕ
met_text count = codes "1000 examples, " ++ numeral_text count ++ codes " met"

unfoldable pub end_text : DrillEnd → List ℕ
end_text (Met count) = met_text count
end_text Infeasible = codes "infeasible"
end_text (Failed name) = codes "fail " ++ fail_name name

-- drill N: END
abbrev pub drill_line : ℕ → DrillEnd → List ℕ
drill_line number end = codes "drill " ++ numeral_text number ++ codes ": " ++ end_text end ++ 10 ∷ []
