-- The file of a number.
use Rattle.std.specs.Prelude.{ℕ, ◌%◌, List, [], ◌∷◌, ◌++◌, codes}
use Rattle.std.specs.List.{flat_map}
use Rattle.sy_text.specs.Spelling.{vector_text}
use Rattle.sygus_drills.specs.Examples.{examples}
use Rattle.sygus_drills.specs.declared.generator.Example.{Example}

-- a text with a line feed
abbrev pub line : List ℕ → List ℕ
line text = text ++ 10 ∷ []

-- the logic, and the function with the rules of its values
abbrev pub heading : List ℕ
heading = line (codes "(set-logic BV)")
    ++ line (codes "(synth-fun f ((x (_ BitVec 8))) (_ BitVec 8)")
    ++ line (codes "  ((S (_ BitVec 8)) (C Bool))")
    ++ line (codes "  ((S (_ BitVec 8) (x (bvnot x) (bvadd x #x01) (ite C S S)))")

-- the rule of its conditions: the argument is below the number, modulo 256
unfoldable pub condition : ℕ → List ℕ
condition number = line (codes "   (C Bool ((bvult x " ++ vector_text 8 (number % 256) ++ codes ")))))")

unfoldable pub function : ℕ → List ℕ
function number = heading ++ condition number

-- one example
unfoldable pub constraint : Example → List ℕ
constraint example = line (codes "(constraint (= (f " ++ vector_text 8 example.argument ++ codes ") " ++ vector_text 8 example.value ++ codes "))")

abbrev pub drill_file : ℕ → List ℕ
drill_file number = function number ++ flat_map constraint (examples number) ++ line (codes "(check-synth)")
