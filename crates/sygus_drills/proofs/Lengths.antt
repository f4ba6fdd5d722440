-- How long the file of a number is.
use Rattle.std.proofs.Common.{◌≡◌, ℕ, ◌*◌, ◌≤◌, List, [], ◌∷◌, ◌++◌, length, arith, length-append}
use Rattle.std.specs.Prelude.{codes}
use Rattle.std.specs.List.{flat_map}
use Rattle.std.proofs.lemmas.List.FromFn.{length-map-range_with_len}
use Rattle.sy_text.specs.Spelling.{vector_text, digits_of}
use Rattle.sygus_drills.specs.Examples.{examples, example_of, state_at}
use Rattle.sygus_drills.specs.Files.{function, condition, line, constraint}
use Rattle.sygus_drills.specs.declared.generator.Example.{Example}
use Rattle.sygus_drills.specs.Asked.{FilesAreShort}

constraint_short : (e : Example) → length (constraint e) ≤ 40
unfolding constraint vector_text digits_of
constraint_short e = omega arith

constraints_short : (es : List Example) → length (flat_map constraint es) ≤ 40 * length es
constraints_short [] = omega arith
constraints_short (e ∷ es) = omega (arith, constraints_short es, length-append (constraint e) (flat_map constraint es), constraint_short e)

function_short : (number : ℕ) → length (function number) ≤ 400
unfolding function condition vector_text digits_of
function_short number = omega arith

pub thousand : (number : ℕ) → length (examples number) ≡ 1000
unfolding examples
thousand number = length-map-range_with_len (λ (i : ℕ). example_of number (state_at number i)) 1 1000

pub files_are_short : FilesAreShort
files_are_short number =
    let es = examples number in
    let tail : List ℕ = line (codes "(check-synth)") in
    omega (arith, length-append (function number ++ flat_map constraint es) tail, length-append (function number) (flat_map constraint es), constraints_short es, function_short number, thousand number)
