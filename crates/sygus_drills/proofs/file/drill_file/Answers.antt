use Rattle.std.proofs.Common.{◌≡◌, ◌++◌, List, ℕ, ap, ◌∙◌}
use Rattle.std.specs.Prelude.{codes}
use Rattle.std.specs.List.{flat_map}
use Rattle.sygus_drills.specs.Examples.{examples}
use Rattle.sygus_drills.specs.Files.{constraint, function, line}
use Rattle.sygus_drills.specs.declared.generator.Example.{Example}
use Rattle.sygus_drills.proofs.file.drill_file.Goals as goal

pub returns : goal.returns
returns c =
    let head : List ℕ = function c.args.number in
    let tail : List ℕ = line (codes "(check-synth)") in
    let first : c.put_function.new.file ≡ head = c.in_ok-put_function.ensures ∙ ap (λ (l : List ℕ). l ++ head) c.new-file.ensures in
    let same : c.as_slice.result.now ≡ examples c.args.number = c.as_slice.ensures ∙ c.in_ok-examples.ensures in
    let second : c.put_constraints.new.file ≡ head ++ flat_map constraint (examples c.args.number)
    = c.in_ok-put_constraints.ensures ∙ ap (λ (es : List Example). c.put_function.new.file ++ flat_map constraint es) same ∙ ap (λ (l : List ℕ). l ++ flat_map constraint (examples c.args.number)) first in
    c.in_ok-append.ensures.ok ∙ ap (λ (l : List ℕ). l ++ tail) second
