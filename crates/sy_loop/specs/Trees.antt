-- Conditional trees over the kept terms of banks.
use Rattle.std.specs.Prelude.{ℕ, List}
use Rattle.sy_grammar_base.specs.Questions.{Question}
use Rattle.sy_points.specs.Asked.{Asked}
use Rattle.sy_bank_level.specs.Banks.{Merged}
use Rattle.sy_loop_spec.specs.declared.reach.Reach.{Reach}
use Rattle.sy_loop_spec.specs.Histories.{Counterexample}
use Rattle.sy_loop_spec.specs.Merging.{AreCovering}
use Rattle.sy_loop_spec.specs.Refuting.{AllRefuted, AllTreesViolate}

-- where the banks cover all derivations up to n, and all members of such sizes are refuted, so are all conditional trees in that bound
abbrev pub TreesFollow : Reach → Question → List Counterexample → Asked → ℕ → List Merged → Type 0
TreesFollow reach question history asked n banks =
    AreCovering question asked n banks → AllRefuted question history asked n → AllTreesViolate reach question history n
