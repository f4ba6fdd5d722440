-- What follows of conditional trees over the kept terms of banks.
use Rattle.std.specs.Prelude.{ℕ, ◌≡◌, List, slice_get, Some}
use Rattle.sy_terms.specs.Fitting.{Scope}
use Rattle.sy_grammar_base.specs.Questions.{Question}
use Rattle.sy_points.specs.Asked.{Asked}
use Rattle.sy_bank_level.specs.Banks.{Merged}
use Rattle.sy_loop_spec.specs.declared.reach.Reach.{Reach}
use Rattle.sy_loop_spec.specs.declared.reach.Reach.TheVariants.{Sizes, Joins}
use Rattle.sy_loop_spec.specs.Histories.{Counterexample}
use Rattle.sy_loop_spec.specs.Refuting.{AllTreesViolate}
use Rattle.sy_loop.specs.Joining.{IsJoinable, TreesFollowFrom}
use Rattle.sy_loop.specs.Plans.{TriesNoTrees}
use Rattle.sy_loop.specs.Levels.{AreHonest}
use Rattle.sy_loop.specs.Trees.{TreesFollow}

-- where there are none
pub none_follow : (reach : Reach) (question : Question) (history : List Counterexample) (asked : Asked) (n : ℕ) (banks : List Merged) → TriesNoTrees reach question → TreesFollow reach question history asked n banks
none_follow reach question history asked n banks none covering all = violate reach none
  where
    violate : (r : Reach) → TriesNoTrees r question → AllTreesViolate r question history n
    violate Sizes has_none = tt
    violate Joins has_none = λ bodies joined. absurd (has_none tt n bodies joined)

-- of those over the first bank
pub first_follow : (reach : Reach) (question : Question) (history : List Counterexample) (asked : Asked) (n : ℕ) (banks : List Merged) (bank : Merged) → slice_get banks 0 ≡ Some bank → TreesFollowFrom reach question history asked n bank →
    TreesFollow reach question history asked n banks
first_follow reach question history asked n banks bank at follow covering all = follow (covering.each 0 bank at) all

-- the first bank is one that terms can be joined from
pub first_joinable : (scope : Scope) (question : Question) (asked : Asked) (banks : List Merged) (bank : Merged) → AreHonest scope question asked banks → slice_get banks 0 ≡ Some bank → IsJoinable question asked bank
first_joinable scope question asked banks bank honest at = let of = honest.each 0 bank at in record { goal = of.goal; at = of.at; over = of.over; honest = of.honest }
