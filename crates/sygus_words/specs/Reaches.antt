-- How far the search of each mode goes.
use Rattle.sy_loop_spec.specs.declared.reach.Reach.{Reach}
use Rattle.sy_loop_spec.specs.declared.reach.Reach.TheVariants.{Sizes, Joins}
use Rattle.sygus_words.specs.declared.settings.Mode.{Mode}
use Rattle.sygus_words.specs.declared.settings.Mode.TheVariants.{Solve, Least, Check, Recheck, Clauses, Drill}

-- what counts as within a bound: in modes `solve` and `drill` conditional trees too, by their parts; in mode `least` sums of
-- sizes alone; modes that search for nothing count as `solve`
abbrev pub reach_of : Mode → Reach
reach_of Solve = Joins
reach_of Least = Sizes
reach_of Check = Joins
reach_of Recheck = Joins
reach_of Clauses = Joins
reach_of (Drill n) = Joins
