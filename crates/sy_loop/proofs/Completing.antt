-- Rounds at ascending sizes: what they have done, and what follows at the greatest size.
use Rattle.std.proofs.Common.{◌≡◌, ◌≤◌, ◌+◌, refl, sym, subst, ◌∙◌, ℕ, suc, List, [], ◌∷◌, arith, slice_get, Some, None}
use Rattle.std.proofs.lemmas.List.Elements.{All-contains}
use Rattle.sy_terms.specs.Meaning.{functions}
use Rattle.sy_grammar_base.specs.Questions.{Goal, Question}
use Rattle.sy_query_limits.specs.declared.Limits.{Limits}
use Rattle.sy_points.specs.Asked.{Asked}
use Rattle.sy_bank_level.specs.Banks.{Entry, Merged, kept_at}
use Rattle.sy_bank_level.specs.Covering.{Covers, sizes, terms}
use Rattle.sy_loop_spec.specs.declared.reach.Reach.{Reach}
use Rattle.sy_loop_spec.specs.Histories.{Counterexample, IsOpenNumber}
use Rattle.sy_loop_spec.specs.Unsolved.{NoSolutionWithin}
use Rattle.sy_loop_truth.specs.Known.{IsKnown}
use Rattle.sy_loop_truth.proofs.Items.{has_place}
use Rattle.sy_loop_spec.specs.Agreeing.{AssumptionsAskNothing}
use Rattle.sy_loop_spec.specs.Merging.{AreChosen, AreCovering}
use Rattle.sy_loop_spec.specs.Refuting.{AllRefuted, AllTreesViolate, AreDoneBelow}
use Rattle.sy_loop_spec.proofs.Done as done
use Rattle.sy_loop_spec.proofs.Refuted.{next_refuted}
use Rattle.sy_loop_banks.specs.Banks.{AreBanks}
use Rattle.sy_loop_banks.specs.Dropping.{DroppedNothing}
use Rattle.sy_loop.specs.Levels.{AreKeptBodies, AllAreRefuted}
use Rattle.sy_loop.specs.Trees.{TreesFollow}

-- the same of what is known
pub same_done : (reach : Reach) (question : Question) (history history' : List Counterexample) (asked asked' : Asked) (n : ℕ) → history' ≡ history → asked' ≡ asked → AreDoneBelow reach question history asked n → AreDoneBelow reach question history' asked' n
same_done reach question history history' asked asked' n same same' below =
    subst (λ h. AreDoneBelow reach question h asked' n) (sym same) (subst (λ a. AreDoneBelow reach question history a n) (sym same') below)

-- what follows of trees does so of the same
pub same_follow : (reach : Reach) (question : Question) (history history' : List Counterexample) (asked asked' : Asked) (n : ℕ) (banks : List Merged) → history' ≡ history → asked' ≡ asked → TreesFollow reach question history asked n banks →
    TreesFollow reach question history' asked' n banks
same_follow reach question history history' asked asked' n banks same same' follow =
    subst (λ h. TreesFollow reach question h asked' n banks) (sym same) (subst (λ a. TreesFollow reach question history a n banks) (sym same') follow)

-- each kept term of the banks' start symbols stands at its size
abbrev AreSized : List Merged → Type 0
AreSized banks = (function size place : ℕ) (bank : Merged) (entry : Entry) → slice_get banks function ≡ Some bank → slice_get (kept_at bank.levels 0 size) place ≡ Some entry → entry.size ≡ size

chosen_kept : (banks : List Merged) (chosen : List Entry) (total : ℕ) → AreSized banks → AreChosen banks chosen → sizes chosen ≡ total → AreKeptBodies banks (terms chosen) total
chosen_kept [] [] total sized kept same = sym same
chosen_kept [] (entry ∷ chosen) total sized kept same = absurd kept
chosen_kept (bank ∷ banks) [] total sized kept same = absurd kept
chosen_kept (bank ∷ banks) (entry ∷ chosen) total sized kept same =
    let here = kept.0 in
    let size : entry.size ≡ here.size = sized 0 here.size here.place bank entry refl here.at in
    (here.size, sizes chosen, here.place, entry, here.at, refl, chosen_kept banks chosen (sizes chosen) (λ function k place b e at. sized (suc function) k place b e at) kept.1 refl, omega (arith, size, same))

module _ (question : Question) (limits : Limits) (history : List Counterexample) (asked : Asked) (level : ℕ) (banks : List Merged) where
  -- banks that dropped nothing cover all derivations up to their size
  pub are_covering : AreBanks question limits asked level banks → ((function : ℕ) (bank : Merged) → slice_get banks function ≡ Some bank → bank.dropped ≡ None) → AreCovering question asked level banks
  are_covering are none = record {
    each = λ function bank at.
        let of = are.each function bank at in
        let whole = are.whole function bank at in
        let other : Some whole.goal ≡ Some of.goal = sym whole.at ∙ of.at in
        let same : whole.goal ≡ of.goal = cc in
        record {
          goal = of.goal;
          at = of.at;
          over = of.is.over;
          up = omega (arith, of.is.up);
          honest = of.is.honest;
          covers = subst (λ (goal : Goal). Covers goal.grammar (functions question.definitions) question.pool bank) same (whole.whole (none function bank at));
        };
    all = are.all;
  }

  sized : AreBanks question limits asked level banks → AreSized banks
  sized are function size place bank entry at found = ((are.each function bank at).is.honest.each 0 size place entry found).0

  none_dropped : DroppedNothing banks → (function : ℕ) (bank : Merged) → slice_get banks function ≡ Some bank → bank.dropped ≡ None
  none_dropped whole function bank at = All-contains (λ (b : Merged). b.dropped ≡ None) banks bank whole (has_place banks function bank at)

  -- all members of the size are refuted
  level_refuted : (reach : Reach) → AssumptionsAskNothing question → AreBanks question limits asked level banks → DroppedNothing banks → AllAreRefuted question history asked [] banks level → AreDoneBelow reach question history asked level →
      AllRefuted question history asked level
  level_refuted reach assumes are whole refuted below =
      next_refuted question history asked level banks assumes (are_covering are (none_dropped whole)) below.refuted (λ chosen kept same. refuted.each (terms chosen) (chosen_kept banks chosen level (sized are) kept same))

  module _ (reach : Reach) (assumes : AssumptionsAskNothing question) (are : AreBanks question limits asked level banks) (whole : DroppedNothing banks) (refuted : AllAreRefuted question history asked [] banks level)
      (follow : TreesFollow reach question history asked level banks) (below : AreDoneBelow reach question history asked level) where
    -- and so are all conditional trees in its bound
    pub trees_done : AllTreesViolate reach question history level
    trees_done = follow (are_covering are (none_dropped whole)) (level_refuted reach assumes are whole refuted below)

    -- the size is done
    pub next_done : AreDoneBelow reach question history asked (level + 1)
    next_done = done.next question history asked level reach (level_refuted reach assumes are whole refuted below) trees_done below

-- no bodies in bound solve the problem
pub nothing_within : (reach : Reach) (question : Question) (limits : Limits) (history : List Counterexample) (asked : Asked) → IsKnown reach question limits history asked → AreDoneBelow reach question history asked (limits.size + 1) →
    NoSolutionWithin reach question limits.size
nothing_within reach question limits history asked known below = done.ends reach question limits.size limits.rounds limits.size history asked known.honest below

-- the size is open
pub level_open : (reach : Reach) (question : Question) (limits : Limits) (history : List Counterexample) (asked : Asked) (level : ℕ) → level ≤ limits.size → AreDoneBelow reach question history asked level → IsOpenNumber reach question limits.size history level
level_open reach question limits history asked level small below = done.opens reach question limits.size level history asked small below
