-- What a rule gives of kept terms of lesser sizes.
use Rattle.std.specs.Prelude.{ℕ, ◌+◌, ◌≡◌, List, ◌++◌, length}
use Rattle.sy_grammar_base.specs.Patterns.{Pattern, occurring, filled, own_size}
use Rattle.sy_bank_level.specs.Banks.{Entry}
use Rattle.sy_bank_level.specs.Covering.{AreKept, sizes, terms}
use Rattle.sy_bank_level.specs.Filling.{World, LevelState, TermIsDone}

-- each term of this size that the pattern gives of kept terms of lesser sizes is done
abbrev pub AreDone : World → LevelState → ℕ → ℕ → Pattern → Type 0
AreDone world state nonterminal size pattern = (chosen : List Entry) → AreKept world.levels (occurring pattern) chosen → own_size pattern + sizes chosen ≡ size →
    TermIsDone world state nonterminal size (filled pattern (terms chosen))

-- kept terms are chosen for the first places of the pattern; these places are left, and so much of the size
pub record PatternIsBegun (world : World) (pattern : Pattern) (chosen : List Entry) (places : List ℕ) (left : ℕ) : Type 0 where
  pub before : List ℕ
  pub whole : before ++ places ≡ occurring pattern
  pub kept : AreKept world.levels before chosen
  pub sized : own_size pattern + sizes chosen + left ≡ length world.levels

-- each term that the pattern gives of the chosen terms and then of others, for the places left and of the size left, is done
pub record AreDoneFrom (world : World) (state : LevelState) (nonterminal : ℕ) (pattern : Pattern) (chosen : List Entry) (places : List ℕ) (left : ℕ) : Type 0 where
  pub each : (others : List Entry) → AreKept world.levels places others → sizes others ≡ left →
      TermIsDone world state nonterminal (length world.levels) (filled pattern (terms (chosen ++ others)))
