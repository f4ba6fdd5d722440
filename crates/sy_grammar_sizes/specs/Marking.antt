-- Marks on the nonterminals that chain rules reach.
use Rattle.std.specs.Prelude.{ℕ, suc, Bool, true, false, List, [], ◌∷◌, ◌≡◌, ◌<◌, length, slice_get, Some}
use Rattle.sy_grammar_base.specs.Patterns.{Occurrence}
use Rattle.sy_grammar_base.specs.Trees.{Syntax, Production, Template}
use Rattle.sy_grammar_sizes.specs.Chains.{IsChain, Reaches}

-- exactly the nonterminals that are reached have a mark
pub record AreMarks (syntax : Syntax) (from : ℕ) (marks : List Bool) : Type 0 where
  pub sized : length marks ≡ length syntax.nonterminals
  pub sound : (to : ℕ) → slice_get marks to ≡ Some true → Reaches syntax from to
  pub whole : (to : ℕ) → to < length syntax.nonterminals → Reaches syntax from to → slice_get marks to ≡ Some true

-- a chain rule of a marked nonterminal names this one, which has no mark
pub record IsNextMark (syntax : Syntax) (marks : List Bool) (to : ℕ) : Type 0 where
  pub from : ℕ
  pub marked : slice_get marks from ≡ Some true
  pub chain : IsChain syntax from to
  pub unset : slice_get marks to ≡ Some false

-- what chain rules of marked nonterminals name isn't without a mark
abbrev pub AreFull : Syntax → List Bool → Type 0
AreFull syntax marks = (from to : ℕ) → slice_get marks from ≡ Some true → IsChain syntax from to → slice_get marks to ≡ Some false → ⊥

-- the same for the rules of one nonterminal
pub record IsNamed (productions : List Production) (marks : List Bool) (to : ℕ) : Type 0 where
  pub rule : ℕ
  pub at : slice_get productions rule ≡ Some (Template (Occurrence to))
  pub unset : slice_get marks to ≡ Some false

abbrev pub AreMarked : List Production → List Bool → Type 0
AreMarked productions marks = (rule to : ℕ) → slice_get productions rule ≡ Some (Template (Occurrence to)) → slice_get marks to ≡ Some false → ⊥

-- what holds while marks are set: each is reached, and the first one is set
pub record IsMarking (syntax : Syntax) (from : ℕ) (marks : List Bool) : Type 0 where
  pub sized : length marks ≡ length syntax.nonterminals
  pub sound : (to : ℕ) → slice_get marks to ≡ Some true → Reaches syntax from to
  pub first : slice_get marks from ≡ Some true

-- how many marks aren't set
abbrev pub unset : List Bool → ℕ
unset [] = 0
unset (true ∷ marks) = unset marks
unset (false ∷ marks) = suc (unset marks)
