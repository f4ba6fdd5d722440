-- Parts that are nonterminals.
use Rattle.std.specs.Prelude.{ℕ}
use Rattle.sy_grammar_base.specs.declared.part.Part.{Part, Non}

abbrev pub occurrence : {T N : Type 0} → ℕ → Part T N
occurrence nonterminal = Non nonterminal
