-- Lists of phrases as lists of terms and of parts.
use Rattle.std.proofs.Common.{◌≡◌, ℕ, refl, ap, List, [], ◌∷◌, ◌++◌}
use Rattle.sy_terms.specs.Values.{Val}
use Rattle.sy_grammar_base.specs.Written.{pattern_of, patterns_of}
use Rattle.sy_grammar_base.specs.declared.part.Part.{Part}
use Rattle.sy_terms.specs.Expr as expr
use Rattle.sy_grammar_base.specs.Patterns as pattern
use Rattle.sy_forms_items.specs.Phrases.{Phrases, none, more, append_phrases, expr_at, exprs_at, pattern_at, patterns_at}

pub exprs_at-append : (outside : ℕ) (first second : Phrases) → exprs_at outside (append_phrases first second) ≡ expr.append (exprs_at outside first) (exprs_at outside second)
unfolding expr_at exprs_at
exprs_at-append outside none second = refl
exprs_at-append outside (more phrase first) second = ap (expr.more (expr_at outside phrase)) (exprs_at-append outside first second)

-- one list of patterns after the other
abbrev pub joined : pattern.Patterns → pattern.Patterns → pattern.Patterns
joined pattern.none second = second
joined (pattern.more first rest) second = pattern.more first (joined rest second)

pub patterns_at-append : (first second : Phrases) → patterns_at (append_phrases first second) ≡ joined (patterns_at first) (patterns_at second)
unfolding pattern_at patterns_at
patterns_at-append none second = refl
patterns_at-append (more phrase first) second = ap (pattern.more (pattern_at phrase)) (patterns_at-append first second)

pub patterns_of-append : {T N : Type 0} (number : N → Val) (first second : List (Part T N)) → patterns_of number (first ++ second) ≡ joined (patterns_of number first) (patterns_of number second)
patterns_of-append number [] second = refl
patterns_of-append number (part ∷ first) second = ap (pattern.more (pattern_of number part)) (patterns_of-append number first second)
