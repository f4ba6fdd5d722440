-- What patterns become, and lists of patterns filled one by one.
use Rattle.std.proofs.Common.{◌≡◌, ℕ, ◌+◌, ◌<◌, get_or, List, [], ◌∷◌, ◌++◌, length, take, drop, refl, ap, sym, ◌∙◌, arith, length-append, map, slice_get, None, Some, min}
use Rattle.std.proofs.lemmas.List.{drop-take, drop-drop, drop_min, take-take, take_more}
use Rattle.std.proofs.Math.Nat.{min_comm}
use Rattle.std.proofs.lemmas.Option.{none-some}
use Rattle.sy_terms.specs.Values.{Val}
use Rattle.sy_terms.specs.Expr as expr
use Rattle.sy_terms.specs.Expr.{Expr, append}
use Rattle.sy_terms.specs.Denoted.{expr_of}
use Rattle.sy_terms.specs.declared.op.Op.{Op}
use Rattle.sy_terms.specs.declared.term.Fun.TheVariants.{Defined}
use Rattle.sy_terms.specs.declared.term.Term.{Term}
use Rattle.sy_grammar_base.specs.Patterns as patterns
use Rattle.sy_grammar_base.specs.Patterns.{Pattern, Patterns, Constant, Variable, Occurrence, Apply, Invoke, occurring, all_occurring, filled, all_filled, first_of}
use Rattle.sy_grammar_base.specs.Written.{pattern_of, patterns_of, all_occurring-last}
use Rattle.sy_grammar_base.specs.declared.part.Part.{Part}

first-taken : (terms : List Expr) → first_of (take 1 terms) ≡ first_of terms
first-taken [] = refl
first-taken (term ∷ terms) = refl

mutual
  unfolding filled all_filled

  -- a pattern takes as many terms as it has places
  pub filled-take : (pattern : Pattern) (terms : List Expr) → filled pattern (take (length (occurring pattern)) terms) ≡ filled pattern terms
  filled-take (Constant value) terms = refl
  filled-take (Variable position) terms = refl
  filled-take (Occurrence nonterminal) terms = first-taken terms
  filled-take (Apply operator arguments) terms = ap (expr.Apply operator) (all_filled-take arguments terms)
  filled-take (Invoke definition arguments) terms = ap (expr.Invoke (Defined definition)) (all_filled-take arguments terms)

  pub all_filled-take : (parts : Patterns) (terms : List Expr) → all_filled parts (take (length (all_occurring parts)) terms) ≡ all_filled parts terms
  all_filled-take patterns.none terms = refl
  all_filled-take (patterns.more first rest) terms =
      let n = length (occurring first) in
      let m = length (all_occurring rest) in
      let both : length (occurring first ++ all_occurring rest) ≡ n + m = length-append (occurring first) (all_occurring rest) in
      let one : take n (take (n + m) terms) ≡ take n terms = take-take n (n + m) terms (omega arith) in
      let others : drop n (take (n + m) terms) ≡ take m (drop n terms) = drop-take n m terms in
      rw (both, one, others) (ap (expr.more (filled first (take n terms))) (all_filled-take rest (drop n terms)))

-- a list of patterns with one more
pub all_filled-last : {T N : Type 0} (number : N → Val) (parts : List (Part T N)) (last : Part T N) (terms : List Expr) →
    all_filled (patterns_of number (parts ++ last ∷ [])) terms
    ≡ append (all_filled (patterns_of number parts) terms) (expr.more (filled (pattern_of number last) (drop (length (all_occurring (patterns_of number parts))) terms)) expr.none)
unfolding all_filled
all_filled-last number [] last terms = ap (λ one. expr.more one expr.none) (filled-take (pattern_of number last) terms)
all_filled-last number (part ∷ parts) last terms =
    let n = length (occurring (pattern_of number part)) in
    let m = length (all_occurring (patterns_of number parts)) in
    let both : length (occurring (pattern_of number part) ++ all_occurring (patterns_of number parts)) ≡ n + m = length-append (occurring (pattern_of number part)) (all_occurring (patterns_of number parts)) in
    ap (expr.more (filled (pattern_of number part) (take n terms)))
    (all_filled-last number parts last (drop n terms)
    ∙ ap (λ left. append (all_filled (patterns_of number parts) (drop n terms)) (expr.more (filled (pattern_of number last) left) expr.none)) (drop-drop m n terms ∙ ap (λ k. drop k terms) (sym both)))

-- what each form of a pattern becomes
pub filled-Constant : (value : Val) (terms : List Expr) → filled (Constant value) terms ≡ expr.Constant value
unfolding filled
filled-Constant value terms = refl

pub filled-Variable : (position : ℕ) (terms : List Expr) → filled (Variable position) terms ≡ expr.Variable position
unfolding filled
filled-Variable position terms = refl

pub filled-Occurrence : (nonterminal : ℕ) (terms : List Expr) → filled (Occurrence nonterminal) terms ≡ first_of terms
unfolding filled
filled-Occurrence nonterminal terms = refl

pub filled-Apply : (operator : Op) (arguments : Patterns) (terms : List Expr) → filled (Apply operator arguments) terms ≡ expr.Apply operator (all_filled arguments terms)
unfolding filled
filled-Apply operator arguments terms = refl

pub filled-Invoke : (definition : ℕ) (arguments : Patterns) (terms : List Expr) → filled (Invoke definition arguments) terms ≡ expr.Invoke (Defined definition) (all_filled arguments terms)
unfolding filled
filled-Invoke definition arguments terms = refl

pub all_filled-none : (terms : List Expr) → all_filled patterns.none terms ≡ expr.none
unfolding all_filled
all_filled-none terms = refl

-- a list of parts with one more, by its place
pub filled-next : {T N : Type 0} (number : N → Val) (parts : List (Part T N)) (i : ℕ) (part : Part T N) (terms : List Expr) (used : ℕ) → i < length parts → part ≡ get_or parts i part → used ≡ length (all_occurring (patterns_of number (take i parts))) →
    all_filled (patterns_of number (take (i + 1) parts)) terms ≡ append (all_filled (patterns_of number (take i parts)) terms) (expr.more (filled (pattern_of number part) (drop used terms)) expr.none)
filled-next number parts i part terms used within is at = rw (take_more parts i part within, ← is, at) (all_filled-last number (take i parts) part terms)

pub occurring-next : {T N : Type 0} (number : N → Val) (parts : List (Part T N)) (i : ℕ) (part : Part T N) → i < length parts → part ≡ get_or parts i part →
    length (all_occurring (patterns_of number (take (i + 1) parts))) ≡ length (all_occurring (patterns_of number (take i parts))) + length (occurring (pattern_of number part))
occurring-next number parts i part within is = rw (take_more parts i part within, ← is) (all_occurring-last number (take i parts) part)

-- what is left of the terms after one part more
pub left-next : {T N X : Type 0} (number : N → Val) (parts : List (Part T N)) (i : ℕ) (part : Part T N) (terms left : List X) (used : ℕ) → i < length parts → part ≡ get_or parts i part →
    left ≡ drop (length (all_occurring (patterns_of number (take i parts)))) terms → used ≡ min (length left) (length (occurring (pattern_of number part))) →
    drop used left ≡ drop (length (all_occurring (patterns_of number (take (i + 1) parts)))) terms
left-next number parts i part terms left used within is left_is used_is =
    let before = length (all_occurring (patterns_of number (take i parts))) in
    let places = length (occurring (pattern_of number part)) in
    ap (λ n. drop n left) (used_is ∙ min_comm (length left) places) ∙ drop_min places left ∙ ap (drop places) left_is ∙ drop-drop places before terms
    ∙ ap (λ n. drop n terms) (sym (occurring-next number parts i part within is))

-- where there is no term
pub first-missing : {T N : Type 0} (number : N → Val) (terms : List (Term T N)) → None ≡ slice_get terms 0 → expr.Variable 0 ≡ first_of (map (expr_of number) terms)
first-missing number [] missing = refl
first-missing number (term ∷ terms) missing = absurd (none-some term missing)

-- where there is one
pub first-there : {T N : Type 0} (number : N → Val) (terms : List (Term T N)) (term copy : Term T N) → Some term ≡ slice_get terms 0 → expr_of number copy ≡ expr_of number term → expr_of number copy ≡ first_of (map (expr_of number) terms)
first-there number [] term copy at is = absurd (none-some term (sym at))
first-there number (first ∷ terms) term copy at is = let same : term ≡ first = cc in is ∙ ap (expr_of number) same
