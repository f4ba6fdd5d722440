-- What rules have given while the kept terms of a size are found, and what is filled once all rules have.
use Rattle.std.proofs.Common.{◌≡◌, ℕ, zero, suc, ◌+◌, ◌<◌, List, [], ◌∷◌, length, refl, ap, sym, ◌∙◌, Some, None, Option, slice_get, arith, subst, inl, inr}
use Rattle.std.proofs.lemmas.Option.{none-some}
use Rattle.sy_terms.specs.Expr.{Expr}
use Rattle.sy_grammar_base.specs.Patterns.{Pattern, Constant, Variable, Occurrence, Apply, Invoke, occurring, filled, own_size}
use Rattle.sy_grammar_base.specs.Trees.{Production, Template, EachConstant, EachVariable, Nonterminal, rule_at, rule_of}
use Rattle.sy_bank_level.specs.Banks.{Entry, IsKept}
use Rattle.sy_bank_level.specs.Covering.{AreKept, sizes, terms, Offers}
use Rattle.sy_bank_level.specs.Filling.{World, LevelState, all_levels, IsSteady, LevelGrows, TermIsDone}
use Rattle.sy_bank_level.proofs.KeptLaws.{below-or-last, kept_at-before}
use Rattle.sy_bank_level.proofs.Keeping.{done-on}
use Rattle.sy_bank_level.specs.Tried.{IsTried, AreTried, AllAreTried, IsFilled}

-- what is done stays done
pub tried-on : (w : World) (s t : LevelState) (size n r : ℕ) → LevelGrows w s t → IsTried w s size n r → IsTried w t size n r
tried-on w s t size n r grows tried term offers = done-on w s t n size term grows (tried term offers)

pub rules-tried-on : (w : World) (s t : LevelState) (size n count : ℕ) → LevelGrows w s t → AreTried w s size n count → AreTried w t size n count
rules-tried-on w s t size n count grows tried r within = tried-on w s t size n r grows (tried r within)

pub all-tried-on : (w : World) (s t : LevelState) (size count : ℕ) → LevelGrows w s t → AllAreTried w s size count → AllAreTried w t size count
all-tried-on w s t size count grows tried n r within = tried-on w s t size n r grows (tried n r within)

-- a rule that gives a pattern, where each choice of kept terms is done
pub tried-template : (w : World) (s : LevelState) (size n r : ℕ) (pattern : Pattern) → rule_at w.syntax n r ≡ Some (Template pattern) →
    ((chosen : List Entry) → AreKept w.levels (occurring pattern) chosen → own_size pattern + sizes chosen ≡ size → TermIsDone w s n size (filled pattern (terms chosen))) →
    IsTried w s size n r
tried-template w s size n r pattern at done term offers =
    let given = subst (λ (p : Option Production). Offers w.syntax w.pool w.levels p size term) at offers in
    subst (λ (t : Expr). TermIsDone w s n size t) given.3 (done given.0 given.1 given.2)

-- a rule of which all that it gives is done
pub tried-rule : (w : World) (s : LevelState) (size n r : ℕ) (production : Production) → rule_at w.syntax n r ≡ Some production →
    ((term : Expr) → Offers w.syntax w.pool w.levels (Some production) size term → TermIsDone w s n size term) → IsTried w s size n r
tried-rule w s size n r production at done term offers = done term (subst (λ (p : Option Production). Offers w.syntax w.pool w.levels p size term) at offers)

-- a nonterminal with a rule is one of them
known : (nonterminals : List Nonterminal) (n r : ℕ) (production : Production) → rule_of (slice_get nonterminals n) r ≡ Some production → n < length nonterminals
known [] n r production at = absurd (none-some production at)
known (first ∷ rest) zero r production at = omega arith
known (first ∷ rest) (suc n) r production at = let below = known rest n r production at in omega (arith, below)

-- kept terms of lesser sizes are kept among those
pub lower-one : (w : World) (s : LevelState) (n : ℕ) (entry : Entry) → IsSteady w s → IsKept (all_levels w s) n entry → entry.size < length w.levels → IsKept w.levels n entry
lower-one w s n entry steady kept below =
    let right = steady.each n kept.size kept.place entry kept.at in
    let within : kept.size < length w.levels = omega (arith, below, right.sized) in
    record { size = kept.size; place = kept.place; at = ap (λ (list : List Entry). slice_get list kept.place) (sym (kept_at-before w.levels s.fresh n kept.size within)) ∙ kept.at }

pub lower : (w : World) (s : LevelState) (ns : List ℕ) (chosen : List Entry) → IsSteady w s → AreKept (all_levels w s) ns chosen → sizes chosen < length w.levels → AreKept w.levels ns chosen
lower w s [] [] steady kept below = tt
lower w s [] (entry ∷ chosen) steady kept below = absurd kept
lower w s (n ∷ ns) [] steady kept below = absurd kept
lower w s (n ∷ ns) (entry ∷ chosen) steady kept below =
    (lower-one w s n entry steady kept.0 (omega (arith, below)), lower w s ns chosen steady kept.1 (omega (arith, below)))

-- what is offered at a lesser size, is offered of kept terms of lesser sizes; so at this size, but by chain rules
pub lower-offers : (w : World) (s : LevelState) (production : Option Production) (size : ℕ) (term : Expr) → IsSteady w s → size < length w.levels →
    Offers w.syntax w.pool (all_levels w s) production size term → Offers w.syntax w.pool w.levels production size term
lower-offers w s None size term steady below offers = offers
lower-offers w s (Some (EachConstant sort)) size term steady below offers = offers
lower-offers w s (Some (EachVariable sort)) size term steady below offers = offers
lower-offers w s (Some (Template pattern)) size term steady below offers =
    let sum = offers.2 in
    (offers.0, lower w s (occurring pattern) offers.0 steady offers.1 (omega (arith, below, sum)), offers.2, offers.3)

-- what is kept at this size was passed along chain rules
abbrev pub ArePassedOn : World → LevelState → ℕ → Type 0
ArePassedOn w s size = (n r to : ℕ) (entry : Entry) → rule_at w.syntax n r ≡ Some (Template (Occurrence to)) → IsKept (all_levels w s) to entry → entry.size ≡ size → TermIsDone w s n size entry.term

chain-passed : (w : World) (s : LevelState) (size n r to : ℕ) (term : Expr) (chosen : List Entry) → ArePassedOn w s size → rule_at w.syntax n r ≡ Some (Template (Occurrence to)) →
    AreKept (all_levels w s) (to ∷ []) chosen → sizes chosen ≡ size → filled (Occurrence to) (terms chosen) ≡ term → TermIsDone w s n size term
unfolding filled
chain-passed w s size n r to term [] passed at kept sized is = absurd kept
chain-passed w s size n r to term (entry ∷ []) passed at kept sized is =
    subst (λ (t : Expr). TermIsDone w s n size t) is (passed n r to entry at kept.0 (omega (arith, sized)))
chain-passed w s size n r to term (entry ∷ (other ∷ chosen)) passed at kept sized is = absurd kept.1

template-filled : (w : World) (s : LevelState) (size n r : ℕ) (pattern : Pattern) (term : Expr) → IsSteady w s → size ≡ length w.levels → IsTried w s size n r → ArePassedOn w s size →
    rule_at w.syntax n r ≡ Some (Template pattern) → (chosen : List Entry) → AreKept (all_levels w s) (occurring pattern) chosen → (own : ℕ) → own_size pattern ≡ own → own_size pattern + sizes chosen ≡ size → filled pattern (terms chosen) ≡ term → TermIsDone w s n size term
template-filled w s size n r pattern term steady sized tried passed at chosen kept (suc own) is sum whole =
    tried term (subst (λ (p : Option Production). Offers w.syntax w.pool w.levels p size term) (sym at)
    (chosen, lower w s (occurring pattern) chosen steady kept (omega (arith, is, sum, sized)), sum, whole))
template-filled w s size n r (Constant value) term steady sized tried passed at chosen kept zero is sum whole = absurd (omega (arith, is))
template-filled w s size n r (Variable position) term steady sized tried passed at chosen kept zero is sum whole = absurd (omega (arith, is))
template-filled w s size n r (Apply operator arguments) term steady sized tried passed at chosen kept zero is sum whole = absurd (omega (arith, is))
template-filled w s size n r (Invoke definition arguments) term steady sized tried passed at chosen kept zero is sum whole = absurd (omega (arith, is))
template-filled w s size n r (Occurrence to) term steady sized tried passed at chosen kept zero is sum whole = chain-passed w s size n r to term chosen passed at kept (omega (arith, sum)) whole

filled-by : (w : World) (s : LevelState) (size n r : ℕ) (production : Option Production) (term : Expr) → IsSteady w s → size ≡ length w.levels → AllAreTried w s size (length w.syntax.nonterminals) → ArePassedOn w s size →
    rule_at w.syntax n r ≡ production → Offers w.syntax w.pool (all_levels w s) production size term → TermIsDone w s n size term
filled-by w s size n r None term steady sized tried passed at offers = absurd offers
filled-by w s size n r (Some (EachConstant sort)) term steady sized tried passed at offers =
    tried n r (known w.syntax.nonterminals n r (EachConstant sort) at) term (subst (λ (p : Option Production). Offers w.syntax w.pool w.levels p size term) (sym at) offers)
filled-by w s size n r (Some (EachVariable sort)) term steady sized tried passed at offers =
    tried n r (known w.syntax.nonterminals n r (EachVariable sort) at) term (subst (λ (p : Option Production). Offers w.syntax w.pool w.levels p size term) (sym at) offers)
filled-by w s size n r (Some (Template pattern)) term steady sized tried passed at offers =
    template-filled w s size n r pattern term steady sized (tried n r (known w.syntax.nonterminals n r (Template pattern) at)) passed at offers.0 offers.1 (own_size pattern) refl offers.2 offers.3

-- once all rules have given what they give, and chain rules have passed it on, the size is filled
pub filled-all : (w : World) (s : LevelState) (size : ℕ) → IsSteady w s → size ≡ length w.levels → AllAreTried w s size (length w.syntax.nonterminals) → ArePassedOn w s size → IsFilled w s size
filled-all w s size steady sized tried passed n r term offers = filled-by w s size n r (rule_at w.syntax n r) term steady sized tried passed refl offers

-- one more nonterminal, and one more rule
pub all-tried-more : (w : World) (s t : LevelState) (size count : ℕ) → LevelGrows w s t → AllAreTried w s size count → ((rule : ℕ) → IsTried w t size count rule) → AllAreTried w t size (count + 1)
all-tried-more w s t size count grows tried last n r within = elim (below-or-last n count within) [
  | inl less ↦ tried-on w s t size n r grows (tried n r less)
  | inr same ↦ subst (λ (k : ℕ). IsTried w t size k r) (sym same) (last r)
]

pub rules-tried-more : (w : World) (s t : LevelState) (size n count : ℕ) → LevelGrows w s t → AreTried w s size n count → IsTried w t size n count → AreTried w t size n (count + 1)
rules-tried-more w s t size n count grows tried last r within = elim (below-or-last r count within) [
  | inl less ↦ tried-on w s t size n r grows (tried r less)
  | inr same ↦ subst (λ (k : ℕ). IsTried w t size n k) (sym same) last
]

-- a nonterminal gives nothing by rules that it doesn't have
rule-within : (rules : List Production) (r : ℕ) (production : Production) → slice_get rules r ≡ Some production → r < length rules
rule-within [] r production at = absurd (none-some production at)
rule-within (first ∷ rest) zero production at = omega arith
rule-within (first ∷ rest) (suc r) production at = let below = rule-within rest r production at in omega (arith, below)

by-rule : (w : World) (s : LevelState) (size n r : ℕ) (rules : List Production) (production : Option Production) → AreTried w s size n (length rules) → slice_get rules r ≡ production → rule_at w.syntax n r ≡ production →
    (term : Expr) → Offers w.syntax w.pool w.levels (rule_at w.syntax n r) size term → TermIsDone w s n size term
by-rule w s size n r rules None tried there at term offers = absurd (subst (λ (p : Option Production). Offers w.syntax w.pool w.levels p size term) at offers)
by-rule w s size n r rules (Some production) tried there at term offers = tried r (rule-within rules r production there) term offers

pub all-rules : (w : World) (s : LevelState) (size n : ℕ) (nonterminal : Nonterminal) → slice_get w.syntax.nonterminals n ≡ Some nonterminal → AreTried w s size n (length nonterminal.rules) → (rule : ℕ) → IsTried w s size n rule
all-rules w s size n nonterminal at tried rule term offers =
    by-rule w s size n rule nonterminal.rules (slice_get nonterminal.rules rule) tried refl (ap (λ (found : Option Nonterminal). rule_of found rule) at) term offers

-- the rule of this number of a nonterminal
pub at-rule : (w : World) (n r : ℕ) (nonterminal : Nonterminal) (production : Production) → slice_get w.syntax.nonterminals n ≡ Some nonterminal → slice_get nonterminal.rules r ≡ Some production → rule_at w.syntax n r ≡ Some production
at-rule w n r nonterminal production at here = ap (λ (found : Option Nonterminal). rule_of found r) at ∙ here
