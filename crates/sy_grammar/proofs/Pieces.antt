-- Yields of lists of trees.
use Rattle.std.proofs.Common.{◌≡◌, ℕ, zero, suc, List, [], ◌∷◌, ◌++◌, length, take, drop, refl, ap, ◌∙◌, arith, Option, Some, None}
use Rattle.std.specs.Option.{option_map}
use Rattle.sy_terms.specs.Expr.{Expr}
use Rattle.sy_grammar_base.specs.Patterns.{Pattern, occurring, filled}
use Rattle.sy_grammar_base.specs.Trees.{Syntax, Tree, Trees, none, more, Production, Template, EachConstant, EachVariable, terms_joined, node_yield, yield_from, yields_from}
use Rattle.sy_grammar.specs.Steps.{tree_at, picked}

pub take_front : {A : Type 0} (front back : List A) (n : ℕ) → length front ≡ n → take n (front ++ back) ≡ front
take_front [] back zero e = refl
take_front [] back (suc n) e = absurd (omega arith)
take_front (x ∷ front) back zero e = absurd (omega arith)
take_front (x ∷ front) back (suc n) e = ap (λ l. x ∷ l) (take_front front back n (omega arith))

pub drop_front : {A : Type 0} (front back : List A) (n : ℕ) → length front ≡ n → drop n (front ++ back) ≡ back
drop_front [] back zero e = refl
drop_front [] back (suc n) e = absurd (omega arith)
drop_front (x ∷ front) back zero e = absurd (omega arith)
drop_front (x ∷ front) back (suc n) e = drop_front front back n (omega arith)

-- both parts of a pair that succeeded
pub record Joined (first : Option Expr) (rest : Option (List Expr)) (terms : List Expr) : Type 0 where
  pub head : Expr
  pub tail : List Expr
  pub head_is : first ≡ Some head
  pub tail_is : rest ≡ Some tail
  pub is : terms ≡ head ∷ tail

pub joined_Some : (first : Option Expr) (rest : Option (List Expr)) (terms : List Expr) → terms_joined first rest ≡ Some terms → Joined first rest terms
joined_Some None rest terms e = absurd cc
joined_Some (Some head) None terms e = absurd cc
joined_Some (Some head) (Some tail) terms e = record { head = head; tail = tail; head_is = refl; tail_is = refl; is = cc }

pub joined_with : (first : Option Expr) (rest : Option (List Expr)) (head : Expr) (tail : List Expr) → first ≡ Some head → rest ≡ Some tail → terms_joined first rest ≡ Some (head ∷ tail)
joined_with None rest head tail e f = absurd cc
joined_with (Some x) None head tail e f = absurd cc
joined_with (Some x) (Some xs) head tail e f = cc

pub yields_length : (syntax : Syntax) (nonterminals : List ℕ) (children : Trees) (terms : List Expr) → yields_from syntax nonterminals children ≡ Some terms → length terms ≡ length nonterminals
unfolding yields_from yield_from
yields_length syntax [] none terms e = let same : terms ≡ [] = cc in rw same refl
yields_length syntax [] (more child children) terms e = absurd cc
yields_length syntax (nonterminal ∷ rest) none terms e = absurd cc
yields_length syntax (nonterminal ∷ rest) (more child children) terms e =
    let parts = joined_Some (yield_from syntax nonterminal child) (yields_from syntax rest children) terms e in
    let shorter = yields_length syntax rest children parts.tail parts.tail_is in
    rw (parts.is) (ap suc shorter)

-- children of two lists of nonterminals
pub record Split (syntax : Syntax) (first second : List ℕ) (terms : List Expr) : Type 0 where
  pub front : Trees
  pub back : Trees
  pub before : List Expr
  pub after : List Expr
  pub front_is : yields_from syntax first front ≡ Some before
  pub back_is : yields_from syntax second back ≡ Some after
  pub is : terms ≡ before ++ after

pub yields_split : (syntax : Syntax) (first second : List ℕ) (children : Trees) (terms : List Expr) → yields_from syntax (first ++ second) children ≡ Some terms → Split syntax first second terms
unfolding yields_from yield_from
yields_split syntax [] second children terms e = record { front = none; back = children; before = []; after = terms; front_is = refl; back_is = e; is = refl }
yields_split syntax (nonterminal ∷ first) second none terms e = absurd cc
yields_split syntax (nonterminal ∷ first) second (more child children) terms e =
    let parts = joined_Some (yield_from syntax nonterminal child) (yields_from syntax (first ++ second) children) terms e in
    let rest = yields_split syntax first second children parts.tail parts.tail_is in
    record {
      front = more child rest.front;
      back = rest.back;
      before = parts.head ∷ rest.before;
      after = rest.after;
      front_is = joined_with (yield_from syntax nonterminal child) (yields_from syntax first rest.front) parts.head rest.before parts.head_is rest.front_is;
      back_is = rest.back_is;
      is = parts.is ∙ ap (λ l. parts.head ∷ l) rest.is;
    }

pub yields_join : (syntax : Syntax) (earlier : List Tree) (first second steps_first steps_second : List ℕ) (before after : List Expr) →
    yields_from syntax first (picked earlier steps_first) ≡ Some before → yields_from syntax second (picked earlier steps_second) ≡ Some after →
    yields_from syntax (first ++ second) (picked earlier (steps_first ++ steps_second)) ≡ Some (before ++ after)
unfolding yields_from yield_from
yields_join syntax earlier [] second [] steps before after e f = let same : before ≡ [] = cc in rw same f
yields_join syntax earlier [] second (step ∷ steps_first) steps before after e f = absurd cc
yields_join syntax earlier (nonterminal ∷ first) second [] steps before after e f = absurd cc
yields_join syntax earlier (nonterminal ∷ first) second (step ∷ steps_first) steps before after e f =
    let parts = joined_Some (yield_from syntax nonterminal (tree_at earlier step)) (yields_from syntax first (picked earlier steps_first)) before e in
    let rest = yields_join syntax earlier first second steps_first steps parts.tail after parts.tail_is f in
    rw (parts.is) (joined_with (yield_from syntax nonterminal (tree_at earlier step)) (yields_from syntax (first ++ second) (picked earlier (steps_first ++ steps))) parts.head (parts.tail ++ after) parts.head_is rest)

-- a node that is a derivation has a rule with a pattern
pub record NodeYield (production : Option Production) (children : List ℕ → Option (List Expr)) (term : Expr) : Type 0 where
  pub pattern : Pattern
  pub terms : List Expr
  pub rule_is : production ≡ Some (Template pattern)
  pub children_are : children (occurring pattern) ≡ Some terms
  pub is : filled pattern terms ≡ term

mapped_Some : (pattern : Pattern) (found : Option (List Expr)) (term : Expr) → option_map (filled pattern) found ≡ Some term → (terms : List Expr) × (found ≡ Some terms) × (filled pattern terms ≡ term)
mapped_Some pattern None term e = absurd cc
mapped_Some pattern (Some terms) term e = (terms, refl, cc)

pub node_yield_Some : (production : Option Production) (children : List ℕ → Option (List Expr)) (term : Expr) → node_yield production children ≡ Some term → NodeYield production children term
node_yield_Some None children term e = absurd cc
node_yield_Some (Some (EachConstant sort)) children term e = absurd cc
node_yield_Some (Some (EachVariable sort)) children term e = absurd cc
node_yield_Some (Some (Template pattern)) children term e =
    let mapped = mapped_Some pattern (children (occurring pattern)) term e in
    record { pattern = pattern; terms = mapped.0; rule_is = refl; children_are = mapped.1; is = mapped.2 }
