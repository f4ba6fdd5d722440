-- Steps that fill a pattern derive the term.
use Rattle.std.proofs.Common.{◌≡◌, ℕ, List, [], ◌∷◌, ◌++◌, length, refl, ap, sym, ◌∙◌, Option, Some, subst}
use Rattle.sy_terms.specs.Expr as expr
use Rattle.sy_terms.specs.Expr.{Expr, Exprs}
use Rattle.sy_grammar_base.specs.Patterns as patterns
use Rattle.sy_grammar_base.specs.Patterns.{Pattern, Patterns, Constant, Variable, Occurrence, Apply, Invoke, occurring, all_occurring, filled, all_filled}
use Rattle.sy_grammar_base.specs.Trees.{Syntax, Tree, yield_from, yields_from}
use Rattle.sy_grammar.specs.Notes as notes
use Rattle.sy_grammar.specs.Notes.{Notes, Noted}
use Rattle.sy_grammar.specs.Filled.{Filled, AllFilled}
use Rattle.sy_grammar.specs.Steps.{tree_at, picked, AreBelow}
use Rattle.sy_grammar.specs.Rows.{RowIsSound, NoteIsRight, NotesAreRight, arguments_of}
use Rattle.sy_grammar.proofs.Pieces.{take_front, drop_front, joined_with, yields_length, yields_join}

-- the steps' trees derive terms from the nonterminals, and the term is rebuilt of these
pub record Yields (syntax : Syntax) (trees : List Tree) (nonterminals : List ℕ) (steps : List ℕ) (Rebuilds : List Expr → Type 0) : Type 0 where
  pub terms : List Expr
  pub yields : yields_from syntax nonterminals (picked trees steps) ≡ Some terms
  pub rebuilds : Rebuilds terms
  pub earlier : AreBelow (length trees) steps

below_append : (n : ℕ) (front back : List ℕ) → AreBelow n front → AreBelow n back → AreBelow n (front ++ back)
below_append n [] back f b = b
below_append n (x ∷ front) back f b = (f.0, below_append n front back f.1 b)

mutual
  unfolding Filled AllFilled filled all_filled yields_from yield_from NoteIsRight NotesAreRight

  pub fills_yield : (syntax : Syntax) (trees : List Tree) (pattern : Pattern) (term : Expr) (row : List (Option ℕ)) (below : Notes) (steps : List ℕ) →
      Filled pattern term row below steps → RowIsSound syntax trees term row → NotesAreRight syntax trees (arguments_of term) below →
      Yields syntax trees (occurring pattern) steps (λ terms. filled pattern terms ≡ term)
  fills_yield syntax trees (Constant value) term row below steps fills sound right =
      rw (fills.1, fills.0) (record { terms = []; yields = refl; rebuilds = refl; earlier = tt })
  fills_yield syntax trees (Variable position) term row below steps fills sound right =
      rw (fills.1, fills.0) (record { terms = []; yields = refl; rebuilds = refl; earlier = tt })
  fills_yield syntax trees (Occurrence nonterminal) term row below steps fills sound right =
      let derived = sound.derives nonterminal fills.0 fills.1 in
      rw (fills.2) (record { terms = term ∷ []; yields = joined_with (yield_from syntax nonterminal (tree_at trees fills.0)) (Some []) term [] derived.1 refl; rebuilds = refl; earlier = (derived.0, tt) })
  fills_yield syntax trees (Apply operator parts) term row below steps fills sound right =
      let right_below : NotesAreRight syntax trees fills.0 below = subst (λ e. NotesAreRight syntax trees (arguments_of e) below) fills.1 right in
      let found = all_fill_yield syntax trees parts fills.0 below steps fills.2 right_below in
      record { terms = found.terms; yields = found.yields; rebuilds = ap (expr.Apply operator) found.rebuilds ∙ sym fills.1; earlier = found.earlier }
  fills_yield syntax trees (Invoke definition parts) term row below steps fills sound right =
      let right_below : NotesAreRight syntax trees fills.0 below = subst (λ e. NotesAreRight syntax trees (arguments_of e) below) fills.1 right in
      let found = all_fill_yield syntax trees parts fills.0 below steps fills.2 right_below in
      record { terms = found.terms; yields = found.yields; rebuilds = ap (expr.Invoke _) found.rebuilds ∙ sym fills.1; earlier = found.earlier }

  pub all_fill_yield : (syntax : Syntax) (trees : List Tree) (parts : Patterns) (terms : Exprs) (below : Notes) (steps : List ℕ) →
      AllFilled parts terms below steps → NotesAreRight syntax trees terms below →
      Yields syntax trees (all_occurring parts) steps (λ found. all_filled parts found ≡ terms)
  all_fill_yield syntax trees patterns.none expr.none below steps fills right = rw fills (record { terms = []; yields = refl; rebuilds = refl; earlier = tt })
  all_fill_yield syntax trees patterns.none (expr.more term terms) below steps fills right = absurd fills
  all_fill_yield syntax trees (patterns.more part parts) expr.none below steps fills right = absurd fills
  all_fill_yield syntax trees (patterns.more part parts) (expr.more term terms) notes.none steps fills right = absurd fills
  all_fill_yield syntax trees (patterns.more part parts) (expr.more term terms) (notes.more (Noted row inner) below) steps fills right =
      let first = fills_yield syntax trees part term row inner fills.0 fills.3 right.0.0 right.0.2 in
      let rest = all_fill_yield syntax trees parts terms below fills.1 fills.4 right.1 in
      let sized = yields_length syntax (occurring part) (picked trees fills.0) first.terms first.yields in
      rw (fills.2) (record {
        terms = first.terms ++ rest.terms;
        yields = yields_join syntax trees (occurring part) (all_occurring parts) fills.0 fills.1 first.terms rest.terms first.yields rest.yields;
        rebuilds = rw (take_front first.terms rest.terms (length (occurring part)) sized, drop_front first.terms rest.terms (length (occurring part)) sized, first.rebuilds, rest.rebuilds) refl;
        earlier = below_append (length trees) fills.0 fills.1 first.earlier rest.earlier;
      })
