-- What a nonterminal derives has a step where no rule makes another one.
use Rattle.std.proofs.Common.{◌≡◌, ℕ, ◌≤◌, List, [], ◌∷◌, ◌++◌, length, take, drop, refl, ap, sym, ◌∙◌, arith, Option, Some, None, slice_get, subst, ◌⊎◌, inl, inr}
use Rattle.std.proofs.lemmas.Option.{slice_get_past, slice_get_cases}
use Rattle.sy_terms.specs.Expr as expr
use Rattle.sy_terms.specs.Expr.{Expr, Exprs}
use Rattle.sy_grammar_base.specs.Patterns as patterns
use Rattle.sy_grammar_base.specs.Patterns.{Pattern, Patterns, Constant, Variable, Occurrence, Apply, Invoke, occurring, all_occurring, filled, all_filled, first_of}
use Rattle.sy_grammar_base.specs.Trees as trees
use Rattle.sy_grammar_base.specs.Trees.{Syntax, Tree, Trees, Production, Template, EachConstant, EachVariable, Derives, rule_at, rule_of, constant_yield, variable_yield, yield_from, yields_from, none, more}
use Rattle.sy_grammar.specs.Notes as notes
use Rattle.sy_grammar.specs.Notes.{Notes, Noted}
use Rattle.sy_grammar.specs.Filled.{Filled, AllFilled}
use Rattle.sy_grammar.specs.Rows.{HasStep, RowIsWhole, NoteIsRight, NotesAreRight, RowIsClosed, MakesNone, arguments_of}
use Rattle.sy_grammar.proofs.Pieces.{take_front, drop_front, joined_Some, yields_length, yields_split, node_yield_Some}

-- the row has a step for the nonterminal that a chain rule goes to
abbrev IsReached : Pattern → List (Option ℕ) → Type 0
IsReached (Constant value) row = Unit {0}
IsReached (Variable position) row = Unit {0}
IsReached (Occurrence nonterminal) row = HasStep row nonterminal
IsReached (Apply operator parts) row = Unit {0}
IsReached (Invoke definition parts) row = Unit {0}

-- the one child of a chain rule
record Chain (syntax : Syntax) (nonterminal : ℕ) (children : Trees) (term : Expr) : Type 0 where
  child : Tree
  rest : Trees
  is : children ≡ more child rest
  derives : Derives syntax nonterminal child term

chain_child : (syntax : Syntax) (nonterminal : ℕ) (children : Trees) (terms : List Expr) (term : Expr) →
    yields_from syntax (nonterminal ∷ []) children ≡ Some terms → first_of terms ≡ term → Chain syntax nonterminal children term
unfolding yields_from yield_from
chain_child syntax nonterminal none terms term e f = absurd cc
chain_child syntax nonterminal (more child rest) terms term e f =
    let parts = joined_Some (yield_from syntax nonterminal child) (yields_from syntax [] rest) terms e in
    record { child = child; rest = rest; is = refl; derives = parts.head_is ∙ ap Some (sym (ap first_of parts.is) ∙ f) }

reached : (syntax : Syntax) (pattern : Pattern) (children : Trees) (terms : List Expr) (term : Expr) (row : List (Option ℕ)) →
    yields_from syntax (occurring pattern) children ≡ Some terms → filled pattern terms ≡ term → RowIsWhole syntax term row → IsReached pattern row
unfolding filled
reached syntax (Constant value) children terms term row e f whole = tt
reached syntax (Variable position) children terms term row e f whole = tt
reached syntax (Apply operator parts) children terms term row e f whole = tt
reached syntax (Invoke definition parts) children terms term row e f whole = tt
reached syntax (Occurrence nonterminal) children terms term row e f whole =
    let chain = chain_child syntax nonterminal children terms term e f in whole.found nonterminal chain.child chain.derives

mutual
  unfolding Filled AllFilled filled all_filled NoteIsRight NotesAreRight

  fill : (syntax : Syntax) (built : List Tree) (pattern : Pattern) (children : Trees) (terms : List Expr) (term : Expr) (row : List (Option ℕ)) (below : Notes) →
      yields_from syntax (occurring pattern) children ≡ Some terms → filled pattern terms ≡ term → IsReached pattern row → NotesAreRight syntax built (arguments_of term) below →
      (steps : List ℕ) × Filled pattern term row below steps
  fill syntax built (Constant value) children terms term row below e f found right = ([], (sym f, refl))
  fill syntax built (Variable position) children terms term row below e f found right = ([], (sym f, refl))
  fill syntax built (Occurrence nonterminal) children terms term row below e f found right = (found.0 ∷ [], (found.0, found.1, refl))
  fill syntax built (Apply operator parts) children terms term row below e f found right =
      let rest = all_fill syntax built parts children terms (all_filled parts terms) below e refl (subst (λ t. NotesAreRight syntax built (arguments_of t) below) (sym f) right) in
      (rest.0, (all_filled parts terms, sym f, rest.1))
  fill syntax built (Invoke definition parts) children terms term row below e f found right =
      let rest = all_fill syntax built parts children terms (all_filled parts terms) below e refl (subst (λ t. NotesAreRight syntax built (arguments_of t) below) (sym f) right) in
      (rest.0, (all_filled parts terms, sym f, rest.1))

  all_fill : (syntax : Syntax) (built : List Tree) (parts : Patterns) (children : Trees) (found : List Expr) (terms : Exprs) (below : Notes) →
      yields_from syntax (all_occurring parts) children ≡ Some found → all_filled parts found ≡ terms → NotesAreRight syntax built terms below →
      (steps : List ℕ) × AllFilled parts terms below steps
  all_fill syntax built patterns.none children found expr.none below e f right = ([], refl)
  all_fill syntax built patterns.none children found (expr.more term terms) below e f right = absurd cc
  all_fill syntax built (patterns.more part parts) children found expr.none below e f right = absurd cc
  all_fill syntax built (patterns.more part parts) children found (expr.more term terms) notes.none e f right = absurd right
  all_fill syntax built (patterns.more part parts) children found (expr.more term terms) (notes.more (Noted row inner) below) e f right =
      let split = yields_split syntax (occurring part) (all_occurring parts) children found e in
      let sized = yields_length syntax (occurring part) split.front split.before split.front_is in
      let taken : take (length (occurring part)) found ≡ split.before = ap (take (length (occurring part))) split.is ∙ take_front split.before split.after (length (occurring part)) sized in
      let dropped : drop (length (occurring part)) found ≡ split.after = ap (drop (length (occurring part))) split.is ∙ drop_front split.before split.after (length (occurring part)) sized in
      let first_is : filled part split.before ≡ term = ap (filled part) (sym taken) ∙ cc in
      let rest_is : all_filled parts split.after ≡ terms = ap (all_filled parts) (sym dropped) ∙ cc in
      let first = fill syntax built part split.front split.before term row inner split.front_is first_is (reached syntax part split.front split.before term row split.front_is first_is right.0.1) right.0.2 in
      let rest = all_fill syntax built parts split.back split.after terms below split.back_is rest_is right.1 in
      (first.0 ++ rest.0, (first.0, rest.0, refl, first.1, rest.1))

look : (entry : Option (Option ℕ)) → (entry ≡ None) ⊎ ((entry ≡ Some None) ⊎ ((step : ℕ) × (entry ≡ Some (Some step))))
look None = inl refl
look (Some None) = inr (inl refl)
look (Some (Some step)) = inr (inr (step, refl))

some_none : {A : Type 0} (found : Option A) (item : A) → found ≡ None → found ≡ Some item → ⊥
some_none found item e f = cc

no_rule : (syntax : Syntax) (nonterminal rule : ℕ) (production : Production) → length syntax.nonterminals ≤ nonterminal → rule_at syntax nonterminal rule ≡ Some production → ⊥
no_rule syntax nonterminal rule production out e =
    let missing : rule_at syntax nonterminal rule ≡ None = ap (λ n. rule_of n rule) (slice_get_past syntax.nonterminals nonterminal out) in
    absurd (some_none (rule_at syntax nonterminal rule) production missing e)

past : {A : Type 0} (row : List A) (place : ℕ) → slice_get row place ≡ None → length row ≤ place
past row place e = elim ((slice_get_cases row place).1) [
  | inl inside ↦ absurd (some_none (slice_get row place) inside.0 e inside.2)
  | inr outside ↦ outside.0
]

constant_rule : (production : Option Production) (value : _) (term : Expr) → constant_yield production value ≡ Some term →
    (sort : _) × (production ≡ Some (EachConstant sort)) × (constant_yield (Some (EachConstant sort)) value ≡ Some term)
constant_rule None value term e = absurd cc
constant_rule (Some (Template pattern)) value term e = absurd cc
constant_rule (Some (EachConstant sort)) value term e = (sort, refl, e)
constant_rule (Some (EachVariable sort)) value term e = absurd cc

variable_rule : (production : Option Production) (arguments : _) (position : ℕ) (term : Expr) → variable_yield production arguments position ≡ Some term →
    (sort : _) × (production ≡ Some (EachVariable sort)) × (variable_yield (Some (EachVariable sort)) arguments position ≡ Some term)
variable_rule None arguments position term e = absurd cc
variable_rule (Some (Template pattern)) arguments position term e = absurd cc
variable_rule (Some (EachConstant sort)) arguments position term e = absurd cc
variable_rule (Some (EachVariable sort)) arguments position term e = (sort, refl, e)

-- where a rule makes something from what the row has, the row has a step
module _ (syntax : Syntax) (built : List Tree) (term : Expr) (row : List (Option ℕ)) (below : Notes) (closed : RowIsClosed syntax term row below) (right : NotesAreRight syntax built (arguments_of term) below) where
  kept : (nonterminal rule : ℕ) (production : Production) → rule_at syntax nonterminal rule ≡ Some production → (MakesNone syntax.arguments term row below production → ⊥) → HasStep row nonterminal
  kept nonterminal rule production at makes = elim (look (slice_get row nonterminal)) [
    | inl out ↦ absurd (no_rule syntax nonterminal rule production (let h = past row nonterminal out in let sized = closed.sized in omega arith) at)
    | inr (inl empty) ↦ absurd (makes (closed.none nonterminal rule production empty at))
    | inr (inr found) ↦ found
  ]

  mutual
    unfolding yield_from yields_from filled

    pub found : (tree : Tree) (nonterminal : ℕ) → Derives syntax nonterminal tree term → HasStep row nonterminal
    found (trees.Node rule children) nonterminal e =
        let node = node_yield_Some (rule_at syntax nonterminal rule) (λ occurrences. yields_from syntax occurrences children) term e in
        kept nonterminal rule (Template node.pattern) node.rule_is
        (λ fails. let filling = fill syntax built node.pattern children node.terms term row below node.children_are node.is (found_children children node.pattern node.terms node.children_are node.is) right in fails filling.0 filling.1)
    found (trees.ConstantLeaf rule value) nonterminal e =
        let by = constant_rule (rule_at syntax nonterminal rule) value term e in
        kept nonterminal rule (EachConstant by.0) by.1 (λ fails. fails value by.2)
    found (trees.VariableLeaf rule position) nonterminal e =
        let by = variable_rule (rule_at syntax nonterminal rule) syntax.arguments position term e in
        kept nonterminal rule (EachVariable by.0) by.1 (λ fails. fails position by.2)

    found_children : (children : Trees) (pattern : Pattern) (terms : List Expr) → yields_from syntax (occurring pattern) children ≡ Some terms → filled pattern terms ≡ term → IsReached pattern row
    found_children children (Constant value) terms e f = tt
    found_children children (Variable position) terms e f = tt
    found_children none (Occurrence nonterminal) terms e f = absurd cc
    found_children (more child rest) (Occurrence nonterminal) terms e f =
        let parts = joined_Some (yield_from syntax nonterminal child) (yields_from syntax [] rest) terms e in
        found child nonterminal (parts.head_is ∙ ap Some (sym (ap first_of parts.is) ∙ f))
    found_children children (Apply operator parts) terms e f = tt
    found_children children (Invoke definition parts) terms e f = tt
