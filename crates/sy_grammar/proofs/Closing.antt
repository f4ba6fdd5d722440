-- Rows that are filled step by step, until no rule makes another one.
use Rattle.std.proofs.Common.{◌≡◌, ℕ, zero, suc, ◌<◌, List, [], ◌∷◌, ◌++◌, length, length-append, refl, ap, sym, ◌∙◌, arith, Option, Some, None, slice_get, subst, ◌⊎◌, inl, inr, set, append_assoc}
use Rattle.std.proofs.lemmas.Option.{slice_get_within}
use Rattle.sy_terms.specs.Values.{Val}
use Rattle.sy_terms.specs.Expr as expr
use Rattle.sy_terms.specs.Expr.{Expr}
use Rattle.sy_grammar_base.specs.Patterns.{occurring, filled}
use Rattle.sy_grammar_base.specs.Trees as trees
use Rattle.sy_grammar_base.specs.Trees.{Syntax, Tree, Trees, Production, Template, EachConstant, EachVariable, Derives, rule_at, node_yield, constant_yield, variable_yield, yield_from, yields_from}
use Rattle.sy_grammar.specs.Notes.{Notes, Note, Noted}
use Rattle.sy_grammar.specs.Steps.{tree_at, picked, tree_by, step_trees, IsAfter, AreInOrder}
use Rattle.sy_grammar.specs.Rows.{Makes, IsMade, RowIsClosed, RowIsSound, NoteIsRight, NotesAreRight, IsGrown, IsBlank, IsFilling, IsRowOfSteps, IsNoted, AreNoted, missing_steps, arguments_of}
use Rattle.sy_grammar.specs.declared.step.Step.{Step}
use Rattle.sy_grammar.specs.declared.step.Step.TheVariants.{Node, Constant, Variable}
use Rattle.sy_grammar.proofs.Sound.{fills_yield}
use Rattle.sy_grammar.proofs.Built.{trees_after-last, trees_after-length, tree_at-last, sound_more, rights_more}
use Rattle.sy_grammar.proofs.Complete.{found}
use Rattle.std.proofs.lemmas.List.{length-set}
use Rattle.sy_terms.specs.Denoted.{expr_of, exprs_of}
use Rattle.sy_terms.specs.declared.term.Term.{Term}
use Rattle.sy_grammar.specs.Notes as notes
use Rattle.sy_grammar.specs.Noted.{note_of, notes_of}
use Rattle.sy_grammar.specs.declared.note.Note.{Note as Kept}

pub slice_get-last : {A : Type 0} (xs : List A) (last : A) (i : ℕ) (x : A) → slice_get (xs ++ last ∷ []) i ≡ Some x → (slice_get xs i ≡ Some x) ⊎ ((i ≡ length xs) × (x ≡ last))
slice_get-last [] last zero x e = inr (refl, cc)
slice_get-last [] last (suc i) x e = absurd cc
slice_get-last (y ∷ xs) last zero x e = inl e
slice_get-last (y ∷ xs) last (suc i) x e = elim (slice_get-last xs last i x e) [ inl h ↦ inl h | inr h ↦ inr (omega (arith, h.0), h.1) ]

-- what a made step derives
pub record Derived {T N : Type 0} (number : N → Val) (syntax : Syntax) (built : List Tree) (nonterminal : ℕ) (term : Expr) (step : Step T N) : Type 0 where
  pub derives : Derives syntax nonterminal (tree_by number built step) term
  pub after : IsAfter step (length built)

node_derives : (syntax : Syntax) (nonterminal rule : ℕ) (pattern : _) (children : Trees) (terms : List Expr) (term : Expr) →
    rule_at syntax nonterminal rule ≡ Some (Template pattern) → yields_from syntax (occurring pattern) children ≡ Some terms → filled pattern terms ≡ term → Derives syntax nonterminal (trees.Node rule children) term
unfolding yield_from
node_derives syntax nonterminal rule pattern children terms term at yields is =
    ap (λ production. node_yield production (λ occurrences. yields_from syntax occurrences children)) at ∙ rw (yields) (ap Some is)

constant_derives : (syntax : Syntax) (nonterminal rule : ℕ) (production : Production) (value : Val) (term : Expr) → rule_at syntax nonterminal rule ≡ Some production → constant_yield (Some production) value ≡ Some term → Derives syntax nonterminal (trees.ConstantLeaf rule value) term
unfolding yield_from
constant_derives syntax nonterminal rule production value term at yields = ap (λ p. constant_yield p value) at ∙ yields

variable_derives : (syntax : Syntax) (nonterminal rule : ℕ) (production : Production) (position : ℕ) (term : Expr) → rule_at syntax nonterminal rule ≡ Some production → variable_yield (Some production) syntax.arguments position ≡ Some term → Derives syntax nonterminal (trees.VariableLeaf rule position) term
unfolding yield_from
variable_derives syntax nonterminal rule production position term at yields = ap (λ p. variable_yield p syntax.arguments position) at ∙ yields

derived_by : {T N : Type 0} (number : N → Val) (syntax : Syntax) (built : List Tree) (nonterminal place : ℕ) (term : Expr) (row : List (Option ℕ)) (below : Notes) (production : Production) (step : Step T N) →
    rule_at syntax nonterminal place ≡ Some production → Makes number syntax.arguments place term row below production step → RowIsSound syntax built term row → NotesAreRight syntax built (arguments_of term) below → Derived number syntax built nonterminal term step
derived_by number syntax built nonterminal place term row below (Template pattern) (Node rule steps) at makes sound right =
    let found = fills_yield syntax built pattern term row below steps.items makes.1 sound right in
    record { derives = node_derives syntax nonterminal rule pattern (picked built steps.items) found.terms term (ap (rule_at syntax nonterminal) makes.0 ∙ at) found.yields found.rebuilds; after = found.earlier }
derived_by number syntax built nonterminal place term row below (Template pattern) (Constant rule value) at makes sound right = absurd makes
derived_by number syntax built nonterminal place term row below (Template pattern) (Variable rule position) at makes sound right = absurd makes
derived_by number syntax built nonterminal place term row below (EachConstant sort) (Node rule steps) at makes sound right = absurd makes
derived_by number syntax built nonterminal place term row below (EachConstant sort) (Constant rule value) at makes sound right =
    record { derives = constant_derives syntax nonterminal rule (EachConstant sort) _ term (ap (rule_at syntax nonterminal) makes.0 ∙ at) makes.1; after = tt }
derived_by number syntax built nonterminal place term row below (EachConstant sort) (Variable rule position) at makes sound right = absurd makes
derived_by number syntax built nonterminal place term row below (EachVariable sort) (Node rule steps) at makes sound right = absurd makes
derived_by number syntax built nonterminal place term row below (EachVariable sort) (Constant rule value) at makes sound right = absurd makes
derived_by number syntax built nonterminal place term row below (EachVariable sort) (Variable rule position) at makes sound right =
    record { derives = variable_derives syntax nonterminal rule (EachVariable sort) position term (ap (rule_at syntax nonterminal) makes.0 ∙ at) makes.1; after = tt }

pub in_order-last : {T N : Type 0} (steps : List (Step T N)) (last : Step T N) → AreInOrder steps → IsAfter last (length steps) → AreInOrder (steps ++ last ∷ [])
in_order-last steps last ordered after place step at = elim (slice_get-last steps last place step at) [
  | inl old ↦ ordered place step old
  | inr new ↦ rw (new.0, new.1) after
]

slice_get-set : {A : Type 0} (xs : List A) (i j : ℕ) (x y : A) → slice_get (set xs i x) j ≡ Some y → ((j ≡ i) × (y ≡ x)) ⊎ (slice_get xs j ≡ Some y)
slice_get-set [] i j x y e = inr e
slice_get-set (z ∷ xs) zero zero x y e = inl (refl, cc)
slice_get-set (z ∷ xs) zero (suc j) x y e = inr e
slice_get-set (z ∷ xs) (suc i) zero x y e = inr e
slice_get-set (z ∷ xs) (suc i) (suc j) x y e = elim (slice_get-set xs i j x y e) [ inl h ↦ inl (omega (arith, h.0), h.1) | inr h ↦ inr h ]

pub trees_length : {T N : Type 0} (number : N → Val) (steps : List (Step T N)) → length (step_trees number steps) ≡ length steps
trees_length number steps = omega (arith, trees_after-length number [] steps)

append_nil : (xs : List Tree) → xs ++ [] ≡ xs
append_nil [] = refl
append_nil (x ∷ xs) = ap (λ l. x ∷ l) (append_nil xs)

pub grown_none : {T N : Type 0} (number : N → Val) (steps : List (Step T N)) → AreInOrder steps → IsGrown number steps steps
grown_none number steps ordered = record { ordered = ordered; later = []; is = sym (append_nil (step_trees number steps)) }

pub grown_then : {T N : Type 0} (number : N → Val) (before now after : List (Step T N)) → IsGrown number before now → IsGrown number now after → IsGrown number before after
grown_then number before now after first second = record {
  ordered = second.ordered;
  later = first.later ++ second.later;
  is = second.is ∙ ap (λ l. l ++ second.later) first.is ∙ append_assoc (step_trees number before) first.later second.later;
}

pub filling_first : {T N : Type 0} (number : N → Val) (syntax : Syntax) (term : Expr) (row : List (Option ℕ)) (steps : List (Step T N)) (n : ℕ) →
    length row ≡ n → n ≡ length syntax.nonterminals → IsBlank row → AreInOrder steps → IsFilling number syntax term row steps steps
filling_first number syntax term row steps n sized all blank ordered = record {
  sized = sized ∙ all;
  grown = grown_none number steps ordered;
  sound = record { derives = λ nonterminal step at. absurd (blank nonterminal step at) };
}

pub filling_more : {T N : Type 0} (number : N → Val) (syntax : Syntax) (term : Expr) (row : List (Option ℕ)) (below : Notes) (before now after : List (Step T N)) (nonterminal place : ℕ) (step : Step T N) →
    IsFilling number syntax term row before now → IsMade number syntax nonterminal term row below step → NotesAreRight syntax (step_trees number before) (arguments_of term) below →
    place ≡ length now → after ≡ now ++ step ∷ [] → IsFilling number syntax term (set row nonterminal (Some place)) before after
filling_more number syntax term row below before now after nonterminal place step filling made right at is =
    let built = step_trees number now in
    let t = tree_by number built step in
    let right_now : NotesAreRight syntax built (arguments_of term) below = subst (λ trees. NotesAreRight syntax trees (arguments_of term) below) (sym filling.grown.is) (rights_more syntax (step_trees number before) filling.grown.later (arguments_of term) below right) in
    let derived = derived_by number syntax built nonterminal made.rule term row below made.production step made.at made.makes filling.sound right_now in
    let sized = trees_length number now in
    let trees_are : step_trees number after ≡ built ++ t ∷ [] = ap (step_trees number) is ∙ trees_after-last number [] now step in
    let old = sound_more syntax built (t ∷ []) term row filling.sound in
    let ordered : AreInOrder (now ++ step ∷ []) = in_order-last now step filling.grown.ordered (subst (IsAfter step) sized derived.after) in
    record {
      sized = length-set row nonterminal (Some place) ∙ filling.sized;
      grown = record {
        ordered = subst AreInOrder (sym is) ordered;
        later = filling.grown.later ++ t ∷ [];
        is = trees_are ∙ ap (λ l. l ++ t ∷ []) filling.grown.is ∙ append_assoc (step_trees number before) filling.grown.later (t ∷ []);
      };
      sound = subst (λ trees. RowIsSound syntax trees term (set row nonterminal (Some place))) (sym trees_are) (record {
        derives = λ n s e. elim (slice_get-set row nonterminal n (Some place) (Some s) e) [
          | inl new ↦
              let s_is : s ≡ place = cc in
              let one = length-append built (t ∷ []) in
              let last = tree_at-last built t s (s_is ∙ at ∙ sym sized) in
              (omega (arith, s_is, at, sized, one), subst (λ x. Derives syntax x (tree_at (built ++ t ∷ []) s) term) (sym new.0) (subst (λ tree. Derives syntax nonterminal tree term) (sym last) derived.derives))
          | inr found ↦ old.derives n s found
        ];
      });
    }

pub blank_more : (row : List (Option ℕ)) → IsBlank row → IsBlank (row ++ None ∷ [])
blank_more row blank n s e = elim (slice_get-last row None n (Some s) e) [ inl old ↦ blank n s old | inr new ↦ let h = new.1 in cc ]

pub missing_less : (row : List (Option ℕ)) (i x : ℕ) → slice_get row i ≡ Some None → missing_steps (set row i (Some x)) < missing_steps row
missing_less [] i x at = absurd (let h = slice_get_within [] i None at in omega arith)
missing_less (None ∷ row) zero x at = omega arith
missing_less (Some s ∷ row) zero x at = absurd cc
missing_less (None ∷ row) (suc i) x at = let h = missing_less row i x at in omega arith
missing_less (Some s ∷ row) (suc i) x at = missing_less row i x at

pub row_done : {T N : Type 0} (number : N → Val) (syntax : Syntax) (term : Expr) (row : List (Option ℕ)) (below : Notes) (before after : List (Step T N)) →
    IsFilling number syntax term row before after → RowIsClosed syntax term row below → NotesAreRight syntax (step_trees number before) (arguments_of term) below → IsRowOfSteps number syntax term row below before after
unfolding NoteIsRight
row_done number syntax term row below before after filling closed right =
    let right_now : NotesAreRight syntax (step_trees number after) (arguments_of term) below = subst (λ trees. NotesAreRight syntax trees (arguments_of term) below) (sym filling.grown.is) (rights_more syntax (step_trees number before) filling.grown.later (arguments_of term) below right) in
    record {
      grown = filling.grown;
      right = (filling.sound, record { found = λ nonterminal tree derives. found syntax (step_trees number after) term row below closed right_now tree nonterminal derives }, right_now);
    }

pub noted : {T N : Type 0} (number : N → Val) (syntax : Syntax) (term : Expr) (row : List (Option ℕ)) (below : Notes) (note : Note) (before after : List (Step T N)) →
    IsRowOfSteps number syntax term row below before after → note ≡ Noted row below → IsNoted number syntax term note before after
noted number syntax term row below note before after row_is is = record { grown = row_is.grown; right = subst (NoteIsRight syntax (step_trees number after) term) (sym is) row_is.right }

pub noted_then : {T N : Type 0} (number : N → Val) (syntax : Syntax) (term : Expr) (note : Note) (before now after : List (Step T N)) →
    IsGrown number before now → IsNoted number syntax term note now after → IsNoted number syntax term note before after
noted_then number syntax term note before now after grown is = record { grown = grown_then number before now after grown is.grown; right = is.right }

right_last : {T N : Type 0} (number : N → Val) (syntax : Syntax) (built : List Tree) (terms : List (Term T N)) (items : List Kept) (term : Term T N) (item : Kept) →
    NotesAreRight syntax built (exprs_of number terms) (notes_of items) → NoteIsRight syntax built (expr_of number term) (note_of item) → NotesAreRight syntax built (exprs_of number (terms ++ term ∷ [])) (notes_of (items ++ item ∷ []))
unfolding NotesAreRight
right_last number syntax built [] [] term item all last = (last, tt)
right_last number syntax built [] (n ∷ items) term item all last = absurd all
right_last number syntax built (t ∷ terms) [] term item all last = absurd all
right_last number syntax built (t ∷ terms) (n ∷ items) term item all last = (all.0, right_last number syntax built terms items term item all.1 last)

pub noted_none : {T N : Type 0} (number : N → Val) (syntax : Syntax) (steps : List (Step T N)) → AreInOrder steps → AreNoted number syntax expr.none notes.none steps steps
unfolding NotesAreRight
noted_none number syntax steps ordered = record { grown = grown_none number steps ordered; right = tt }

pub noted_last : {T N : Type 0} (number : N → Val) (syntax : Syntax) (terms more : List (Term T N)) (items : List Kept) (term : Term T N) (item : Kept) (before now after : List (Step T N)) →
    AreNoted number syntax (exprs_of number terms) (notes_of items) before now → IsNoted number syntax (expr_of number term) (note_of item) now after → more ≡ terms ++ term ∷ [] →
    AreNoted number syntax (exprs_of number more) (notes_of (items ++ item ∷ [])) before after
noted_last number syntax terms more items term item before now after all last is = record {
  grown = grown_then number before now after all.grown last.grown;
  right = subst (λ l. NotesAreRight syntax (step_trees number after) (exprs_of number l) (notes_of (items ++ item ∷ []))) (sym is)
      (right_last number syntax (step_trees number after) terms items term item
      (subst (λ trees. NotesAreRight syntax trees (exprs_of number terms) (notes_of items)) (sym last.grown.is) (rights_more syntax (step_trees number now) last.grown.later (exprs_of number terms) (notes_of items) all.right))
      last.right);
}

-- what a note says of a nonterminal
pub noted_derives : {T N : Type 0} (number : N → Val) (syntax : Syntax) (term : Expr) (note : Note) (before after : List (Step T N)) (row : List (Option ℕ)) (nonterminal step : ℕ) →
    IsNoted number syntax term note before after → row ≡ notes.note_row note → slice_get row nonterminal ≡ Some (Some step) → (step < length after) × Derives syntax nonterminal (tree_at (step_trees number after) step) term
unfolding NoteIsRight
noted_derives number syntax term (Noted steps below) before after row nonterminal step is same at =
    let derived = is.right.0.derives nonterminal step (ap (λ r. slice_get r nonterminal) (sym same) ∙ at) in
    (omega (arith, derived.0, trees_length number after), derived.1)

pub noted_whole : {T N : Type 0} (number : N → Val) (syntax : Syntax) (term : Expr) (note : Note) (before after : List (Step T N)) (row : List (Option ℕ)) (nonterminal : ℕ) →
    IsNoted number syntax term note before after → row ≡ notes.note_row note → ((step : ℕ) → slice_get row nonterminal ≡ Some (Some step) → ⊥) → (tree : Tree) → Derives syntax nonterminal tree term → ⊥
unfolding NoteIsRight
noted_whole number syntax term (Noted steps below) before after row nonterminal is same none tree derives =
    let there = is.right.1.found nonterminal tree derives in
    none there.0 (ap (λ r. slice_get r nonterminal) same ∙ there.1)
