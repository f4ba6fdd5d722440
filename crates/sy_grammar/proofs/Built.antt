-- The trees of steps, as more steps come.
use Rattle.std.proofs.Common.{◌≡◌, ℕ, zero, suc, ◌+◌, ◌<◌, List, [], ◌∷◌, ◌++◌, append_assoc, length, length-append, refl, ap, sym, ◌∙◌, arith, Option, Some, slice_get, subst}
use Rattle.std.proofs.lemmas.Option.{slice_get_within}
use Rattle.sy_terms.specs.Values.{Val}
use Rattle.sy_terms.specs.Expr as expr
use Rattle.sy_terms.specs.Expr.{Expr, Exprs}
use Rattle.sy_grammar_base.specs.Trees as trees
use Rattle.sy_grammar_base.specs.Trees.{Syntax, Tree, Derives}
use Rattle.sy_grammar_base.specs.Grown.{tree_of, trees_of}
use Rattle.sy_grammar_base.specs.declared.derivation.Derivation.{Derivation}
use Rattle.sy_grammar.specs.Notes as notes
use Rattle.sy_grammar.specs.Notes.{Notes, Note, Noted}
use Rattle.sy_grammar.specs.Steps.{tree_at, picked, tree_by, trees_after, step_trees, AreBelow, IsAfter, AreInOrder}
use Rattle.sy_grammar.specs.Rows.{RowIsSound, NoteIsRight, NotesAreRight}
use Rattle.sy_grammar.specs.declared.step.Step.{Step}
use Rattle.sy_grammar.specs.declared.step.Step.TheVariants.{Node, Constant, Variable}

pub tree_at-front : (front back : List Tree) (i : ℕ) → i < length front → tree_at (front ++ back) i ≡ tree_at front i
tree_at-front [] back i h = absurd (omega arith)
tree_at-front (x ∷ front) back zero h = refl
tree_at-front (x ∷ front) back (suc i) h = tree_at-front front back i (omega arith)

pub tree_at-last : (front : List Tree) (last : Tree) (i : ℕ) → i ≡ length front → tree_at (front ++ last ∷ []) i ≡ last
tree_at-last [] last zero h = refl
tree_at-last [] last (suc i) h = absurd (omega arith)
tree_at-last (x ∷ front) last zero h = absurd (omega arith)
tree_at-last (x ∷ front) last (suc i) h = tree_at-last front last i (omega arith)

pub picked-front : (front back : List Tree) (numbers : List ℕ) → AreBelow (length front) numbers → picked (front ++ back) numbers ≡ picked front numbers
picked-front front back [] h = refl
picked-front front back (n ∷ numbers) h =
    let first = tree_at-front front back n h.0 in
    let rest = picked-front front back numbers h.1 in
    rw (first, rest) refl

pub tree_by-front : {T N : Type 0} (number : N → Val) (front back : List Tree) (step : Step T N) → IsAfter step (length front) → tree_by number (front ++ back) step ≡ tree_by number front step
tree_by-front number front back (Node rule steps) h = ap (trees.Node rule) (picked-front front back steps.items h)
tree_by-front number front back (Constant rule value) h = refl
tree_by-front number front back (Variable rule position) h = refl

-- one step more makes one tree more
pub trees_after-last : {T N : Type 0} (number : N → Val) (earlier : List Tree) (steps : List (Step T N)) (last : Step T N) →
    trees_after number earlier (steps ++ last ∷ []) ≡ trees_after number earlier steps ++ tree_by number (trees_after number earlier steps) last ∷ []
unfolding trees_after
trees_after-last number earlier [] last = refl
trees_after-last number earlier (step ∷ steps) last = trees_after-last number (earlier ++ tree_by number earlier step ∷ []) steps last

-- the earlier trees stay
pub trees_after-more : {T N : Type 0} (number : N → Val) (earlier : List Tree) (steps : List (Step T N)) → (later : List Tree) × (trees_after number earlier steps ≡ earlier ++ later)
unfolding trees_after
trees_after-more number earlier [] = ([], rw append_nil refl)
  where
    append_nil : (xs : List Tree) → xs ++ [] ≡ xs
    append_nil [] = refl
    append_nil (x ∷ xs) = ap (λ l. x ∷ l) (append_nil xs)
trees_after-more number earlier (step ∷ steps) =
    let t = tree_by number earlier step in
    let rest = trees_after-more number (earlier ++ t ∷ []) steps in
    (t ∷ rest.0, rest.1 ∙ append_assoc earlier (t ∷ []) rest.0)

pub trees_after-length : {T N : Type 0} (number : N → Val) (earlier : List Tree) (steps : List (Step T N)) → length (trees_after number earlier steps) ≡ length earlier + length steps
unfolding trees_after
trees_after-length number earlier [] = omega arith
trees_after-length number earlier (step ∷ steps) =
    let rest = trees_after-length number (earlier ++ tree_by number earlier step ∷ []) steps in
    let one = length-append earlier (tree_by number earlier step ∷ []) in
    omega arith

tree_of_step : {T N : Type 0} (number : N → Val) (earlier : List Tree) (steps : List (Step T N)) (place : ℕ) (step : Step T N) →
    slice_get steps place ≡ Some step → IsAfter step (length earlier + place) →
    tree_at (trees_after number earlier steps) (length earlier + place) ≡ tree_by number (trees_after number earlier steps) step
unfolding trees_after
tree_of_step number earlier [] place step at h = absurd (let within = slice_get_within [] place step at in omega arith)
tree_of_step number earlier (first ∷ steps) zero step at h =
    let t = tree_by number earlier first in
    let rest = trees_after-more number (earlier ++ t ∷ []) steps in
    let same : first ≡ step = cc in
    let here : length earlier + 0 ≡ length earlier = omega arith in
    let one = length-append earlier (t ∷ []) in
    let left = tree_at-front (earlier ++ t ∷ []) rest.0 (length earlier + 0) (omega arith) ∙ tree_at-last earlier t (length earlier + 0) here in
    let right = ap (λ trees. tree_by number trees step) (append_assoc earlier (t ∷ []) rest.0) ∙ tree_by-front number earlier ((t ∷ []) ++ rest.0) step (subst (IsAfter step) here h) in
    ap (λ trees. tree_at trees (length earlier + 0)) rest.1 ∙ left ∙ ap (tree_by number earlier) same ∙ sym right ∙ sym (ap (λ trees. tree_by number trees step) rest.1)
tree_of_step number earlier (first ∷ steps) (suc place) step at h =
    let t = tree_by number earlier first in
    let one = length-append earlier (t ∷ []) in
    let here : length (earlier ++ t ∷ []) + place ≡ length earlier + suc place = omega arith in
    let rest = tree_of_step number (earlier ++ t ∷ []) steps place step at (subst (IsAfter step) (sym here) h) in
    ap (tree_at (trees_after number (earlier ++ t ∷ []) steps)) (sym here) ∙ rest

-- the tree of a step's number is what the step makes
pub tree_at-step : {T N : Type 0} (number : N → Val) (steps : List (Step T N)) (place : ℕ) (step : Step T N) →
    slice_get steps place ≡ Some step → IsAfter step place → tree_at (step_trees number steps) place ≡ tree_by number (step_trees number steps) step
tree_at-step number steps place step at h =
    let here : place ≡ length {A = Tree} [] + place = omega arith in
    ap (tree_at (step_trees number steps)) here ∙ tree_of_step number [] steps place step at (subst (IsAfter step) here h)

pub sound_more : (syntax : Syntax) (front back : List Tree) (term : Expr) (row : List (Option ℕ)) → RowIsSound syntax front term row → RowIsSound syntax (front ++ back) term row
sound_more syntax front back term row sound = record {
  derives = λ nonterminal step at.
      let was = sound.derives nonterminal step at in
      let longer = length-append front back in
      (omega (arith, was.0, longer), subst (λ tree. Derives syntax nonterminal tree term) (sym (tree_at-front front back step was.0)) was.1);
}

mutual
  unfolding NoteIsRight NotesAreRight

  pub right_more : (syntax : Syntax) (front back : List Tree) (term : Expr) (note : Note) → NoteIsRight syntax front term note → NoteIsRight syntax (front ++ back) term note
  right_more syntax front back term (Noted row below) right = (sound_more syntax front back term row right.0, right.1, rights_more syntax front back _ below right.2)

  pub rights_more : (syntax : Syntax) (front back : List Tree) (terms : Exprs) (below : Notes) → NotesAreRight syntax front terms below → NotesAreRight syntax (front ++ back) terms below
  rights_more syntax front back expr.none notes.none right = tt
  rights_more syntax front back expr.none (notes.more note below) right = absurd right
  rights_more syntax front back (expr.more term terms) notes.none right = absurd right
  rights_more syntax front back (expr.more term terms) (notes.more note below) right = (right_more syntax front back term note right.0, rights_more syntax front back terms below right.1)

-- one child more
pub picked-last : {T N : Type 0} (number : N → Val) (earlier : List Tree) (children : List (Derivation T N)) (numbers : List ℕ) (child : Derivation T N) (n : ℕ) →
    trees_of number children ≡ picked earlier numbers → tree_of number child ≡ tree_at earlier n → trees_of number (children ++ child ∷ []) ≡ picked earlier (numbers ++ n ∷ [])
picked-last number earlier [] [] child n e f = ap (λ t. trees.more t trees.none) f
picked-last number earlier [] (m ∷ numbers) child n e f = absurd cc
picked-last number earlier (c ∷ children) [] child n e f = absurd cc
picked-last number earlier (c ∷ children) (m ∷ numbers) child n e f =
    let rest = picked-last number earlier children numbers child n (cc) f in
    let first : tree_of number c ≡ tree_at earlier m = cc in
    λ i. trees.more (first i) (rest i)

pub below_at : (n : ℕ) (numbers : List ℕ) (i number : ℕ) → AreBelow n numbers → slice_get numbers i ≡ Some number → number < n
below_at n [] i number below at = absurd (let h = slice_get_within [] i number at in omega arith)
below_at n (x ∷ numbers) zero number below at = let same : x ≡ number = cc in omega (arith, below.0)
below_at n (x ∷ numbers) (suc i) number below at = below_at n numbers i number below.1 at

-- the steps that a step in order takes are earlier
pub filler_before : {T N : Type 0} (steps : List (Step T N)) (place rule : ℕ) (fillers : _) (step : Step T N) (i number : ℕ) →
    AreInOrder steps → slice_get steps place ≡ Some step → step ≡ Node rule fillers → slice_get fillers.items i ≡ Some number → number < place
filler_before steps place rule fillers step i number ordered at is filler =
    below_at place fillers.items i number (subst (λ s. IsAfter s place) is (ordered place step at)) filler

pub tree_at-node : {T N : Type 0} (number : N → Val) (steps : List (Step T N)) (place rule : ℕ) (fillers : _) (step : Step T N) →
    AreInOrder steps → slice_get steps place ≡ Some step → step ≡ Node rule fillers → tree_at (step_trees number steps) place ≡ trees.Node rule (picked (step_trees number steps) fillers.items)
tree_at-node number steps place rule fillers step ordered at is =
    tree_at-step number steps place step at (ordered place step at) ∙ ap (tree_by number (step_trees number steps)) is
