-- Steps that fill a pattern, found part by part.
use Rattle.std.proofs.Common.{◌≡◌, ℕ, zero, suc, ◌+◌, ◌≤◌, List, [], ◌∷◌, ◌++◌, append_assoc, length, drop, refl, ap, sym, ◌∙◌, arith, Option, Some, slice_get, subst, Bool, true, false, IsTrue, ◌↔◌, inl, inr, add-one}
use Rattle.std.proofs.lemmas.Option.{slice_get_within, slice_get_cases}
use Rattle.sy_terms.specs.Values.{Val}
use Rattle.sy_terms.specs.Expr as expr
use Rattle.sy_terms.specs.Expr.{Expr, Exprs}
use Rattle.sy_terms.specs.Denoted.{expr_of, exprs_of}
use Rattle.sy_terms.specs.declared.op.Op.{Op}
use Rattle.sy_terms.specs.declared.term.Term.{Term}
use Rattle.sy_terms.specs.declared.term.Fun.TheVariants.{Defined}
use Rattle.sy_grammar_base.specs.Patterns as patterns
use Rattle.sy_grammar_base.specs.Patterns.{Patterns, Constant, Variable, Occurrence, Apply, Invoke}
use Rattle.sy_grammar_base.specs.Written.{pattern_of, patterns_of}
use Rattle.sy_grammar_base.specs.declared.part.Part.{Part}
use Rattle.sy_grammar.specs.Notes as notes
use Rattle.sy_grammar.specs.Notes.{Notes}
use Rattle.sy_grammar.specs.Noted.{note_of, notes_of}
use Rattle.sy_grammar.specs.Filled.{Filled, AllFilled, Appends, IsTaken}
use Rattle.sy_grammar.specs.declared.note.Note.{Note}

append_nil : (xs : List ℕ) → xs ++ [] ≡ xs
append_nil [] = refl
append_nil (x ∷ xs) = ap (λ l. x ∷ l) (append_nil xs)

appends_as : (F G : List ℕ → Type 0) → ((s : List ℕ) → F s → G s) → ((s : List ℕ) → G s → F s) → (before after : List ℕ) (done : Bool) → Appends F before after done → Appends G before after done
appends_as F G to from before after true found = (found.0, found.1, to found.0 found.2)
appends_as F G to from before after false fails = λ s g. fails s (from s g)

pub fills_constant : (value : Val) (term : Expr) (row : List (Option ℕ)) (below : Notes) (steps : List ℕ) (done : Bool) →
    (IsTrue done ↔ (term ≡ expr.Constant value)) → Appends (Filled (Constant value) term row below) steps steps done
unfolding Filled
fills_constant value term row below steps true same = ([], sym (append_nil steps), (same.0 refl, refl))
fills_constant value term row below steps false same = λ s fills. absurd (let h = same.1 fills.0 in cc)

pub fills_variable : (position : ℕ) (term : Expr) (row : List (Option ℕ)) (below : Notes) (steps : List ℕ) (done : Bool) →
    (IsTrue done ↔ (term ≡ expr.Variable position)) → Appends (Filled (Variable position) term row below) steps steps done
unfolding Filled
fills_variable position term row below steps true same = ([], sym (append_nil steps), (same.0 refl, refl))
fills_variable position term row below steps false same = λ s fills. absurd (let h = same.1 fills.0 in cc)

pub fills_occurrence : (nonterminal : ℕ) (term : Expr) (row : List (Option ℕ)) (below : Notes) (before after : List ℕ) (done : Bool) →
    Appends (IsTaken row nonterminal) before after done → Appends (Filled (Occurrence nonterminal) term row below) before after done
unfolding Filled
fills_occurrence nonterminal term row below before after done taken = taken

pub fills_application : (operator : Op) (parts : Patterns) (terms : Exprs) (term : Expr) (row : List (Option ℕ)) (below : Notes) (before after : List ℕ) (done : Bool) →
    term ≡ expr.Apply operator terms → Appends (AllFilled parts terms below) before after done → Appends (Filled (Apply operator parts) term row below) before after done
unfolding Filled
fills_application operator parts terms term row below before after done is fills =
    appends_as (AllFilled parts terms below) (Filled (Apply operator parts) term row below)
    (λ s f. (terms, is, f))
    (λ s f. let same : f.0 ≡ terms = cc in subst (λ ts. AllFilled parts ts below s) same f.2)
    before after done fills

pub fills_call : (definition : ℕ) (parts : Patterns) (terms : Exprs) (term : Expr) (row : List (Option ℕ)) (below : Notes) (before after : List ℕ) (done : Bool) →
    term ≡ expr.Invoke (Defined definition) terms → Appends (AllFilled parts terms below) before after done → Appends (Filled (Invoke definition parts) term row below) before after done
unfolding Filled
fills_call definition parts terms term row below before after done is fills =
    appends_as (AllFilled parts terms below) (Filled (Invoke definition parts) term row below)
    (λ s f. (terms, is, f))
    (λ s f. let same : f.0 ≡ terms = cc in subst (λ ts. AllFilled parts ts below s) same f.2)
    before after done fills

pub no_application : (operator : Op) (parts : Patterns) (term : Expr) (row : List (Option ℕ)) (below : Notes) → ((terms : Exprs) → term ≡ expr.Apply operator terms → ⊥) → (s : List ℕ) → Filled (Apply operator parts) term row below s → ⊥
unfolding Filled
no_application operator parts term row below none s fills = none fills.0 fills.1

pub no_call : (definition : ℕ) (parts : Patterns) (term : Expr) (row : List (Option ℕ)) (below : Notes) → ((terms : Exprs) → term ≡ expr.Invoke (Defined definition) terms → ⊥) → (s : List ℕ) → Filled (Invoke definition parts) term row below s → ⊥
unfolding Filled
no_call definition parts term row below none s fills = none fills.0 fills.1

-- what was appended fills the first parts, and the rest is to be filled
pub record Rest (Whole : List ℕ → Type 0) (Left : List ℕ → Type 0) (before now : List ℕ) : Type 0 where
  pub found : List ℕ
  pub is : now ≡ before ++ found
  pub joins : (rest : List ℕ) → Left rest → Whole (found ++ rest)
  pub splits : (all : List ℕ) → Whole all → (rest : List ℕ) × Left rest

pub drop_at : {A : Type 0} (xs : List A) (i : ℕ) (x : A) → slice_get xs i ≡ Some x → drop i xs ≡ x ∷ drop (suc i) xs
drop_at [] i x at = absurd (let h = slice_get_within [] i x at in omega arith)
drop_at (y ∷ xs) zero x at = let same : y ≡ x = cc in ap (λ z. z ∷ xs) same
drop_at (y ∷ xs) (suc i) x at = drop_at xs i x at

pub drop_all : {A : Type 0} (xs : List A) (i : ℕ) → length xs ≤ i → drop i xs ≡ []
drop_all [] zero out = refl
drop_all [] (suc i) out = refl
drop_all (y ∷ xs) zero out = absurd (omega arith)
drop_all (y ∷ xs) (suc i) out = drop_all xs i (omega arith)

module _ {T N : Type 0} (number : N → Val) (parts : List (Part T N)) (terms : List (Term T N)) (below : List Note) where
  abbrev pub Left : ℕ → List ℕ → Type 0
  Left i = AllFilled (patterns_of number (drop i parts)) (exprs_of number (drop i terms)) (notes_of (drop i below))

  pub rest_at_first : (before : List ℕ) → Rest (AllFilled (patterns_of number parts) (exprs_of number terms) (notes_of below)) (Left 0) before before
  rest_at_first before = record { found = []; is = sym (append_nil before); joins = λ rest left. left; splits = λ all whole. (all, whole) }

  step : (Whole : List ℕ → Type 0) (i : ℕ) (part : Part T N) (term : Term T N) (note : Note) (row : List (Option ℕ)) (inner : List Note) (before now after : List ℕ) →
      slice_get parts i ≡ Some part → slice_get terms i ≡ Some term → slice_get below i ≡ Some note → row ≡ notes.note_row (note_of note) → notes_of inner ≡ notes.below (note_of note) →
      Rest Whole (Left i) before now → Appends (Filled (pattern_of number part) (expr_of number term) row (notes_of inner)) now after true → Rest Whole (Left (suc i)) before after
  unfolding AllFilled
  step Whole i part term note row inner before now after at_part at_term at_note is_row is_below rest fills =
      let left : Left i ≡ AllFilled (patterns.more (pattern_of number part) (patterns_of number (drop (suc i) parts))) (expr.more (expr_of number term) (exprs_of number (drop (suc i) terms))) (notes.more (note_of note) (notes_of (drop (suc i) below))) =
      λ k. AllFilled (patterns_of number (drop_at parts i part at_part k)) (exprs_of number (drop_at terms i term at_term k)) (notes_of (drop_at below i note at_note k)) in
      let fills' : Filled (pattern_of number part) (expr_of number term) (notes.note_row (note_of note)) (notes.below (note_of note)) fills.0 = rw (← is_row, ← is_below) fills.2 in
      record {
        found = rest.found ++ fills.0;
        is = fills.1 ∙ ap (λ s. s ++ fills.0) rest.is ∙ append_assoc before rest.found fills.0;
        joins = λ r f. subst Whole (sym (append_assoc rest.found fills.0 r)) (rest.joins (fills.0 ++ r) (subst (λ (F : List ℕ → Type 0). F (fills.0 ++ r)) (sym left) (fills.0, r, refl, fills', f)));
        splits = λ all whole. let was = rest.splits all whole in let now_is = subst (λ (F : List ℕ → Type 0). F was.0) left was.1 in (now_is.1, now_is.4);
      }

  pub rest_at_next : (Whole : List ℕ → Type 0) (i : ℕ) (part : Part T N) (term : Term T N) (note : Note) (row : List (Option ℕ)) (inner : List Note) (before now after : List ℕ) (done : Bool) →
      slice_get parts i ≡ Some part → slice_get terms i ≡ Some term → slice_get below i ≡ Some note → row ≡ notes.note_row (note_of note) → notes_of inner ≡ notes.below (note_of note) →
      Rest Whole (Left i) before now → Appends (Filled (pattern_of number part) (expr_of number term) row (notes_of inner)) now after done → done ≡ true → Rest Whole (Left (i + 1)) before after
  rest_at_next Whole i part term note row inner before now after done at_part at_term at_note is_row is_below rest fills is_done =
      rw (add-one) (step Whole i part term note row inner before now after at_part at_term at_note is_row is_below rest (subst (λ d. Appends (Filled (pattern_of number part) (expr_of number term) row (notes_of inner)) now after d) is_done fills))

  -- a part that nothing fills
  pub none_at : (Whole : List ℕ → Type 0) (i : ℕ) (part : Part T N) (term : Term T N) (note : Note) (row : List (Option ℕ)) (inner : List Note) (before now after : List ℕ) (done : Bool) →
      slice_get parts i ≡ Some part → slice_get terms i ≡ Some term → slice_get below i ≡ Some note → row ≡ notes.note_row (note_of note) → notes_of inner ≡ notes.below (note_of note) →
      Rest Whole (Left i) before now → Appends (Filled (pattern_of number part) (expr_of number term) row (notes_of inner)) now after done → done ≡ false → (all : List ℕ) → Whole all → ⊥
  unfolding AllFilled
  none_at Whole i part term note row inner before now after done at_part at_term at_note is_row is_below rest fills is_done all whole =
      let left : Left i ≡ AllFilled (patterns.more (pattern_of number part) (patterns_of number (drop (suc i) parts))) (expr.more (expr_of number term) (exprs_of number (drop (suc i) terms))) (notes.more (note_of note) (notes_of (drop (suc i) below))) =
      λ k. AllFilled (patterns_of number (drop_at parts i part at_part k)) (exprs_of number (drop_at terms i term at_term k)) (notes_of (drop_at below i note at_note k)) in
      let was = rest.splits all whole in
      let now_is = subst (λ (F : List ℕ → Type 0). F was.0) left was.1 in
      let fails = subst (λ d. Appends (Filled (pattern_of number part) (expr_of number term) row (notes_of inner)) now after d) is_done fills in
      fails now_is.0 (rw (is_row, is_below) now_is.3)

  -- no term is left for a part
  pub none_without_term : (Whole : List ℕ → Type 0) (i : ℕ) (part : Part T N) (before now : List ℕ) →
      slice_get parts i ≡ Some part → length terms ≤ i → Rest Whole (Left i) before now → (all : List ℕ) → Whole all → ⊥
  unfolding AllFilled
  none_without_term Whole i part before now at_part out rest all whole =
      let left : Left i ≡ AllFilled (patterns.more (pattern_of number part) (patterns_of number (drop (suc i) parts))) expr.none (notes_of (drop i below)) =
      λ k. AllFilled (patterns_of number (drop_at parts i part at_part k)) (exprs_of number (drop_all terms i out k)) (notes_of (drop i below)) in
      let was = rest.splits all whole in
      subst (λ (F : List ℕ → Type 0). F was.0) left was.1

  -- no note is left for a term
  pub none_without_note : (Whole : List ℕ → Type 0) (i : ℕ) (part : Part T N) (term : Term T N) (before now : List ℕ) →
      slice_get parts i ≡ Some part → slice_get terms i ≡ Some term → length below ≤ i → Rest Whole (Left i) before now → (all : List ℕ) → Whole all → ⊥
  unfolding AllFilled
  none_without_note Whole i part term before now at_part at_term out rest all whole =
      let left : Left i ≡ AllFilled (patterns.more (pattern_of number part) (patterns_of number (drop (suc i) parts))) (expr.more (expr_of number term) (exprs_of number (drop (suc i) terms))) notes.none =
      λ k. AllFilled (patterns_of number (drop_at parts i part at_part k)) (exprs_of number (drop_at terms i term at_term k)) (notes_of (drop_all below i out k)) in
      let was = rest.splits all whole in
      subst (λ (F : List ℕ → Type 0). F was.0) left was.1

  -- no part is left: all is filled where no term is left
  pub rest_at_end : (Whole : List ℕ → Type 0) (i : ℕ) (before now : List ℕ) (done : Bool) → length parts ≤ i → (IsTrue done ↔ (length terms ≤ i)) → Rest Whole (Left i) before now → Appends Whole before now done
  unfolding AllFilled
  rest_at_end Whole i before now true out same rest =
      let left : Left i ≡ AllFilled patterns.none expr.none (notes_of (drop i below)) =
      λ k. AllFilled (patterns_of number (drop_all parts i out k)) (exprs_of number (drop_all terms i (same.0 refl) k)) (notes_of (drop i below)) in
      (rest.found, rest.is, subst Whole (append_nil rest.found) (rest.joins [] (subst (λ (F : List ℕ → Type 0). F []) (sym left) refl)))
  rest_at_end Whole i before now false out same rest = λ all whole.
      let was = rest.splits all whole in
      elim ((slice_get_cases terms i).1) [
        | inl inside ↦
            let left : Left i ≡ AllFilled patterns.none (expr.more (expr_of number inside.0) (exprs_of number (drop (suc i) terms))) (notes_of (drop i below)) =
            λ k. AllFilled (patterns_of number (drop_all parts i out k)) (exprs_of number (drop_at terms i inside.0 inside.2 k)) (notes_of (drop i below)) in
            subst (λ (F : List ℕ → Type 0). F was.0) left was.1
        | inr outside ↦ absurd (let h = same.1 outside.0 in cc)
      ]
