-- What phrases stand for.
use Rattle.std.specs.Prelude.{ℕ, List, [], ◌∷◌, ◌≡◌, refl, ◌++◌}
use Rattle.std.proofs.Common.{ap, ◌∙◌}
use Rattle.sy_terms.specs.Values.{Val}
use Rattle.sy_terms.specs.Denoted.{val_of}
use Rattle.sy_terms.specs.declared.op.Op.{Op}
use Rattle.sy_terms.specs.declared.sort.Value.{Value}
use Rattle.sy_terms.specs.declared.term.Fun.{Fun}
use Rattle.std.specs.declared.boxed.Box.{Box}
use Rattle.std.specs.declared.alloc.Global.{Global}
use Rattle.sy_forms_items.specs.Phrases as spec
use Rattle.sy_forms_items.specs.Phrases.{append_phrases}
use Rattle.sy_forms_items.specs.declared.phrase.Phrase.{Phrase, Literal, Position, Local, Nonterminal, Operation', Invocation', Let', Row_of-Phrase, end_of-Phrase, more_of-Phrase, items-the_row-Phrase, items_hidden-the_row-Phrase-0, Operation, Invocation, Let}
use Rattle.sy_forms_items.specs.declared.phrase.Phrase.TheBlock.{hidden-the_row-Phrase-0}
use Rattle.sy_forms_items.specs.declared.phrase.Phrases.{Phrases}
use Rattle.sy_forms_items.specs.declared.phrase.Typed.{Typed}

-- what a phrase stands for
unfoldable mutual
  pub phrase_of : {T N : Type 0} → (N → Val) → Phrase T N → spec.Phrase
  phrase_of number (Literal value) = spec.Literal (val_of number value)
  phrase_of number (Position position) = spec.Position position
  phrase_of number (Local level) = spec.Local level
  phrase_of number (Nonterminal nonterminal) = spec.Nonterminal nonterminal
  phrase_of number (Operation' operator shape row) = spec.Operation operator (row_of number row)
  phrase_of number (Invocation' function shape row) = spec.Invocation function (row_of number row)
  phrase_of number (Let' shape row pointer inner) = spec.Let (row_of number row) (phrase_of number inner)

  pub row_of : {T N : Type 0} {m : _} → (N → Val) → Row_of-Phrase T N m → spec.Phrases
  row_of number end_of-Phrase = spec.none
  row_of number (more_of-Phrase phrase rest) = spec.more (phrase_of number phrase) (row_of number rest)

-- what a list of phrases stands for
abbrev pub phrases_of : {T N : Type 0} → (N → Val) → List (Phrase T N) → spec.Phrases
phrases_of number [] = spec.none
phrases_of number (phrase ∷ phrases) = spec.more (phrase_of number phrase) (phrases_of number phrases)

pub phrase_of-Literal : (T : Type 0) {N : Type 0} (number : N → Val) (value : Value N) → let p : Phrase T N = Literal value in phrase_of number p ≡ spec.Literal (val_of number value)
unfolding phrase_of
phrase_of-Literal T number value = refl

pub phrase_of-Position : (T : Type 0) {N : Type 0} (number : N → Val) (position : ℕ) → let p : Phrase T N = Position position in phrase_of number p ≡ spec.Position position
unfolding phrase_of
phrase_of-Position T number position = refl

pub phrase_of-Local : (T : Type 0) {N : Type 0} (number : N → Val) (level : ℕ) → let p : Phrase T N = Local level in phrase_of number p ≡ spec.Local level
unfolding phrase_of
phrase_of-Local T number level = refl

pub phrase_of-Nonterminal : (T : Type 0) {N : Type 0} (number : N → Val) (nonterminal : ℕ) → let p : Phrase T N = Nonterminal nonterminal in phrase_of number p ≡ spec.Nonterminal nonterminal
unfolding phrase_of
phrase_of-Nonterminal T number nonterminal = refl

row_of-items : {T N : Type 0} (number : N → Val) {m : _} (row : Row_of-Phrase T N m) → row_of number row ≡ phrases_of number (items-the_row-Phrase T N m row)
unfolding row_of phrase_of
row_of-items number end_of-Phrase = refl
row_of-items number (more_of-Phrase phrase rest) = ap (spec.more (phrase_of number phrase)) (row_of-items number rest)

-- what an operation, an invocation and a let stand for
pub phrase_of-Operation : {T N : Type 0} (number : N → Val) (operator : Op) (arguments : Phrases T N) → phrase_of number (Operation operator arguments) ≡ spec.Operation operator (phrases_of number arguments.items.items)
unfolding phrase_of row_of
phrase_of-Operation {T} {N} number operator arguments = ap (spec.Operation operator) (row_of-items number (hidden-the_row-Phrase-0 T N arguments.items) ∙ ap (phrases_of number) (items_hidden-the_row-Phrase-0 T N arguments.items))

pub phrase_of-Invocation : {T N : Type 0} (number : N → Val) (function : Fun) (arguments : Phrases T N) → phrase_of number (Invocation function arguments) ≡ spec.Invocation function (phrases_of number arguments.items.items)
unfolding phrase_of row_of
phrase_of-Invocation {T} {N} number function arguments = ap (spec.Invocation function) (row_of-items number (hidden-the_row-Phrase-0 T N arguments.items) ∙ ap (phrases_of number) (items_hidden-the_row-Phrase-0 T N arguments.items))

pub phrase_of-Let : {T N : Type 0} (number : N → Val) (bound : Phrases T N) (inner : Box (Phrase T N) Global) → phrase_of number (Let bound inner) ≡ spec.Let (phrases_of number bound.items.items) (phrase_of number inner.value)
unfolding phrase_of row_of
phrase_of-Let {T} {N} number bound inner = ap (λ phrases. spec.Let phrases (phrase_of number inner.value)) (row_of-items number (hidden-the_row-Phrase-0 T N bound.items) ∙ ap (phrases_of number) (items_hidden-the_row-Phrase-0 T N bound.items))

-- what one list after the other stands for
pub phrases_of-append : {T N : Type 0} (number : N → Val) (first second : List (Phrase T N)) → phrases_of number (first ++ second) ≡ append_phrases (phrases_of number first) (phrases_of number second)
phrases_of-append number [] second = refl
phrases_of-append number (phrase ∷ first) second = ap (spec.more (phrase_of number phrase)) (phrases_of-append number first second)

-- what a phrase with its sort stands for
abbrev pub typed_of : {T N : Type 0} → (N → Val) → Typed T N → spec.Typed
typed_of number x = record { phrase = phrase_of number x.phrase; sort = x.sort }
