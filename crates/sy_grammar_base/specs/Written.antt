-- What the crate's types stand for.
use Rattle.std.specs.Prelude.{ℕ, List, [], ◌∷◌, ◌≡◌, refl, ◌++◌, ◌+◌, length, slice_get, take, Some, zero, suc}
use Rattle.std.proofs.Common.{ap, ◌∙◌, arith}
use Rattle.std.proofs.lemmas.List.{length-append}
use Rattle.sy_terms.specs.Values.{Val}
use Rattle.sy_terms.specs.Denoted.{val_of}
use Rattle.sy_terms.specs.declared.op.Op.{Op}
use Rattle.sy_terms.specs.declared.sort.Value.{Value}
use Rattle.sy_grammar_base.specs.Patterns.{Pattern, Patterns, Constant, Variable, Occurrence, Apply, Invoke, none, more, own_size, own_sizes, occurring, all_occurring}
use Rattle.sy_grammar_base.specs.declared.part.Part.{Part, Const, Var, Non, App', Call', Row_of-Part, end_of-Part, more_of-Part, items-the_row-Part, items_hidden-the_row-Part-0, App, Call}
use Rattle.sy_grammar_base.specs.declared.part.Part.TheBlock.{hidden-the_row-Part-0}
use Rattle.sy_grammar_base.specs.declared.part.Parts.{Parts}

-- the pattern that a part is
unfoldable mutual
  pub pattern_of : {T N : Type 0} → (N → Val) → Part T N → Pattern
  pattern_of number (Const value) = Constant (val_of number value)
  pattern_of number (Var position) = Variable position
  pattern_of number (Non nonterminal) = Occurrence nonterminal
  pattern_of number (App' operator shape row) = Apply operator (row_of number row)
  pattern_of number (Call' definition shape row) = Invoke definition (row_of number row)

  pub row_of : {T N : Type 0} {m : _} → (N → Val) → Row_of-Part T N m → Patterns
  row_of number end_of-Part = none
  row_of number (more_of-Part part rest) = more (pattern_of number part) (row_of number rest)

-- the patterns of a list of parts
abbrev pub patterns_of : {T N : Type 0} → (N → Val) → List (Part T N) → Patterns
patterns_of number [] = none
patterns_of number (part ∷ parts) = more (pattern_of number part) (patterns_of number parts)

pub pattern_of-Const : (T : Type 0) {N : Type 0} (number : N → Val) (value : Value N) → let p : Part T N = Const value in pattern_of number p ≡ Constant (val_of number value)
unfolding pattern_of
pattern_of-Const T number value = refl

pub pattern_of-Var : (T : Type 0) {N : Type 0} (number : N → Val) (position : ℕ) → let p : Part T N = Var position in pattern_of number p ≡ Variable position
unfolding pattern_of
pattern_of-Var T number position = refl

pub pattern_of-Non : (T : Type 0) {N : Type 0} (number : N → Val) (nonterminal : ℕ) → let p : Part T N = Non nonterminal in pattern_of number p ≡ Occurrence nonterminal
unfolding pattern_of
pattern_of-Non T number nonterminal = refl

row_of-items : {T N : Type 0} (number : N → Val) {m : _} (row : Row_of-Part T N m) → row_of number row ≡ patterns_of number (items-the_row-Part T N m row)
unfolding row_of pattern_of
row_of-items number end_of-Part = refl
row_of-items number (more_of-Part part rest) = ap (more (pattern_of number part)) (row_of-items number rest)

pub pattern_of-App : {T N : Type 0} (number : N → Val) (operator : Op) (arguments : Parts T N) → pattern_of number (App operator arguments) ≡ Apply operator (patterns_of number arguments.items.items)
unfolding pattern_of row_of
pattern_of-App {T} {N} number operator arguments = ap (Apply operator) (row_of-items number (hidden-the_row-Part-0 T N arguments.items) ∙ ap (patterns_of number) (items_hidden-the_row-Part-0 T N arguments.items))

pub pattern_of-Call : {T N : Type 0} (number : N → Val) (definition : ℕ) (arguments : Parts T N) → pattern_of number (Call definition arguments) ≡ Invoke definition (patterns_of number arguments.items.items)
unfolding pattern_of row_of
pattern_of-Call {T} {N} number definition arguments = ap (Invoke definition) (row_of-items number (hidden-the_row-Part-0 T N arguments.items) ∙ ap (patterns_of number) (items_hidden-the_row-Part-0 T N arguments.items))

-- a list with one part more
pub own_sizes-last : {T N : Type 0} (number : N → Val) (parts : List (Part T N)) (last : Part T N) → own_sizes (patterns_of number (parts ++ last ∷ [])) ≡ own_sizes (patterns_of number parts) + own_size (pattern_of number last)
own_sizes-last number [] last = omega arith
own_sizes-last number (part ∷ parts) last = omega (arith, own_sizes-last number parts last)

pub all_occurring-last : {T N : Type 0} (number : N → Val) (parts : List (Part T N)) (last : Part T N) → length (all_occurring (patterns_of number (parts ++ last ∷ []))) ≡ length (all_occurring (patterns_of number parts)) + length (occurring (pattern_of number last))
all_occurring-last number [] last = rw (length-append) (omega arith)
all_occurring-last number (part ∷ parts) last = rw (length-append, length-append, all_occurring-last number parts last) (omega arith)

-- a place within one list of two, one after the other
place_before : (first second : List ℕ) (i n : ℕ) → slice_get first i ≡ Some n → slice_get (first ++ second) i ≡ Some n
place_before [] second zero n found = grind arith
place_before [] second (suc i) n found = grind arith
place_before (x ∷ first) second zero n found = found
place_before (x ∷ first) second (suc i) n found = place_before first second i n found

place_after : (first second : List ℕ) (i : ℕ) → slice_get (first ++ second) (length first + i) ≡ slice_get second i
place_after [] second i = ap (slice_get second) (omega arith)
place_after (x ∷ first) second i = ap (slice_get (x ∷ (first ++ second))) (let same : suc (length first) + i ≡ suc (length first + i) = omega arith in same) ∙ place_after first second i

-- an occurrence within one part of a list
pub all_occurring-at : {T N : Type 0} (number : N → Val) (parts : List (Part T N)) (k : ℕ) (part : Part T N) (i n : ℕ) → slice_get parts k ≡ Some part → slice_get (occurring (pattern_of number part)) i ≡ Some n →
    slice_get (all_occurring (patterns_of number parts)) (length (all_occurring (patterns_of number (take k parts))) + i) ≡ Some n
all_occurring-at number [] zero part i n at found = grind arith
all_occurring-at number [] (suc k) part i n at found = grind arith
all_occurring-at number (first ∷ parts) zero part i n at found =
    ap (slice_get (all_occurring (patterns_of number (first ∷ parts)))) (let same : 0 + i ≡ i = omega arith in same)
    ∙ place_before (occurring (pattern_of number first)) (all_occurring (patterns_of number parts)) i n (grind arith)
all_occurring-at number (first ∷ parts) (suc k) part i n at found =
    ap (slice_get (all_occurring (patterns_of number (first ∷ parts)))) (let same : length (all_occurring (patterns_of number (first ∷ take k parts))) + i ≡ length (occurring (pattern_of number first)) + (length (all_occurring (patterns_of number (take k parts))) + i) = rw (length-append) (omega arith) in same)
    ∙ place_after (occurring (pattern_of number first)) (all_occurring (patterns_of number parts)) (length (all_occurring (patterns_of number (take k parts))) + i)
    ∙ all_occurring-at number parts k part i n at found
