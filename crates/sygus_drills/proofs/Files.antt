-- The file of a number is read.
use Rattle.std.proofs.Common.{◌≡◌, ℕ, zero, suc, ◌+◌, ◌-◌, ◌%◌, ◌<◌, ◌≤◌, ◌^◌, Bool, true, false, cond, List, [], ◌∷◌, ◌++◌, length, map, Option, None, Result, Ok, refl, sym, ap, ◌∙◌, arith, append_assoc, length-append}
use Rattle.std.specs.Prelude.{codes}
use Rattle.std.proofs.lemmas.List.{append-nil}
use Rattle.std.specs.List.{flat_map, range_with_len}
use Rattle.sy_text_items.specs.Items.{Item}
use Rattle.sy_text_items.specs.Lexicon.{space}
use Rattle.sy_text.specs.Reading.{command_at, after_layout}
use Rattle.sy_text.specs.Spelling.{parted}
use Rattle.sy_text.proofs.Nested.{command_none}
use Rattle.sy_terms.specs.Values.{Val, Bits}
use Rattle.sy_terms.specs.declared.sort.Logic.TheVariants.{Bv}
use Rattle.sy_scope_causes.specs.declared.cause.Refused.{Refused}
use Rattle.sy_forms_items.specs.Phrases.{expr_at, exprs_at}
use Rattle.sy_scope_names.specs.Pools.{pooled}
use Rattle.sy_scope_names.specs.Contexts.{Context, Condition, Written, beginning, with_logic, condition_at, question_at}
use Rattle.sy_scope_steps.specs.Files.{file_from, file_read, command_read, read_as, after_command}
use Rattle.sy_scope_names.specs.Jobs.{wish_of, wished}
use Rattle.sy_scope_names.specs.Changes.{with_question}
use Rattle.sygus_drills.specs.Examples.{examples, example_of, state_at}
use Rattle.sygus_drills.specs.Files.{drill_file, function, line, constraint}
use Rattle.sygus_drills.specs.declared.generator.Example.{Example}
use Rattle.sygus_drills.specs.Asked.{FilesAsk}
use Rattle.sygus_drills.specs.Asked as asked
use Rattle.sygus_drills.proofs.Laid.{text_in}
use Rattle.sygus_drills.proofs.Commands.{logic, logic_stands, synthesis, synthesis_stands, function_text, example_at, example_stands, example_text, check, check_stands, check_text, empty_gap, line_gap}
use Rattle.sygus_drills.proofs.Reading.{one_read, drop_front}
use Rattle.sygus_drills.proofs.Steps.{declared, phrase_of, values_of, logic_steps, synthesis_steps, example_steps, check_steps}

-- ---- examples are of bytes

abbrev pub AreBytes : List Example → Type 0
AreBytes [] = Unit {0}
AreBytes (e ∷ es) = (e.argument < 256) × (e.value < 256) × AreBytes es

small_value : (below : Bool) (argument : ℕ) → cond below (255 - argument) ((argument + 1) % 256) < 256
small_value true argument = omega arith
small_value false argument = omega arith

small_state : (number i : ℕ) → state_at number (suc i) < 2 ^ 64
unfolding state_at
small_state number i = omega arith

bytes_from : (number first count : ℕ) → AreBytes (map (λ i. example_of number (state_at number i)) (range_with_len (suc first) count))
bytes_from number first zero = tt
bytes_from number first (suc count) =
    let one : suc first + 1 ≡ suc (suc first) = omega arith in
    (omega (arith, small_state number first), small_value _ _, rw one (bytes_from number (suc first) count))

pub examples_bytes : (number : ℕ) → AreBytes (examples number)
unfolding examples
examples_bytes number = bytes_from number 0 1000

-- ---- the constraints

-- the values of the examples are written too
abbrev pub pool_after : List Val → List Example → List Val
pool_after pool [] = pool
pool_after pool (e ∷ es) = pool_after (pooled pool (values_of e)) es

abbrev pub written : Example → Condition
written e = Written (phrase_of e)

-- what is left behind the line before some examples
abbrev pub left : List Example → List ℕ → List ℕ
left es tail = 10 ∷ (flat_map constraint es ++ tail)

parted_line : (rest : List ℕ) → parted (10 ∷ rest) ≡ true
unfolding space
parted_line rest = refl

next_left : (e : Example) (es : List Example) (tail : List ℕ) → left (e ∷ es) tail ≡ (10 ∷ []) ++ (text_in (example_at e) ++ left es tail)
next_left e es tail = ap (λ (l : List ℕ). 10 ∷ l) (append_assoc (constraint e) (flat_map constraint es) tail ∙ example_text e (flat_map constraint es ++ tail))

longer_front : (file front gap text rest after : List ℕ) → file ≡ front ++ rest → rest ≡ gap ++ (text ++ after) → file ≡ (front ++ (gap ++ text)) ++ after
longer_front file front gap text rest after e parts = e ∙ ap (λ (l : List ℕ). front ++ l) parts ∙ simp append_assoc

-- the context behind them, and what is left then
pub record AreRead (es : List Example) (k most fuel command last : ℕ) (file tail : List ℕ) (constraints all : List Condition) (pool : List Val) : Type 0 where
  pub front : List ℕ
  pub parts : file ≡ front ++ left [] tail
  pub reads : file_from fuel command file (length file - length (left es tail)) (declared k constraints pool)
      ≡ file_from most last file (length file - length (left [] tail)) (declared k all (pool_after pool es))

pub examples_read : (es : List Example) (k most fuel command last : ℕ) (file front tail : List ℕ) (constraints all : List Condition) (pool : List Val) → AreBytes es → file ≡ front ++ left es tail
    → fuel ≡ length es + most → last ≡ command + length es → all ≡ constraints ++ map written es → AreRead es k most fuel command last file tail constraints all pool
examples_read [] k most fuel command last file front tail constraints all pool bytes e f l a =
    let same : fuel ≡ most = omega (arith, f) in
    let at : last ≡ command = omega (arith, l) in
    let none : all ≡ constraints = a ∙ append-nil constraints in
    record { front = front; parts = e; reads = rw (same, at, none) refl }
examples_read (x ∷ es) k most fuel command last file front tail constraints all pool bytes e f l a =
    let one : fuel ≡ suc (length es + most) = omega (arith, f) in
    let longer : all ≡ (constraints ++ written x ∷ []) ++ map written es = a ∙ sym (append_assoc constraints (written x ∷ []) (map written es)) in
    let text = text_in (example_at x) in
    let others = examples_read es k most (length es + most) (command + 1) last file (front ++ ((10 ∷ []) ++ text)) tail (constraints ++ written x ∷ []) all (pooled pool (values_of x)) bytes.2
    (longer_front file front (10 ∷ []) text (left (x ∷ es) tail) (left es tail) e (next_left x es tail)) refl (omega (arith, l)) longer in
    record {
      front = others.front;
      parts = others.parts;
      reads = rw one (
          one_read (example_at x) (length es + most) command file front (left (x ∷ es) tail) (10 ∷ []) (left es tail) (declared k constraints pool)
          (declared k (constraints ++ written x ∷ []) (pooled pool (values_of x))) e (next_left x es tail) line_gap (example_stands x bytes.0 bytes.1) (omega arith) (parted_line (flat_map constraint es ++ tail))
          (example_steps k x constraints pool bytes.0 bytes.1)
          ∙ others.reads
          );
    }

-- ---- the end

layout_left : after_layout false (10 ∷ []) ≡ []
unfolding after_layout space
layout_left = refl

abbrev last_line : List ℕ
last_line = 10 ∷ []

end_read : (most command : ℕ) (file front : List ℕ) (context : Context) → file ≡ front ++ last_line → file_from (suc most) command file (length file - length last_line) context ≡ Ok context
unfolding file_from
end_read most command file front context e =
    let nothing : command_at (length file) last_line ≡ Ok None = command_none (length file) last_line layout_left in
    let read : command_read file command (length file - length last_line) ≡ Ok None
    = ap (λ (bytes : List ℕ). read_as command (command_at (length file) bytes)) (drop_front file front last_line e) ∙ ap (read_as command) nothing in
    ap (λ (r : Result (Option (Item × ℕ)) Refused). after_command command context r (λ at c. file_from most (command + 1) file at c)) read

-- ---- the whole file

-- an example is told in some bytes
some_bytes : (e : Example) → 1 ≤ length (constraint e)
unfolding constraint
some_bytes e = omega arith

few_examples : (es : List Example) → length es ≤ length (flat_map constraint es)
few_examples [] = omega arith
few_examples (e ∷ es) = omega (arith, few_examples es, length-append (constraint e) (flat_map constraint es), some_bytes e)

abbrev pub pool_of : ℕ → List Example → List Val
pool_of k es = pool_after (pooled [] (Bits 8 1 ∷ Bits 8 k ∷ [])) es

-- what the commands before the last leave
abbrev pub context_of : ℕ → List Example → Context
context_of k es = declared k (map written es) (pool_of k es)

pub read_by : (es : List Example) (k : ℕ) (file tail : List ℕ) → k < 256 → AreBytes es → tail ≡ text_in check ++ (10 ∷ []) → file ≡ text_in logic ++ (10 ∷ (text_in (synthesis k) ++ left es tail))
    → file_read file ≡ Ok (with_question (context_of k es))
read_by es k file tail lt bytes last e =
    let most : ℕ = length file - 3 - length es in
    let inner : List ℕ = 10 ∷ (text_in (synthesis k) ++ left es tail) in
    let n1 : length file ≡ length (text_in logic) + length inner = ap length e ∙ length-append (text_in logic) inner in
    let n2 = length-append (text_in (synthesis k)) (left es tail) in
    let n3 = length-append (flat_map constraint es) tail in
    let n4 : length tail ≡ length (text_in check) + 1 = ap length last ∙ length-append (text_in check) (10 ∷ []) in
    let fuel : length file + 1 ≡ suc (suc (length es + suc (suc most))) = omega (arith, n1, n2, n3, n4, few_examples es) in
    let start : 0 ≡ length file - length file = omega arith in
    let pool : List Val = pooled [] (Bits 8 1 ∷ Bits 8 k ∷ []) in
    let first = one_read logic (suc (length es + suc (suc most))) 1 file [] file [] inner beginning (with_logic Bv beginning) refl e empty_gap logic_stands (omega arith) (parted_line (text_in (synthesis k) ++ left es tail)) logic_steps in
    let e1 : file ≡ ([] ++ ([] ++ text_in logic)) ++ inner = longer_front file [] [] (text_in logic) file inner refl e in
    let second = one_read (synthesis k) (length es + suc (suc most)) (1 + 1) file ([] ++ ([] ++ text_in logic)) inner (10 ∷ []) (left es tail) (with_logic Bv beginning) (declared k [] pool) e1 refl line_gap
    (synthesis_stands k lt) (omega arith) (parted_line (flat_map constraint es ++ tail)) (synthesis_steps k lt) in
    let e2 = longer_front file ([] ++ ([] ++ text_in logic)) (10 ∷ []) (text_in (synthesis k)) inner (left es tail) e1 refl in
    let third = examples_read es k (suc (suc most)) (length es + suc (suc most)) (1 + 1 + 1) (1 + 1 + 1 + length es) file (([] ++ ([] ++ text_in logic)) ++ ((10 ∷ []) ++ text_in (synthesis k))) tail [] (map written es) pool bytes e2 refl refl refl in
    let ended : left [] tail ≡ (10 ∷ []) ++ (text_in check ++ (10 ∷ [])) = ap (λ (l : List ℕ). 10 ∷ l) last in
    let fourth = one_read check (suc most) (1 + 1 + 1 + length es) file third.front (left [] tail) (10 ∷ []) (10 ∷ []) (context_of k es) (with_question (context_of k es)) third.parts ended line_gap
    check_stands (omega arith) (parted_line []) (check_steps k (map written es) (pool_of k es)) in
    let e4 = longer_front file third.front (10 ∷ []) (text_in check) (left [] tail) (10 ∷ []) third.parts ended in
    ap (λ (n : ℕ). file_from n 1 file 0 beginning) fuel
    ∙ ap (λ (at : ℕ). file_from (suc (suc (length es + suc (suc most)))) 1 file at beginning) start
    ∙ first ∙ second ∙ third.reads ∙ fourth
    ∙ end_read most (1 + 1 + 1 + length es + 1) file (third.front ++ ((10 ∷ []) ++ text_in check)) (with_question (context_of k es)) e4

constraints_are : (es : List Example) → map (condition_at 0) (map written es) ≡ map asked.constraint es
unfolding expr_at exprs_at
constraints_are [] = refl
constraints_are (e ∷ es) = ap (λ rest. asked.constraint e ∷ rest) (constraints_are es)

pub files_are_read : FilesAsk
files_are_read number =
    let k = number % 256 in
    let es = examples number in
    let tail : List ℕ = line (codes "(check-synth)") in
    let lt : k < 256 = omega arith in
    let parts : drill_file number ≡ text_in logic ++ (10 ∷ (text_in (synthesis k) ++ left es tail)) = append_assoc (function number) (flat_map constraint es) tail ∙ function_text number (flat_map constraint es ++ tail) in
    let reads = read_by es k (drill_file number) tail lt (examples_bytes number) check_text parts in (
      wish_of (with_question (context_of k es)),
      ap wished reads,
      record {
        logic = refl;
        question = question_at (context_of k es);
        one = refl;
        asks = record { goals = refl; constraints = constraints_are es; assumptions = refl; variables = refl; definitions = refl };
      },
    )
