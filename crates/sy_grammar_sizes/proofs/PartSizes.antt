-- The sizes of patterns by a table.
use Rattle.std.proofs.Common.{◌≡◌, ℕ, zero, suc, ◌+◌, ◌<◌, List, [], ◌∷◌, ◌++◌, append_assoc, refl, ap, sym, ◌∙◌, arith, Option, Some, None, slice_get, min}
use Rattle.std.specs.Prelude.{◌^◌}
use Rattle.std.specs.Option.{option_map}
use Rattle.sy_terms.specs.Values.{Val}
use Rattle.sy_grammar_base.specs.Patterns.{Occurrence, occurring, all_occurring, own_size, own_sizes}
use Rattle.sy_grammar_base.specs.Written.{pattern_of, patterns_of, own_sizes-last}
use Rattle.sy_grammar_base.specs.declared.part.Part.{Part}
use Rattle.sy_grammar_sizes.specs.Tables.{table_entry, sizes_plus, entries_total, cut, pattern_size}

-- a pattern without occurrences
pub size_alone : (limit : ℕ) (table : List (Option ℕ)) (result below sum : ℕ) → limit < 2 ^ 64 → below ≡ 0 → sum ≡ min (below + 1) 18446744073709551615 → result ≡ min sum limit → Some result ≡ cut limit 1 (entries_total table [])
unfolding entries_total
size_alone limit table result below sum fits none summed is = ap Some (omega (arith, fits, none, summed, is))

-- an occurrence
pub size_place : (limit : ℕ) (table : List (Option ℕ)) (nonterminal : ℕ) → pattern_size limit table (Occurrence nonterminal) ≡ option_map (min limit) (table_entry table nonterminal)
unfolding entries_total
size_place limit table nonterminal = cases (table_entry table nonterminal)
  where
    cases : (found : Option ℕ) → cut limit 0 (sizes_plus found (Some 0)) ≡ option_map (min limit) found
    cases None = refl
    cases (Some m) = ap Some (omega arith)

-- a sum without parts
pub size_none : (limit : ℕ) (table : List (Option ℕ)) → Some 0 ≡ cut limit 0 (entries_total table [])
unfolding entries_total
size_none limit table = ap Some (omega arith)

pub cut_none : (limit own other : ℕ) (sum : Option ℕ) → None ≡ cut limit own sum → None ≡ cut limit other sum
cut_none limit own other None e = refl
cut_none limit own other (Some n) e = absurd cc

none_cut : (limit own : ℕ) (sum : Option ℕ) → None ≡ cut limit own sum → sum ≡ None
none_cut limit own None e = refl
none_cut limit own (Some n) e = absurd cc

-- one more for the operator
pub cut_more : (limit own : ℕ) (total : Option ℕ) (below sum result : ℕ) → limit < 2 ^ 64 → Some below ≡ cut limit own total → sum ≡ min (below + 1) 18446744073709551615 → result ≡ min sum limit → Some result ≡ cut limit (own + 1) total
cut_more limit own None below sum result fits e summed is = absurd cc
cut_more limit own (Some n) below sum result fits e summed is =
    let same : below ≡ min limit (own + n) = cc in
    ap Some (omega (arith, fits, same, summed, is))

plus_assoc : (a b c : Option ℕ) → sizes_plus a (sizes_plus b c) ≡ sizes_plus (sizes_plus a b) c
plus_assoc None b c = refl
plus_assoc (Some m) None c = refl
plus_assoc (Some m) (Some n) None = refl
plus_assoc (Some m) (Some n) (Some k) = ap Some (omega arith)

plus_none : (a : Option ℕ) → sizes_plus a None ≡ None
plus_none None = refl
plus_none (Some m) = refl

plus_zero : (a : Option ℕ) → a ≡ sizes_plus (Some 0) a
plus_zero None = refl
plus_zero (Some m) = ap Some (omega arith)

total-append : (table : List (Option ℕ)) (xs ys : List ℕ) → entries_total table (xs ++ ys) ≡ sizes_plus (entries_total table xs) (entries_total table ys)
unfolding entries_total
total-append table [] ys = plus_zero (entries_total table ys)
total-append table (x ∷ xs) ys = ap (sizes_plus (table_entry table x)) (total-append table xs ys) ∙ plus_assoc (table_entry table x) (entries_total table xs) (entries_total table ys)

append_nil : (xs : List ℕ) → xs ++ [] ≡ xs
append_nil [] = refl
append_nil (x ∷ xs) = ap (λ l. x ∷ l) (append_nil xs)

occurring-last : {T N : Type 0} (number : N → Val) (parts : List (Part T N)) (last : Part T N) → all_occurring (patterns_of number (parts ++ last ∷ [])) ≡ all_occurring (patterns_of number parts) ++ occurring (pattern_of number last)
occurring-last number [] last = append_nil (occurring (pattern_of number last))
occurring-last number (part ∷ parts) last =
    ap (λ l. occurring (pattern_of number part) ++ l) (occurring-last number parts last) ∙ sym (append_assoc (occurring (pattern_of number part)) (all_occurring (patterns_of number parts)) (occurring (pattern_of number last)))

cut_both : (limit first second a b sum size summed result : ℕ) → limit < 2 ^ 64 → sum ≡ min limit (first + a) → size ≡ min limit (second + b) → summed ≡ min (sum + size) 18446744073709551615 → result ≡ min summed limit → result ≡ min limit (first + second + (a + b))
cut_both limit first second a b sum size summed result fits e f g h = omega (arith, fits, e, f, g, h)

more_by : (limit first second : ℕ) (a b : Option ℕ) (sum size summed result : ℕ) → limit < 2 ^ 64 → Some sum ≡ cut limit first a → Some size ≡ cut limit second b → summed ≡ min (sum + size) 18446744073709551615 → result ≡ min summed limit →
    Some result ≡ cut limit (first + second) (sizes_plus a b)
more_by limit first second None b sum size summed result fits e f g h = absurd cc
more_by limit first second (Some m) None sum size summed result fits e f g h = absurd cc
more_by limit first second (Some m) (Some n) sum size summed result fits e f g h =
    let one : sum ≡ min limit (first + m) = cc in
    let other : size ≡ min limit (second + n) = cc in
    ap Some (cut_both limit first second m n sum size summed result fits one other g h)

-- one part more
pub parts_more : {T N : Type 0} (number : N → Val) (limit : ℕ) (table : List (Option ℕ)) (parts : List (Part T N)) (last : Part T N) (sum size summed result : ℕ) → limit < 2 ^ 64 →
    Some sum ≡ cut limit (own_sizes (patterns_of number parts)) (entries_total table (all_occurring (patterns_of number parts))) → Some size ≡ pattern_size limit table (pattern_of number last) →
    summed ≡ min (sum + size) 18446744073709551615 → result ≡ min summed limit →
    Some result ≡ cut limit (own_sizes (patterns_of number (parts ++ last ∷ []))) (entries_total table (all_occurring (patterns_of number (parts ++ last ∷ []))))
parts_more number limit table parts last sum size summed result fits e f g h =
    let own = own_sizes-last number parts last in
    let places = ap (entries_total table) (occurring-last number parts last) ∙ total-append table (all_occurring (patterns_of number parts)) (occurring (pattern_of number last)) in
    more_by limit (own_sizes (patterns_of number parts)) (own_size (pattern_of number last)) (entries_total table (all_occurring (patterns_of number parts))) (entries_total table (occurring (pattern_of number last))) sum size summed result fits e f g h
    ∙ (λ i. cut limit (sym own i) (sym places i))

missing : {T N : Type 0} (number : N → Val) (table : List (Option ℕ)) (parts : List (Part T N)) (k : ℕ) (part : Part T N) → slice_get parts k ≡ Some part → entries_total table (occurring (pattern_of number part)) ≡ None → entries_total table (all_occurring (patterns_of number parts)) ≡ None
missing number table [] k part at none = absurd cc
missing number table (first ∷ parts) zero part at none =
    let same : first ≡ part = cc in
    total-append table (occurring (pattern_of number first)) (all_occurring (patterns_of number parts))
    ∙ ap (λ found. sizes_plus found (entries_total table (all_occurring (patterns_of number parts)))) (ap (λ p. entries_total table (occurring (pattern_of number p))) same ∙ none)
missing number table (first ∷ parts) (suc k) part at none =
    total-append table (occurring (pattern_of number first)) (all_occurring (patterns_of number parts))
    ∙ ap (sizes_plus (entries_total table (occurring (pattern_of number first)))) (missing number table parts k part at none)
    ∙ plus_none (entries_total table (occurring (pattern_of number first)))

-- a part without a size
pub missing_at : {T N : Type 0} (number : N → Val) (limit : ℕ) (table : List (Option ℕ)) (parts : List (Part T N)) (k : ℕ) (part : Part T N) → slice_get parts k ≡ Some part → None ≡ pattern_size limit table (pattern_of number part) →
    None ≡ cut limit (own_sizes (patterns_of number parts)) (entries_total table (all_occurring (patterns_of number parts)))
missing_at number limit table parts k part at none =
    let gone = missing number table parts k part at (none_cut limit (own_size (pattern_of number part)) (entries_total table (occurring (pattern_of number part))) none) in
    ap (cut limit (own_sizes (patterns_of number parts))) (sym gone)
