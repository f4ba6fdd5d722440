-- Lists of rules, nonterminals and widths that grow.
use Rattle.std.proofs.Common.{◌≡◌, ℕ, zero, suc, ◌+◌, ◌-◌, ◌<◌, ◌≤◌, List, [], ◌∷◌, ◌++◌, append_assoc, length, drop, map, get_or, refl, ap, sym, ◌∙◌, arith, Bool, true, false}
use Rattle.std.specs.Prelude.{cond}
use Rattle.std.specs.List.{filter, range_with_len}
use Rattle.std.proofs.lemmas.List.{map-append, drop_more, append-nil}
use Rattle.sy_terms.specs.Values.{Val}
use Rattle.sy_terms.specs.declared.op.Op.{Op}
use Rattle.sy_terms.specs.declared.sort.Sort.TheVariants as sorts
use Rattle.sy_grammar_base.specs.Patterns.{Apply, more, Occurrence}
use Rattle.sy_grammar_base.specs.Trees.{Production, Template, Nonterminal}
use Rattle.sy_grammar_base.specs.Written.{patterns_of, pattern_of-App, pattern_of-Non}
use Rattle.sy_grammar_base.specs.Grown.{production_of, nonterminal_of}
use Rattle.sy_grammar_base.specs.declared.part.Part.{App}
use Rattle.sy_grammar_base.specs.declared.part.Parts.{Parts}
use Rattle.sy_grammar_base.specs.declared.grammar.Rule.{Rule}
use Rattle.sy_grammar_base.specs.declared.grammar.Rule.TheVariants.{Term}
use Rattle.sy_grammar_base.specs.declared.grammar.Non.{Non}
use Rattle.sy_grammar.specs.Occurrences.{occurrence}
use Rattle.sy_grammar.specs.Defaults.{places, rule_applied, comparisons, vectors_from, vector_rules}

places_is : (T : Type 0) {N : Type 0} (number : N → Val) (nonterminals : List ℕ) → patterns_of {T = T} number (map occurrence nonterminals) ≡ places nonterminals
places_is T number [] = refl
places_is T number (n ∷ rest) = ap (λ p. more p (patterns_of {T = T} number (map occurrence rest))) (pattern_of-Non T number n) ∙ ap (more (Occurrence n)) (places_is T number rest)

applied_is : {T N : Type 0} (number : N → Val) (operator : Op) (parts : Parts T N) (nonterminals : List ℕ) → parts.items.items ≡ map occurrence nonterminals → production_of number (Term (App operator parts)) ≡ rule_applied operator nonterminals
applied_is {T} {N} number operator parts nonterminals e =
    ap Template (pattern_of-App number operator parts ∙ ap (Apply operator) (ap (patterns_of number) e ∙ places_is T number nonterminals))

-- one rule more
pub pushed : {T N : Type 0} (number : N → Val) (old grown : List (Rule T N)) (operator : Op) (parts : Parts T N) (nonterminals : List ℕ) → grown ≡ old ++ Term (App operator parts) ∷ [] → parts.items.items ≡ map occurrence nonterminals →
    map (production_of number) grown ≡ map (production_of number) old ++ rule_applied operator nonterminals ∷ []
pushed number old grown operator parts nonterminals e f =
    ap (map (production_of number)) e ∙ map-append (production_of number) old (Term (App operator parts) ∷ [])
    ∙ ap (λ (p : Production). map (production_of number) old ++ p ∷ []) (applied_is number operator parts nonterminals f)

-- comparisons of one nonterminal more
pub compared : (first count v : ℕ) (now grown all : List Production) → first ≤ v → v < first + count → grown ≡ now ++ comparisons (v ∷ []) → now ++ comparisons (range_with_len v (first + count - v)) ≡ all →
    grown ++ comparisons (range_with_len (v + 1) (first + count - (v + 1))) ≡ all
compared first count v now grown all least less e f =
    let size : first + count - v ≡ suc (first + count - (v + 1)) = omega (arith, least, less) in
    ap (λ (x : List Production). x ++ comparisons (range_with_len (v + 1) (first + count - (v + 1)))) e
    ∙ append_assoc now (comparisons (v ∷ [])) (comparisons (range_with_len (v + 1) (first + count - (v + 1))))
    ∙ ap (λ k. now ++ comparisons (range_with_len v k)) (sym size)
    ∙ f

-- a nonterminal for vectors more
pub numbered : {T N : Type 0} (number : N → Val) (now grown : List (Non T N)) (non : Non T N) (all : List Nonterminal) (widths : List ℕ) (i width v b : ℕ) → i < length widths → width ≡ get_or widths i 0 → grown ≡ now ++ non ∷ [] →
    nonterminal_of number non ≡ record { sort = sorts.Bits width; rules = vector_rules width v b } → map (nonterminal_of number) now ++ vectors_from v b (drop i widths) ≡ all →
    map (nonterminal_of number) grown ++ vectors_from (v + 1) b (drop (i + 1) widths) ≡ all
numbered number now grown non all widths i width v b within is e f whole =
    let rest = vectors_from (v + 1) b (drop (i + 1) widths) in
    let x : Nonterminal = record { sort = sorts.Bits width; rules = vector_rules width v b } in
    let left : drop i widths ≡ width ∷ drop (i + 1) widths = drop_more widths i 0 within ∙ ap (λ w. w ∷ drop (i + 1) widths) (sym is) in
    ap (λ (ns : List (Non _ _)). map (nonterminal_of number) ns ++ rest) e
    ∙ ap (λ (ns : List Nonterminal). ns ++ rest) (map-append (nonterminal_of number) now (non ∷ []))
    ∙ append_assoc (map (nonterminal_of number) now) (nonterminal_of number non ∷ []) rest
    ∙ ap (λ (y : Nonterminal). map (nonterminal_of number) now ++ y ∷ rest) f
    ∙ ap (λ (ws : List ℕ). map (nonterminal_of number) now ++ vectors_from v b ws) (sym left)
    ∙ whole

-- one width more, kept or left out
range_more : (a n : ℕ) → range_with_len a (n + 1) ≡ range_with_len a n ++ (a + n) ∷ []
range_more a zero = ap (λ k. k ∷ []) (let same : a ≡ a + 0 = omega arith in same)
range_more a (suc n) = ap (range_with_len a) (let same : suc n + 1 ≡ suc (n + 1) = omega arith in same) ∙ ap (λ (rest : List ℕ). a ∷ rest) (range_more (a + 1) n ∙ ap (λ k. range_with_len (a + 1) n ++ k ∷ []) (let same : a + 1 + n ≡ a + suc n = omega arith in same))

kept_more : (b : Bool) (y : ℕ) (front back whole : List ℕ) → whole ≡ front ++ back → cond b (y ∷ whole) whole ≡ cond b (y ∷ front) front ++ back
kept_more true y front back whole e = ap (λ (rest : List ℕ). y ∷ rest) e
kept_more false y front back whole e = e

filter_more : (p : ℕ → Bool) (xs : List ℕ) (x : ℕ) → filter p (xs ++ x ∷ []) ≡ filter p xs ++ filter p (x ∷ [])
filter_more p [] x = refl
filter_more p (y ∷ xs) x = kept_more (p y) y (filter p xs) (filter p (x ∷ [])) (filter p (xs ++ x ∷ [])) (filter_more p xs x)

widths_more : (p : ℕ → Bool) (width : ℕ) → 1 ≤ width → filter p (range_with_len 1 (width + 1 - 1)) ≡ filter p (range_with_len 1 (width - 1)) ++ filter p (width ∷ [])
widths_more p width least =
    ap (λ k. filter p (range_with_len 1 k)) (let same : width + 1 - 1 ≡ width - 1 + 1 = omega (arith, least) in same)
    ∙ ap (filter p) (range_more 1 (width - 1))
    ∙ filter_more p (range_with_len 1 (width - 1)) (1 + (width - 1))
    ∙ ap (λ k. filter p (range_with_len 1 (width - 1)) ++ filter p (k ∷ [])) (let same : 1 + (width - 1) ≡ width = omega (arith, least) in same)

pub width_kept : (p : ℕ → Bool) (own now grown : List ℕ) (width : ℕ) → 1 ≤ width → p width ≡ true → grown ≡ now ++ width ∷ [] → now ≡ own ++ filter p (range_with_len 1 (width - 1)) → grown ≡ own ++ filter p (range_with_len 1 (width + 1 - 1))
width_kept p own now grown width least is e f =
    e ∙ ap (λ (ws : List ℕ). ws ++ width ∷ []) f ∙ append_assoc own (filter p (range_with_len 1 (width - 1))) (width ∷ [])
    ∙ ap (λ (b : Bool). own ++ (filter p (range_with_len 1 (width - 1)) ++ cond b (width ∷ []) [])) (sym is)
    ∙ ap (λ (ws : List ℕ). own ++ ws) (sym (widths_more p width least))

pub width_left : (p : ℕ → Bool) (own now : List ℕ) (width : ℕ) → 1 ≤ width → p width ≡ false → now ≡ own ++ filter p (range_with_len 1 (width - 1)) → now ≡ own ++ filter p (range_with_len 1 (width + 1 - 1))
width_left p own now width least is f =
    f ∙ ap (λ (ws : List ℕ). own ++ ws) (sym (append-nil (filter p (range_with_len 1 (width - 1)))) ∙ ap (λ (b : Bool). filter p (range_with_len 1 (width - 1)) ++ cond b (width ∷ []) []) (sym is) ∙ sym (widths_more p width least))

-- one item more behind a list
pub behind_more : (old front now later : List Production) (item : Production) → now ≡ old ++ front → later ≡ now ++ item ∷ [] → later ≡ old ++ (front ++ item ∷ [])
behind_more old front now later item e f = f ∙ ap (λ (l : List Production). l ++ item ∷ []) e ∙ append_assoc old front (item ∷ [])
