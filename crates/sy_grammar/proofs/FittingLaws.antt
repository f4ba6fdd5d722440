-- The default grammars are well formed.
use Rattle.std.proofs.Common.{◌≡◌, ℕ, suc, ◌+◌, ◌<◌, ◌≤◌, List, [], ◌∷◌, ◌++◌, append_assoc, length, refl, ap, sym, subst, ◌∙◌, arith, Option, Some, slice_get, Bool, true, false, ◌&&◌, nat_le, nat_eq, length-append}
use Rattle.std.specs.Prelude.{◌^◌, ◌*◌, cond}
use Rattle.std.specs.Option.{option_map}
use Rattle.std.specs.List.{list_all, range_with_len, filter}
use Rattle.std.proofs.lemmas.List.FromFn.{length-range_with_len}
use Rattle.std.proofs.lemmas.Bool.{le-leb, lt-ltb}
use Rattle.std.proofs.lemmas.List.Folds.{list_all-append}
use Rattle.sy_terms.specs.Fitting.{Scope, Signature}
use Rattle.sy_terms.specs.Logics.{IsTheoryOf, number_sorts, operators_of}
use Rattle.sy_terms.specs.Sorts.{sort_of}
use Rattle.sy_terms.specs.declared.op.Op.{Op}
use Rattle.sy_terms.specs.declared.op.Op.TheVariants as ops
use Rattle.sy_terms.specs.declared.sort.Logic.{Logic}
use Rattle.sy_terms.specs.declared.sort.Logic.TheVariants.{Lia, Bv}
use Rattle.sy_terms.specs.declared.sort.Sort.{Sort}
use Rattle.sy_terms.specs.declared.sort.Sort.TheVariants as sorts
use Rattle.sy_grammar_base.specs.Trees.{Production, Nonterminal, Syntax, is_sort}
use Rattle.sy_grammar_base.specs.Formed.{is_known, is_formed, nonterminal_fits, pattern_sort, pattern_sorts, rule_sort}
use Rattle.sy_grammar.specs.Defaults.{default_syntax, integers, tests, factors_alone, of_vectors, vectors_from, vector_rules, vector_tests, vector_truths, comparisons, connectives, ordered, others, is_other, rule_of_two}

both_are : (a b : Bool) → a ≡ true → b ≡ true → (a && b) ≡ true
both_are true true e f = refl
both_are true false e f = absurd cc
both_are false b e f = absurd cc

both_true : (a b : Bool) → (a && b) ≡ true → (a ≡ true) × (b ≡ true)
both_true true true e = (refl, refl)
both_true true false e = absurd cc
both_true false b e = absurd cc

same_width : (w : ℕ) → nat_eq w w ≡ true
same_width w = grind arith

-- under definitions of these signatures
abbrev scope : List Signature → Logic → Scope
scope defined logic = record { owned = operators_of logic; defined = defined; wanted = [] }

abbrev Formed : List Signature → Logic → Syntax → Type 0
Formed defined logic syntax = is_formed (number_sorts logic) (scope defined logic) syntax ≡ true

formed : (defined : List Signature) (logic : Logic) (arguments : List Sort) (nonterminals : List Nonterminal) → 1 ≤ length nonterminals → length nonterminals < 2 ^ 31 → list_all (is_known (number_sorts logic)) arguments ≡ true →
    list_all (nonterminal_fits (number_sorts logic) (scope defined logic) (record { arguments = arguments; nonterminals = nonterminals })) nonterminals ≡ true → Formed defined logic (record { arguments = arguments; nonterminals = nonterminals })
formed defined logic arguments nonterminals least most known fit =
    both_are _ _ (both_are _ _ (le-leb 1 (length nonterminals) least) (lt-ltb (length nonterminals) (2 ^ 31) most)) (both_are _ _ known fit)

-- integers
integers_formed : (defined : List Signature) (arguments : List Sort) → list_all (is_known (number_sorts Lia)) arguments ≡ true → Formed defined Lia (record { arguments = arguments; nonterminals = integers 0 1 2 ∷ tests 0 1 ∷ factors_alone ∷ [] })
unfolding pattern_sort pattern_sorts sort_of
integers_formed defined arguments known = formed defined Lia arguments (integers 0 1 2 ∷ tests 0 1 ∷ factors_alone ∷ []) (omega arith) (omega arith) known refl

truths_formed : (defined : List Signature) (arguments : List Sort) → list_all (is_known (number_sorts Lia)) arguments ≡ true → Formed defined Lia (record { arguments = arguments; nonterminals = tests 1 0 ∷ integers 1 0 2 ∷ factors_alone ∷ [] })
unfolding pattern_sort pattern_sorts sort_of
truths_formed defined arguments known = formed defined Lia arguments (tests 1 0 ∷ integers 1 0 2 ∷ factors_alone ∷ []) (omega arith) (omega arith) known refl

pub lia_formed : (defined : List Signature) (arguments : List Sort) (sort : Sort) → list_all (is_known (number_sorts Lia)) arguments ≡ true → Formed defined Lia (default_syntax Lia arguments sort)
lia_formed defined arguments sorts.Bool known = truths_formed defined arguments known
lia_formed defined arguments sorts.Int known = integers_formed defined arguments known
lia_formed defined arguments (sorts.Bits w) known = integers_formed defined arguments known

-- vectors
abbrev sort_at : Syntax → ℕ → Option Sort
sort_at syntax n = option_map (λ (x : Nonterminal). x.sort) (slice_get syntax.nonterminals n)

abbrev FitsIn : List Signature → Syntax → Sort → Production → Bool
FitsIn defined syntax sort rule = is_sort sort (rule_sort (scope defined Bv) syntax rule)

width_rules : (defined : List Signature) (syntax : Syntax) (w v b : ℕ) → sort_at syntax v ≡ Some (sorts.Bits w) → sort_at syntax b ≡ Some sorts.Bool → list_all (FitsIn defined syntax (sorts.Bits w)) (vector_rules w v b) ≡ true
unfolding pattern_sort pattern_sorts sort_of
width_rules defined syntax w v b at truths = rw (at, truths, same_width w, same_width w) refl

-- each of these nonterminals is for vectors
abbrev AreVectors : Syntax → List ℕ → Type 0
AreVectors syntax [] = Unit {0}
AreVectors syntax (v ∷ rest) = ((w : ℕ) × (sort_at syntax v ≡ Some (sorts.Bits w))) × AreVectors syntax rest

three_fit : (defined : List Signature) (syntax : Syntax) (w v : ℕ) → sort_at syntax v ≡ Some (sorts.Bits w) → list_all (FitsIn defined syntax sorts.Bool) (comparisons (v ∷ [])) ≡ true
unfolding pattern_sort pattern_sorts sort_of
three_fit defined syntax w v at = rw (at, same_width w) refl

and_three : (a b c d : Bool) → (a && (b && (c && true))) ≡ true → d ≡ true → (a && (b && (c && d))) ≡ true
and_three true true true d e f = f
and_three true true false d e f = absurd cc
and_three true false c d e f = absurd cc
and_three false b c d e f = absurd cc

comparisons_fit : (defined : List Signature) (syntax : Syntax) (vectors : List ℕ) → AreVectors syntax vectors → list_all (FitsIn defined syntax sorts.Bool) (comparisons vectors) ≡ true
comparisons_fit defined syntax [] are = refl
comparisons_fit defined syntax (v ∷ rest) are =
    and_three (FitsIn defined syntax sorts.Bool (rule_of_two ops.Equal v)) (FitsIn defined syntax sorts.Bool (rule_of_two ops.BvUlt v)) (FitsIn defined syntax sorts.Bool (rule_of_two ops.BvSlt v)) (list_all (FitsIn defined syntax sorts.Bool) (comparisons rest)) (three_fit defined syntax are.0.0 v are.0.1) (comparisons_fit defined syntax rest are.1)

connectives_fit : (defined : List Signature) (syntax : Syntax) (b : ℕ) → sort_at syntax b ≡ Some sorts.Bool → list_all (FitsIn defined syntax sorts.Bool) (connectives b) ≡ true
unfolding pattern_sort pattern_sorts sort_of
connectives_fit defined syntax b at = rw at refl

tests_fit : (defined : List Signature) (syntax : Syntax) (vectors : List ℕ) (b : ℕ) → AreVectors syntax vectors → sort_at syntax b ≡ Some sorts.Bool → list_all (FitsIn defined syntax sorts.Bool) (vector_tests vectors b) ≡ true
tests_fit defined syntax vectors b are at =
    list_all-append (FitsIn defined syntax sorts.Bool) (comparisons vectors) (connectives b) ∙ both_are _ _ (comparisons_fit defined syntax vectors are) (connectives_fit defined syntax b at)

comparisons_count : (vectors : List ℕ) → length (comparisons vectors) ≡ 3 * length vectors
comparisons_count [] = refl
comparisons_count (v ∷ rest) = omega (arith, comparisons_count rest)

-- the widths, each from 1 to 64
abbrev pub HasWidth : ℕ → Bool
HasWidth w = nat_le 1 w && nat_le w 64

truths_fits : (defined : List Signature) (syntax : Syntax) (vectors : List ℕ) (b : ℕ) → length vectors ≤ 65 → AreVectors syntax vectors → sort_at syntax b ≡ Some sorts.Bool → nonterminal_fits (number_sorts Bv) (scope defined Bv) syntax (vector_truths vectors b) ≡ true
truths_fits defined syntax vectors b few are at =
    both_are _ _ refl (both_are _ _ (lt-ltb (length (vector_tests vectors b)) (2 ^ 31) (omega (arith, few, comparisons_count vectors, length-append (comparisons vectors) (connectives b)))) (tests_fit defined syntax vectors b are at))

vector_fits : (defined : List Signature) (syntax : Syntax) (w v b : ℕ) → HasWidth w ≡ true → sort_at syntax v ≡ Some (sorts.Bits w) → sort_at syntax b ≡ Some sorts.Bool → nonterminal_fits (number_sorts Bv) (scope defined Bv) syntax (record { sort = sorts.Bits w; rules = vector_rules w v b }) ≡ true
vector_fits defined syntax w v b known at truths = both_are _ _ known (both_are _ _ refl (width_rules defined syntax w v b at truths))

-- the nonterminals from the first on have these widths
abbrev Numbered : Syntax → ℕ → List ℕ → Type 0
Numbered syntax v [] = Unit {0}
Numbered syntax v (w ∷ rest) = (sort_at syntax v ≡ Some (sorts.Bits w)) × Numbered syntax (v + 1) rest

vectors_fit : (defined : List Signature) (syntax : Syntax) (v b : ℕ) (widths : List ℕ) → list_all HasWidth widths ≡ true → Numbered syntax v widths → sort_at syntax b ≡ Some sorts.Bool → list_all (nonterminal_fits (number_sorts Bv) (scope defined Bv) syntax) (vectors_from v b widths) ≡ true
vectors_fit defined syntax v b [] known at truths = refl
vectors_fit defined syntax v b (w ∷ rest) known at truths =
    let both = both_true (HasWidth w) (list_all HasWidth rest) known in
    both_are _ _ (vector_fits defined syntax w v b both.0 at.0 truths) (vectors_fit defined syntax (v + 1) b rest both.1 at.1 truths)

numbered_vectors : (syntax : Syntax) (v : ℕ) (widths : List ℕ) → Numbered syntax v widths → AreVectors syntax (range_with_len v (length widths))
numbered_vectors syntax v [] at = tt
numbered_vectors syntax v (w ∷ rest) at = ((w, at.0), numbered_vectors syntax (v + 1) rest at.1)

-- the nonterminal behind others
behind : (before : List Nonterminal) (x : Nonterminal) (after : List Nonterminal) → slice_get (before ++ x ∷ after) (length before) ≡ Some x
behind [] x after = refl
behind (y ∷ before) x after = behind before x after

one_longer : (before : List Nonterminal) (x : Nonterminal) → length (before ++ x ∷ []) ≡ length before + 1
one_longer before x = omega (arith, length-append before (x ∷ []))

placed : (syntax : Syntax) (before after : List Nonterminal) (b : ℕ) (widths : List ℕ) → syntax.nonterminals ≡ before ++ (vectors_from (length before) b widths ++ after) → Numbered syntax (length before) widths
placed syntax before after b [] e = tt
placed syntax before after b (w ∷ rest) e =
    let x : Nonterminal = record { sort = sorts.Bits w; rules = vector_rules w (length before) b } in
    let n = one_longer before x in
    let moved : syntax.nonterminals ≡ (before ++ x ∷ []) ++ (vectors_from (length (before ++ x ∷ [])) b rest ++ after) =
    e ∙ sym (append_assoc before (x ∷ []) (vectors_from (length before + 1) b rest ++ after)) ∙ ap (λ k. (before ++ x ∷ []) ++ (vectors_from k b rest ++ after)) (sym n) in (
      ap (λ (all : List Nonterminal). option_map (λ (y : Nonterminal). y.sort) (slice_get all (length before))) e ∙ ap (option_map (λ (y : Nonterminal). y.sort)) (behind before x (vectors_from (length before + 1) b rest ++ after)),
      subst (λ k. Numbered syntax k rest) n (placed syntax (before ++ x ∷ []) after b rest moved),
    )

vectors_count : (v b : ℕ) (widths : List ℕ) → length (vectors_from v b widths) ≡ length widths
vectors_count v b [] = refl
vectors_count v b (w ∷ rest) = omega (arith, vectors_count (v + 1) b rest)

append_none : (all : List Nonterminal) → all ++ [] ≡ all
append_none [] = refl
append_none (x ∷ all) = ap (λ (rest : List Nonterminal). x ∷ rest) (append_none all)

-- where the result is a vector
bits_formed : (defined : List Signature) (arguments : List Sort) (widths : List ℕ) → list_all (is_known (number_sorts Bv)) arguments ≡ true → list_all HasWidth widths ≡ true → length widths ≤ 65 →
    Formed defined Bv (record { arguments = arguments; nonterminals = vectors_from 0 (length widths) widths ++ vector_truths (range_with_len 0 (length widths)) (length widths) ∷ [] })
bits_formed defined arguments widths known wide few =
    let n = length widths in
    let truths = vector_truths (range_with_len 0 n) n in
    let all = vectors_from 0 n widths ++ truths ∷ [] in
    let syntax : Syntax = record { arguments = arguments; nonterminals = all } in
    let count = vectors_count 0 n widths in
    let at : sort_at syntax n ≡ Some sorts.Bool = subst (λ k. sort_at syntax k ≡ Some sorts.Bool) count (ap (option_map (λ (x : Nonterminal). x.sort)) (behind (vectors_from 0 n widths) truths [])) in
    let numbered = placed syntax [] (truths ∷ []) n widths refl in
    let first = vectors_fit defined syntax 0 n widths wide numbered at in
    let last = truths_fits defined syntax (range_with_len 0 n) n (omega (arith, few, length-range_with_len 0 n)) (numbered_vectors syntax 0 widths numbered) at in
    let size = length-append (vectors_from 0 n widths) (truths ∷ []) in
    formed defined Bv arguments all (omega (arith, size)) (omega (arith, size, count, few)) known
    (list_all-append (nonterminal_fits (number_sorts Bv) (scope defined Bv) syntax) (vectors_from 0 n widths) (truths ∷ []) ∙ both_are _ _ first (both_are _ true last refl))

-- where it is a truth value
bool_formed : (defined : List Signature) (arguments : List Sort) (widths : List ℕ) → list_all (is_known (number_sorts Bv)) arguments ≡ true → list_all HasWidth widths ≡ true → length widths ≤ 65 →
    Formed defined Bv (record { arguments = arguments; nonterminals = vector_truths (range_with_len 1 (length widths)) 0 ∷ vectors_from 1 0 widths })
bool_formed defined arguments widths known wide few =
    let n = length widths in
    let truths = vector_truths (range_with_len 1 n) 0 in
    let syntax : Syntax = record { arguments = arguments; nonterminals = truths ∷ vectors_from 1 0 widths } in
    let numbered = placed syntax (truths ∷ []) [] 0 widths (ap (λ (rest : List Nonterminal). truths ∷ rest) (sym (append_none (vectors_from 1 0 widths)))) in
    let first = truths_fits defined syntax (range_with_len 1 n) 0 (omega (arith, few, length-range_with_len 1 n)) (numbered_vectors syntax 1 widths numbered) refl in
    let rest = vectors_fit defined syntax 1 0 widths wide numbered refl in
    formed defined Bv arguments (truths ∷ vectors_from 1 0 widths) (omega arith) (omega (arith, vectors_count 1 0 widths, few)) known (both_are _ _ first rest)

of_vectors_formed : (defined : List Signature) (arguments : List Sort) (sort : Sort) (widths : List ℕ) → list_all (is_known (number_sorts Bv)) arguments ≡ true → list_all HasWidth widths ≡ true → length widths ≤ 65 → Formed defined Bv (record { arguments = arguments; nonterminals = of_vectors sort widths })
of_vectors_formed defined arguments sorts.Bool widths known wide few = bool_formed defined arguments widths known wide few
of_vectors_formed defined arguments sorts.Int widths known wide few = bool_formed defined arguments widths known wide few
of_vectors_formed defined arguments (sorts.Bits w) widths known wide few = bits_formed defined arguments widths known wide few

-- the widths
kept : (b : Bool) (q : ℕ → Bool) (x : ℕ) (xs : List ℕ) → q x ≡ true → list_all q xs ≡ true → list_all q (cond b (x ∷ xs) xs) ≡ true
kept true q x xs e f = both_are _ _ e f
kept false q x xs e f = f

kept_few : (b : Bool) (x : ℕ) (xs : List ℕ) (n : ℕ) → length xs ≤ n → length (cond b (x ∷ xs) xs) ≤ suc n
kept_few true x xs n e = omega (arith, e)
kept_few false x xs n e = omega (arith, e)

filter_passes : (p q : ℕ → Bool) (xs : List ℕ) → list_all q xs ≡ true → list_all q (filter p xs) ≡ true
filter_passes p q [] e = refl
filter_passes p q (x ∷ xs) e =
    let both = both_true (q x) (list_all q xs) e in
    kept (p x) q x (filter p xs) both.0 (filter_passes p q xs both.1)

filter_few : (p : ℕ → Bool) (xs : List ℕ) → length (filter p xs) ≤ length xs
filter_few p [] = omega arith
filter_few p (x ∷ xs) = kept_few (p x) x (filter p xs) (length xs) (filter_few p xs)

others_wide : (sort : Sort) (arguments : List Sort) → list_all HasWidth (others sort arguments) ≡ true
others_wide sort arguments = filter_passes (is_other sort arguments) HasWidth (range_with_len 1 64) refl

pub others_few : (sort : Sort) (arguments : List Sort) → length (others sort arguments) ≤ 64
others_few sort arguments = filter_few (is_other sort arguments) (range_with_len 1 64)

ordered_wide : (sort : Sort) (arguments : List Sort) → is_known (number_sorts Bv) sort ≡ true → list_all HasWidth (ordered sort arguments) ≡ true
ordered_wide sorts.Bool arguments known = others_wide sorts.Bool arguments
ordered_wide sorts.Int arguments known = others_wide sorts.Int arguments
ordered_wide (sorts.Bits w) arguments known = both_are _ _ known (others_wide (sorts.Bits w) arguments)

pub ordered_few : (sort : Sort) (arguments : List Sort) → length (ordered sort arguments) ≤ 65
ordered_few sorts.Bool arguments = omega (arith, others_few sorts.Bool arguments)
ordered_few sorts.Int arguments = omega (arith, others_few sorts.Int arguments)
ordered_few (sorts.Bits w) arguments = omega (arith, others_few (sorts.Bits w) arguments)

logic_formed : (defined : List Signature) (logic : Logic) (arguments : List Sort) (sort : Sort) → list_all (is_known (number_sorts logic)) arguments ≡ true → is_known (number_sorts logic) sort ≡ true → Formed defined logic (default_syntax logic arguments sort)
logic_formed defined Lia arguments sort known value = lia_formed defined arguments sort known
logic_formed defined Bv arguments sort known value = of_vectors_formed defined arguments sort (ordered sort arguments) known (ordered_wide sort arguments value) (ordered_few sort arguments)

-- under the theory of the logic
pub default_formed : (defined : List Signature) (logic : Logic) (owned : Op → Bool) (numeric : Sort → Bool) → IsTheoryOf logic owned numeric → (arguments : List Sort) (sort : Sort) → list_all (is_known numeric) arguments ≡ true → is_known numeric sort ≡ true →
    is_formed numeric (record { owned = owned; defined = defined; wanted = [] }) (default_syntax logic arguments sort) ≡ true
default_formed defined logic owned numeric is arguments sort known value =
    let operators : owned ≡ operators_of logic = λ i. λ operator. is.operators operator i in
    let numbers : numeric ≡ number_sorts logic = λ i. λ s. is.sorts s i in
    let plain = logic_formed defined logic arguments sort (ap (λ (n : Sort → Bool). list_all (is_known n) arguments) (sym numbers) ∙ known) (ap (λ (n : Sort → Bool). is_known n sort) (sym numbers) ∙ value) in
    ap (λ (n : Sort → Bool). is_formed n (record { owned = owned; defined = defined; wanted = [] }) (default_syntax logic arguments sort)) numbers
    ∙ ap (λ (o : Op → Bool). is_formed (number_sorts logic) (record { owned = o; defined = defined; wanted = [] }) (default_syntax logic arguments sort)) operators
    ∙ plain
