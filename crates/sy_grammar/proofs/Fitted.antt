-- The sorts of parts, one after the other.
use Rattle.std.proofs.Common.{◌≡◌, ℕ, zero, suc, ◌+◌, ◌≤◌, List, [], ◌∷◌, length, drop, refl, ap, sym, ◌∙◌, arith, Option, Some, None, slice_get, Bool, true, false, ◌&&◌, nat_le}
use Rattle.std.specs.Prelude.{if◌then◌else◌}
use Rattle.std.specs.Option.{option_map}
use Rattle.std.proofs.lemmas.Option.{slice_get_within}
use Rattle.std.proofs.lemmas.Bool.{le-leb}
use Rattle.sy_terms.specs.Values.{Val}
use Rattle.sy_terms.specs.Sorts.{same_sort}
use Rattle.sy_terms.specs.Fitting.{Scope, Signature, applied_sort, called_sort, with_sort, same_sorts}
use Rattle.sy_terms.specs.declared.op.Op.{Op}
use Rattle.sy_terms.specs.declared.sort.Sort.{Sort}
use Rattle.sy_grammar_base.specs.Trees.{Syntax}
use Rattle.sy_grammar_base.specs.Written.{pattern_of, patterns_of}
use Rattle.sy_grammar_base.specs.Formed.{pattern_sort, pattern_sorts}
use Rattle.sy_grammar.specs.Seen.{with_argument, after_all, sort_by, taken}
use Rattle.sy_grammar_base.specs.declared.part.Part.{Part}
use Rattle.sy_grammar.specs.declared.seen.Seen.{Seen}
use Rattle.sy_grammar.specs.declared.seen.Seen.TheVariants.{Nothing}
use Rattle.sy_grammar.proofs.Sorting.{sort_by_all}

pub where_true : {A : Type 0} (b : Bool) (x y : A) → b ≡ true → (if b then x else y) ≡ x
where_true true x y e = refl
where_true false x y e = absurd cc

pub where_false : {A : Type 0} (b : Bool) (x y : A) → b ≡ false → (if b then x else y) ≡ y
where_false true x y e = absurd cc
where_false false x y e = refl

-- the sort of an operator's value, from what was seen of its arguments' sorts
pub applied_found : (scope : Scope) (operator : Op) (found : Option (List Sort)) (seen : Seen) → Some seen ≡ option_map (after_all Nothing) found → (if scope.owned operator then sort_by operator seen else None) ≡ applied_sort scope operator found
applied_found scope operator None seen e = absurd cc
applied_found scope operator (Some sorts) seen e =
    let same : seen ≡ after_all Nothing sorts = cc in
    ap (λ (x : Option Sort). if scope.owned operator then x else None) (ap (sort_by operator) same ∙ sort_by_all operator sorts)

pub applied_missing : (scope : Scope) (operator : Op) (found : Option (List Sort)) → None ≡ option_map (after_all Nothing) found → None ≡ applied_sort scope operator found
applied_missing scope operator None e = refl
applied_missing scope operator (Some sorts) e = absurd cc

-- the sort of a call's value
pub called_found : (f : Signature) (wanted : List Sort) (at : Option Signature) (found : Option (List Sort)) → Some f ≡ at → wanted ≡ f.takes → taken wanted found ≡ true → Some f.gives ≡ called_sort at found
called_found f wanted None found e w t = absurd cc
called_found f wanted (Some g) None e w t = absurd cc
called_found f wanted (Some g) (Some sorts) e w t =
    let same : f ≡ g = cc in
    sym (where_true (same_sorts sorts g.takes) (Some g.gives) None (ap (same_sorts sorts) (sym (w ∙ ap (λ (s : Signature). s.takes) same)) ∙ t) ∙ ap (λ (s : Signature). Some s.gives) (sym same))

pub called_amiss : (f : Signature) (wanted : List Sort) (at : Option Signature) (found : Option (List Sort)) → Some f ≡ at → wanted ≡ f.takes → taken wanted found ≡ false → None ≡ called_sort at found
called_amiss f wanted None found e w t = absurd cc
called_amiss f wanted (Some g) None e w t = refl
called_amiss f wanted (Some g) (Some sorts) e w t =
    let same : f ≡ g = cc in
    sym (where_false (same_sorts sorts g.takes) (Some g.gives) None (ap (same_sorts sorts) (sym (w ∙ ap (λ (s : Signature). s.takes) same)) ∙ t))

pub called_missing : (at : Option Signature) (found : Option (List Sort)) → None ≡ at → None ≡ called_sort at found
called_missing None found e = refl
called_missing (Some g) found e = absurd cc

-- what is left of a list
pub drop_at : {A : Type 0} (xs : List A) (i : ℕ) (x : A) → slice_get xs i ≡ Some x → drop i xs ≡ x ∷ drop (i + 1) xs
drop_at [] i x at = absurd (let h = slice_get_within [] i x at in omega arith)
drop_at (y ∷ xs) zero x at = let same : y ≡ x = cc in ap (λ z. z ∷ xs) same
drop_at (y ∷ xs) (suc i) x at = drop_at xs i x at ∙ ap (λ n. x ∷ drop n (y ∷ xs)) (let same : suc (i + 1) ≡ suc i + 1 = omega arith in same)

pub drop_all : {A : Type 0} (xs : List A) (i : ℕ) → length xs ≤ i → drop i xs ≡ []
drop_all [] zero out = refl
drop_all [] (suc i) out = refl
drop_all (y ∷ xs) zero out = absurd (omega arith)
drop_all (y ∷ xs) (suc i) out = drop_all xs i (omega arith)

abbrev pub sorts_left : {T N : Type 0} → (N → Val) → Scope → Syntax → List (Part T N) → ℕ → Option (List Sort)
sorts_left number scope syntax parts i = pattern_sorts scope syntax (patterns_of number (drop i parts))

sorts_at : {T N : Type 0} (number : N → Val) (scope : Scope) (syntax : Syntax) (parts : List (Part T N)) (i : ℕ) (part : Part T N) → slice_get parts i ≡ Some part → sorts_left number scope syntax parts i ≡ with_sort (pattern_sort scope syntax (pattern_of number part)) (sorts_left number scope syntax parts (i + 1))
unfolding pattern_sorts
sorts_at number scope syntax parts i part at = ap (λ (ps : List (Part _ _)). pattern_sorts scope syntax (patterns_of number ps)) (drop_at parts i part at)

sorts_end : {T N : Type 0} (number : N → Val) (scope : Scope) (syntax : Syntax) (parts : List (Part T N)) (i : ℕ) → length parts ≤ i → sorts_left number scope syntax parts i ≡ Some []
unfolding pattern_sorts
sorts_end number scope syntax parts i out = ap (λ (ps : List (Part _ _)). pattern_sorts scope syntax (patterns_of number ps)) (drop_all parts i out)

-- what was seen of the sorts so far, and those that are left
see_one : (seen : Seen) (sort : Sort) (rest : Option (List Sort)) → option_map (after_all seen) (with_sort (Some sort) rest) ≡ option_map (after_all (with_argument seen sort)) rest
see_one seen sort None = refl
see_one seen sort (Some sorts) = refl

pub seen_next : {T N : Type 0} (number : N → Val) (scope : Scope) (syntax : Syntax) (parts : List (Part T N)) (i : ℕ) (part : Part T N) (sort : Sort) (seen : Seen) (whole : Option Seen) → slice_get parts i ≡ Some part → Some sort ≡ pattern_sort scope syntax (pattern_of number part) → whole ≡ option_map (after_all seen) (sorts_left number scope syntax parts i) →
    whole ≡ option_map (after_all (with_argument seen sort)) (sorts_left number scope syntax parts (i + 1))
seen_next number scope syntax parts i part sort seen whole at is e =
    e ∙ ap (option_map (after_all seen)) (sorts_at number scope syntax parts i part at ∙ ap (λ (o : Option Sort). with_sort o (sorts_left number scope syntax parts (i + 1))) (sym is)) ∙ see_one seen sort (sorts_left number scope syntax parts (i + 1))

pub seen_none : {T N : Type 0} (number : N → Val) (scope : Scope) (syntax : Syntax) (parts : List (Part T N)) (i : ℕ) (part : Part T N) (seen : Seen) (whole : Option Seen) → slice_get parts i ≡ Some part → None ≡ pattern_sort scope syntax (pattern_of number part) → whole ≡ option_map (after_all seen) (sorts_left number scope syntax parts i) → None ≡ whole
seen_none number scope syntax parts i part seen whole at is e =
    sym (e ∙ ap (option_map (after_all seen)) (sorts_at number scope syntax parts i part at ∙ ap (λ (o : Option Sort). with_sort o (sorts_left number scope syntax parts (i + 1))) (sym is)))

pub seen_all : {T N : Type 0} (number : N → Val) (scope : Scope) (syntax : Syntax) (parts : List (Part T N)) (i : ℕ) (seen : Seen) (whole : Option Seen) → length parts ≤ i → whole ≡ option_map (after_all seen) (sorts_left number scope syntax parts i) → Some seen ≡ whole
seen_all number scope syntax parts i seen whole out e = sym (e ∙ ap (option_map (after_all seen)) (sorts_end number scope syntax parts i out))

-- whether the sorts that are left are taken
and_false : (b : Bool) → (b && false) ≡ false
and_false true = refl
and_false false = refl

take_one : (wanted : List Sort) (want sort : Sort) (rest : Option (List Sort)) → taken (want ∷ wanted) (with_sort (Some sort) rest) ≡ (same_sort sort want && taken wanted rest)
take_one wanted want sort None = sym (and_false (same_sort sort want))
take_one wanted want sort (Some sorts) = refl

take_none : (wanted : List Sort) (rest : Option (List Sort)) → taken wanted (with_sort None rest) ≡ false
take_none wanted None = refl
take_none wanted (Some sorts) = refl

take_past : (sort : Option Sort) (rest : Option (List Sort)) → taken [] (with_sort sort rest) ≡ false
take_past None rest = refl
take_past (Some s) None = refl
take_past (Some s) (Some sorts) = refl

abbrev pub taken_left : {T N : Type 0} → (N → Val) → Scope → Syntax → List (Part T N) → List Sort → ℕ → Bool
taken_left number scope syntax parts wanted i = taken (drop i wanted) (sorts_left number scope syntax parts i)

taken_at : {T N : Type 0} (number : N → Val) (scope : Scope) (syntax : Syntax) (parts : List (Part T N)) (wanted : List Sort) (i : ℕ) (part : Part T N) (want sort : Sort) → slice_get parts i ≡ Some part → slice_get wanted i ≡ Some want → Some sort ≡ pattern_sort scope syntax (pattern_of number part) →
    taken_left number scope syntax parts wanted i ≡ (same_sort sort want && taken_left number scope syntax parts wanted (i + 1))
taken_at number scope syntax parts wanted i part want sort at wants is =
    ap (λ (ss : List Sort). taken ss (sorts_left number scope syntax parts i)) (drop_at wanted i want wants)
    ∙ ap (taken (want ∷ drop (i + 1) wanted)) (sorts_at number scope syntax parts i part at ∙ ap (λ (o : Option Sort). with_sort o (sorts_left number scope syntax parts (i + 1))) (sym is))
    ∙ take_one (drop (i + 1) wanted) want sort (sorts_left number scope syntax parts (i + 1))

pub taken_next : {T N : Type 0} (number : N → Val) (scope : Scope) (syntax : Syntax) (parts : List (Part T N)) (wanted : List Sort) (i : ℕ) (part : Part T N) (want sort : Sort) (whole : Bool) → slice_get parts i ≡ Some part → slice_get wanted i ≡ Some want → Some sort ≡ pattern_sort scope syntax (pattern_of number part) → same_sort sort want ≡ true →
    whole ≡ taken_left number scope syntax parts wanted i → whole ≡ taken_left number scope syntax parts wanted (i + 1)
taken_next number scope syntax parts wanted i part want sort whole at wants is same e =
    e ∙ taken_at number scope syntax parts wanted i part want sort at wants is ∙ ap (λ (b : Bool). b && taken_left number scope syntax parts wanted (i + 1)) same

pub taken_other : {T N : Type 0} (number : N → Val) (scope : Scope) (syntax : Syntax) (parts : List (Part T N)) (wanted : List Sort) (i : ℕ) (part : Part T N) (want sort : Sort) (whole : Bool) → slice_get parts i ≡ Some part → slice_get wanted i ≡ Some want → Some sort ≡ pattern_sort scope syntax (pattern_of number part) → same_sort sort want ≡ false →
    whole ≡ taken_left number scope syntax parts wanted i → false ≡ whole
taken_other number scope syntax parts wanted i part want sort whole at wants is same e =
    sym (e ∙ taken_at number scope syntax parts wanted i part want sort at wants is ∙ ap (λ (b : Bool). b && taken_left number scope syntax parts wanted (i + 1)) same)

pub taken_none : {T N : Type 0} (number : N → Val) (scope : Scope) (syntax : Syntax) (parts : List (Part T N)) (wanted : List Sort) (i : ℕ) (part : Part T N) (whole : Bool) → slice_get parts i ≡ Some part → None ≡ pattern_sort scope syntax (pattern_of number part) →
    whole ≡ taken_left number scope syntax parts wanted i → false ≡ whole
taken_none number scope syntax parts wanted i part whole at is e =
    sym (e ∙ ap (taken (drop i wanted)) (sorts_at number scope syntax parts i part at ∙ ap (λ (o : Option Sort). with_sort o (sorts_left number scope syntax parts (i + 1))) (sym is)) ∙ take_none (drop i wanted) (sorts_left number scope syntax parts (i + 1)))

pub taken_past : {T N : Type 0} (number : N → Val) (scope : Scope) (syntax : Syntax) (parts : List (Part T N)) (wanted : List Sort) (i : ℕ) (part : Part T N) (whole : Bool) → slice_get parts i ≡ Some part → length wanted ≤ i →
    whole ≡ taken_left number scope syntax parts wanted i → false ≡ whole
taken_past number scope syntax parts wanted i part whole at past e =
    sym (e ∙ ap (λ (ss : List Sort). taken ss (sorts_left number scope syntax parts i)) (drop_all wanted i past) ∙ ap (taken []) (sorts_at number scope syntax parts i part at) ∙ take_past (pattern_sort scope syntax (pattern_of number part)) (sorts_left number scope syntax parts (i + 1)))

not_below : (n : ℕ) → nat_le (suc n) 0 ≡ false
not_below n = grind arith

both_one : (m n : ℕ) → nat_le (suc m) (suc n) ≡ nat_le m n
both_one m n = grind arith

no_more : (wanted : List Sort) (i : ℕ) → nat_le (length wanted) i ≡ same_sorts [] (drop i wanted)
no_more [] zero = refl
no_more [] (suc i) = le-leb 0 (suc i) (omega arith)
no_more (s ∷ wanted) zero = not_below (length wanted)
no_more (s ∷ wanted) (suc i) = both_one (length wanted) i ∙ no_more wanted i

pub taken_all : {T N : Type 0} (number : N → Val) (scope : Scope) (syntax : Syntax) (parts : List (Part T N)) (wanted : List Sort) (i : ℕ) (whole : Bool) → length parts ≤ i → whole ≡ taken_left number scope syntax parts wanted i → nat_le (length wanted) i ≡ whole
taken_all number scope syntax parts wanted i whole out e =
    sym (e ∙ ap (taken (drop i wanted)) (sorts_end number scope syntax parts i out) ∙ sym (no_more wanted i))

drop_none : {A : Type 0} (xs : List A) → drop 0 xs ≡ xs
drop_none [] = refl
drop_none (x ∷ xs) = refl

pub seen_first : {T N : Type 0} (number : N → Val) (scope : Scope) (syntax : Syntax) (seen : Seen) (parts : List (Part T N)) → option_map (after_all seen) (pattern_sorts scope syntax (patterns_of number parts)) ≡ option_map (after_all seen) (sorts_left number scope syntax parts 0)
seen_first number scope syntax seen parts = ap (λ (ps : List (Part _ _)). option_map (after_all seen) (pattern_sorts scope syntax (patterns_of number ps))) (sym (drop_none parts))

pub taken_first : {T N : Type 0} (number : N → Val) (scope : Scope) (syntax : Syntax) (wanted : List Sort) (parts : List (Part T N)) → taken wanted (pattern_sorts scope syntax (patterns_of number parts)) ≡ taken_left number scope syntax parts wanted 0
taken_first number scope syntax wanted parts =
    ap (λ (ps : List (Part _ _)). taken wanted (pattern_sorts scope syntax (patterns_of number ps))) (sym (drop_none parts))
    ∙ ap (λ (ss : List Sort). taken ss (sorts_left number scope syntax parts 0)) (sym (drop_none wanted))
