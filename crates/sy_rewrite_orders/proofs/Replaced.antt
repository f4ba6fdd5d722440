-- Names replaced by what they stand for.
use Rattle.std.specs.Prelude.{ℕ, zero, suc, Bool, true, false, ◌&&◌, nat_lt, ◌+◌, ◌<◌, ◌≤◌, ◌↔◌, List, [], ◌∷◌, ◌++◌, ◌≡◌, refl, length, take}
use Rattle.std.proofs.Common.{arith, ap, sym, ◌∙◌, subst, get_or, length-append}
use Rattle.std.proofs.Math.Seq.{take-append_seam}
use Rattle.std.proofs.lemmas.List.{take_more, take_all, get_or-append-add, length-map}
use Rattle.sy_terms.specs.Values.{Val, Truth}
use Rattle.sy_terms.specs.Operators.{op_value}
use Rattle.sy_terms.specs.Expr.{Expr, Exprs, Constant, Variable, Apply, Invoke, Bind, none, more, append}
use Rattle.sy_terms.specs.Denoted.{expr_of, exprs_of, expr_of-Var}
use Rattle.sy_terms.specs.Theories.{sort_of_value}
use Rattle.sy_terms.specs.Meaning.{Function, meaning, meanings, called, function_of, value_at_position}
use Rattle.sy_terms.specs.declared.op.Op.{Op}
use Rattle.sy_terms.specs.declared.sort.Sort.{Sort}
use Rattle.sy_terms.specs.declared.term.Fun.{Fun}
use Rattle.sy_terms.specs.declared.term.Term.{Term, Var}
use Rattle.sy_terms_operators.proofs.Equations.{both_true, value_at_position_is}
use Rattle.sy_terms_operators.proofs.Plain.{all_stay, all_further, plain_append}
use Rattle.sy_grammar_base.specs.Solving.{AreValues}
use Rattle.sy_query_base.specs.Asked.{Query, Satisfies}
use Rattle.sy_rewrite_orders.specs.Alike.{IsAlike, SaysTheSame}
use Rattle.sy_terms_operators.specs.Plain.{is_plain, are_plain}
use Rattle.sy_rewrite_orders.specs.Replaced.{IsReplaced, AreReplaced, AreNext, SaysTheSameAt}
use Rattle.sy_rewrite_orders.proofs.Alike.{meanings_last}

-- truth values

and_true : (a b : Bool) → a ≡ true → b ≡ true → (a && b) ≡ true
and_true true b first second = second
and_true false b first second = cc

and_first : (a b : Bool) → a ≡ false → (a && b) ≡ false
and_first true b first = cc
and_first false b first = refl

and_second : (a b : Bool) → b ≡ false → (a && b) ≡ false
and_second true b second = second
and_second false b second = refl

-- numbers

less_next : (a b c : ℕ) → a ≡ b + c → nat_lt a (b + (c + 1)) ≡ true
less_next a b c is = grind arith

-- lists of terms, one after the other

exprs_of_append : {T N : Type 0} (number : N → Val) (terms others : List (Term T N)) → exprs_of number (terms ++ others) ≡ append (exprs_of number terms) (exprs_of number others)
exprs_of_append number [] others = refl
exprs_of_append number (term ∷ terms) others = ap (more (expr_of number term)) (exprs_of_append number terms others)

meanings_append : (defined wanted : List Function) (values : List Val) (terms others : Exprs) → meanings defined wanted values (append terms others) ≡ meanings defined wanted values terms ++ meanings defined wanted values others
unfolding meanings
meanings_append defined wanted values none others = refl
meanings_append defined wanted values (more term terms) others = ap (λ (rest : List Val). meaning defined wanted values term ∷ rest) (meanings_append defined wanted values terms others)

many_meanings : {T N : Type 0} (number : N → Val) (defined wanted : List Function) (values : List Val) (terms : List (Term T N)) → length (meanings defined wanted values (exprs_of number terms)) ≡ length terms
unfolding meanings
many_meanings number defined wanted values [] = refl
many_meanings number defined wanted values (term ∷ terms) = omega (arith, many_meanings number defined wanted values terms)

-- a term, form by form

pub constant_replaced : (count : ℕ) (names : Exprs) (value : Val) → IsReplaced count names (Constant value) (Constant value)
unfolding meaning
constant_replaced count names value defined wanted values many = refl

pub variable_replaced : (count : ℕ) (names : Exprs) (found : Expr) (position : ℕ) →
    ((defined wanted : List Function) (values : List Val) → meaning defined wanted values found ≡ value_at_position (meanings defined wanted values names) position) → IsReplaced count names found (Variable position)
unfolding meaning
variable_replaced count names found position is defined wanted values many = is defined wanted values

pub applied_replaced : (count : ℕ) (names : Exprs) (operator : Op) (found terms : Exprs) → AreReplaced count names found terms → IsReplaced count names (Apply operator found) (Apply operator terms)
unfolding meaning
applied_replaced count names operator found terms are defined wanted values many = ap (op_value operator) (are defined wanted values many)

pub called_replaced : (count : ℕ) (names : Exprs) (function : Fun) (found terms : Exprs) → AreReplaced count names found terms → IsReplaced count names (Invoke function found) (Invoke function terms)
unfolding meaning
called_replaced count names function found terms are defined wanted values many = ap (called (function_of defined wanted function)) (are defined wanted values many)

-- the values of the names, and those of terms that stand for further names
both_are : (defined wanted : List Function) (values : List Val) (names others : Exprs) (later : List Val) → meanings defined wanted values others ≡ later →
    meanings defined wanted values (append names others) ≡ meanings defined wanted values names ++ later
both_are defined wanted values names others later are = meanings_append defined wanted values names others ∙ ap (λ (more : List Val). meanings defined wanted values names ++ more) are

-- a let is written out: its names stand for its bound terms
pub out_replaced : (count : ℕ) (names bound terms : Exprs) (found inner : Expr) → AreReplaced count names bound terms → IsReplaced count (append names bound) found inner → IsReplaced count names found (Bind terms inner)
unfolding meaning
out_replaced count names bound terms found inner are is defined wanted values many =
    is defined wanted values many ∙
    ap (λ (all : List Val). meaning defined wanted all inner) (both_are defined wanted values names bound _ (are defined wanted values many))

-- a let is kept: its names stand for the next variables
pub kept_replaced : {T N : Type 0} (number : N → Val) (count many : ℕ) (names next terms : Exprs) (bound : List (Term T N)) (found inner : Expr) →
    are_plain count names ≡ true → many ≡ length bound → AreNext count many next → AreReplaced count names (exprs_of number bound) terms →
    IsReplaced (count + many) (append names next) found inner → IsReplaced count names (Bind (exprs_of number bound) found) (Bind terms inner)
unfolding meaning
kept_replaced number count many names next terms bound found inner plain so after are is defined wanted values short =
    let later : List Val = meanings defined wanted values (exprs_of number bound) in
    let long : length later ≡ many = many_meanings number defined wanted values bound ∙ sym so in
    let all : length (values ++ later) ≡ count + many = omega (arith, length-append values later, short, long) in
    let inside : are_plain (length values) names ≡ true = subst (λ n. are_plain n names ≡ true) (sym short) plain in
    let known : meanings defined wanted (values ++ later) (append names next) ≡ meanings defined wanted values names ++ later =
    both_are defined wanted (values ++ later) names next later (after defined wanted values later short long) ∙ ap (λ (first : List Val). first ++ later) (all_stay defined wanted values later names inside) in
    is defined wanted (values ++ later) all ∙
    ap (λ (some : List Val). meaning defined wanted some inner) (known ∙ ap (λ (more : List Val). meanings defined wanted values names ++ more) (are defined wanted values short))

-- lists, term by term

pub none_replaced : (count : ℕ) (names : Exprs) → AreReplaced count names none none
unfolding meanings
none_replaced count names defined wanted values many = refl

pub more_replaced : {T N : Type 0} (number : N → Val) (count : ℕ) (names : Exprs) (found terms : List (Term T N)) (one other : Term T N) →
    AreReplaced count names (exprs_of number found) (exprs_of number terms) → IsReplaced count names (expr_of number one) (expr_of number other) →
    AreReplaced count names (exprs_of number (found ++ one ∷ [])) (exprs_of number (terms ++ other ∷ []))
more_replaced number count names found terms one other are is defined wanted values many =
    rw (meanings_last number defined wanted values found one, meanings_last number defined wanted (meanings defined wanted values names) terms other, are defined wanted values many, is defined wanted values many) refl

-- names, and those that a let adds

pub plain_with : {T N : Type 0} (number : N → Val) (count : ℕ) (names others : List (Term T N)) → are_plain count (exprs_of number names) ≡ true → are_plain count (exprs_of number others) ≡ true →
    are_plain count (exprs_of number (names ++ others)) ≡ true
plain_with number count names others first second = rw (exprs_of_append number names others) (plain_append count (exprs_of number names) (exprs_of number others) first second)

pub plain_out : {T N : Type 0} (number : N → Val) (count : ℕ) (names stands bound : List (Term T N)) → are_plain count (exprs_of number names) ≡ true →
    exprs_of number stands ≡ exprs_of number bound → true ≡ are_plain count (exprs_of number bound) → are_plain count (exprs_of number (names ++ stands)) ≡ true
plain_out number count names stands bound first same second =
    plain_with number count names stands first (ap (are_plain count) same ∙ sym second)

pub plain_kept : {T N : Type 0} (number : N → Val) (count many : ℕ) (names stands : List (Term T N)) → are_plain count (exprs_of number names) ≡ true →
    are_plain (count + many) (exprs_of number stands) ≡ true → are_plain (count + many) (exprs_of number (names ++ stands)) ≡ true
plain_kept number count many names stands first second =
    plain_with number (count + many) names stands (all_further count many (exprs_of number names) first) second

pub let_out : {T N : Type 0} (number : N → Val) (count : ℕ) (names stands : List (Term T N)) (bound terms : Exprs) (found inner : Expr) → exprs_of number stands ≡ bound → AreReplaced count (exprs_of number names) bound terms →
    IsReplaced count (exprs_of number (names ++ stands)) found inner → IsReplaced count (exprs_of number names) found (Bind terms inner)
let_out number count names stands bound terms found inner same are is =
    let whole = exprs_of_append number names stands ∙ ap (append (exprs_of number names)) same in
    out_replaced count (exprs_of number names) bound terms found inner are (subst (λ all. IsReplaced count all found inner) whole is)

pub let_kept : {T N : Type 0} (number : N → Val) (count many : ℕ) (names stands bound : List (Term T N)) (terms : Exprs) (found inner : Expr) →
    are_plain count (exprs_of number names) ≡ true → many ≡ length bound → AreNext count many (exprs_of number stands) → AreReplaced count (exprs_of number names) (exprs_of number bound) terms →
    IsReplaced (count + many) (exprs_of number (names ++ stands)) found inner → IsReplaced count (exprs_of number names) (Bind (exprs_of number bound) found) (Bind terms inner)
let_kept number count many names stands bound terms found inner plain so next are is =
    kept_replaced number count many (exprs_of number names) (exprs_of number stands) terms bound found inner plain so next are
    (subst (λ all. IsReplaced (count + many) all found inner) (exprs_of_append number names stands) is)

-- the same where no value more is in force

none_more : (n : ℕ) → n ≡ n + 0
none_more n = omega arith

pub plain_put : {T N : Type 0} (number : N → Val) (count : ℕ) (names stands bound : List (Term T N)) → are_plain count (exprs_of number names) ≡ true →
    exprs_of number stands ≡ exprs_of number bound → are_plain count (exprs_of number bound) ≡ true → are_plain (count + 0) (exprs_of number (names ++ stands)) ≡ true
plain_put number count names stands bound first same second =
    subst (λ n. are_plain n (exprs_of number (names ++ stands)) ≡ true) (none_more count) (plain_out number count names stands bound first same (sym second))

pub let_put : {T N : Type 0} (number : N → Val) (count : ℕ) (names stands : List (Term T N)) (bound terms : Exprs) (found inner : Expr) → exprs_of number stands ≡ bound → AreReplaced count (exprs_of number names) bound terms →
    IsReplaced (count + 0) (exprs_of number (names ++ stands)) found inner → IsReplaced count (exprs_of number names) found (Bind terms inner)
let_put number count names stands bound terms found inner same are is =
    let_out number count names stands bound terms found inner same are (subst (λ n. IsReplaced n (exprs_of number (names ++ stands)) found inner) (sym (none_more count)) is)

-- what a name stands for

pub name_is : {T N : Type 0} (number : N → Val) (names : List (Term T N)) (position : ℕ) (term found : Term T N) → position < length names → term ≡ get_or names position term → expr_of number found ≡ expr_of number term →
    (defined wanted : List Function) (values : List Val) → meaning defined wanted values (expr_of number found) ≡ value_at_position (meanings defined wanted values (exprs_of number names)) position
unfolding meanings
name_is number [] position term found within is same defined wanted values = absurd (omega (arith, within))
name_is {T} {N} number (name ∷ names) zero term found within is same defined wanted values =
    ap (meaning defined wanted values) (same ∙ ap (λ (t : Term T N). expr_of number t) is)
name_is number (name ∷ names) (suc i) term found within is same defined wanted values = name_is number names i term found (omega (arith, within)) is same defined wanted values

pub no_name : {T N : Type 0} (number : N → Val) (names : List (Term T N)) (position : ℕ) → length names ≤ position →
    (defined wanted : List Function) (values : List Val) → meaning defined wanted values (Constant (Truth false)) ≡ value_at_position (meanings defined wanted values (exprs_of number names)) position
unfolding meaning meanings
no_name number [] position beyond defined wanted values = refl
no_name number (name ∷ names) zero beyond defined wanted values = absurd (omega (arith, beyond))
no_name number (name ∷ names) (suc i) beyond defined wanted values = no_name number names i (omega (arith, beyond)) defined wanted values

-- plain terms, one by one

pub plain_more : {T N : Type 0} (number : N → Val) (count : ℕ) (terms : List (Term T N)) (term : Term T N) → are_plain count (exprs_of number terms) ≡ true → is_plain count (expr_of number term) ≡ true →
    are_plain count (exprs_of number (terms ++ term ∷ [])) ≡ true
unfolding are_plain
plain_more number count terms term all one = plain_with number count terms (term ∷ []) all (and_true (is_plain count (expr_of number term)) true one refl)

pub not_plain : {T N : Type 0} (number : N → Val) (count : ℕ) (terms : List (Term T N)) (i : ℕ) (term : Term T N) → i < length terms → is_plain count (expr_of number (get_or terms i term)) ≡ false →
    are_plain count (exprs_of number terms) ≡ false
unfolding are_plain
not_plain number count [] i term within is = absurd (omega (arith, within))
not_plain number count (first ∷ terms) zero term within is = and_first (is_plain count (expr_of number first)) (are_plain count (exprs_of number terms)) is
not_plain number count (first ∷ terms) (suc i) term within is =
    and_second (is_plain count (expr_of number first)) (are_plain count (exprs_of number terms)) (not_plain number count terms i term (omega (arith, within)) is)

-- the next variables, one by one

-- the terms mean the first of the values that stand after so many others
abbrev pub MeanFirst : ℕ → ℕ → Exprs → Type 0
MeanFirst count i terms = (defined wanted : List Function) (values later : List Val) → length values ≡ count → i ≤ length later → meanings defined wanted (values ++ later) terms ≡ take i later

pub none_first : (count : ℕ) → MeanFirst count 0 none
unfolding meanings
none_first count defined wanted values later short within = refl

at_later : (defined wanted : List Function) (values later : List Val) (i : ℕ) → meaning defined wanted (values ++ later) (Variable (length values + i)) ≡ get_or later i (Truth false)
unfolding meaning
at_later defined wanted values later i = value_at_position_is (values ++ later) (length values + i) ∙ get_or-append-add values later i (Truth false)

pub more_first : {T N : Type 0} (number : N → Val) (count i position : ℕ) (terms : List (Term T N)) → position ≡ count + i → MeanFirst count i (exprs_of number terms) → MeanFirst count (i + 1) (exprs_of number (terms ++ Var position ∷ []))
more_first {T} {N} number count i position terms so first defined wanted values later short within =
    let last : Term T N = Var position in
    let place : position ≡ length values + i = so ∙ ap (λ n. n + i) (sym short) in
    let here : meaning defined wanted (values ++ later) (expr_of number last) ≡ get_or later i (Truth false) =
    ap (meaning defined wanted (values ++ later)) (expr_of-Var T number position ∙ ap Variable place) ∙ at_later defined wanted values later i in
    meanings_last number defined wanted (values ++ later) terms last ∙
    ap (λ (front : List Val). front ++ meaning defined wanted (values ++ later) (expr_of number last) ∷ []) (first defined wanted values later short (omega (arith, within))) ∙
    ap (λ (value : Val). take i later ++ value ∷ []) here ∙
    sym (take_more later i (Truth false) (omega (arith, within)))

pub more_within : {T N : Type 0} (number : N → Val) (count i position : ℕ) (terms : List (Term T N)) → position ≡ count + i → are_plain (count + i) (exprs_of number terms) ≡ true → are_plain (count + (i + 1)) (exprs_of number (terms ++ Var position ∷ [])) ≡ true
unfolding is_plain
more_within {T} {N} number count i position terms so plain =
    let last : Term T N = Var position in
    let same : count + i + 1 ≡ count + (i + 1) = omega arith in
    let longer : are_plain (count + (i + 1)) (exprs_of number terms) ≡ true =
    subst (λ n. are_plain n (exprs_of number terms) ≡ true) same (all_further (count + i) 1 (exprs_of number terms) plain) in
    let inside : is_plain (count + (i + 1)) (expr_of number last) ≡ true =
    ap (is_plain (count + (i + 1))) (expr_of-Var T number position) ∙ less_next position count i so in
    plain_more number (count + (i + 1)) terms last longer inside

pub all_next : (count many : ℕ) (terms : Exprs) → MeanFirst count many terms → AreNext count many terms
all_next count many terms first defined wanted values later short long = first defined wanted values later short (omega (arith, long)) ∙ take_all many later (omega (arith, long))

-- names that were longer, cut back to those before
pub cut_back : {X : Type 0} (old before after longer last : List X) (n : ℕ) → last ≡ take n after → after ≡ longer → take (length before) longer ≡ before → n ≡ length before → before ≡ old → last ≡ old
cut_back old before after longer last n cut same back count kept =
    cut ∙ ap (take n) same ∙ ap (λ k. take k longer) count ∙ back ∙ kept

-- a body over variables that stand for themselves

pub replaced_says : (count : ℕ) (names : Exprs) (found term : Expr) → AreNext 0 count names → IsReplaced count names found term → SaysTheSameAt count found term
replaced_says count names found term next is values many =
    let own : meanings [] [] values names ≡ values = next [] [] [] values refl many in
    let same : meaning [] [] values found ≡ meaning [] [] values term = is [] [] values many ∙ ap (λ (all : List Val). meaning [] [] all term) own in
    (λ holds. sym same ∙ holds, λ holds. same ∙ holds)

pub alike_says : (count : ℕ) (found before term : Expr) → IsAlike found before → SaysTheSameAt count before term → SaysTheSameAt count found term
alike_says count found before term is says values many =
    (λ holds. (says values many).0 (sym (is [] [] values) ∙ holds), λ holds. is [] [] values ∙ (says values many).1 holds)

pub facts_say : (count : ℕ) (found before term : Expr) → SaysTheSame found before → SaysTheSameAt count before term → SaysTheSameAt count found term
facts_say count found before term is says values many =
    (λ holds. (says values many).0 ((is [] [] values).0 holds), λ holds. (is [] [] values).1 ((says values many).1 holds))

-- queries over the same variables whose bodies say the same

many_values : (sorts : List Sort) (values : List Val) → AreValues sorts values → length values ≡ length sorts
many_values sorts values are = sym (length-map values sort_of_value) ∙ ap length are.sorted

one_way : (query other : Query) → query.variables ≡ other.variables → ((values : List Val) → length values ≡ length other.variables → meaning [] [] values query.body ≡ Truth true → meaning [] [] values other.body ≡ Truth true) →
    (values : List Val) → Satisfies query values → Satisfies other values
one_way query other same says values satisfies =
    let sorted : AreValues other.variables values = subst (λ sorts. AreValues sorts values) same satisfies.sorted in
    record { sorted = sorted; true = says values (many_values other.variables values sorted) satisfies.true }

pub satisfied_alike : (query other : Query) → other.variables ≡ query.variables → SaysTheSameAt (length query.variables) other.body query.body → (values : List Val) → Satisfies other values ↔ Satisfies query values
satisfied_alike query other same says values = (
  one_way other query same (λ all many. (says all many).0) values,
  one_way query other (sym same) (λ all many. (says all (many ∙ ap length same)).1) values,
)
