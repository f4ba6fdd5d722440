-- What steps of a lowering give: fresh variables, side conditions, divisions, names.
use Rattle.std.specs.Prelude.{ℕ, suc, ◌+◌, ◌<◌, ◌≤◌, true, false, List, [], ◌∷◌, ◌++◌, ℤ, pos, unsigned_abs, ◌-◌, length, ◌≡◌, ◌≢◌, refl, Some, None}
use Rattle.std.proofs.Common.{ap, ap₂, sym, subst, ◌∙◌, arith, get_or, drop, add-one, append_assoc}
use Rattle.std.proofs.lemmas.List.{map-append, drop_all}
use Rattle.sy_terms.specs.Values.{Whole}
use Rattle.sy_terms.specs.Expr.{Expr, Exprs, Variable, Apply, none, more, append}
use Rattle.sy_terms.specs.Denoted.{expr_of, exprs_of, exprs_of-append}
use Rattle.sy_terms.specs.Fitting.{sort_in}
use Rattle.sy_terms.specs.declared.op.Op.{Op}
use Rattle.sy_terms.specs.declared.op.Op.TheVariants as ops
use Rattle.sy_terms.specs.declared.sort.Sort.{Sort}
use Rattle.sy_terms.specs.declared.sort.Sort.TheVariants as sorts
use Rattle.sy_terms.specs.declared.term.Term.{Term}
use Rattle.sy_query_base.specs.Asked.{Query}
use Rattle.sy_query_base.specs.Weights.{query_scope}
use Rattle.sy_meaning_integers.specs.Lia.{owned}
use Rattle.sy_lower_laws.specs.Lowering as spec
use Rattle.sy_lower_laws.specs.Lowering.{Progress, Lowered, AllLowered, Pair, divisor, equation, recomposed, division_sides, whole_constant, at_most, equated, fresh_pair, paired, pair_of, quotient_by, remainder_by, quotients, divided, reduced, unsigned, applied, step_of, is_name, is_variable, named, as_variable, absolute_of, magnitude, lowered, has_divisions, lowering, with_sides, first_variables, begun}
use Rattle.sy_lower.specs.declared.pairs.Pair as kept
use Rattle.sy_lower.specs.Kept.{pair_in, pairs_in}
use Rattle.sy_lower.specs.Stored.{Gives, GivesQuotient, lowered_term, lowered_terms}
use Rattle.sy_lower.proofs.Lists.{dropped}

-- a sum of a product and a remainder
pub recomposes : (k : ℤ) (v w : ℕ) (number quotient product remainder sum : Expr) → number ≡ whole_constant k → quotient ≡ Variable v → product ≡ Apply ops.Mul (more number (more quotient none)) → remainder ≡ Variable w → w ≡ v + 1 →
    sum ≡ Apply ops.Add (more product (more remainder none)) → sum ≡ recomposed k v
recomposes k v w number quotient product remainder sum n q p r next is =
    let last : remainder ≡ Variable (suc v) = r ∙ ap Variable (next ∙ add-one v) in
    is ∙ ap₂ (λ a b. Apply ops.Add (more a (more b none))) (p ∙ ap₂ (λ a b. Apply ops.Mul (more a (more b none))) n q) last

-- three side conditions more
pub three_sides : {T : Type 0} (before one two after : List (Term T ℤ)) (a b c : Term T ℤ) (sides : Exprs) → one ≡ before ++ a ∷ [] → two ≡ one ++ b ∷ [] → after ≡ two ++ c ∷ [] →
    more (expr_of Whole a) (more (expr_of Whole b) (more (expr_of Whole c) none)) ≡ sides → exprs_of Whole after ≡ append (exprs_of Whole before) sides
three_sides {T} before one two after a b c sides first second third are =
    let all : after ≡ before ++ a ∷ b ∷ c ∷ [] =
    third ∙ ap (λ (ts : List (Term T ℤ)). ts ++ c ∷ []) (second ∙ ap (λ (ts : List (Term T ℤ)). ts ++ b ∷ []) first)
    ∙ append_assoc (before ++ a ∷ []) (b ∷ []) (c ∷ []) ∙ append_assoc before (a ∷ []) (b ∷ c ∷ []) in
    ap (exprs_of Whole) all ∙ exprs_of-append Whole before (a ∷ b ∷ c ∷ []) ∙ ap (append (exprs_of Whole before)) are

-- the side conditions of a division
pub are_sides : (dividend whole least remainder most first second third : Expr) (k : ℤ) (v w : ℕ) → w ≡ v + 1 → remainder ≡ Variable w → whole ≡ recomposed k v → first ≡ equation dividend whole → least ≡ whole_constant (pos 0) →
    second ≡ at_most least remainder → most ≡ whole_constant (pos (unsigned_abs k - 1)) → third ≡ at_most remainder most → more first (more second (more third none)) ≡ division_sides dividend k v
are_sides dividend whole least remainder most first second third k v w next r whole_is first_is least_is second_is most_is third_is =
    let last : remainder ≡ Variable (suc v) = r ∙ ap Variable (next ∙ add-one v) in
    let one : first ≡ equation dividend (recomposed k v) = first_is ∙ ap (equation dividend) whole_is in
    let two : second ≡ at_most (whole_constant (pos 0)) (Variable (suc v)) = second_is ∙ ap₂ at_most least_is last in
    let three : third ≡ at_most (Variable (suc v)) (whole_constant (pos (unsigned_abs k - 1))) = third_is ∙ ap₂ at_most last most_is in
    ap₂ more one (ap₂ more two (ap (λ a. more a none) three))

-- how far a lowering is, part by part
alike : (s t : List Sort) (us ws : Exprs) (ps qs : List Pair) → s ≡ t → us ≡ ws → ps ≡ qs → let here : Progress = record { sorts = s; sides = us; pairs = ps } in let there : Progress = record { sorts = t; sides = ws; pairs = qs } in here ≡ there
alike s t us ws ps qs e f g =
    let make : List Sort → Exprs → List Pair → Progress = λ x y z. record { sorts = x; sides = y; pairs = z } in
    ap (λ x. make x us ps) e ∙ ap₂ (make t) f g

-- a fresh variable that equals a term
pub equates : (before : Progress) (sort : Sort) (variable term side : Expr) (made : List Sort) (sides : Exprs) → variable ≡ Variable (length before.sorts) → made ≡ before.sorts ++ sort ∷ [] → side ≡ equation variable term →
    sides ≡ append before.sides (more side none) → Gives variable (record { sorts = made; sides = sides; pairs = before.pairs }) (equated before sort term)
unfolding equated
equates before sort variable term side made sides is sorts_are side_is sides_are = record {
  term = is;
  progress = alike made (before.sorts ++ sort ∷ []) sides _ before.pairs before.pairs sorts_are (sides_are ∙ ap (λ s. append before.sides (more s none)) (side_is ∙ ap (λ v. equation v term) is)) refl;
}

-- a division that wasn't met
pub divides_anew : (before : Progress) (dividend copy : Expr) (k : ℤ) (quotient : ℕ) (made : List Sort) (sides : Exprs) (pairs : List Pair) → quotient ≡ length before.sorts → made ≡ before.sorts ++ sorts.Int ∷ sorts.Int ∷ [] →
    sides ≡ append before.sides (division_sides dividend k quotient) → pairs ≡ before.pairs ++ record { dividend = copy; divisor = k; quotient = quotient } ∷ [] → copy ≡ dividend →
    GivesQuotient quotient (record { sorts = made; sides = sides; pairs = pairs }) (fresh_pair before dividend k)
divides_anew before dividend copy k quotient made sides pairs is sorts_are sides_are pairs_are same =
    let pair : Expr → ℕ → Pair = λ d q. record { dividend = d; divisor = k; quotient = q } in
    record {
      quotient = is;
      progress = alike made _ sides _ pairs _ sorts_are (sides_are ∙ ap (λ q. append before.sides (division_sides dividend k q)) is) (pairs_are ∙ ap₂ (λ d q. before.pairs ++ pair d q ∷ []) same is);
    }

pub divides_same : (before : Progress) (dividend copy : Expr) (k same : ℤ) (quotient : ℕ) (made : List Sort) (sides : Exprs) (pairs : List Pair) → same ≡ k → quotient ≡ length before.sorts → made ≡ before.sorts ++ sorts.Int ∷ sorts.Int ∷ [] →
    sides ≡ append before.sides (division_sides dividend same quotient) → pairs ≡ before.pairs ++ record { dividend = copy; divisor = same; quotient = quotient } ∷ [] → copy ≡ dividend →
    GivesQuotient quotient (record { sorts = made; sides = sides; pairs = pairs }) (fresh_pair before dividend k)
divides_same before dividend copy k same quotient made sides pairs e is sorts_are sides_are pairs_are copied =
    subst (λ (n : ℤ). GivesQuotient quotient (record { sorts = made; sides = sides; pairs = pairs }) (fresh_pair before dividend n)) e (divides_anew before dividend copy same quotient made sides pairs is sorts_are sides_are pairs_are copied)

-- the pairs with one more
pub pair_added : (before after : List kept.Pair) (pair : kept.Pair) → after ≡ before ++ pair ∷ [] → pairs_in after ≡ pairs_in before ++ pair_in pair ∷ []
pair_added before after pair is = ap pairs_in is ∙ map-append pair_in before (pair ∷ [])

-- a division by a number
pub met : (before : Progress) (dividend : Expr) (k : ℤ) (quotient : ℕ) → Some quotient ≡ pair_of before.pairs dividend k → GivesQuotient quotient before (paired before dividend k)
unfolding paired
met before dividend k quotient is = rw (← is) (record { quotient = refl; progress = refl })

pub not_met : (before after : Progress) (dividend : Expr) (k : ℤ) (quotient : ℕ) → None ≡ pair_of before.pairs dividend k → GivesQuotient quotient after (fresh_pair before dividend k) → GivesQuotient quotient after (paired before dividend k)
unfolding paired
not_met before after dividend k quotient is gives = rw (← is) gives

-- a quotient and a remainder by a term
pub quotient_is : (before after : Progress) (dividend divided_by variable : Expr) (k : ℤ) (quotient : ℕ) → Some k ≡ divisor divided_by → GivesQuotient quotient after (paired before dividend k) → variable ≡ Variable quotient → Gives variable after (quotient_by before dividend divided_by)
unfolding quotient_by
quotient_is before after dividend divided_by variable k quotient is gives v = rw (← is) (record { term = v ∙ ap Variable gives.quotient; progress = gives.progress })

pub quotient_stays : (before : Progress) (dividend divided_by copy term : Expr) → None ≡ divisor divided_by → copy ≡ divided_by → term ≡ Apply ops.Div (more dividend (more copy none)) → Gives term before (quotient_by before dividend divided_by)
unfolding quotient_by
quotient_stays before dividend divided_by copy term is same t = rw (← is) (record { term = t ∙ ap (λ d. Apply ops.Div (more dividend (more d none))) same; progress = refl })

pub remainder_is : (before after : Progress) (dividend divided_by variable : Expr) (k : ℤ) (quotient remainder : ℕ) → Some k ≡ divisor divided_by → GivesQuotient quotient after (paired before dividend k) → variable ≡ Variable remainder → remainder ≡ quotient + 1 →
    Gives variable after (remainder_by before dividend divided_by)
unfolding remainder_by
remainder_is before after dividend divided_by variable k quotient remainder is gives v next =
    rw (← is) (record { term = v ∙ ap Variable (next ∙ add-one quotient ∙ ap suc gives.quotient); progress = gives.progress })

pub remainder_stays : (before : Progress) (dividend divided_by copy term : Expr) → None ≡ divisor divided_by → copy ≡ divided_by → term ≡ Apply ops.Mod (more dividend (more copy none)) → Gives term before (remainder_by before dividend divided_by)
unfolding remainder_by
remainder_stays before dividend divided_by copy term is same t = rw (← is) (record { term = t ∙ ap (λ d. Apply ops.Mod (more dividend (more d none))) same; progress = refl })

-- quotients by one term after the other
first_quotient : (before : Progress) (dividend first : Expr) (rest : Exprs) → quotients before dividend (more first rest) ≡ quotients (quotient_by before dividend first).progress (quotient_by before dividend first).term rest
unfolding quotients
first_quotient before dividend first rest = refl

no_quotient : (before : Progress) (dividend : Expr) → quotients before dividend none ≡ lowered_term before dividend
unfolding quotients
no_quotient before dividend = refl

pub next_quotient : {T : Type 0} (divisors : List (Term T ℤ)) (i : ℕ) (term : Term T ℤ) (before after : Progress) (dividend quotient : Expr) (all : Lowered) → i < length divisors → term ≡ get_or divisors i term →
    Gives quotient after (quotient_by before dividend (expr_of Whole term)) → quotients before dividend (exprs_of Whole (drop i divisors)) ≡ all → quotients after quotient (exprs_of Whole (drop (i + 1) divisors)) ≡ all
next_quotient divisors i term before after dividend quotient all within is gives left =
    ap₂ (λ p t. quotients p t (exprs_of Whole (drop (i + 1) divisors))) gives.progress gives.term
    ∙ sym (first_quotient before dividend (expr_of Whole term) (exprs_of Whole (drop (i + 1) divisors)))
    ∙ sym (ap (quotients before dividend) (dropped divisors i term within is)) ∙ left

pub last_quotient : {T : Type 0} (divisors : List (Term T ℤ)) (i : ℕ) (before : Progress) (quotient : Expr) (all : Lowered) → length divisors ≤ i → quotients before quotient (exprs_of Whole (drop i divisors)) ≡ all → Gives quotient before all
last_quotient {T} divisors i before quotient all beyond left =
    let is : lowered_term before quotient ≡ all = sym (no_quotient before quotient) ∙ sym (ap (λ (ts : List (Term T ℤ)). quotients before quotient (exprs_of Whole ts)) (drop_all i divisors beyond)) ∙ left in
    record { term = ap (λ (l : Lowered). l.term) is; progress = ap (λ (l : Lowered). l.progress) is }

-- applications
pub divided_is : {T : Type 0} (before after : Progress) (terms rest : List (Term T ℤ)) (first : Term T ℤ) (dividend quotient : Expr) → terms ≡ first ∷ rest → dividend ≡ expr_of Whole first → Gives quotient after (quotients before dividend (exprs_of Whole rest)) →
    Gives quotient after (divided before (exprs_of Whole terms))
divided_is {T} before after terms rest first dividend quotient is same gives =
    rw is (rw same at gives)

pub divided_none : {T : Type 0} (before : Progress) (terms empty : List (Term T ℤ)) (term : Expr) → length terms ≡ 0 → empty ≡ [] → term ≡ Apply ops.Div (exprs_of Whole empty) → Gives term before (divided before (exprs_of Whole terms))
divided_none {T} before [] empty term long e is = record { term = is ∙ ap (λ (ts : List (Term T ℤ)). Apply ops.Div (exprs_of Whole ts)) e; progress = refl }
divided_none before (a ∷ rest) empty term long e is = absurd (omega (arith, long))

pub reduced_is : {T : Type 0} (before after : Progress) (terms : List (Term T ℤ)) (first second : Term T ℤ) (dividend remainder : Expr) → length terms ≡ 2 → first ≡ get_or terms 0 first → second ≡ get_or terms 1 second → dividend ≡ expr_of Whole first →
    Gives remainder after (remainder_by before dividend (expr_of Whole second)) → Gives remainder after (reduced before (exprs_of Whole terms))
reduced_is before after [] first second dividend remainder two f s same gives = absurd (omega (arith, two))
reduced_is before after (a ∷ []) first second dividend remainder two f s same gives = absurd (omega (arith, two))
reduced_is {T} before after (a ∷ b ∷ []) first second dividend remainder two f s same gives =
    let one : dividend ≡ expr_of Whole a = same ∙ ap (λ (t : Term T ℤ). expr_of Whole t) f in
    let other : expr_of Whole second ≡ expr_of Whole b = ap (λ (t : Term T ℤ). expr_of Whole t) s in
    subst (λ (d : Expr). Gives remainder after (remainder_by before d (expr_of Whole b))) one (subst (λ (e : Expr). Gives remainder after (remainder_by before dividend e)) other gives)
reduced_is before after (a ∷ b ∷ c ∷ rest) first second dividend remainder two f s same gives = absurd (omega (arith, two))

pub reduced_stays : {T : Type 0} (before : Progress) (terms : List (Term T ℤ)) (term : Expr) → length terms ≢ 2 → term ≡ Apply ops.Mod (exprs_of Whole terms) → Gives term before (reduced before (exprs_of Whole terms))
reduced_stays before [] term differ is = record { term = is; progress = refl }
reduced_stays before (a ∷ []) term differ is = record { term = is; progress = refl }
reduced_stays before (a ∷ b ∷ []) term differ is = absurd (differ refl)
reduced_stays before (a ∷ b ∷ c ∷ rest) term differ is = record { term = is; progress = refl }

pub unsigned_is : {T : Type 0} (before after : Progress) (terms : List (Term T ℤ)) (only : Term T ℤ) (argument found : Expr) → length terms ≡ 1 → only ≡ get_or terms 0 only → argument ≡ expr_of Whole only →
    Gives found after (absolute_of before argument) → Gives found after (unsigned before (exprs_of Whole terms))
unsigned_is before after [] only argument found one is same gives = absurd (omega (arith, one))
unsigned_is {T} before after (a ∷ []) only argument found one is same gives =
    subst (λ (e : Expr). Gives found after (absolute_of before e)) (same ∙ ap (λ (t : Term T ℤ). expr_of Whole t) is) gives
unsigned_is before after (a ∷ b ∷ rest) only argument found one is same gives = absurd (omega (arith, one))

pub unsigned_stays : {T : Type 0} (before : Progress) (terms : List (Term T ℤ)) (term : Expr) → length terms ≢ 1 → term ≡ Apply ops.Abs (exprs_of Whole terms) → Gives term before (unsigned before (exprs_of Whole terms))
unsigned_stays before [] term differ is = record { term = is; progress = refl }
unsigned_stays before (a ∷ []) term differ is = absurd (differ refl)
unsigned_stays before (a ∷ b ∷ rest) term differ is = record { term = is; progress = refl }

-- absolute values
pub is_variable_itself : (before : Progress) (term : Expr) → is_variable term ≡ true → Gives term before (as_variable before term)
is_variable_itself before term is = rw is (record { term = refl; progress = refl })

pub is_made_variable : (before after : Progress) (term found : Expr) → is_variable term ≡ false → Gives found after (equated before sorts.Int term) → Gives found after (as_variable before term)
is_made_variable before after term found is gives = rw is gives

pub absolute_is : (before after : Progress) (term variable found : Expr) → Gives variable after (as_variable before term) → found ≡ magnitude variable → Gives found after (absolute_of before term)
unfolding absolute_of
absolute_is before after term variable found gives is = record { term = is ∙ ap magnitude gives.term; progress = gives.progress }

pub is_magnitude : (term least negation test tested negated itself choice : Expr) → least ≡ whole_constant (pos 0) → tested ≡ term → test ≡ Apply ops.Le (more least (more tested none)) → negated ≡ term → negation ≡ Apply ops.Neg (more negated none) → itself ≡ term →
    choice ≡ Apply ops.Ite (more test (more itself (more negation none))) → choice ≡ magnitude term
is_magnitude term least negation test tested negated itself choice l t test_is n negation_is i choice_is =
    let one : test ≡ at_most (whole_constant (pos 0)) term = test_is ∙ ap₂ at_most l t in
    let other : negation ≡ Apply ops.Neg (more term none) = negation_is ∙ ap (λ e. Apply ops.Neg (more e none)) n in
    choice_is ∙ ap (λ e. Apply ops.Ite (more e (more itself (more negation none)))) one ∙ ap₂ (λ a b. Apply ops.Ite (more (at_most (whole_constant (pos 0)) term) (more a (more b none)))) i other

-- the operator at lowered terms
pub applied_divides : (operator : Op) (before after : Progress) (terms : Exprs) (term : Expr) → operator ≡ ops.Div → Gives term after (divided before terms) → Gives term after (applied operator (lowered_terms before terms))
unfolding applied step_of
applied_divides operator before after terms term is gives = rw is gives

pub applied_reduces : (operator : Op) (before after : Progress) (terms : Exprs) (term : Expr) → operator ≡ ops.Mod → Gives term after (reduced before terms) → Gives term after (applied operator (lowered_terms before terms))
unfolding applied step_of
applied_reduces operator before after terms term is gives = rw is gives

pub applied_unsigned : (operator : Op) (before after : Progress) (terms : Exprs) (term : Expr) → operator ≡ ops.Abs → Gives term after (unsigned before terms) → Gives term after (applied operator (lowered_terms before terms))
unfolding applied step_of
applied_unsigned operator before after terms term is gives = rw is gives

itself : (operator : Op) → operator ≢ ops.Div → operator ≢ ops.Mod → operator ≢ ops.Abs → step_of operator ≡ spec.Itself
unfolding step_of
itself ops.Div d m a = absurd (d refl)
itself ops.Mod d m a = absurd (m refl)
itself ops.Abs d m a = absurd (a refl)
itself _ d m a = refl

pub applied_itself : (operator : Op) (before : Progress) (terms : Exprs) (term : Expr) → operator ≢ ops.Div → operator ≢ ops.Mod → operator ≢ ops.Abs → term ≡ Apply operator terms → Gives term before (applied operator (lowered_terms before terms))
unfolding applied
applied_itself operator before terms term d m a is = rw (itself operator d m a) (record { term = is; progress = refl })

-- names of bound terms
pub named_itself : (before : Progress) (term : Expr) → is_name term ≡ true → Gives term before (named (lowered_term before term))
unfolding named
named_itself before term is = rw is (record { term = refl; progress = refl })

pub named_fresh : (before after : Progress) (term found : Expr) (sort : Sort) → is_name term ≡ false → Some sort ≡ sort_in (query_scope owned) before.sorts term → Gives found after (equated before sort term) → Gives found after (named (lowered_term before term))
unfolding named
named_fresh before after term found sort is sorted gives = rw (is, ← sorted) gives

pub named_unsorted : (before : Progress) (term : Expr) → is_name term ≡ false → None ≡ sort_in (query_scope owned) before.sorts term → Gives term before (named (lowered_term before term))
unfolding named
named_unsorted before term is sorted = rw (is, ← sorted) (record { term = refl; progress = refl })

-- variables that stand for themselves
pub no_variables : none ≡ first_variables 0
no_variables = refl

pub variables_more : {T : Type 0} (names after : List (Term T ℤ)) (count : ℕ) (last : Term T ℤ) → exprs_of Whole names ≡ first_variables count → expr_of Whole last ≡ Variable count → after ≡ names ++ last ∷ [] → exprs_of Whole after ≡ first_variables (count + 1)
variables_more {T} names after count last are is added =
    rw (add-one count) (ap (exprs_of Whole) added ∙ exprs_of-append Whole names (last ∷ []) ∙ ap₂ (λ us e. append us (more e none)) are is)

-- queries
pub all_sides : (before : Progress) (body whole : Expr) (variables : List Sort) (sides : Exprs) → variables ≡ before.sorts → whole ≡ Apply ops.And sides → sides ≡ append before.sides (more body none) →
    let query : Query = record { variables = variables; body = whole } in query ≡ with_sides (lowered_term before body)
all_sides before body whole variables sides same is are =
    let make : List Sort → Expr → Query = λ v b. record { variables = v; body = b } in
    ap₂ make same (is ∙ ap (Apply ops.And) are)

pub its_own : (query : Query) → has_divisions query.body ≡ false → query ≡ lowering query
unfolding lowering
its_own query is = rw is refl

pub is_lowered_to : (query found : Query) (names : Exprs) (before after : Progress) (body : Expr) → has_divisions query.body ≡ true → names ≡ first_variables (length query.variables) → before ≡ begun query.variables → Gives body after (lowered names before query.body) →
    found ≡ with_sides (lowered_term after body) → found ≡ lowering query
unfolding lowering
is_lowered_to query found names before after body is n b gives f =
    let whole : lowered_term after body ≡ lowered (first_variables (length query.variables)) (begun query.variables) query.body =
    ap₂ (λ p t. lowered_term p t) gives.progress gives.term ∙ ap₂ (λ ns p. lowered ns p query.body) n b in
    rw is (f ∙ ap with_sides whole)
