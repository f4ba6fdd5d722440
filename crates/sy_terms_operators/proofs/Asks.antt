-- What a trace gains at each form of a term.
use Rattle.std.specs.Prelude.{ℕ, ◌+◌, ◌<◌, List, [], ◌∷◌, ◌++◌, ◌≡◌, refl, take, length}
use Rattle.std.proofs.Common.{ap, sym, ◌∙◌, subst, get_or, append_assoc, zero, suc, drop}
use Rattle.std.proofs.lemmas.List.{take_more, append-nil, take-append-drop}
use Rattle.std.specs.declared.boxed.Box.{Box}
use Rattle.std.specs.declared.alloc.Global.{Global}
use Rattle.sy_terms.specs.Values.{Val}
use Rattle.sy_terms.specs.Expr.{Expr, Exprs, Invoke, none}
use Rattle.sy_terms.specs.Denoted.{vals_of, expr_of, exprs_of, expr_of-Const, expr_of-Var}
use Rattle.sy_terms.specs.Meaning.{Function, meanings, asked, all_asked}
use Rattle.sy_terms.specs.Fitting.{Scope}
use Rattle.sy_terms.specs.declared.op.Op.{Op}
use Rattle.sy_terms.specs.declared.sort.Value.{Value}
use Rattle.sy_terms.specs.declared.term.Fun.{Fun}
use Rattle.sy_terms.specs.declared.term.Fun.TheVariants.{Defined, Wanted}
use Rattle.sy_terms.specs.declared.term.Term.{Term, Const, Var, App, Call, Let}
use Rattle.sy_terms.specs.declared.term.Terms.{Terms}
use Rattle.sy_terms_operators.specs.Evaluation.{TermFits}
use Rattle.sy_terms_operators.specs.Tracing.{traced, traced_all, GainsCalls, TracedSome}
use Rattle.sy_terms_operators.proofs.Steps.{app-is, call-is, let-is, map-both}
use Rattle.sy_terms_operators.proofs.Asked.{asks_nothing, traced_all-append}
use Rattle.sy_terms_operators.proofs.Traced.{some-none, some-all, some-first, some-second}

module _ {T N : Type 0} (number : N → Val) (defined wanted : List Function) (values : List Val) (before : List (ℕ × List Val)) (term : Term T N) where
  pub const-asks : (value : Value N) → term ≡ Const value → asked defined wanted values (expr_of number term) ≡ []
  unfolding asked
  const-asks value is = ap (λ t. asked defined wanted values (expr_of number t)) is ∙ ap (asked defined wanted values) (expr_of-Const T number value)

  pub var-asks : (position : ℕ) → term ≡ Var position → asked defined wanted values (expr_of number term) ≡ []
  unfolding asked
  var-asks position is = ap (λ t. asked defined wanted values (expr_of number t)) is ∙ ap (asked defined wanted values) (expr_of-Var T number position)

  pub app-asks : (operator : Op) (arguments : Terms T N) → term ≡ App operator arguments → asked defined wanted values (expr_of number term) ≡ all_asked defined wanted values (exprs_of number arguments.items.items)
  unfolding asked
  app-asks operator arguments is = ap (asked defined wanted values) (app-is number term operator arguments is)

  pub defined-asks : (function : Fun) (arguments : Terms T N) (n : ℕ) → term ≡ Call function arguments → function ≡ Defined n → asked defined wanted values (expr_of number term) ≡ all_asked defined wanted values (exprs_of number arguments.items.items)
  unfolding asked
  defined-asks function arguments n is same = ap (asked defined wanted values) (call-is number term function arguments is ∙ ap (λ f. Invoke f (exprs_of number arguments.items.items)) same)

  pub wanted-asks : (function : Fun) (arguments : Terms T N) (n : ℕ) → term ≡ Call function arguments → function ≡ Wanted n → asked defined wanted values (expr_of number term) ≡ all_asked defined wanted values (exprs_of number arguments.items.items) ++ (n, meanings defined wanted values (exprs_of number arguments.items.items)) ∷ []
  unfolding asked
  wanted-asks function arguments n is same = ap (asked defined wanted values) (call-is number term function arguments is ∙ ap (λ f. Invoke f (exprs_of number arguments.items.items)) same)

  pub let-asks : (bound : Terms T N) (inner : Box (Term T N) Global) → term ≡ Let bound inner → asked defined wanted values (expr_of number term) ≡ all_asked defined wanted values (exprs_of number bound.items.items) ++ asked defined wanted (values ++ meanings defined wanted values (exprs_of number bound.items.items)) (expr_of number inner.value)
  unfolding asked
  let-asks bound inner is = ap (asked defined wanted values) (let-is number term bound inner is)

-- a body under definitions asks for nothing
pub body-asks : (scope : Scope) (defined wanted : List Function) (values : List Val) (body : Expr) → scope.wanted ≡ [] → TermFits scope values body → asked defined wanted values body ≡ []
body-asks scope defined wanted values body closed fits = asks_nothing scope closed defined wanted _ values body fits.sort fits.is

-- what a trace gains by a term that asks for the same as its parts
pub gains : (before asked all after : List (ℕ × List Val)) → asked ≡ all → GainsCalls before all after → GainsCalls before asked after
gains before asked all after e h = subst (λ calls. GainsCalls before calls after) (sym e) h

pub gains_some : (before asked all after : List (ℕ × List Val)) → asked ≡ all → TracedSome before all after → TracedSome before asked after
gains_some before asked all after e h = subst (λ calls. TracedSome before calls after) (sym e) h

-- by nothing
pub gains_none : (before : List (ℕ × List Val)) → GainsCalls before [] before
gains_none before = record { is = refl }

-- what has gained all has begun
pub begins_all : (before asked after : List (ℕ × List Val)) → GainsCalls before asked after → TracedSome before asked after
begins_all before asked after h = some-all before asked after h.is

pub begins_unchanged : (before asked mid after : List (ℕ × List Val)) → GainsCalls before asked mid → after ≡ mid → TracedSome before asked after
begins_unchanged before asked mid after h e = some-all before asked after (e ∙ h.is)

pub begins_none : (before asked : List (ℕ × List Val)) → TracedSome before asked before
begins_none before asked = some-none before asked before refl

-- by a body that asks for nothing
pub gains_nothing : (before asked inner mid after : List (ℕ × List Val)) → GainsCalls before asked mid → inner ≡ [] → GainsCalls mid inner after → GainsCalls before asked after
gains_nothing before asked inner mid after first nothing rest = record { is = rest.is ∙ ap (traced_all mid) nothing ∙ first.is }

nothing_some : (mid : List (ℕ × List Val)) (count : ℕ) → traced_all mid (take count []) ≡ mid
nothing_some mid count = ap (traced_all mid) (take_none count)
  where
    take_none : (count : ℕ) → (let none_asked : List (ℕ × List Val) = [] in take count none_asked ≡ [])
    take_none zero = refl
    take_none (suc count) = refl

pub begins_nothing : (before asked inner mid after : List (ℕ × List Val)) → GainsCalls before asked mid → inner ≡ [] → TracedSome mid inner after → TracedSome before asked after
begins_nothing before asked inner mid after first nothing some =
    some-all before asked after (some.is ∙ ap (λ calls. traced_all mid (take some.count calls)) nothing ∙ nothing_some mid some.count ∙ first.is)

-- by one list after another
pub gains_both : (before first second mid after : List (ℕ × List Val)) → GainsCalls before first mid → GainsCalls mid second after → GainsCalls before (first ++ second) after
gains_both before first second mid after p q = record { is = q.is ∙ ap (λ calls. traced_all calls second) p.is ∙ sym (traced_all-append before first second) }

pub begins_first : (before first second after : List (ℕ × List Val)) → TracedSome before first after → TracedSome before (first ++ second) after
begins_first before first second after some = some-first before first second after some

pub begins_second : (before first second mid after : List (ℕ × List Val)) → GainsCalls before first mid → TracedSome mid second after → TracedSome before (first ++ second) after
begins_second before first second mid after p some = some-second before first second after (subst (λ calls. TracedSome calls second after) p.is some)

-- the terms of a list, from the first on
pub all_asked-append : (defined wanted : List Function) (values : List Val) {T N : Type 0} (number : N → Val) (terms others : List (Term T N)) → all_asked defined wanted values (exprs_of number (terms ++ others)) ≡ all_asked defined wanted values (exprs_of number terms) ++ all_asked defined wanted values (exprs_of number others)
unfolding all_asked
all_asked-append defined wanted values number [] others = refl
all_asked-append defined wanted values number (term ∷ terms) others = rw (all_asked-append defined wanted values number terms others) (sym (append_assoc (asked defined wanted values (expr_of number term)) (all_asked defined wanted values (exprs_of number terms)) (all_asked defined wanted values (exprs_of number others))))

one_asked : (defined wanted : List Function) (values : List Val) {T N : Type 0} (number : N → Val) (term : Term T N) → all_asked defined wanted values (exprs_of number (term ∷ [])) ≡ asked defined wanted values (expr_of number term)
unfolding all_asked
one_asked defined wanted values number term = append-nil (asked defined wanted values (expr_of number term))

taken_asked : (defined wanted : List Function) (values : List Val) {T N : Type 0} (number : N → Val) (terms : List (Term T N)) (i : ℕ) (term : Term T N) → i < length terms → term ≡ get_or terms i term → all_asked defined wanted values (exprs_of number (take (i + 1) terms)) ≡ all_asked defined wanted values (exprs_of number (take i terms)) ++ asked defined wanted values (expr_of number term)
taken_asked defined wanted values number terms i term within is =
    rw (take_more terms i term within, ← is, all_asked-append) (ap (λ calls. all_asked defined wanted values (exprs_of number (take i terms)) ++ calls) (one_asked defined wanted values number term))

pub gains_next : (defined wanted : List Function) (values : List Val) {T N : Type 0} (number : N → Val) (terms : List (Term T N)) (i : ℕ) (term : Term T N) (before mid after : List (ℕ × List Val)) → i < length terms → term ≡ get_or terms i term → GainsCalls before (all_asked defined wanted values (exprs_of number (take i terms))) mid → GainsCalls mid (asked defined wanted values (expr_of number term)) after → GainsCalls before (all_asked defined wanted values (exprs_of number (take (i + 1) terms))) after
gains_next defined wanted values number terms i term before mid after within is p q =
    gains before _ _ after (taken_asked defined wanted values number terms i term within is) (gains_both before _ _ mid after p q)

whole_asked : (defined wanted : List Function) (values : List Val) {T N : Type 0} (number : N → Val) (terms : List (Term T N)) (i : ℕ) → all_asked defined wanted values (exprs_of number terms) ≡ all_asked defined wanted values (exprs_of number (take i terms)) ++ all_asked defined wanted values (exprs_of number (drop i terms))
whole_asked defined wanted values number terms i = ap (λ ts. all_asked defined wanted values (exprs_of number ts)) (sym (take-append-drop i terms)) ∙ all_asked-append defined wanted values number (take i terms) (drop i terms)

-- an error at the term at i
pub begins_next : (defined wanted : List Function) (values : List Val) {T N : Type 0} (number : N → Val) (terms : List (Term T N)) (i : ℕ) (term : Term T N) (before mid after : List (ℕ × List Val)) → i < length terms → term ≡ get_or terms i term → GainsCalls before (all_asked defined wanted values (exprs_of number (take i terms))) mid → TracedSome mid (asked defined wanted values (expr_of number term)) after → TracedSome before (all_asked defined wanted values (exprs_of number terms)) after
begins_next defined wanted values number terms i term before mid after within is p some =
    gains_some before _ _ after (whole_asked defined wanted values number terms (i + 1))
    (begins_first before _ (all_asked defined wanted values (exprs_of number (drop (i + 1) terms))) after
    (gains_some before _ _ after (taken_asked defined wanted values number terms i term within is) (begins_second before _ _ mid after p some)))

-- want of memory after the first terms
pub begins_part : (defined wanted : List Function) (values : List Val) {T N : Type 0} (number : N → Val) (terms : List (Term T N)) (i : ℕ) (before after : List (ℕ × List Val)) → GainsCalls before (all_asked defined wanted values (exprs_of number (take i terms))) after → TracedSome before (all_asked defined wanted values (exprs_of number terms)) after
begins_part defined wanted values number terms i before after p =
    gains_some before _ _ after (whole_asked defined wanted values number terms i)
    (begins_first before _ (all_asked defined wanted values (exprs_of number (drop i terms))) after (begins_all before _ after p))

-- an error at the arguments of a call
pub call-begins : {T N : Type 0} (number : N → Val) (defined wanted : List Function) (values : List Val) (before after : List (ℕ × List Val)) (term : Term T N) (function : Fun) (arguments : Terms T N) → term ≡ Call function arguments → TracedSome before (all_asked defined wanted values (exprs_of number arguments.items.items)) after → TracedSome before (asked defined wanted values (expr_of number term)) after
call-begins number defined wanted values before after term (Defined n) arguments is some = gains_some before _ _ after (defined-asks number defined wanted values before term (Defined n) arguments n is refl) some
call-begins number defined wanted values before after term (Wanted n) arguments is some =
    gains_some before _ _ after (wanted-asks number defined wanted values before term (Wanted n) arguments n is refl) (begins_first before _ ((n, meanings defined wanted values (exprs_of number arguments.items.items)) ∷ []) after some)

-- a call of a function to be found, once it is noted
pub gains_call : {T N : Type 0} (number : N → Val) (defined wanted : List Function) (values : List Val) (term : Term T N) (function : Fun) (arguments : Terms T N) (n : ℕ) → term ≡ Call function arguments → function ≡ Wanted n → (found : List Val) (before mid noted : List (ℕ × List Val)) → GainsCalls before (all_asked defined wanted values (exprs_of number arguments.items.items)) mid → noted ≡ traced mid (n, found) → found ≡ meanings defined wanted values (exprs_of number arguments.items.items) → GainsCalls before (asked defined wanted values (expr_of number term)) noted
gains_call number defined wanted values term function arguments n is same found before mid noted p q means =
    let call : ℕ × List Val = (n, meanings defined wanted values (exprs_of number arguments.items.items)) in
    let one : GainsCalls mid (call ∷ []) noted = record { is = q ∙ ap (λ vs. traced mid (n, vs)) means } in
    gains before _ _ noted (wanted-asks number defined wanted values before term function arguments n is same) (gains_both before _ (call ∷ []) mid noted p one)

-- the inner term of a binding
inner-asks : {N : Type 0} (number : N → Val) (defined wanted : List Function) (values found : List (Value N)) (inner : Expr) (bound : Exprs) → vals_of number found ≡ meanings defined wanted (vals_of number values) bound → asked defined wanted (vals_of number (values ++ found)) inner ≡ asked defined wanted (vals_of number values ++ meanings defined wanted (vals_of number values) bound) inner
inner-asks number defined wanted values found inner bound means =
    ap (λ vs. asked defined wanted vs inner) (map-both number values found ∙ ap (λ vs. vals_of number values ++ vs) means)

pub gains_inner : {N : Type 0} (number : N → Val) (defined wanted : List Function) (values found : List (Value N)) (bound : Exprs) (inner : Expr) (before mid after : List (ℕ × List Val)) → vals_of number found ≡ meanings defined wanted (vals_of number values) bound → GainsCalls before (all_asked defined wanted (vals_of number values) bound) mid → GainsCalls mid (asked defined wanted (vals_of number (values ++ found)) inner) after → GainsCalls before (all_asked defined wanted (vals_of number values) bound ++ asked defined wanted (vals_of number values ++ meanings defined wanted (vals_of number values) bound) inner) after
gains_inner number defined wanted values found bound inner before mid after means p q =
    gains_both before _ _ mid after p (gains mid _ _ after (sym (inner-asks number defined wanted values found inner bound means)) q)

pub begins_inner : {N : Type 0} (number : N → Val) (defined wanted : List Function) (values found : List (Value N)) (bound : Exprs) (inner : Expr) (before mid after : List (ℕ × List Val)) → vals_of number found ≡ meanings defined wanted (vals_of number values) bound → GainsCalls before (all_asked defined wanted (vals_of number values) bound) mid → TracedSome mid (asked defined wanted (vals_of number (values ++ found)) inner) after → TracedSome before (all_asked defined wanted (vals_of number values) bound ++ asked defined wanted (vals_of number values ++ meanings defined wanted (vals_of number values) bound) inner) after
begins_inner number defined wanted values found bound inner before mid after means p some =
    begins_second before _ _ mid after p (gains_some mid _ _ after (sym (inner-asks number defined wanted values found inner bound means)) some)

-- no term asks for nothing
pub gains_no_term : (defined wanted : List Function) (values : List Val) (before : List (ℕ × List Val)) → GainsCalls before (all_asked defined wanted values none) before
unfolding all_asked
gains_no_term defined wanted values before = record { is = refl }
