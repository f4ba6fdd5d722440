-- Rows of each form of a term, from the rows of its parts.
use Rattle.std.proofs.Common.{◌≡◌, ℕ, zero, suc, ◌<◌, List, [], ◌∷◌, length, refl, ap, sym, ◌∙◌, Some, slice_get, map, arith, get_or, Bool, true, false, subst, replicate, Result, Ok, Err, IfErr}
use Rattle.std.specs.Prelude.{All}
use Rattle.std.specs.Result.{IsErrAnd}
use Rattle.std.proofs.lemmas.Option.{slice_get-get_or, slice_get_within, none-some, get_or_from_slice_get, slice_get-map}
use Rattle.std.specs.Option.{option_map}
use Rattle.std.proofs.lemmas.List.{length-map}
use Rattle.sy_terms.specs.Values.{Val, Truth}
use Rattle.sy_terms.specs.Expr.{Expr, Exprs, Constant, Variable, Apply, Invoke}
use Rattle.sy_terms.specs.Theories.{sort_of_value, valid, fits}
use Rattle.sy_terms.specs.Denoted.{IsSorted, val_of, vals_of}
use Rattle.sy_terms.specs.Fitting.{Scope, sort_in, sorts_in, called_sort, signature_of}
use Rattle.sy_terms.specs.Meaning.{Function, meaning, meanings, computable, all_computable, value_at_position, functions}
use Rattle.sy_terms.specs.Definitions.{scope_of, bodies}
use Rattle.sy_terms.specs.declared.op.Op.{Op}
use Rattle.sy_terms.specs.declared.sort.Value.{Value}
use Rattle.sy_terms.specs.declared.term.Def.{Def}
use Rattle.sy_terms.specs.declared.term.Fun.{Fun}
use Rattle.sy_terms.specs.declared.term.Fun.TheVariants.{Defined}
use Rattle.sy_terms_operators.specs.Evaluation.{TermFits, HasValue, HaveValues, FitsWith, GivesValue, can_compute}
use Rattle.sy_terms_operators.proofs.Cases as cases
use Rattle.sy_terms_operators.proofs.Equations.{value_at_position_is}
use Rattle.sy_terms_operators.proofs.OperatorSorts.{op_value-sort}
use Rattle.sy_grammar_base.specs.Patterns.{filled, all_filled, first_of}
use Rattle.sy_grammar_base.specs.Written.{pattern_of, patterns_of, pattern_of-Const, pattern_of-Var, pattern_of-Non, pattern_of-App, pattern_of-Call}
use Rattle.sy_grammar_base.specs.declared.part.Part.{Part, Const, Var, Non, App, Call}
use Rattle.sy_grammar_base.specs.declared.part.Parts.{Parts}
use denote.Ref.{Bor}
use Rattle.sy_bank_level.specs.Rows.{IsLostAt}
use Rattle.sy_bank_level.specs.Covering as covering
use Rattle.sy_bank_level.specs.Stored.{entry_of, chosen_of}
use Rattle.sy_bank_level.specs.declared.kept.Kept.{Kept}
use Rattle.sy_bank_level.specs.Columns.{column, constants, FitsAt, FitAt, HasRow, HaveRows}
use Rattle.sy_bank_level.specs.Chosen.{ArePoints, AreRows}
use Rattle.sy_bank_columns.specs.declared.ends.RowEnd.{RowEnd}
use Rattle.sy_bank_columns.specs.declared.ends.RowEnd.TheVariants.{Lost, Want}
use Rattle.sy_bank_level.proofs.Fillings.{filled-Constant, filled-Variable, filled-Occurrence, filled-Apply, filled-Invoke}
use Rattle.sy_bank_columns.proofs.Fillings.{first-chosen}
use Rattle.sy_bank_columns.specs.Found.{IsColumnOf, IsOneLostAt, WhereLost, IsLoss}

-- what is at a place of a list
pub point-at : {X : Type 0} (points : List X) (k : ℕ) → k < length points → (point : X) × (slice_get points k ≡ Some point)
point-at [] k within = absurd (omega arith)
point-at (point ∷ points) zero within = (point, refl)
point-at (point ∷ points) (suc k) within = point-at points k (omega arith)

replicated : (count : ℕ) (value : Val) (k : ℕ) → k < count → value_at_position (replicate count value) k ≡ value
replicated zero value k within = absurd (omega arith)
replicated (suc count) value zero within = refl
replicated (suc count) value (suc k) within = replicated count value k (omega arith)

length-replicated : (count : ℕ) (value : Val) → length (replicate count value) ≡ count
length-replicated zero value = refl
length-replicated (suc count) value = ap suc (length-replicated count value)

-- a constant
pub constant-row : (scope : Scope) (defined : List Function) (points : List (List Val)) (value : Val) → FitsAt scope points (Constant value) → HasRow scope defined points (Constant value) (replicate (length points) value)
constant-row scope defined points value fit = record {
  sized = length-replicated (length points) value;
  each = λ k point at.
      let is = replicated (length points) value k (slice_get_within points k point at) in
      subst (λ (v : Val). HasValue scope defined [] point (Constant value) v) (sym is) (cases.HasValue-Constant defined [] (fit k point at));
}

mapped : (points : List (List Val)) (position k : ℕ) (point : List Val) → slice_get points k ≡ Some point → value_at_position (map (λ p. value_at_position p position) points) k ≡ value_at_position point position
mapped [] position k point at = absurd (none-some point at)
mapped (p ∷ points) position zero point at = let same : p ≡ point = cc in ap (λ q. value_at_position q position) same
mapped (p ∷ points) position (suc k) point at = mapped points position k point at

-- a variable
pub variable-row : (scope : Scope) (defined : List Function) (points : List (List Val)) (position : ℕ) → ArePoints points → FitsAt scope points (Variable position) →
    HasRow scope defined points (Variable position) (map (λ point. value_at_position point position) points)
variable-row scope defined points position each fit = record {
  sized = length-map points (λ point. value_at_position point position);
  each = λ k point at.
      let within = cases.Variable-within (fit k point at) in
      let here = slice_get-get_or point position (value_at_position point position) within in
      let is : value_at_position point position ≡ get_or point position (value_at_position point position) =
      value_at_position_is point position ∙ get_or_from_slice_get point position (get_or point position (value_at_position point position)) (Truth false) here in
      subst (λ (v : Val). HasValue scope defined [] point (Variable position) v) (sym (mapped points position k point at))
      (cases.HasValue-Variable scope defined [] position (value_at_position point position) (each k point at) within is);
}

-- an application
pub apply-arguments : (scope : Scope) (points : List (List Val)) (operator : Op) (arguments : Exprs) → FitsAt scope points (Apply operator arguments) → FitAt scope points arguments
apply-arguments scope points operator arguments fit k point at = cases.Apply-arguments (fit k point at)

pub apply-sorted : (scope : Scope) (defined : List Function) (points : List (List Val)) (operator : Op) (arguments : Exprs) (rows : List (List Val)) →
    FitsAt scope points (Apply operator arguments) → HaveRows scope defined points arguments rows → (k : ℕ) → k < length points → IsSorted operator (column rows k)
apply-sorted scope defined points operator arguments rows fit have k within =
    let p = point-at points k within in
    cases.Apply-sorted (fit k p.0 p.1) (have.each k p.0 p.1)

pub apply-row : (scope : Scope) (defined : List Function) (points : List (List Val)) (operator : Op) (arguments : Exprs) (rows : List (List Val)) (row : List Val) →
    FitsAt scope points (Apply operator arguments) → HaveRows scope defined points arguments rows → IsColumnOf operator rows (length points) row → HasRow scope defined points (Apply operator arguments) row
apply-row scope defined points operator arguments rows row fit have found = record {
  sized = found.sized;
  each = λ k point at.
      let it = found.each k (slice_get_within points k point at) in
      cases.HasValue-Apply (op_value-sort operator (column rows k)) (fit k point at) (have.each k point at) it.0 it.1 it.2;
}

pub apply-lost : (scope : Scope) (defined : List Function) (points : List (List Val)) (operator : Op) (arguments : Exprs) (rows : List (List Val)) (k : ℕ) →
    HaveRows scope defined points arguments rows → (k < length points) × (fits operator (column rows k) ≡ false) → IsLostAt defined points (Apply operator arguments) k
apply-lost scope defined points operator arguments rows k have lost =
    let p = point-at points k lost.0 in
    record { point = p.0; at = p.1; lost = cases.Apply-unfit operator (have.each k p.0 p.1) lost.1 }

pub apply-lost-argument : (defined : List Function) (points : List (List Val)) (operator : Op) (arguments : Exprs) (k : ℕ) → IsOneLostAt defined points arguments k → IsLostAt defined points (Apply operator arguments) k
apply-lost-argument defined points operator arguments k lost = record { point = lost.point; at = lost.at; lost = cases.Apply-unfit-arguments defined [] lost.point operator arguments lost.lost }

-- a call
pub call-arguments : (scope : Scope) (points : List (List Val)) (function : Fun) (arguments : Exprs) → FitsAt scope points (Invoke function arguments) → FitAt scope points arguments
call-arguments scope points function arguments fit k point at = cases.Invoke-arguments (fit k point at)

pub call-lost-argument : (defined : List Function) (points : List (List Val)) (function : Fun) (arguments : Exprs) (k : ℕ) → IsOneLostAt defined points arguments k → IsLostAt defined points (Invoke function arguments) k
call-lost-argument defined points function arguments k lost = record { point = lost.point; at = lost.at; lost = cases.Invoke-unfit-arguments defined [] lost.point function arguments lost.lost }

-- constants that are values of their sorts
constants-sorts : (scope : Scope) (values : List Val) → All (λ v. valid v ≡ true) values → sorts_in scope [] (constants values) ≡ Some (map sort_of_value values)
unfolding sorts_in sort_in
constants-sorts scope [] each = refl
constants-sorts scope (value ∷ values) each = rw (each 0 value (omega arith), constants-sorts scope values (λ k d within. each (suc k) d (omega (arith, within)))) refl

constants-computable : (defined : List Function) (values : List Val) → all_computable defined [] [] (constants values) ≡ true
unfolding all_computable computable
constants-computable defined [] = refl
constants-computable defined (value ∷ values) = constants-computable defined values

constants-meanings : (defined : List Function) (values : List Val) → meanings defined [] [] (constants values) ≡ values
unfolding meanings meaning
constants-meanings defined [] = refl
constants-meanings defined (value ∷ values) = ap (λ (rest : List Val). value ∷ rest) (constants-meanings defined values)

constants-have : (scope : Scope) (defined : List Function) (values : List Val) → All (λ v. valid v ≡ true) values → HaveValues scope defined [] [] (constants values) values
constants-have scope defined values each = record {
  valid = each;
  sorts = constants-sorts scope values each;
  computable = constants-computable defined values;
  meanings = sym (constants-meanings defined values);
}

-- the call at constants has the sort of the call
constant-call-sort : (scope : Scope) (defined : List Function) (point : List Val) (function : Fun) (arguments : Exprs) (values : List Val) (fit : TermFits scope point (Invoke function arguments)) →
    HaveValues scope defined [] point arguments values → sort_in scope [] (Invoke function (constants values)) ≡ Some fit.sort
unfolding sort_in
constant-call-sort scope defined point function arguments values fit have =
    let here : called_sort (signature_of scope function) (sorts_in scope (map sort_of_value point) arguments) ≡ Some fit.sort = fit.is in
    ap (called_sort (signature_of scope function)) (constants-sorts scope values have.valid) ∙ ap (called_sort (signature_of scope function)) (sym have.sorts) ∙ here

pub call-fits : {T N : Type 0} (owned : Op → Bool) (number : N → Val) (defs : List (Def T N)) (points : List (List Val)) (function : Fun) (arguments : Exprs) (rows : List (List Val)) →
    FitsAt (scope_of owned defs) points (Invoke function arguments) → HaveRows (scope_of owned defs) (functions (bodies number defs)) points arguments rows → (k : ℕ) → k < length points →
    FitsWith owned number defs [] [] (Invoke function (constants (column rows k)))
call-fits owned number defs points function arguments rows fit have k within =
    let p = point-at points k within in
    record { wanted = []; bodies = tt; fits = record { sort = (fit k p.0 p.1).sort; is = constant-call-sort (scope_of owned defs) (functions (bodies number defs)) p.0 function arguments (column rows k) (fit k p.0 p.1) (have.each k p.0 p.1) } }

-- a call at constants is computable and means what the call does
same-call : (scope : Scope) (defined : List Function) (point : List Val) (function : Fun) (arguments : Exprs) (values : List Val) → HaveValues scope defined [] point arguments values →
    (computable defined [] point (Invoke function arguments) ≡ computable defined [] [] (Invoke function (constants values))) × (meaning defined [] point (Invoke function arguments) ≡ meaning defined [] [] (Invoke function (constants values)))
unfolding computable meaning
same-call scope defined point function arguments values have = (
  rw (have.computable, constants-computable defined values, constants-meanings defined values, ← have.meanings) refl,
  rw (constants-meanings defined values, ← have.meanings) refl,
)

pub call-row : {T N : Type 0} (owned : Op → Bool) (number : N → Val) (defs : List (Def T N)) (points : List (List Val)) (function : Fun) (arguments : Exprs) (rows : List (List Val)) (row : List Val) →
    FitsAt (scope_of owned defs) points (Invoke function arguments) → HaveRows (scope_of owned defs) (functions (bodies number defs)) points arguments rows → length row ≡ length points →
    ((k : ℕ) → k < length points → GivesValue owned number defs [] [] (Invoke function (constants (column rows k))) (value_at_position row k)) →
    HasRow (scope_of owned defs) (functions (bodies number defs)) points (Invoke function arguments) row
call-row owned number defs points function arguments rows row fit have sized gives = record {
  sized = sized;
  each = λ k point at.
      let f = fit k point at in
      let h = have.each k point at in
      let sort = constant-call-sort (scope_of owned defs) (functions (bodies number defs)) point function arguments (column rows k) f h in
      let it = gives k (slice_get_within points k point at) [] tt (record { sort = f.sort; is = sort }) in
      let same = same-call (scope_of owned defs) (functions (bodies number defs)) point function arguments (column rows k) h in
      record {
        valid = it.valid;
        sort = f.is ∙ sym sort ∙ it.sort;
        computable = same.0 ∙ it.computable;
        meaning = it.meaning ∙ sym same.1;
      };
}

pub call-lost : {T N : Type 0} (owned : Op → Bool) (number : N → Val) (defs : List (Def T N)) (points : List (List Val)) (function : Fun) (arguments : Exprs) (rows : List (List Val)) (k : ℕ) →
    HaveRows (scope_of owned defs) (functions (bodies number defs)) points arguments rows → (k < length points) × (can_compute number defs [] [] (Invoke function (constants (column rows k))) ≡ false) →
    IsLostAt (functions (bodies number defs)) points (Invoke function arguments) k
call-lost owned number defs points function arguments rows k have lost =
    let p = point-at points k lost.0 in
    record { point = p.0; at = p.1; lost = (same-call (scope_of owned defs) (functions (bodies number defs)) p.0 function arguments (column rows k) (have.each k p.0 p.1)).0 ∙ lost.1 }

replicated-vals : {N : Type 0} (number : N → Val) (count : ℕ) (value : Value N) → vals_of number (replicate count value) ≡ replicate count (val_of number value)
replicated-vals number zero value = refl
replicated-vals number (suc count) value = ap (λ (rest : List Val). val_of number value ∷ rest) (replicated-vals number count value)

mapped-twice : {X : Type 0} (f : X → List Val) (position : ℕ) (points : List X) → map (λ point. value_at_position (f point) position) points ≡ map (λ point. value_at_position point position) (map f points)
mapped-twice f position [] = refl
mapped-twice f position (point ∷ points) = ap (λ (rest : List Val). value_at_position (f point) position ∷ rest) (mapped-twice f position points)

-- what a part becomes, by its form
part-constant : {T N : Type 0} (number : N → Val) (part : Part T N) (value : Value N) (terms : List Expr) → part ≡ Const value → filled (pattern_of number part) terms ≡ Constant (val_of number value)
part-constant number part value terms is = rw (is, pattern_of-Const, filled-Constant) refl

part-variable : {T N : Type 0} (number : N → Val) (part : Part T N) (position : ℕ) (terms : List Expr) → part ≡ Var position → filled (pattern_of number part) terms ≡ Variable position
part-variable number part position terms is = rw (is, pattern_of-Var, filled-Variable) refl

part-place : {T N : Type 0} (number : N → Val) (part : Part T N) (n : ℕ) (terms : List Expr) → part ≡ Non n → filled (pattern_of number part) terms ≡ first_of terms
part-place number part n terms is = rw (is, pattern_of-Non, filled-Occurrence) refl

part-apply : {T N : Type 0} (number : N → Val) (part : Part T N) (operator : Op) (parts : Parts T N) (terms : List Expr) → part ≡ App operator parts → filled (pattern_of number part) terms ≡ Apply operator (all_filled (patterns_of number parts.items.items) terms)
part-apply number part operator parts terms is = rw (is, pattern_of-App, filled-Apply) refl

part-invoke : {T N : Type 0} (number : N → Val) (part : Part T N) (definition : ℕ) (parts : Parts T N) (terms : List Expr) → part ≡ Call definition parts → filled (pattern_of number part) terms ≡ Invoke (Defined definition) (all_filled (patterns_of number parts.items.items) terms)
part-invoke number part definition parts terms is = rw (is, pattern_of-Call, filled-Invoke) refl

-- the row of a part that is a constant, an argument or a place
pub constant-part : {T N : Type 0} (number : N → Val) (scope : Scope) (defined : List Function) (points : List (List (Value N))) (part : Part T N) (value : Value N) (terms : List Expr) (row : List (Value N)) → part ≡ Const value →
    FitsAt scope (map (vals_of number) points) (filled (pattern_of number part) terms) → row ≡ replicate (length points) value → HasRow scope defined (map (vals_of number) points) (filled (pattern_of number part) terms) (vals_of number row)
constant-part number scope defined points part value terms row is fit made =
    let e = part-constant number part value terms is in
    let whole = constant-row scope defined (map (vals_of number) points) (val_of number value) (subst (λ term. FitsAt scope (map (vals_of number) points) term) e fit) in
    rw (e, made, replicated-vals number (length points) value, ← length-map points (vals_of number)) whole

pub position-within : {T N : Type 0} (number : N → Val) (scope : Scope) (points : List (List (Value N))) (part : Part T N) (position : ℕ) (terms : List Expr) → part ≡ Var position →
    FitsAt scope (map (vals_of number) points) (filled (pattern_of number part) terms) → (k : ℕ) (point : List (Value N)) → slice_get points k ≡ Some point → position < length point
position-within number scope points part position terms is fit k point at =
    let e = part-variable number part position terms is in
    let here = subst (λ term. FitsAt scope (map (vals_of number) points) term) e fit k (vals_of number point) (slice_get-map (vals_of number) points k ∙ ap (option_map (vals_of number)) at) in
    omega (arith, cases.Variable-within here, length-map point (val_of number))

pub variable-part : {T N : Type 0} (number : N → Val) (scope : Scope) (defined : List Function) (points : List (List (Value N))) (part : Part T N) (position : ℕ) (terms : List Expr) (row : List (Value N)) → part ≡ Var position →
    ArePoints (map (vals_of number) points) → FitsAt scope (map (vals_of number) points) (filled (pattern_of number part) terms) → vals_of number row ≡ map (λ point. value_at_position (vals_of number point) position) points →
    HasRow scope defined (map (vals_of number) points) (filled (pattern_of number part) terms) (vals_of number row)
variable-part number scope defined points part position terms row is each fit made =
    let e = part-variable number part position terms is in
    let whole = variable-row scope defined (map (vals_of number) points) position each (subst (λ term. FitsAt scope (map (vals_of number) points) term) e fit) in
    rw (e, made, mapped-twice (vals_of number) position points) whole

pub place-part : {T N : Type 0} (number : N → Val) (scope : Scope) (defined : List Function) (points : List (List Val)) (part : Part T N) (n : ℕ) (chosen : List (Bor (Kept T N))) (d : Bor (Kept T N)) (row : List (Value N)) → part ≡ Non n →
    AreRows scope defined points (chosen_of number chosen) → 0 < length chosen → row ≡ (get_or chosen 0 d).now.row →
    HasRow scope defined points (filled (pattern_of number part) (covering.terms (chosen_of number chosen))) (vals_of number row)
place-part {T} {N} number scope defined points part n chosen d row is rows some made =
    let e = part-place number part n (covering.terms (chosen_of number chosen)) is in
    let here : slice_get (chosen_of number chosen) 0 ≡ Some (entry_of number (get_or chosen 0 d).now) = slice_get-map (λ (k : Bor (Kept T N)). entry_of number k.now) chosen 0 ∙ ap (option_map (λ (k : Bor (Kept T N)). entry_of number k.now)) (slice_get-get_or chosen 0 d some) in
    rw (e, first-chosen number chosen d some, made) (rows 0 (entry_of number (get_or chosen 0 d).now) here)

-- the row of a part that is an application or a call
pub apply-part-fit : {T N : Type 0} (number : N → Val) (scope : Scope) (points : List (List Val)) (part : Part T N) (operator : Op) (parts : Parts T N) (terms : List Expr) → part ≡ App operator parts →
    FitsAt scope points (filled (pattern_of number part) terms) → FitsAt scope points (Apply operator (all_filled (patterns_of number parts.items.items) terms))
apply-part-fit number scope points part operator parts terms is fit = subst (λ term. FitsAt scope points term) (part-apply number part operator parts terms is) fit

pub call-part-fit : {T N : Type 0} (number : N → Val) (scope : Scope) (points : List (List Val)) (part : Part T N) (definition : ℕ) (parts : Parts T N) (terms : List Expr) → part ≡ Call definition parts →
    FitsAt scope points (filled (pattern_of number part) terms) → FitsAt scope points (Invoke (Defined definition) (all_filled (patterns_of number parts.items.items) terms))
call-part-fit number scope points part definition parts terms is fit = subst (λ term. FitsAt scope points term) (part-invoke number part definition parts terms is) fit

pub apply-part : {T N : Type 0} (number : N → Val) (part : Part T N) (operator : Op) (parts : Parts T N) (terms : List Expr) (P : Expr → Type 0) → part ≡ App operator parts → P (Apply operator (all_filled (patterns_of number parts.items.items) terms)) → P (filled (pattern_of number part) terms)
apply-part number part operator parts terms P is whole = subst P (sym (part-apply number part operator parts terms is)) whole

pub call-part : {T N : Type 0} (number : N → Val) (part : Part T N) (definition : ℕ) (parts : Parts T N) (terms : List Expr) (P : Expr → Type 0) → part ≡ Call definition parts → P (Invoke (Defined definition) (all_filled (patterns_of number parts.items.items) terms)) → P (filled (pattern_of number part) terms)
call-part number part definition parts terms P is whole = subst P (sym (part-invoke number part definition parts terms is)) whole

-- errors that are handed on, and losses
pub handed_on : {X E : Type 0} (P : E → Type 0) (r : Result X E) (end : E) → IsErrAnd r (λ e. e ≡ end) → P end → IfErr r P
handed_on P (Ok x) end told holds = tt
handed_on P (Err e) end told holds = subst P (sym told) holds

pub lost_then : {P Q : ℕ → Type 0} (end : RowEnd) → WhereLost end P → ((k : ℕ) → P k → Q k) → WhereLost end Q
lost_then (Lost point) h f = f point h
lost_then Want h f = tt

pub loss-at : (end : RowEnd) (number : ℕ) (P : ℕ → Type 0) → IsLoss number end → P number → WhereLost end P
loss-at (Lost point) number P is holds = subst P (sym is) holds
loss-at Want number P is holds = tt

-- values at all points are a row
pub row-of : {N : Type 0} (number : N → Val) (scope : Scope) (defined : List Function) (points : List (List (Value N))) (term : Expr) (row : List (Value N)) (n : ℕ) → n ≡ length points → length row ≡ n →
    ((k : ℕ) → k < n → (point : List Val) → slice_get (map (vals_of number) points) k ≡ Some point → HasValue scope defined [] point term (value_at_position (vals_of number row) k)) →
    HasRow scope defined (map (vals_of number) points) term (vals_of number row)
row-of number scope defined points term row n whole sized each = record {
  sized = omega (arith, length-map row (val_of number), length-map points (vals_of number), sized, whole);
  each = λ k point at. each k (omega (arith, slice_get_within (map (vals_of number) points) k point at, length-map points (vals_of number), whole)) point at;
}
