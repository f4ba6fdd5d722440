-- What is known of the circuit of a term, by the circuits of its parts.
use Rattle.std.specs.Prelude.{ℕ, ◌+◌, ◌*◌, ◌^◌, ◌≤◌, ◌<◌, ◌≡◌, Bool, true, max, List, [], ◌∷◌, ◌++◌, refl, Some, length}
use Rattle.std.proofs.Common.{arith, ap, sym, ◌∙◌, subst, get_or, take}
use Rattle.std.proofs.lemmas.List.{map-append, get_or-map, length-map, take_all}
use Rattle.std.proofs.lemmas.List.Elements.{All-nil, All-cons, All-append, All-get_or}
use Rattle.sy_terms.specs.Values.{Val}
use Rattle.sy_terms.specs.Expr.{Expr, Exprs, Constant, Variable, Apply, Bind}
use Rattle.sy_terms.specs.Denoted.{val_of, expr_of, exprs_of, expr_of-Const, expr_of-Var}
use Rattle.sy_terms.specs.Fitting.{sort_in, sorts_in}
use Rattle.sy_terms.specs.Meaning.{meaning, meanings}
use Rattle.sy_terms.specs.Operators.{op_value}
use Rattle.sy_terms.specs.Theories.{sort_of_value}
use Rattle.sy_terms.specs.declared.op.Op.{Op}
use Rattle.sy_terms.specs.declared.sort.Value.{Value}
use Rattle.sy_terms.specs.declared.term.Fun.{Fun}
use Rattle.sy_terms.specs.declared.term.Term.{Term, Const, Var, App, Call, Let}
use Rattle.sy_terms.specs.declared.term.Terms.{Terms}
use Rattle.std.specs.declared.boxed.Box.{Box}
use Rattle.std.specs.declared.alloc.Global.{Global}
use Rattle.sy_terms_operators.proofs.Steps.{app-is, call-is, let-is}
use Rattle.sy_meaning_words.specs.Vectors.{owned, TakesSorts}
use Rattle.sy_gates.specs.Circuits.{Plan, variables, FollowsPlan, GrownCircuit}
use Rattle.sy_gates.proofs.Gates.{grown-refl, grown-trans}
use Rattle.sy_bits_operators.specs.declared.signal.Signal.{Signal}
use Rattle.sy_bits_operators.specs.Signals.{signal_value, signal_values, signal_sort, signal_sorts, signal_bound, signals_bound, sort_width, total_width, has_signals, AllHaveSignals}
use Rattle.sy_bits_operators.specs.Costs.{gates}
use Rattle.sy_bits_operators.proofs.Kept.{kept}
use Rattle.sy_bits_operators.proofs.Rows.{bound-at, bound-last}
use Rattle.sy_bits_operators.proofs.Folds.{value-sort}
use Rattle.sy_bits_circuit.specs.Fitting.{scope, TermHasSort, HaveSorts, most_gates, all_most_gates}
use Rattle.sy_bits_circuit.proofs.TermsReading.{total_width-last}
use Rattle.sy_bits_circuit.proofs.Parts as law
use Rattle.sy_bits_circuit.proofs.Rows as row

-- the signal stands for the term, in the circuit that has grown
pub record Encoded (old new : Plan) (signals : List Signal) (term : Expr) (signal : Signal) : Type 0 where
  pub grown : GrownCircuit old new
  pub cost : variables new + 5 * sort_width (signal_sort signal) ≤ variables old + most_gates (signal_sorts signals) term
  pub inside : signal_bound signal ≤ variables new
  pub sort : sort_in scope (signal_sorts signals) term ≡ Some (signal_sort signal)
  pub has : has_signals (signal_sort signal) ≡ true
  pub value : (v : ℕ → Bool) → FollowsPlan v new → signal_value v signal ≡ meaning [] [] (signal_values v signals) term

-- each signal stands for its term
pub record AllEncoded (old new : Plan) (signals : List Signal) (terms : Exprs) (found : List Signal) : Type 0 where
  pub grown : GrownCircuit old new
  pub cost : variables new + 5 * total_width (signal_sorts found) ≤ variables old + all_most_gates (signal_sorts signals) terms
  pub inside : signals_bound found ≤ variables new
  pub sorts : sorts_in scope (signal_sorts signals) terms ≡ Some (signal_sorts found)
  pub have : AllHaveSignals (signal_sorts found)
  pub value : (v : ℕ → Bool) → FollowsPlan v new → signal_values v found ≡ meanings [] [] (signal_values v signals) terms

-- a constant

constant-meaning : (values : List Val) (value : Val) → meaning [] [] values (Constant value) ≡ value
unfolding meaning
constant-meaning values value = refl

pub constant : (circuit : Plan) (signals : List Signal) (value : Val) (signal : Signal) → TermHasSort (signal_sorts signals) (Constant value) → signal_bound signal ≡ 0 → signal_sort signal ≡ sort_of_value value → has_signals (signal_sort signal) ≡ true → ((v : ℕ → Bool) → signal_value v signal ≡ value) → Encoded circuit circuit signals (Constant value) signal
constant circuit signals value signal fit bound is has says =
    let sorted : sort_in scope (signal_sorts signals) (Constant value) ≡ Some (signal_sort signal) = law.constant-sort (signal_sorts signals) value fit ∙ ap Some (sym is) in
    let light = law.leaf-Constant (signal_sorts signals) value (signal_sort signal) sorted in
    record {
      grown = grown-refl circuit;
      cost = omega (arith, light);
      inside = omega (arith, bound);
      sort = sorted;
      has = has;
      value = λ v f. says v ∙ sym (constant-meaning (signal_values v signals) value);
    }

-- a variable

sort-at : (signals : List Signal) (i : ℕ) (signal : Signal) → i < length signals → signal ≡ get_or signals i signal → get_or (signal_sorts signals) i (signal_sort signal) ≡ signal_sort signal
sort-at signals i signal h e = get_or-map signal_sort signals i signal (signal_sort signal) h ∙ ap signal_sort (sym e)

value-at : (v : ℕ → Bool) (signals : List Signal) (i : ℕ) (signal : Signal) → i < length signals → signal ≡ get_or signals i signal → get_or (signal_values v signals) i (signal_value v signal) ≡ signal_value v signal
value-at v signals i signal h e = get_or-map (signal_value v) signals i signal (signal_value v signal) h ∙ ap (signal_value v) (sym e)

pub variable-within : (signals : List Signal) (position : ℕ) → TermHasSort (signal_sorts signals) (Variable position) → position < length signals
variable-within signals position fit = omega (arith, law.variable-within (signal_sorts signals) position fit, length-map signals signal_sort)

pub variable : (circuit : Plan) (signals : List Signal) (position : ℕ) (signal : Signal) → TermHasSort (signal_sorts signals) (Variable position) → AllHaveSignals (signal_sorts signals) → signals_bound signals ≤ variables circuit → signal ≡ get_or signals position signal → Encoded circuit circuit signals (Variable position) signal
variable circuit signals position signal fit all inside e =
    let h : position < length signals = variable-within signals position fit in
    let within : position < length (signal_sorts signals) = law.variable-within (signal_sorts signals) position fit in
    let here : get_or (signal_sorts signals) position (signal_sort signal) ≡ signal_sort signal = sort-at signals position signal h e in
    let sorted : sort_in scope (signal_sorts signals) (Variable position) ≡ Some (signal_sort signal) = law.variable-sort (signal_sorts signals) position (signal_sort signal) within ∙ ap Some here in
    let light = law.leaf-Variable (signal_sorts signals) position (signal_sort signal) sorted in
    let low : signal_bound (get_or signals position signal) ≤ signals_bound signals = bound-at signals position signal h in
    let same : signal_bound signal ≡ signal_bound (get_or signals position signal) = ap signal_bound e in
    let has : has_signals (get_or (signal_sorts signals) position (signal_sort signal)) ≡ true = All-get_or (λ sort. has_signals sort ≡ true) (signal_sorts signals) position (signal_sort signal) within all in
    record {
      grown = grown-refl circuit;
      cost = omega (arith, light);
      inside = omega (arith, same, low, inside);
      sort = sorted;
      has = ap has_signals (sym here) ∙ has;
      value = λ v f. sym (law.variable-meaning (signal_values v signals) position (signal_value v signal) (omega (arith, h, length-map signals (signal_value v))) ∙ value-at v signals position signal h e);
    }

-- an application

-- what the operator's circuit asks for
pub record Applies (op : Op) (found : List Signal) (now : Plan) : Type 0 where
  pub owned : owned op ≡ true
  pub takes : TakesSorts op (signal_sorts found)
  pub room : variables now + gates op (signal_sorts found) < 2 ^ 31

accepted : (signals : List Signal) (op : Op) (arguments : Exprs) (old mid : Plan) (found : List Signal) (fit : TermHasSort (signal_sorts signals) (Apply op arguments)) → AllEncoded old mid signals arguments found → law.Accepts op (signal_sorts found) fit.sort
accepted signals op arguments old mid found fit e = law.accepts (signal_sorts signals) op arguments (signal_sorts found) e.sorts fit

afforded : (signals : List Signal) (op : Op) (arguments : Exprs) (old mid : Plan) (found : List Signal) (fit : TermHasSort (signal_sorts signals) (Apply op arguments)) → AllEncoded old mid signals arguments found → law.Afforded (signal_sorts signals) (Apply op arguments) (variables old) (variables mid) (gates op (signal_sorts found)) (sort_width fit.sort)
afforded signals op arguments old mid found fit e =
    let a = accepted signals op arguments old mid found fit e in
    law.afforded (signal_sorts signals) op arguments (signal_sorts found) fit.sort (variables old) (variables mid) e.sorts fit.is a e.have (kept op (signal_sorts found) fit.sort a.owned a.fits e.have) e.cost

pub applies : (signals : List Signal) (op : Op) (arguments : Exprs) (old mid : Plan) (found : List Signal) → TermHasSort (signal_sorts signals) (Apply op arguments) → variables old + most_gates (signal_sorts signals) (Apply op arguments) < 2 ^ 31 → AllEncoded old mid signals arguments found → Applies op found mid
applies signals op arguments old mid found fit room e =
    let a = accepted signals op arguments old mid found fit e in
    let cost = (afforded signals op arguments old mid found fit e).room in
    record { owned = a.owned; takes = law.is-taken op (signal_sorts found) fit.sort a; room = omega (arith, cost, room) }

pub application : (signals : List Signal) (op : Op) (arguments : Exprs) (old mid new : Plan) (found : List Signal) (signal : Signal) → TermHasSort (signal_sorts signals) (Apply op arguments) → AllEncoded old mid signals arguments found → GrownCircuit mid new → variables new ≤ variables mid + gates op (signal_sorts found) → signal_bound signal ≤ variables new → ((v : ℕ → Bool) → signal_sort signal ≡ sort_of_value (op_value op (signal_values v found))) → ((v : ℕ → Bool) → FollowsPlan v new → signal_value v signal ≡ op_value op (signal_values v found)) → Encoded old new signals (Apply op arguments) signal
application signals op arguments old mid new found signal fit e grown cost inside sort says =
    let a = accepted signals op arguments old mid found fit e in
    let room = (afforded signals op arguments old mid found fit e).room in
    let is : signal_sort signal ≡ fit.sort = sort (λ n. true) ∙ value-sort op (λ n. true) found fit.sort a.fits in
    let wide : sort_width (signal_sort signal) ≡ sort_width fit.sort = ap sort_width is in
    record {
      grown = grown-trans old mid new e.grown grown;
      cost = omega (arith, room, cost, wide);
      inside = inside;
      sort = fit.is ∙ ap Some (sym is);
      has = ap has_signals is ∙ kept op (signal_sorts found) fit.sort a.owned a.fits e.have;
      value = λ v f. says v f ∙ law.apply-meaning (signal_values v signals) op arguments (signal_values v found) (e.value v (grown.keeps v f));
    }

-- a binding

bound-both : (first second : List Signal) → signals_bound (first ++ second) ≡ max (signals_bound first) (signals_bound second)
bound-both [] second = omega arith
bound-both (signal ∷ first) second = omega (arith, bound-both first second)

-- what the circuit of the inner term asks for
pub record Enters (signals : List Signal) (inner : Expr) (now : Plan) : Type 0 where
  pub fits : TermHasSort (signal_sorts signals) inner
  pub sorts : AllHaveSignals (signal_sorts signals)
  pub inside : signals_bound signals ≤ variables now
  pub room : variables now + most_gates (signal_sorts signals) inner < 2 ^ 31

pub enters : (signals : List Signal) (bound : Exprs) (inner : Expr) (old mid : Plan) (found : List Signal) → TermHasSort (signal_sorts signals) (Bind bound inner) → AllHaveSignals (signal_sorts signals) → signals_bound signals ≤ variables old → variables old + most_gates (signal_sorts signals) (Bind bound inner) < 2 ^ 31 → AllEncoded old mid signals bound found → Enters (signals ++ found) inner mid
enters signals bound inner old mid found fit all inside room e =
    let ss = signal_sorts signals in
    let ts = signal_sorts found in
    let both : signal_sorts (signals ++ found) ≡ ss ++ ts = map-append signal_sort signals found in
    let more : variables old ≤ variables mid = e.grown.more in
    record {
      fits = subst (λ us. TermHasSort us inner) (sym both) (law.inner-fit ss bound inner ts e.sorts fit);
      sorts = subst AllHaveSignals (sym both) (All-append (λ sort. has_signals sort ≡ true) ss ts all e.have);
      inside = omega (arith, bound-both signals found, inside, more, e.inside);
      room = subst (λ us. variables mid + most_gates us inner < 2 ^ 31) (sym both) (law.inner-room ss bound inner ts (variables old) (variables mid) (2 ^ 31) e.sorts e.cost room);
    }

pub binding : (signals : List Signal) (bound : Exprs) (inner : Expr) (old mid new : Plan) (found : List Signal) (signal : Signal) → AllEncoded old mid signals bound found → Encoded mid new (signals ++ found) inner signal → Encoded old new signals (Bind bound inner) signal
binding signals bound inner old mid new found signal e i =
    let ss = signal_sorts signals in
    let ts = signal_sorts found in
    let both : signal_sorts (signals ++ found) ≡ ss ++ ts = map-append signal_sort signals found in
    record {
      grown = grown-trans old mid new e.grown i.grown;
      cost = law.bind-cost ss bound inner ts (variables old) (variables mid) (variables new) (sort_width (signal_sort signal)) e.sorts e.cost (subst (λ us. variables new + 5 * sort_width (signal_sort signal) ≤ variables mid + most_gates us inner) both i.cost);
      inside = i.inside;
      sort = law.sort-Bind ss bound inner ts (signal_sort signal) e.sorts (subst (λ us. sort_in scope us inner ≡ Some (signal_sort signal)) both i.sort);
      has = i.has;
      value = λ v f.
          i.value v f
          ∙ ap (λ values. meaning [] [] values inner) (map-append (signal_value v) signals found)
          ∙ law.bind-meaning (signal_values v signals) bound inner (signal_values v found) (e.value v (i.grown.keeps v f));
    }

-- terms, one by one

pub no-terms : (T : Type 0) {N : Type 0} (number : N → Val) (circuit : Plan) (signals : List Signal) → let list : List (Term T N) = [] in AllEncoded circuit circuit signals (exprs_of number list) []
no-terms T number circuit signals = record {
  grown = grown-refl circuit;
  cost = omega arith;
  inside = omega arith;
  sorts = row.none-sorts T number (signal_sorts signals);
  have = All-nil (λ sort. has_signals sort ≡ true);
  value = λ v f. row.none-meanings T number (signal_values v signals);
}

pub one-more : {T N : Type 0} (number : N → Val) (signals : List Signal) (list : List (Term T N)) (i : ℕ) (term : Term T N) (old mid new : Plan) (found : List Signal) (signal : Signal) → i < length list → term ≡ get_or list i term → AllEncoded old mid signals (exprs_of number (take i list)) found → Encoded mid new signals (expr_of number term) signal → AllEncoded old new signals (exprs_of number (take (i + 1) list)) (found ++ signal ∷ [])
one-more number signals list i term old mid new found signal h is e one =
    let ss = signal_sorts signals in
    let last : signal_sorts (found ++ signal ∷ []) ≡ signal_sorts found ++ signal_sort signal ∷ [] = map-append signal_sort found (signal ∷ []) in
    let wide : total_width (signal_sorts (found ++ signal ∷ [])) ≡ total_width (signal_sorts found) + sort_width (signal_sort signal) = ap total_width last ∙ total_width-last (signal_sorts found) (signal_sort signal) in
    let cost = row.row-cost number ss list i term (variables old) (variables mid) (variables new) (5 * total_width (signal_sorts found)) (5 * sort_width (signal_sort signal)) h is e.cost one.cost in
    let more : variables mid ≤ variables new = one.grown.more in
    record {
      grown = grown-trans old mid new e.grown one.grown;
      cost = omega (arith, wide, cost);
      inside = omega (arith, bound-last found signal, e.inside, one.inside, more);
      sorts = row.sorts-more number ss list i term (signal_sorts found) (signal_sort signal) h is e.sorts one.sort ∙ ap Some (sym last);
      have = subst AllHaveSignals (sym last) (All-append (λ sort. has_signals sort ≡ true) (signal_sorts found) (signal_sort signal ∷ []) e.have (All-cons (λ sort. has_signals sort ≡ true) (signal_sort signal) [] one.has (All-nil (λ sort. has_signals sort ≡ true))));
      value = λ v f.
          map-append (signal_value v) found (signal ∷ [])
          ∙ ap (λ values. values ++ signal_value v signal ∷ []) (e.value v (one.grown.keeps v f))
          ∙ ap (λ x. meanings [] [] (signal_values v signals) (exprs_of number (take i list)) ++ x ∷ []) (one.value v f)
          ∙ sym (row.meanings-more number (signal_values v signals) list i term h is);
    }

-- what the circuit of the next term asks for
pub next-enters : {T N : Type 0} (number : N → Val) (old mid : Plan) (signals now : List Signal) (list all : List (Term T N)) (i : ℕ) (term : Term T N) (found : List Signal) → now ≡ signals → list ≡ all → i < length list → term ≡ get_or list i term → HaveSorts (signal_sorts signals) (exprs_of number all) → AllHaveSignals (signal_sorts signals) → signals_bound signals ≤ variables old → variables old + all_most_gates (signal_sorts signals) (exprs_of number all) < 2 ^ 31 → AllEncoded old mid signals (exprs_of number (take i list)) found → Enters now (expr_of number term) mid
next-enters number old mid signals now list all i term found kept listed h is fit sorts inside room e =
    let ss = signal_sorts signals in
    let here : HaveSorts ss (exprs_of number list) = rw listed fit in
    let most : variables old + all_most_gates ss (exprs_of number list) < 2 ^ 31 = rw listed room in
    let more : variables old ≤ variables mid = e.grown.more in
    rw kept (record {
      fits = row.fits-at number ss list i term h is here;
      sorts = sorts;
      inside = omega (arith, inside, more);
      room = row.term-room number ss list i term (variables old) (variables mid) (5 * total_width (signal_sorts found)) (2 ^ 31) h is e.cost most;
    })

pub next-encoded : {T N : Type 0} (number : N → Val) (old mid new : Plan) (signals now : List Signal) (list : List (Term T N)) (i : ℕ) (term : Term T N) (found after : List Signal) (signal : Signal) → now ≡ signals → after ≡ found ++ signal ∷ [] → i < length list → term ≡ get_or list i term → AllEncoded old mid signals (exprs_of number (take i list)) found → Encoded mid new now (expr_of number term) signal → AllEncoded old new signals (exprs_of number (take (i + 1) list)) after
next-encoded number old mid new signals now list i term found after signal kept longer h is e one =
    let here : Encoded mid new signals (expr_of number term) signal = rw kept at one in
    rw longer (one-more number signals list i term old mid new found signal h is e here)

pub all-encoded : {T N : Type 0} (number : N → Val) (old new : Plan) (signals : List Signal) (list all : List (Term T N)) (i : ℕ) (found : List Signal) → list ≡ all → length list ≤ i → AllEncoded old new signals (exprs_of number (take i list)) found → AllEncoded old new signals (exprs_of number all) found
all-encoded number old new signals list all i found listed h e =
    let whole : take i list ≡ all = take_all i list h ∙ listed in
    subst (λ xs. AllEncoded old new signals (exprs_of number xs) found) whole e

-- the same of a term, by its form

const-is : {T N : Type 0} (number : N → Val) (term : Term T N) (value : Value N) → term ≡ Const value → expr_of number term ≡ Constant (val_of number value)
const-is {T} number term value is = ap (expr_of number) is ∙ expr_of-Const T number value

var-is : {T N : Type 0} (number : N → Val) (term : Term T N) (position : ℕ) → term ≡ Var position → expr_of number term ≡ Variable position
var-is {T} number term position is = ap (expr_of number) is ∙ expr_of-Var T number position

pub const-encoded : {T N : Type 0} (number : N → Val) (circuit : Plan) (signals : List Signal) (term : Term T N) (value : Value N) (signal : Signal) → term ≡ Const value → TermHasSort (signal_sorts signals) (expr_of number term) → signal_bound signal ≡ 0 → signal_sort signal ≡ sort_of_value (val_of number value) → has_signals (signal_sort signal) ≡ true → ((v : ℕ → Bool) → signal_value v signal ≡ val_of number value) → Encoded circuit circuit signals (expr_of number term) signal
const-encoded number circuit signals term value signal is fit bound sort has says =
    let same = const-is number term value is in
    subst (λ e. Encoded circuit circuit signals e signal) (sym same) (constant circuit signals (val_of number value) signal (subst (TermHasSort (signal_sorts signals)) same fit) bound sort has says)

pub var-within : {T N : Type 0} (number : N → Val) (signals : List Signal) (term : Term T N) (position : ℕ) → term ≡ Var position → TermHasSort (signal_sorts signals) (expr_of number term) → position < length signals
var-within number signals term position is fit = variable-within signals position (subst (TermHasSort (signal_sorts signals)) (var-is number term position is) fit)

pub var-encoded : {T N : Type 0} (number : N → Val) (circuit : Plan) (signals : List Signal) (term : Term T N) (position : ℕ) (original signal : Signal) → term ≡ Var position → TermHasSort (signal_sorts signals) (expr_of number term) → AllHaveSignals (signal_sorts signals) → signals_bound signals ≤ variables circuit → signal ≡ original → original ≡ get_or signals position original → Encoded circuit circuit signals (expr_of number term) signal
var-encoded number circuit signals term position original signal is fit all inside copied found =
    let same = var-is number term position is in
    let at : signal ≡ get_or signals position signal = subst (λ x. x ≡ get_or signals position x) (sym copied) found in
    subst (λ e. Encoded circuit circuit signals e signal) (sym same) (variable circuit signals position signal (subst (TermHasSort (signal_sorts signals)) same fit) all inside at)

-- what the circuits of an application's arguments ask for
pub record Asks (circuit : Plan) (signals : List Signal) (terms : Exprs) : Type 0 where
  pub fit : HaveSorts (signal_sorts signals) terms
  pub room : variables circuit + all_most_gates (signal_sorts signals) terms < 2 ^ 31

pub app-asks : {T N : Type 0} (number : N → Val) (circuit : Plan) (signals : List Signal) (term : Term T N) (op : Op) (arguments : Terms T N) → term ≡ App op arguments → TermHasSort (signal_sorts signals) (expr_of number term) → variables circuit + most_gates (signal_sorts signals) (expr_of number term) < 2 ^ 31 → Asks circuit signals (exprs_of number arguments.items.items)
app-asks number circuit signals term op arguments is fit room =
    let same = app-is number term op arguments is in
    let ss = signal_sorts signals in
    let applied = subst (TermHasSort ss) same fit in
    let some = law.arguments-fit ss op (exprs_of number arguments.items.items) applied in
    record {
      fit = some;
      room = law.arguments-room ss op (exprs_of number arguments.items.items) some.found applied.sort (variables circuit) (2 ^ 31) some.are applied.is (subst (λ e. variables circuit + most_gates ss e < 2 ^ 31) same room);
    }

pub app-applies : {T N : Type 0} (number : N → Val) (old mid : Plan) (signals : List Signal) (term : Term T N) (op : Op) (arguments : Terms T N) (found list : List Signal) → term ≡ App op arguments → list ≡ found → TermHasSort (signal_sorts signals) (expr_of number term) → variables old + most_gates (signal_sorts signals) (expr_of number term) < 2 ^ 31 → AllEncoded old mid signals (exprs_of number arguments.items.items) found → Applies op list mid
app-applies number old mid signals term op arguments found list is listed fit room e =
    let same = app-is number term op arguments is in
    let ss = signal_sorts signals in
    subst (λ xs. Applies op xs mid) (sym listed) (applies signals op (exprs_of number arguments.items.items) old mid found (subst (TermHasSort ss) same fit) (subst (λ e. variables old + most_gates ss e < 2 ^ 31) same room) e)

-- what the operator's circuit says of its signal
pub record IsApplied (mid new : Plan) (op : Op) (found : List Signal) (signal : Signal) : Type 0 where
  pub grown : GrownCircuit mid new
  pub cost : variables new ≤ variables mid + gates op (signal_sorts found)
  pub inside : signal_bound signal ≤ variables new
  pub sort : (v : ℕ → Bool) → signal_sort signal ≡ sort_of_value (op_value op (signal_values v found))
  pub value : (v : ℕ → Bool) → FollowsPlan v new → signal_value v signal ≡ op_value op (signal_values v found)

pub app-encoded : {T N : Type 0} (number : N → Val) (old mid new : Plan) (signals : List Signal) (term : Term T N) (op : Op) (arguments : Terms T N) (found list : List Signal) (signal : Signal) → term ≡ App op arguments → list ≡ found → TermHasSort (signal_sorts signals) (expr_of number term) → AllEncoded old mid signals (exprs_of number arguments.items.items) found → IsApplied mid new op list signal → Encoded old new signals (expr_of number term) signal
app-encoded number old mid new signals term op arguments found list signal is listed fit e all =
    let same = app-is number term op arguments is in
    let a : IsApplied mid new op found signal = subst (λ xs. IsApplied mid new op xs signal) listed all in
    subst (λ e. Encoded old new signals e signal) (sym same) (application signals op (exprs_of number arguments.items.items) old mid new found signal (subst (TermHasSort (signal_sorts signals)) same fit) e a.grown a.cost a.inside a.sort a.value)

pub no-call : {T N : Type 0} (number : N → Val) (signals : List Signal) (term : Term T N) (function : Fun) (arguments : Terms T N) → term ≡ Call function arguments → TermHasSort (signal_sorts signals) (expr_of number term) → ⊥
no-call number signals term function arguments is fit = law.no-call (signal_sorts signals) function (exprs_of number arguments.items.items) (subst (TermHasSort (signal_sorts signals)) (call-is number term function arguments is) fit)

pub let-asks : {T N : Type 0} (number : N → Val) (circuit : Plan) (signals : List Signal) (term : Term T N) (bound : Terms T N) (inner : Box (Term T N) Global) → term ≡ Let bound inner → TermHasSort (signal_sorts signals) (expr_of number term) → variables circuit + most_gates (signal_sorts signals) (expr_of number term) < 2 ^ 31 → Asks circuit signals (exprs_of number bound.items.items)
let-asks number circuit signals term bound inner is fit room =
    let same = let-is number term bound inner is in
    let ss = signal_sorts signals in
    let bounds = exprs_of number bound.items.items in
    let some = law.bound-fit ss bounds (expr_of number inner.value) (subst (TermHasSort ss) same fit) in
    record {
      fit = some;
      room = law.bound-room ss bounds (expr_of number inner.value) some.found (variables circuit) (2 ^ 31) some.are (subst (λ e. variables circuit + most_gates ss e < 2 ^ 31) same room);
    }

pub let-enters : {T N : Type 0} (number : N → Val) (old mid : Plan) (signals : List Signal) (term : Term T N) (bound : Terms T N) (inner : Box (Term T N) Global) (found middle list : List Signal) (here : Term T N) → term ≡ Let bound inner → middle ≡ signals → list ≡ middle ++ found → here ≡ inner.value → TermHasSort (signal_sorts signals) (expr_of number term) → AllHaveSignals (signal_sorts signals) → signals_bound signals ≤ variables old → variables old + most_gates (signal_sorts signals) (expr_of number term) < 2 ^ 31 → AllEncoded old mid signals (exprs_of number bound.items.items) found → Enters list (expr_of number here) mid
let-enters number old mid signals term bound inner found middle list here is kept longer at fit all inside room e =
    let same = let-is number term bound inner is in
    let ss = signal_sorts signals in
    rw (longer, kept, at) (enters signals (exprs_of number bound.items.items) (expr_of number inner.value) old mid found (subst (TermHasSort ss) same fit) all inside (subst (λ e. variables old + most_gates ss e < 2 ^ 31) same room) e)

pub let-encoded : {T N : Type 0} (number : N → Val) (old mid new : Plan) (signals : List Signal) (term : Term T N) (bound : Terms T N) (inner : Box (Term T N) Global) (found middle list : List Signal) (here : Term T N) (signal : Signal) → term ≡ Let bound inner → middle ≡ signals → list ≡ middle ++ found → here ≡ inner.value → AllEncoded old mid signals (exprs_of number bound.items.items) found → Encoded mid new list (expr_of number here) signal → Encoded old new signals (expr_of number term) signal
let-encoded number old mid new signals term bound inner found middle list here signal is kept longer at e i =
    let inside : Encoded mid new (signals ++ found) (expr_of number inner.value) signal = rw (longer, kept, at) at i in
    subst (λ e. Encoded old new signals e signal) (sym (let-is number term bound inner is)) (binding signals (exprs_of number bound.items.items) (expr_of number inner.value) old mid new found signal e inside)
