-- A trace: the calls of functions to be found, without repeats, in the order in which they were first asked for.
use Rattle.std.specs.Prelude.{ℕ, Bool, true, false, ◌&&◌, ◌||◌, nat_eq, List, [], ◌∷◌, ◌++◌, ◌≡◌, if◌then◌else◌, take, map}
use Rattle.sy_terms.specs.Values.{Val, same}
use Rattle.sy_terms.specs.Denoted.{vals_of}
use Rattle.sy_terms.specs.declared.sort.Value.{Value}

-- equal lists of values
abbrev pub same_values : List Val → List Val → Bool
same_values [] [] = true
same_values (x ∷ xs) (y ∷ ys) = same x y && same_values xs ys
same_values _ _ = false

-- the trace has this call
abbrev pub has_call : List (ℕ × List Val) → ℕ → List Val → Bool
has_call [] function values = false
has_call (call ∷ calls) function values = (nat_eq call.0 function && same_values call.1 values) || has_call calls function values

-- the trace after one call
abbrev pub traced : List (ℕ × List Val) → ℕ × List Val → List (ℕ × List Val)
traced calls call = if has_call calls call.0 call.1 then calls else calls ++ call ∷ []

-- the trace after these calls, in order
abbrev pub traced_all : List (ℕ × List Val) → List (ℕ × List Val) → List (ℕ × List Val)
traced_all calls [] = calls
traced_all calls (call ∷ more) = traced_all (traced calls call) more

-- the trace has gained each of these calls that it had not, in order
pub record GainsCalls (before asked after : List (ℕ × List Val)) : Type 0 where
  pub is : after ≡ traced_all before asked

-- the trace after the first of these calls, up to one of them
pub record TracedSome (before asked after : List (ℕ × List Val)) : Type 0 where
  pub count : ℕ
  pub is : after ≡ traced_all before (take count asked)

-- kept calls, as what they stand for
abbrev pub call_of : {N : Type 0} → (N → Val) → ℕ × List (Value N) → ℕ × List Val
call_of number call = (call.0, vals_of number call.1)

abbrev pub calls_of : {N : Type 0} → (N → Val) → List (ℕ × List (Value N)) → List (ℕ × List Val)
calls_of number calls = map (call_of number) calls
