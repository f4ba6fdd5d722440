use Rattle.std.specs.Prelude.{◌≡◌, ℕ, Bool, ◌+◌, ◌*◌, ◌≤◌, ◌&&◌, not, max, cond, List, [], ◌∷◌, length}
use Rattle.sy_clauses.specs.declared.Lit.{Lit}
use Rattle.sy_gates.specs.declared.gate.Bit.{Bit}
use Rattle.sy_gates.specs.declared.gate.Bit.TheVariants.{Fixed, Of}
use Rattle.sy_gates.specs.declared.gate.Gate.{Gate}
use Rattle.sy_gates.specs.declared.gate.Gate.TheVariants.{Constant, And, Xor, Choose}

-- A circuit: how many of its variables are inputs, and the gates that make the other variables, in order.
pub record Plan : Type 0 where
  pub inputs : ℕ
  pub gates : List Gate

-- How many variables a circuit has.
abbrev pub variables : Plan → ℕ
variables p = p.inputs + length p.gates

-- One more than a literal's variable.
abbrev pub lit_bound : Lit → ℕ
lit_bound l = l.var + 1

-- The truth value of a literal where `v` gives each variable a truth value.
abbrev pub lit_value : (ℕ → Bool) → Lit → Bool
lit_value v l = cond l.positive (v l.var) (not (v l.var))

abbrev pub bit_value : (ℕ → Bool) → Bit → Bool
bit_value v (Fixed b) = b
bit_value v (Of l) = lit_value v l

-- A bit as the number 1 or 0.
abbrev pub bit_number : (ℕ → Bool) → Bit → ℕ
bit_number v b = cond (bit_value v b) 1 0

-- A number that is above each variable of a bit.
abbrev pub bit_bound : Bit → ℕ
bit_bound (Fixed b) = 0
bit_bound (Of l) = lit_bound l

-- Whether two truth values differ.
abbrev pub xor : Bool → Bool → Bool
xor a b = cond a (not b) b

-- The truth value that a gate makes.
abbrev pub gate_value : (ℕ → Bool) → Gate → Bool
gate_value v (Constant b) = b
gate_value v (And a b) = lit_value v a && lit_value v b
gate_value v (Xor a b) = xor (lit_value v a) (lit_value v b)
gate_value v (Choose c a b) = cond (lit_value v c) (lit_value v a) (lit_value v b)

-- A number that is above each variable that a gate reads.
abbrev pub gate_bound : Gate → ℕ
gate_bound (Constant b) = 0
gate_bound (And a b) = max (lit_bound a) (lit_bound b)
gate_bound (Xor a b) = max (lit_bound a) (lit_bound b)
gate_bound (Choose c a b) = max (lit_bound c) (max (lit_bound a) (lit_bound b))

-- Each gate reads only variables below its own, the first gate's being `first`.
abbrev pub InOrder : ℕ → List Gate → Type 0
InOrder first [] = Unit {0}
InOrder first (g ∷ gs) = (gate_bound g ≤ first) × InOrder (first + 1) gs

-- `v` gives the variable of each gate the truth value that the gate makes, the first gate's being `first`.
abbrev pub Obeys : (ℕ → Bool) → ℕ → List Gate → Type 0
Obeys v first [] = Unit {0}
Obeys v first (g ∷ gs) = (v first ≡ gate_value v g) × Obeys v (first + 1) gs

-- `v` gives each variable of a circuit that a gate makes the truth value that it makes.
pub record FollowsPlan (v : ℕ → Bool) (p : Plan) : Type 0 where
  pub obeys : Obeys v p.inputs p.gates

-- The circuit `new` is `old` with gates added.
pub record GrownCircuit (old new : Plan) : Type 0 where
  pub same_inputs : new.inputs ≡ old.inputs
  pub more : variables old ≤ variables new
  pub keeps : (v : ℕ → Bool) → FollowsPlan v new → FollowsPlan v old

-- The number of a word, whose least bit stands first.
abbrev pub word_number : (ℕ → Bool) → List Bit → ℕ
word_number v [] = 0
word_number v (b ∷ bs) = bit_number v b + 2 * word_number v bs

-- A number that is above each variable of a word.
abbrev pub word_bound : List Bit → ℕ
word_bound [] = 0
word_bound (b ∷ bs) = max (bit_bound b) (word_bound bs)

-- A number that is above each variable of a clause.
abbrev pub clause_bound : List Lit → ℕ
clause_bound [] = 0
clause_bound (l ∷ c) = max (lit_bound l) (clause_bound c)

-- A number that is above each variable of some clauses.
abbrev pub clauses_bound : List (List Lit) → ℕ
clauses_bound [] = 0
clauses_bound (c ∷ cs) = max (clause_bound c) (clauses_bound cs)
