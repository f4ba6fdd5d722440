-- The answers of a run over either theory: their replies, and which fails may be among them.
use Rattle.std.specs.Prelude.{ℕ, Bool, true, false, ◌≡◌, List, [], ◌∷◌, ◌++◌, map, All, ⊤, Option, Some, None}
use Rattle.sy_terms.specs.Values.{Whole}
use Rattle.sy_terms.specs.declared.sort.Logic.{Logic}
use Rattle.sy_terms.specs.declared.sort.Logic.TheVariants.{Lia, Bv}
use Rattle.sy_meaning_words.specs.Vectors as vectors
use Rattle.sy_query_limits.specs.declared.FailName.{FailName}
use Rattle.sy_query_limits.specs.declared.FailName.TheVariants as names
use Rattle.sy_linear_known.specs.Stored.{tree_shape_of}
use Rattle.sy_linear_known.specs.declared.tree.Tree.{Tree}
use Rattle.sy_intsolve_cuts.specs.Budgets as int_budgets
use Rattle.sy_bits.specs.Proofs as bits
use Rattle.sy_bits.specs.declared.answers.BvProof.{BvProof}
use Rattle.sy_text.specs.Spelling.{item_text}
use Rattle.sy_proof.specs.Logs.{log_item}
use Rattle.sy_proof.specs.Trees.{tree_item}
use Rattle.sygus_replies.specs.Replies.{Reply, Defined, Infeasible, Failed, Shown, reply_of, shown_of, if_asked}
use Rattle.sygus_answers.specs.declared.answers.Answers.{Answers}
use Rattle.sygus_answers.specs.declared.answers.Answers.TheVariants.{Idle, Ints, Bits, IntChecks, BitChecks, IntRechecks, BitRechecks, IntSpellings, BitSpellings}

-- the replies to the first problems; a judgement of a reply is none
abbrev pub replies_of : Answers → List Reply
replies_of Idle = []
replies_of (Ints outcomes) = map (reply_of Whole int_budgets.budget) outcomes
replies_of (Bits outcomes) = map (reply_of vectors.vector bits.budget) outcomes
replies_of (IntChecks found) = []
replies_of (BitChecks found) = []
replies_of (IntRechecks found) = []
replies_of (BitRechecks found) = []
replies_of (IntSpellings found) = []
replies_of (BitSpellings found) = []

-- the lines of proofs
abbrev pub tree_line : Tree → List ℕ
tree_line tree = item_text (tree_item (tree_shape_of tree)) ++ 10 ∷ []

abbrev pub log_line : BvProof → List ℕ
log_line proof = item_text (log_item proof.log.lines) ++ 10 ∷ []

-- the replies as they are shown, with the lines of proofs where these are asked for
abbrev pub shown_in : Bool → Answers → List Shown
shown_in proofs Idle = []
shown_in proofs (Ints outcomes) = map (shown_of Whole int_budgets.budget (if_asked proofs tree_line)) outcomes
shown_in proofs (Bits outcomes) = map (shown_of vectors.vector bits.budget (if_asked proofs log_line)) outcomes
shown_in proofs (IntChecks found) = []
shown_in proofs (BitChecks found) = []
shown_in proofs (IntRechecks found) = []
shown_in proofs (BitRechecks found) = []
shown_in proofs (IntSpellings found) = []
shown_in proofs (BitSpellings found) = []

-- they are over the theory of the file's logic; where no logic was set, there are none
abbrev pub AreOfLogic : Option Logic → Answers → Type 0
AreOfLogic logic Idle = logic ≡ None
AreOfLogic logic (Ints outcomes) = logic ≡ Some Lia
AreOfLogic logic (Bits outcomes) = logic ≡ Some Bv
AreOfLogic logic (IntChecks found) = logic ≡ Some Lia
AreOfLogic logic (BitChecks found) = logic ≡ Some Bv
AreOfLogic logic (IntRechecks found) = logic ≡ Some Lia
AreOfLogic logic (BitRechecks found) = logic ≡ Some Bv
AreOfLogic logic (IntSpellings found) = logic ≡ Some Lia
AreOfLogic logic (BitSpellings found) = logic ≡ Some Bv

-- the budgets of queries over integers, and that of queries over bit vectors
abbrev pub is_of_integers : FailName → Bool
is_of_integers names.Nodes = true
is_of_integers names.Pivots = true
is_of_integers names.Range = true
is_of_integers _ = false

abbrev pub is_of_vectors : FailName → Bool
is_of_vectors names.Clauses = true
is_of_vectors _ = false

-- the reply isn't a fail of such a name
abbrev pub IsNotNamed : (FailName → Bool) → Reply → Type 0
IsNotNamed is (Defined bodies) = ⊤
IsNotNamed is Infeasible = ⊤
IsNotNamed is (Failed name) = is name ≡ false

-- no fail over bit vectors is named as a budget of integers, and none over integers as that of vectors
abbrev pub AreNamedFor : Answers → Type 0
AreNamedFor Idle = ⊤
AreNamedFor (Ints outcomes) = All (IsNotNamed is_of_vectors) (map (reply_of Whole int_budgets.budget) outcomes)
AreNamedFor (Bits outcomes) = All (IsNotNamed is_of_integers) (map (reply_of vectors.vector bits.budget) outcomes)
AreNamedFor (IntChecks found) = ⊤
AreNamedFor (BitChecks found) = ⊤
AreNamedFor (IntRechecks found) = ⊤
AreNamedFor (BitRechecks found) = ⊤
AreNamedFor (IntSpellings found) = ⊤
AreNamedFor (BitSpellings found) = ⊤
