-- The gates of an operator by its theory.
use Rattle.std.specs.Prelude.{◌≡◌, true, false, List, refl, length, map}
use Rattle.std.proofs.Common.{ap}
use Rattle.std.proofs.lemmas.List.{length-map}
use Rattle.sy_terms.specs.Theories.{in_core}
use Rattle.sy_terms.specs.declared.op.Op.{Op}
use Rattle.sy_meaning_words.specs.Vectors.{owned, in_vectors}
use Rattle.sy_bits_operators.specs.declared.signal.Signal.{Signal}
use Rattle.sy_bits_operators.specs.Signals.{signal_sort, signal_sorts}
use Rattle.sy_bits_operators.specs.Costs.{gates, core_gates, vector_gates}

pub gates-core : (op : Op) (list : List Signal) → in_core op ≡ true → gates op (signal_sorts list) ≡ core_gates op (length list) (signal_sorts list)
gates-core op list h = rw h (ap (λ n. core_gates op n (signal_sorts list)) (length-map list signal_sort))

pub gates-vector : (op : Op) (list : List Signal) → in_core op ≡ false → gates op (signal_sorts list) ≡ vector_gates op (signal_sorts list)
gates-vector op list h = rw h refl

pub in-vectors : (op : Op) → owned op ≡ true → in_core op ≡ false → in_vectors op ≡ true
in-vectors op o h = rw h o

pub ruleset applied_steps = (gates-core, gates-vector, in-vectors)
