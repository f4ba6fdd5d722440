use Rattle.std.proofs.Common.{arith}
use Rattle.std.proofs.lemmas.List.{take_more}
use Rattle.sy_forms_items.specs.Meant.{phrase_of-Literal, phrase_of-Position, phrase_of-Local, phrase_of-Nonterminal, phrase_of-Operation, phrase_of-Invocation, phrase_of-Let}
use Rattle.sy_forms_items.specs.Measures.{unfolded_size, unfolded_sizes}
use Rattle.sy_forms_items.proofs.Measuring.{sizes-last}
use Rattle.sy_forms_items.proofs.phrase.+size.Goals as goal
use Rattle.sy_forms_items.proofs.phrase.+size.Goals.{Phrase::unfolded_size-in-Literal, Phrase::unfolded_size-in-Position, Phrase::unfolded_size-in-Local, Phrase::unfolded_size-in-Nonterminal, Phrase::unfolded_size-in-Operation, Phrase::unfolded_size-in-Invocation, Phrase::unfolded_size-in-Let}

pub Phrase::unfolded_size-returns : goal.Phrase::unfolded_size-returns
unfolding unfolded_size unfolded_sizes
Phrase::unfolded_size-returns g t c = elim c.match-self.branch [
  | Phrase::unfolded_size-in-Literal w ↦ rw (w.in-Literal.is, phrase_of-Literal) (grind arith)
  | Phrase::unfolded_size-in-Position w ↦ rw (w.in-Position.is, phrase_of-Position) (grind arith)
  | Phrase::unfolded_size-in-Local w ↦ rw (w.in-Local.is, phrase_of-Local) (grind arith)
  | Phrase::unfolded_size-in-Nonterminal w ↦ rw (w.in-Nonterminal.is, phrase_of-Nonterminal) (grind arith)
  | Phrase::unfolded_size-in-Operation w ↦ rw (w.in-Operation.is, phrase_of-Operation) (grind arith)
  | Phrase::unfolded_size-in-Invocation w ↦ rw (w.in-Invocation.is, phrase_of-Invocation) (grind arith)
  | Phrase::unfolded_size-in-Let w ↦ rw (w.in-Let.is, phrase_of-Let) (grind arith)
]

pub Phrases::unfolded_sizes-loop-phrase-preserved : goal.Phrases::unfolded_sizes-loop-phrase-preserved
Phrases::unfolded_sizes-loop-phrase-preserved g t c =
    let next = take_more c.as_slice-phrase-items.result.now c.loop-phrase.phrase-index c.phrase-item.result (grind arith) in
    rw (next, ← c.phrase-item.is, sizes-last) (grind arith)

pub Phrases::unfolded_sizes-loop-phrase-init : goal.Phrases::unfolded_sizes-loop-phrase-init
unfolding unfolded_size unfolded_sizes
Phrases::unfolded_sizes-loop-phrase-init g t c = grind arith
