use Rattle.std.proofs.Common.{arith}
use Rattle.std.proofs.lemmas.List.{take_more}
use Rattle.sy_forms_items.specs.Meant.{phrase_of-Literal, phrase_of-Position, phrase_of-Local, phrase_of-Nonterminal, phrase_of-Operation, phrase_of-Invocation, phrase_of-Let}
use Rattle.sy_forms_items.specs.Measures.{unfolded_depth, unfolded_depths}
use Rattle.sy_forms_items.proofs.Measuring.{depths-last}
use Rattle.sy_forms_items.proofs.phrase.+depth.Goals as goal
use Rattle.sy_forms_items.proofs.phrase.+depth.Goals.{Phrase::unfolded_depth-in-Literal, Phrase::unfolded_depth-in-Position, Phrase::unfolded_depth-in-Local, Phrase::unfolded_depth-in-Nonterminal, Phrase::unfolded_depth-in-Operation, Phrase::unfolded_depth-in-Invocation, Phrase::unfolded_depth-in-Let}

pub Phrase::unfolded_depth-returns : goal.Phrase::unfolded_depth-returns
unfolding unfolded_depth unfolded_depths
Phrase::unfolded_depth-returns g t c = elim c.match-self.branch [
  | Phrase::unfolded_depth-in-Literal w ↦ rw (w.in-Literal.is, phrase_of-Literal) (grind arith)
  | Phrase::unfolded_depth-in-Position w ↦ rw (w.in-Position.is, phrase_of-Position) (grind arith)
  | Phrase::unfolded_depth-in-Local w ↦ rw (w.in-Local.is, phrase_of-Local) (grind arith)
  | Phrase::unfolded_depth-in-Nonterminal w ↦ rw (w.in-Nonterminal.is, phrase_of-Nonterminal) (grind arith)
  | Phrase::unfolded_depth-in-Operation w ↦ rw (w.in-Operation.is, phrase_of-Operation) (grind arith)
  | Phrase::unfolded_depth-in-Invocation w ↦ rw (w.in-Invocation.is, phrase_of-Invocation) (grind arith)
  | Phrase::unfolded_depth-in-Let w ↦ rw (w.in-Let.is, phrase_of-Let) (grind arith)
]

pub Phrases::unfolded_depths-loop-phrase-preserved : goal.Phrases::unfolded_depths-loop-phrase-preserved
Phrases::unfolded_depths-loop-phrase-preserved g t c =
    let next = take_more c.as_slice-phrase-items.result.now c.loop-phrase.phrase-index c.phrase-item.result (grind arith) in
    rw (next, ← c.phrase-item.is, depths-last) (grind arith)

pub Phrases::unfolded_depths-loop-phrase-init : goal.Phrases::unfolded_depths-loop-phrase-init
unfolding unfolded_depth unfolded_depths
Phrases::unfolded_depths-loop-phrase-init g t c = grind arith
