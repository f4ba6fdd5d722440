use Rattle.std.proofs.Common.{refl}
use Rattle.sy_forms_items.specs.Meant.{phrase_of-Literal, phrase_of-Position, phrase_of-Local, phrase_of-Nonterminal, phrase_of-Operation, phrase_of-Invocation, phrase_of-Let}
use Rattle.sy_forms_items.proofs.written.written_negation.Goals as goal

pub returns-in-Literal : goal.returns-in-Literal
returns-in-Literal g c = rw (c.in-Literal.is, phrase_of-Literal) c.negation_of.ensures

pub returns-in-Position : goal.returns-in-Position
returns-in-Position g c = rw (c.in-Position.is, phrase_of-Position) refl

pub returns-in-Local : goal.returns-in-Local
returns-in-Local g c = rw (c.in-Local.is, phrase_of-Local) refl

pub returns-in-Nonterminal : goal.returns-in-Nonterminal
returns-in-Nonterminal g c = rw (c.in-Nonterminal.is, phrase_of-Nonterminal) refl

pub returns-in-Operation : goal.returns-in-Operation
returns-in-Operation g c = rw (c.in-Operation.is, phrase_of-Operation) refl

pub returns-in-Invocation : goal.returns-in-Invocation
returns-in-Invocation g c = rw (c.in-Invocation.is, phrase_of-Invocation) refl

pub returns-in-Let : goal.returns-in-Let
returns-in-Let g c = rw (c.in-Let.is, phrase_of-Let) refl
