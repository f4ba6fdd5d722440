use Rattle.sy_gates.proofs.Gates.{kept-push, grown-push, follows-last}
use Rattle.sy_gates.proofs.Keys.{still-found, found-push}
use Rattle.sy_gates.proofs.circuit.Circuit.push_gate.Goals as goal

pub invariant_of-self-in_err-push : goal.invariant_of-self-in_err-push
invariant_of-self-in_err-push c = rw c.in_err-push.ensures.err (
  c.self.invariant.0,
  c.self.invariant.1,
  still-found _ _ _ c.self.inside.table c.note.new.self _ _ c.self.view_is c.requires.room c.requires.inside
      c.requires.new c.self.invariant.0 c.self.invariant.2 c.len-made.ensures c.in_ok-note.ensures.ok,
)

pub invariant_of-self-2 : goal.invariant_of-self-2
invariant_of-self-2 c =
    let kept = kept-push _ _ _ _ _ c.self.view_is c.in_ok-push.ensures.ok c.requires.inside c.requires.room c.self.invariant.0 in (
      kept.order,
      kept.room,
      rw c.in_ok-push.ensures.ok
          (found-push _ _ _ c.self.inside.table c.note.new.self _ _ c.self.view_is c.requires.room c.requires.inside
          c.requires.new c.self.invariant.0 c.self.invariant.2 c.len-made.ensures c.in_ok-note.ensures.ok),
    )

pub returns-clause-grown : goal.returns-clause-grown
returns-clause-grown c = rw (← c.self.view_is, c.in_ok-push.ensures.ok) (grown-push _ _ _)

pub returns-clause-value : goal.returns-clause-value
returns-clause-value c = λ v f.
    rw (c.variable.ensures, c.len-made.ensures) (follows-last v _ _ _ _ f c.in_ok-push.ensures.ok)
