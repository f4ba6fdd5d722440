-- Each clause is a part of what proofs/Encoded.antt says of the term's form.
use Rattle.std.proofs.Common.{arith, ℕ, ◌∙◌, refl}
use Rattle.sy_terms.specs.Denoted.{expr_of, exprs_of}
use Rattle.sy_meaning_words.specs.Vectors.{vector}
use Rattle.sy_terms_operators.proofs.Steps.{app-falls, let-falls, all-falls}
use Rattle.sy_gates.proofs.Gates.{grown-trans}
use Rattle.sy_bits_circuit.proofs.Encoded as law
use Rattle.sy_bits_circuit.proofs.Encoded.{Encoded, AllEncoded, Applies}
use Rattle.sy_bits_circuit.proofs.terms.+signals.Goals as goal

-- ---- a constant

constant : (t : ℕ) (c : goal.signal_of-In_ok-signal-in-Const t) → Encoded c.args.circuit.now c.args.circuit.now c.args.signals.now.items (expr_of vector c.args.term.now) c.in_ok-signal-in-Const.signal
constant t c = law.const-encoded vector c.args.circuit.now c.args.signals.now.items c.args.term.now c.in-Const.value _ c.in-Const.is c.requires.fits c.in_ok-signal-in-Const.ensures.bound c.in_ok-signal-in-Const.ensures.sort c.in_ok-signal-in-Const.ensures.has c.in_ok-signal-in-Const.ensures.value

pub signal_of-returns-in_ok-signal-in-Const-clause-cost : goal.signal_of-returns-in_ok-signal-in-Const-clause-cost
signal_of-returns-in_ok-signal-in-Const-clause-cost t c = (constant t c).cost

pub signal_of-returns-in_ok-signal-in-Const-clause-sort : goal.signal_of-returns-in_ok-signal-in-Const-clause-sort
signal_of-returns-in_ok-signal-in-Const-clause-sort t c = (constant t c).sort

pub signal_of-returns-in_ok-signal-in-Const-clause-value : goal.signal_of-returns-in_ok-signal-in-Const-clause-value
signal_of-returns-in_ok-signal-in-Const-clause-value t c = (constant t c).value

-- ---- a variable

pub signal_of-index-requires : goal.signal_of-index-requires
signal_of-index-requires t c = omega (arith, c.args.signals.now.ok.0, law.var-within vector c.args.signals.now.items c.args.term.now c.in-Var.position c.in-Var.is c.requires.fits)

variable : (t : ℕ) (c : goal.signal_of-In_ok-signal-in-Var t) → Encoded c.args.circuit.now c.args.circuit.now c.args.signals.now.items (expr_of vector c.args.term.now) c.in_ok-signal-in-Var.signal
variable t c = law.var-encoded vector c.args.circuit.now c.args.signals.now.items c.args.term.now c.in-Var.position c.index.result.now c.in_ok-signal-in-Var.signal c.in-Var.is c.requires.fits c.requires.sorts c.requires.inside c.in_ok-signal-in-Var.ensures c.index.ensures

pub signal_of-returns-in_ok-signal-in-Var-clause-cost : goal.signal_of-returns-in_ok-signal-in-Var-clause-cost
signal_of-returns-in_ok-signal-in-Var-clause-cost t c = (variable t c).cost

pub signal_of-returns-in_ok-signal-in-Var-clause-inside : goal.signal_of-returns-in_ok-signal-in-Var-clause-inside
signal_of-returns-in_ok-signal-in-Var-clause-inside t c = (variable t c).inside

pub signal_of-returns-in_ok-signal-in-Var-clause-sort : goal.signal_of-returns-in_ok-signal-in-Var-clause-sort
signal_of-returns-in_ok-signal-in-Var-clause-sort t c = (variable t c).sort

pub signal_of-returns-in_ok-signal-in-Var-clause-has : goal.signal_of-returns-in_ok-signal-in-Var-clause-has
signal_of-returns-in_ok-signal-in-Var-clause-has t c = (variable t c).has

pub signal_of-returns-in_ok-signal-in-Var-clause-value : goal.signal_of-returns-in_ok-signal-in-Var-clause-value
signal_of-returns-in_ok-signal-in-Var-clause-value t c = (variable t c).value

-- ---- an application

pub signal_of-signals_of-requires : goal.signal_of-signals_of-requires
signal_of-signals_of-requires t c =
    let falls = app-falls vector c.args.term.now c.in-App.operator c.in-App.arguments 0 c.in-App.is in
    let asks = law.app-asks vector c.args.circuit.now c.args.signals.now.items c.args.term.now c.in-App.operator c.in-App.arguments c.in-App.is c.requires.fits c.requires.room in
    (omega (arith, falls, c.decreases), (asks.fit, (c.requires.sorts, (c.requires.inside, (c.requires.stand, asks.room)))))

applies : (t : ℕ) (c : goal.signal_of-After-as_slice t) → Applies c.in-App.operator c.as_slice.result.now c.signals_of.new.circuit
applies t c = law.app-applies vector c.args.circuit.now c.signals_of.new.circuit c.args.signals.now.items c.args.term.now c.in-App.operator c.in-App.arguments c.in_ok-found-in-App.found.items c.as_slice.result.now c.in-App.is c.as_slice.ensures.value c.requires.fits c.requires.room (record { grown = c.in_ok-found-in-App.ensures.grown; cost = c.in_ok-found-in-App.ensures.cost; inside = c.in_ok-found-in-App.ensures.inside; sorts = c.in_ok-found-in-App.ensures.sorts; have = c.in_ok-found-in-App.ensures.have; value = c.in_ok-found-in-App.ensures.value })

pub signal_of-applied-requires-clause-ours : goal.signal_of-applied-requires-clause-ours
signal_of-applied-requires-clause-ours t c = (applies t c).owned

pub signal_of-applied-requires-clause-takes : goal.signal_of-applied-requires-clause-takes
signal_of-applied-requires-clause-takes t c = (applies t c).takes

pub signal_of-applied-requires-clause-room : goal.signal_of-applied-requires-clause-room
signal_of-applied-requires-clause-room t c = (applies t c).room

application : (t : ℕ) (c : goal.signal_of-After-drop-found-in-App t) → Encoded c.args.circuit.now c.applied.new.circuit c.args.signals.now.items (expr_of vector c.args.term.now) c.in_ok-signal-in-App.signal
application t c = law.app-encoded vector c.args.circuit.now c.signals_of.new.circuit c.applied.new.circuit c.args.signals.now.items c.args.term.now c.in-App.operator c.in-App.arguments c.in_ok-found-in-App.found.items c.as_slice.result.now c.in_ok-signal-in-App.signal c.in-App.is c.as_slice.ensures.value c.requires.fits (record { grown = c.in_ok-found-in-App.ensures.grown; cost = c.in_ok-found-in-App.ensures.cost; inside = c.in_ok-found-in-App.ensures.inside; sorts = c.in_ok-found-in-App.ensures.sorts; have = c.in_ok-found-in-App.ensures.have; value = c.in_ok-found-in-App.ensures.value }) (record { grown = c.in_ok-signal-in-App.ensures.grown; cost = c.in_ok-signal-in-App.ensures.cost; inside = c.in_ok-signal-in-App.ensures.inside; sort = c.in_ok-signal-in-App.ensures.sort; value = c.in_ok-signal-in-App.ensures.value })

pub signal_of-returns-in_ok-signal-in-App-clause-cost : goal.signal_of-returns-in_ok-signal-in-App-clause-cost
signal_of-returns-in_ok-signal-in-App-clause-cost t c = (application t c).cost

pub signal_of-returns-in_ok-signal-in-App-clause-sort : goal.signal_of-returns-in_ok-signal-in-App-clause-sort
signal_of-returns-in_ok-signal-in-App-clause-sort t c = (application t c).sort

pub signal_of-returns-in_ok-signal-in-App-clause-has : goal.signal_of-returns-in_ok-signal-in-App-clause-has
signal_of-returns-in_ok-signal-in-App-clause-has t c = (application t c).has

pub signal_of-returns-in_ok-signal-in-App-clause-value : goal.signal_of-returns-in_ok-signal-in-App-clause-value
signal_of-returns-in_ok-signal-in-App-clause-value t c = (application t c).value

-- ---- a call, and a binding

pub signal_of-unreachable-requires : goal.signal_of-unreachable-requires
signal_of-unreachable-requires t c = law.no-call vector c.args.signals.now.items c.args.term.now _ _ c.in-Call.is c.requires.fits

pub signal_of-signals_of-requires-in-Let : goal.signal_of-signals_of-requires-in-Let
signal_of-signals_of-requires-in-Let t c =
    let falls = let-falls vector c.args.term.now c.in-Let.bound c.in-Let.inner 0 c.in-Let.is in
    let first = falls.0 in
    let asks = law.let-asks vector c.args.circuit.now c.args.signals.now.items c.args.term.now c.in-Let.bound c.in-Let.inner c.in-Let.is c.requires.fits c.requires.room in
    (omega (arith, first, c.decreases), (asks.fit, (c.requires.sorts, (c.requires.inside, (c.requires.stand, asks.room)))))

pub signal_of-signal_of-requires : goal.signal_of-signal_of-requires
signal_of-signal_of-requires t c =
    let falls = let-falls vector c.args.term.now c.in-Let.bound c.in-Let.inner 0 c.in-Let.is in
    let second = falls.1 in
    let enters = law.let-enters vector c.args.circuit.now c.signals_of-in-Let.new.circuit c.args.signals.now.items c.args.term.now c.in-Let.bound c.in-Let.inner c.in_ok-found-in-Let.found.items c.signals_of-in-Let.new.signals.items c.append.new.self.items c.deref.result.now c.in-Let.is c.in_ok-found-in-Let.ensures.kept c.in_ok-append-in-Let.ensures.items c.deref.ensures c.requires.fits c.requires.sorts c.requires.inside c.requires.room (record { grown = c.in_ok-found-in-Let.ensures.grown; cost = c.in_ok-found-in-Let.ensures.cost; inside = c.in_ok-found-in-Let.ensures.inside; sorts = c.in_ok-found-in-Let.ensures.sorts; have = c.in_ok-found-in-Let.ensures.have; value = c.in_ok-found-in-Let.ensures.value }) in
    (rw c.deref.ensures (omega (arith, second, c.decreases)), (enters.fits, (enters.sorts, (enters.inside, (c.in_ok-found-in-Let.ensures.stand, enters.room)))))

binding : (t : ℕ) (c : goal.signal_of-After-drop-found-in-Let t) → Encoded c.args.circuit.now c.signal_of.new.circuit c.args.signals.now.items (expr_of vector c.args.term.now) c.in_ok-signal-in-Let.signal
binding t c = law.let-encoded vector c.args.circuit.now c.signals_of-in-Let.new.circuit c.signal_of.new.circuit c.args.signals.now.items c.args.term.now c.in-Let.bound c.in-Let.inner c.in_ok-found-in-Let.found.items c.signals_of-in-Let.new.signals.items c.append.new.self.items c.deref.result.now c.in_ok-signal-in-Let.signal c.in-Let.is c.in_ok-found-in-Let.ensures.kept c.in_ok-append-in-Let.ensures.items c.deref.ensures (record { grown = c.in_ok-found-in-Let.ensures.grown; cost = c.in_ok-found-in-Let.ensures.cost; inside = c.in_ok-found-in-Let.ensures.inside; sorts = c.in_ok-found-in-Let.ensures.sorts; have = c.in_ok-found-in-Let.ensures.have; value = c.in_ok-found-in-Let.ensures.value }) (record { grown = c.in_ok-signal-in-Let.ensures.grown; cost = c.in_ok-signal-in-Let.ensures.cost; inside = c.in_ok-signal-in-Let.ensures.inside; sort = c.in_ok-signal-in-Let.ensures.sort; has = c.in_ok-signal-in-Let.ensures.has; value = c.in_ok-signal-in-Let.ensures.value })

pub signal_of-returns-in_ok-signal-in-Let-clause-cost : goal.signal_of-returns-in_ok-signal-in-Let-clause-cost
signal_of-returns-in_ok-signal-in-Let-clause-cost t c = (binding t c).cost

pub signal_of-returns-in_ok-signal-in-Let-clause-sort : goal.signal_of-returns-in_ok-signal-in-Let-clause-sort
signal_of-returns-in_ok-signal-in-Let-clause-sort t c = (binding t c).sort

pub signal_of-returns-in_ok-signal-in-Let-clause-value : goal.signal_of-returns-in_ok-signal-in-Let-clause-value
signal_of-returns-in_ok-signal-in-Let-clause-value t c = (binding t c).value

-- ---- terms, one by one

pub signals_of-loop-term-init : goal.signals_of-loop-term-init
signals_of-loop-term-init t c = record { stand = c.requires.stand; kept = refl; encoded = rw c.in_ok-found.ensures.items (law.no-terms ℕ vector c.args.circuit.now c.args.signals.now.items) }

pub signals_of-signal_of-requires : goal.signals_of-signal_of-requires
signals_of-signal_of-requires t c =
    let falls = all-falls vector c.as_slice-term-items.result.now c.loop-term.term-index c.term-item.result 0 (omega arith) c.term-item.is in
    let less = rw c.as_slice-term-items.ensures at falls in
    let enters = law.next-enters vector c.args.circuit.now c.loop-term.circuit c.args.signals.now.items c.loop-term.signals.items c.as_slice-term-items.result.now c.args.terms.now.items.items c.loop-term.term-index c.term-item.result c.loop-term.found.items c.loop-term.invariant.kept c.as_slice-term-items.ensures (omega arith) c.term-item.is c.requires.fit c.requires.sorts c.requires.inside c.requires.room c.loop-term.invariant.encoded in
    (omega (arith, less, c.decreases), (enters.fits, (enters.sorts, (enters.inside, (c.loop-term.invariant.stand, enters.room)))))

pub signals_of-loop-term-preserved : goal.signals_of-loop-term-preserved
signals_of-loop-term-preserved t c = record {
  stand = c.in_ok-signal.ensures.stand;
  kept = c.in_ok-signal.ensures.kept ∙ c.loop-term.invariant.kept;
  encoded = law.next-encoded vector c.args.circuit.now c.loop-term.circuit c.signal_of.new.circuit c.args.signals.now.items c.loop-term.signals.items c.as_slice-term-items.result.now c.loop-term.term-index c.term-item.result c.loop-term.found.items c.push.new.self.items c.in_ok-signal.signal c.loop-term.invariant.kept c.in_ok-push.ensures.items (omega arith) c.term-item.is c.loop-term.invariant.encoded (record { grown = c.in_ok-signal.ensures.grown; cost = c.in_ok-signal.ensures.cost; inside = c.in_ok-signal.ensures.inside; sort = c.in_ok-signal.ensures.sort; has = c.in_ok-signal.ensures.has; value = c.in_ok-signal.ensures.value });
}

pub signals_of-returns-in_err-signal-clause-grown : goal.signals_of-returns-in_err-signal-clause-grown
signals_of-returns-in_err-signal-clause-grown t c = grown-trans _ _ _ c.loop-term.invariant.encoded.grown c.in_err-signal.ensures.grown

pub signals_of-returns-in_err-push-clause-grown : goal.signals_of-returns-in_err-push-clause-grown
signals_of-returns-in_err-push-clause-grown t c = grown-trans _ _ _ c.loop-term.invariant.encoded.grown c.in_ok-signal.ensures.grown

all : (t : ℕ) (c : goal.signals_of-After-loop-term t) → AllEncoded c.args.circuit.now c.loop-term.circuit c.args.signals.now.items (exprs_of vector c.args.terms.now.items.items) c.loop-term.found.items
all t c = law.all-encoded vector c.args.circuit.now c.loop-term.circuit c.args.signals.now.items c.as_slice-term-items.result.now c.args.terms.now.items.items c.loop-term.term-index c.loop-term.found.items c.as_slice-term-items.ensures (omega arith) c.loop-term.invariant.encoded

pub signals_of-returns-clause-kept : goal.signals_of-returns-clause-kept
signals_of-returns-clause-kept t c = c.loop-term.invariant.kept

pub signals_of-returns-clause-grown : goal.signals_of-returns-clause-grown
signals_of-returns-clause-grown t c = (all t c).grown

pub signals_of-returns-clause-cost : goal.signals_of-returns-clause-cost
signals_of-returns-clause-cost t c = (all t c).cost

pub signals_of-returns-clause-inside : goal.signals_of-returns-clause-inside
signals_of-returns-clause-inside t c = (all t c).inside

pub signals_of-returns-clause-sorts : goal.signals_of-returns-clause-sorts
signals_of-returns-clause-sorts t c = (all t c).sorts

pub signals_of-returns-clause-have : goal.signals_of-returns-clause-have
signals_of-returns-clause-have t c = (all t c).have

pub signals_of-returns-clause-value : goal.signals_of-returns-clause-value
signals_of-returns-clause-value t c = (all t c).value
