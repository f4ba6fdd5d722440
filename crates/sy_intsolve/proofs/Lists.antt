-- The layers of a way that stands, with one more at the end and with one less.
use Rattle.std.specs.Prelude.{◌≡◌, suc, Bool, true, false, List, [], ◌∷◌, ◌++◌}
use Rattle.std.proofs.Common.{refl, sym, ap, subst}
use Rattle.std.proofs.lemmas.List.{append_assoc, append-nil}
use Rattle.sy_frac.specs.Fraction.{Fraction}
use Rattle.sy_terms.specs.declared.sort.Sort.{Sort}
use Rattle.sy_linear_known.specs.declared.path.Fact.{Fact}
use Rattle.sy_linear_known.specs.Seen.{LinearQuery}
use Rattle.sy_intsolve_paths_laws.specs.Paths.{IsPath}
use Rattle.sy_intsolve_paths_laws.proofs.Paths.{path-at_most, path-above}
use Rattle.sy_intsolve_cuts.specs.declared.fork.Fork.{Fork}
use Rattle.sy_intsolve_cuts.specs.declared.fork.Fork.TheVariants as forks
use Rattle.sy_intsolve_cuts.specs.declared.step.Order.{Order}
use Rattle.sy_intsolve_cuts.specs.Growing.{GrownTree, fork_fact, IsFork, inner}
use Rattle.sy_intsolve_cuts.specs.Steps.{Layer, side_layer, layer_inner, layer_waiting, unbegun, IsLayer, AreLayers}
use Rattle.sy_intsolve_cuts.proofs.Layers.{layers-more, layers-last}
use Rattle.sy_intsolve.specs.Ways.{CanTurn, LayerTurns, AllTurn, Stand}

last_of : {A : Type 0} (x : A) (xs : List A) → (rest : List A) × ((last : A) × (x ∷ xs ≡ rest ++ last ∷ []))
last_of x [] = ([], (x, refl))
last_of x (y ∷ ys) = let k = last_of y ys in (x ∷ k.0, (k.1.0, ap (λ zs. x ∷ zs) k.1.1))

no_facts : (order : Order) (q : LinearQuery) (path : List Fact) (layers : List Layer) (layer : Layer) → AreLayers order q path (layers ++ layer ∷ []) [] → ⊥
unfolding AreLayers
no_facts order q path [] layer h = h
no_facts order q path (first ∷ layers) layer h = h

-- ---- the layers' turns
turns-more : (order : Order) (q : LinearQuery) (path : List Fact) (layers : List Layer) (facts : List Fact) (layer : Layer) (fact : Fact) → AreLayers order q path layers facts → AllTurn q.vars path layers facts → LayerTurns q.vars (path ++ facts) layer → AllTurn q.vars path (layers ++ layer ∷ []) (facts ++ fact ∷ [])
unfolding AllTurn AreLayers
turns-more order q path [] [] layer fact a h k = (subst (λ p. LayerTurns q.vars p layer) (append-nil path) k, tt)
turns-more order q path [] (f ∷ facts) layer fact a h k = absurd cc
turns-more order q path (first ∷ layers) [] layer fact a h k = absurd a
turns-more order q path (first ∷ layers) (f ∷ facts) layer fact a h k =
    (h.0, turns-more order q (path ++ f ∷ []) layers facts layer fact a.1 h.1 (subst (λ p. LayerTurns q.vars p layer) (sym (append_assoc path (f ∷ []) facts)) k))

turns-last : (order : Order) (q : LinearQuery) (path : List Fact) (layers : List Layer) (facts : List Fact) (layer : Layer) (fact : Fact) → AreLayers order q path layers facts → AllTurn q.vars path (layers ++ layer ∷ []) (facts ++ fact ∷ []) → AllTurn q.vars path layers facts × LayerTurns q.vars (path ++ facts) layer
unfolding AllTurn AreLayers
turns-last order q path [] [] layer fact a h = (tt, subst (λ p. LayerTurns q.vars p layer) (sym (append-nil path)) h.0)
turns-last order q path [] (f ∷ facts) layer fact a h = absurd cc
turns-last order q path (first ∷ layers) [] layer fact a h = absurd a
turns-last order q path (first ∷ layers) (f ∷ facts) layer fact a h =
    let k = turns-last order q (path ++ f ∷ []) layers facts layer fact a.1 h.1 in
    ((h.0, k.0), subst (λ p. LayerTurns q.vars p layer) (append_assoc path (f ∷ []) facts) k.1)

-- ---- one layer more, and one less
pub stand-more : (order : Order) (q : LinearQuery) (layers : List Layer) (facts : List Fact) (layer : Layer) (fact : Fact) → Stand order q layers facts → IsLayer order q facts layer fact → LayerTurns q.vars facts layer → Stand order q (layers ++ layer ∷ []) (facts ++ fact ∷ [])
stand-more order q layers facts layer fact s l t = record {
  layers = layers-more order q [] layers facts layer fact s.layers l;
  turns = turns-more order q [] layers facts layer fact s.layers s.turns t;
}

-- the last layer stands under the facts but the last
pub record Last (order : Order) (q : LinearQuery) (layers : List Layer) (layer : Layer) (facts : List Fact) : Type 0 where
  pub rest : List Fact
  pub fact : Fact
  pub parts : facts ≡ rest ++ fact ∷ []
  pub stand : Stand order q layers rest
  pub layer_is : IsLayer order q rest layer fact
  pub turns : LayerTurns q.vars rest layer

pub stand-last : (order : Order) (q : LinearQuery) (layers : List Layer) (layer : Layer) (facts : List Fact) → Stand order q (layers ++ layer ∷ []) facts → Last order q layers layer facts
stand-last order q layers layer [] s = absurd (no_facts order q [] layers layer s.layers)
stand-last order q layers layer (f ∷ facts) s =
    let k = last_of f facts in
    let e : f ∷ facts ≡ k.0 ++ k.1.0 ∷ [] = k.1.1 in
    let a = layers-last order q [] layers k.0 layer k.1.0 (subst (AreLayers order q [] (layers ++ layer ∷ [])) e s.layers) in
    let t = turns-last order q [] layers k.0 layer k.1.0 a.0 (subst (AllTurn q.vars [] (layers ++ layer ∷ [])) e s.turns) in
    record { rest = k.0; fact = k.1.0; parts = e; stand = record { layers = a.0; turns = t.0 }; layer_is = a.1; turns = t.1 }

pub stand-moved : (order : Order) (q : LinearQuery) (ls ms : List Layer) (fs gs : List Fact) → ms ≡ ls → gs ≡ fs → Stand order q ls fs → Stand order q ms gs
stand-moved order q ls ms fs gs e f s = subst (λ l. Stand order q l gs) (sym e) (subst (Stand order q ls) (sym f) s)

-- ---- the layer to a side
pub side-fork : (order : Order) (q : LinearQuery) (path : List Fact) (fork : Fork) (p : List Fraction) (left : Bool) (other : GrownTree) (fact : Fact) → IsLayer order q path (side_layer left fork p other) fact → IsFork order q path fork p × (fact ≡ fork_fact left fork)
side-fork order q path fork p true other fact l = (l.0, l.1)
side-fork order q path fork p false other fact l = (l.0, l.1)

pub side-turns : (vars : List Sort) (path : List Fact) (fork : Fork) (p : List Fraction) (left : Bool) (other : GrownTree) → CanTurn vars path fork → LayerTurns vars path (side_layer left fork p other)
side-turns vars path fork p true other t = t
side-turns vars path fork p false other t = t

pub turns-side : (vars : List Sort) (path : List Fact) (fork : Fork) (p : List Fraction) (left : Bool) (other : GrownTree) → LayerTurns vars path (side_layer left fork p other) → CanTurn vars path fork
turns-side vars path fork p true other t = t
turns-side vars path fork p false other t = t

pub side-inner : (fork : Fork) (p : List Fraction) (left : Bool) (other : GrownTree) → layer_inner (side_layer left fork p other) ≡ suc (inner other)
side-inner fork p true other = refl
side-inner fork p false other = refl

pub side-waiting : (fork : Fork) (p : List Fraction) (left : Bool) (other : GrownTree) → layer_waiting (side_layer left fork p other) ≡ unbegun other
side-waiting fork p true other = refl
side-waiting fork p false other = refl

-- the path stays one on either side
pub side-path : (vars : List Sort) (path : List Fact) (fork : Fork) (left : Bool) → CanTurn vars path fork → IsPath vars (path ++ fork_fact left fork ∷ [])
side-path vars path (forks.Split t) true c = c.left
side-path vars path (forks.Split t) false c = c.right
side-path vars path (forks.Branch i k) true c = path-at_most vars path i k c.0 c.1
side-path vars path (forks.Branch i k) false c = path-above vars path i k c.0 c.1
