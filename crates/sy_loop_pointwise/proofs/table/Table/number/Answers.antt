use Rattle.std.proofs.Common.{◌∙◌, ◌≡◌, ℕ, sym, ap, subst, slice_get, length, Some, ◌++◌, ◌∷◌, []}
use Rattle.std.proofs.lemmas.List.{map_push, length-map}
use Rattle.std.proofs.lemmas.Result.{IfOk-from_err}
use Rattle.sy_loop_pointwise.specs.Shapes.{AreBelow, numbers_of}
use Rattle.sy_loop_pointwise.specs.Denoted.{shape_of, shapes_of}
use Rattle.sy_loop_pointwise.specs.Places.{key_places}
use Rattle.sy_loop_pointwise.specs.Tables.{TableIsWhole}
use Rattle.sy_loop_pointwise.proofs.Lists.{at_end}
use Rattle.sy_loop_pointwise.proofs.Shaped.{unchanged}
use Rattle.sy_loop_pointwise.proofs.Tables.{whole-same, whole-added, whole-more}
use Rattle.sy_loop_pointwise.proofs.table.Table.number.Goals as goal

pub invariant_of-self : goal.invariant_of-self
invariant_of-self g c = whole-same (shapes_of g.T.Theory.denotes c.self.inside.shapes.items) (key_places c.self.inside.places) (key_places c.add.new.self) c.in_err-add.ensures.err c.self.invariant

pub invariant_of-self-in_err-push : goal.invariant_of-self-in_err-push
invariant_of-self-in_err-push g c = rw (c.in_err-push.ensures.items) (whole-added (shapes_of g.T.Theory.denotes c.self.inside.shapes.items) (key_places c.self.inside.places) (key_places c.add.new.self) c.key.result c.in-Ok.number c.in_ok-add.ensures.ok c.self.invariant)

ends : (g : _) (c : goal.In_ok-push g) → c.in-Ok.number ≡ length (shapes_of g.T.Theory.denotes c.self.inside.shapes.items)
ends g c = c.in-Ok.ensures.1 ∙ ap length c.as_slice.ensures.value ∙ sym (length-map c.self.inside.shapes.items (shape_of g.T.Theory.denotes))

whole : (g : _) (c : goal.In_ok-push g) → TableIsWhole (shapes_of g.T.Theory.denotes c.push.new.self.items) (key_places c.add.new.self)
whole g c =
    let number = g.T.Theory.denotes in
    let shapes = shapes_of number c.self.inside.shapes.items in
    let shape = shape_of number c.args.shape in
    rw (c.in_ok-push.ensures.items, map_push (shape_of number) c.self.inside.shapes.items c.args.shape)
    (whole-more shapes shape (key_places c.self.inside.places) (key_places c.add.new.self) c.key.result c.in-Ok.number c.self.invariant c.key.ensures (ends g c) c.in_ok-add.ensures.ok
    (subst (λ all. AreBelow (length all) (numbers_of shape)) (sym c.self.view_is) c.requires.below) (subst (λ all. (n : ℕ) → slice_get all n ≡ Some shape → ⊥) (sym c.self.view_is) c.in_default.ensures))

pub invariant_of-self-2 : goal.invariant_of-self-2
invariant_of-self-2 g c = whole g c

pub returns-clause-are : goal.returns-clause-are
returns-clause-are g c = (whole g c).are

pub returns-clause-at : goal.returns-clause-at
returns-clause-at g c =
    let number = g.T.Theory.denotes in
    let shapes = shapes_of number c.self.inside.shapes.items in
    let shape = shape_of number c.args.shape in
    let at : slice_get (shapes_of number c.push.new.self.items) c.in-Ok.number ≡ Some shape =
    rw (c.in_ok-push.ensures.items, map_push (shape_of number) c.self.inside.shapes.items c.args.shape) (subst (λ n. slice_get (shapes ++ shape ∷ []) n ≡ Some shape) (sym (ends g c)) (at_end shapes shape)) in
    at

pub returns-in_err-add-clause-at : goal.returns-in_err-add-clause-at
returns-in_err-add-clause-at g c = IfOk-from_err c.from_residual.result _ c.from_residual.ensures.0

pub returns-in_err-add-clause-extends : goal.returns-in_err-add-clause-extends
returns-in_err-add-clause-extends g c = IfOk-from_err c.from_residual.result _ c.from_residual.ensures.0

pub returns-in_err-add-clause-are : goal.returns-in_err-add-clause-are
returns-in_err-add-clause-are g c = IfOk-from_err c.from_residual.result _ c.from_residual.ensures.0

pub returns-in_err-push-clause-at : goal.returns-in_err-push-clause-at
returns-in_err-push-clause-at g c = IfOk-from_err c.from_residual-in_err-push.result _ c.from_residual-in_err-push.ensures.0

pub returns-in_err-push-clause-extends : goal.returns-in_err-push-clause-extends
returns-in_err-push-clause-extends g c = IfOk-from_err c.from_residual-in_err-push.result _ c.from_residual-in_err-push.ensures.0

pub returns-in_err-push-clause-are : goal.returns-in_err-push-clause-are
returns-in_err-push-clause-are g c = IfOk-from_err c.from_residual-in_err-push.result _ c.from_residual-in_err-push.ensures.0

pub returns-in-Some-clause-extends : goal.returns-in-Some-clause-extends
returns-in-Some-clause-extends g c = unchanged _
