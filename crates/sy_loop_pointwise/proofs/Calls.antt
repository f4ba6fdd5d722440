-- Calls among subterms, and their arguments.
use Rattle.std.proofs.Common.{◌≡◌, ℕ, zero, suc, ◌<◌, ◌≤◌, List, [], ◌∷◌, length, refl, ap, sym, ◌∙◌, Some, slice_get, arith}
use Rattle.std.specs.Prelude.{false}
use Rattle.std.specs.Option.{option_map}
use Rattle.std.proofs.lemmas.Option.{slice_get_within, slice_get-map}
use Rattle.std.proofs.lemmas.List.Elements.{All-weaker}
use Rattle.sy_terms.specs.Values.{Val, Truth}
use Rattle.sy_terms.specs.Expr.{Expr, Exprs, Constant, Invoke}
use Rattle.sy_terms.specs.declared.term.Fun.{Fun}
use Rattle.sy_loop_pointwise.specs.Shapes.{Shape, Called, AreBelow, AreSubterms, subterms, shaped, term_of, terms_of}
use Rattle.sy_loop_pointwise.specs.Denoted.{shape_of, shapes_of}
use Rattle.sy_loop_pointwise.specs.declared.shape.Shape as kept
use Rattle.sy_loop_pointwise.specs.declared.shape.Shape.TheVariants.{Const, Var, App, Call}
use Rattle.sy_loop_pointwise.proofs.Distinct.{same_numbers}
use Rattle.sy_loop_pointwise.proofs.Shaped.{many, shape_is}
use Rattle.sy_loop_pointwise.specs.Asked.{AreArguments}

-- beyond the end stands no call
past : (terms : List Expr) (number : ℕ) → length terms ≤ number → term_of terms number ≡ Constant (Truth false)
past [] number beyond = refl
past (term ∷ terms) zero beyond = absurd (omega (arith, beyond))
past (term ∷ terms) (suc number) beyond = past terms number (omega (arith, beyond))

pub no_call_past : (shapes : List Shape) (number : ℕ) → length shapes ≤ number → (function : Fun) (arguments : Exprs) → term_of (subterms shapes) number ≡ Invoke function arguments → ⊥
no_call_past shapes number beyond function arguments is =
    let nothing = past (subterms shapes) number (omega (arith, beyond, many shapes)) in
    let both : Constant (Truth false) ≡ Invoke function arguments = sym nothing ∙ is in
    cc

-- the arguments of a call have the numbers that its shape has
pub call_arguments : (shapes : List Shape) (number : ℕ) (function : Fun) (numbers : List ℕ) → AreSubterms shapes → slice_get shapes number ≡ Some (Called function numbers) → AreArguments shapes number numbers
call_arguments shapes number function numbers subterms_are at = record {
  within = slice_get_within shapes number (Called function numbers) at;
  below = subterms_are.ordered number (Called function numbers) at;
  are = λ other arguments is.
      let both : Invoke function (terms_of (subterms shapes) numbers) ≡ Invoke other arguments = sym (shape_is shapes number (Called function numbers) subterms_are at) ∙ is in
      cc;
}

-- no other shape is a call
abbrev pub IsNoCall : Shape → Type 0
IsNoCall shape = (terms : List Expr) (function : Fun) (arguments : Exprs) → shaped terms shape ≡ Invoke function arguments → ⊥

pub no_call : (shapes : List Shape) (number : ℕ) (shape : Shape) → AreSubterms shapes → slice_get shapes number ≡ Some shape → IsNoCall shape → (function : Fun) (arguments : Exprs) → term_of (subterms shapes) number ≡ Invoke function arguments → ⊥
no_call shapes number shape subterms_are at none function arguments is = none (subterms shapes) function arguments (sym (shape_is shapes number shape subterms_are at) ∙ is)

-- two calls have the same arguments where these have the same numbers
pub same_calls : (shapes : List Shape) → AreSubterms shapes → (first second : ℕ) (ones others : List ℕ) → AreArguments shapes first ones → AreArguments shapes second others → (one other : Fun) (xs ys : Exprs) →
    term_of (subterms shapes) first ≡ Invoke one xs → term_of (subterms shapes) second ≡ Invoke other ys → (ones ≡ others → xs ≡ ys) × (xs ≡ ys → ones ≡ others)
same_calls shapes subterms_are first second ones others a b one other xs ys is there = (
  λ same. sym (a.are one xs is) ∙ ap (terms_of (subterms shapes)) same ∙ b.are other ys there,
  λ same.
      let whole : AreBelow (length shapes) ones = All-weaker (λ n. n < first) (λ n. n < length shapes) (λ n less. omega (arith, less, a.within)) ones a.below in
      let others_whole : AreBelow (length shapes) others = All-weaker (λ n. n < second) (λ n. n < length shapes) (λ n less. omega (arith, less, b.within)) others b.below in
      same_numbers shapes subterms_are ones others whole others_whole (a.are one xs is ∙ same ∙ sym (b.are other ys there)),
)

-- the shape of this number among those that are kept
pub at_shape : {T N : Type 0} (number : N → Val) (shapes : List (kept.Shape T N)) (place : ℕ) (shape : kept.Shape T N) → slice_get shapes place ≡ Some shape → slice_get (shapes_of number shapes) place ≡ Some (shape_of number shape)
at_shape number shapes place shape at = slice_get-map (shape_of number) shapes place ∙ ap (option_map (shape_of number)) at

pub not_call : {T N : Type 0} (number : N → Val) (shape : kept.Shape T N) → ((function : Fun) (numbers : List ℕ) → shape ≡ Call function numbers → ⊥) → IsNoCall (shape_of number shape)
not_call number (Const value) never terms function arguments is = cc
not_call number (Var position) never terms function arguments is = cc
not_call number (App operator numbers) never terms function arguments is = cc
not_call number (Call function numbers) never terms other arguments is = never function numbers refl
