-- Which applications stand within lists of terms, by those of their parts.
use Rattle.std.specs.Prelude.{ℕ, List, [], ◌∷◌, ◌++◌, ◌≡◌, refl, All, Contains}
use Rattle.std.proofs.Common.{ap, sym, ◌∙◌, subst}
use Rattle.std.proofs.lemmas.List.{append-nil}
use Rattle.std.proofs.lemmas.List.Elements.{All-nil, All-cons, All-head, All-tail, All-append, All-weaker, All-contains, Contains-append_left, Contains-push}
use Rattle.sy_terms.specs.Expr.{Expr, Exprs, Invoke, none}
use Rattle.sy_terms.specs.declared.term.Fun.TheVariants.{Wanted}
use Rattle.sy_loop_spec.specs.Applications.{applications, all_applications}
use Rattle.sy_loop_spec.proofs.Applied.{in_nothing}
use Rattle.sy_loop_pointwise.specs.Shapes.{term_of}
use Rattle.sy_loop_pointwise.specs.Asked.{AreAtOnce, IsTheCall, AreApplications}
use Rattle.sy_loop_pointwise.specs.declared.asks.Asks.{Asks}
use Rattle.sy_loop_pointwise.specs.declared.asks.Asks.TheVariants.{Mixed}

-- what holds of all items of two lists in a row holds of those of each
all_first : {A : Type 0} (P : A → Type 0) (first second : List A) → All P (first ++ second) → All P first
all_first P [] second all = All-nil P
all_first P (item ∷ first) second all = All-cons P item first (All-head P item (first ++ second) all) (all_first P first second (All-tail P item (first ++ second) all))

all_second : {A : Type 0} (P : A → Type 0) (first second : List A) → All P (first ++ second) → All P second
all_second P [] second all = all
all_second P (item ∷ first) second all = all_second P first second (All-tail P item (first ++ second) all)

at_once_first : (ones others : List (ℕ × Exprs)) (arguments : Exprs) → AreAtOnce (ones ++ others) arguments → AreAtOnce ones arguments
at_once_first ones others arguments all = record { same = all_first (λ (a : ℕ × Exprs). a.1 ≡ arguments) ones others all.same; plain = all.plain }

at_once_second : (ones others : List (ℕ × Exprs)) (arguments : Exprs) → AreAtOnce (ones ++ others) arguments → AreAtOnce others arguments
at_once_second ones others arguments all = record { same = all_second (λ (a : ℕ × Exprs). a.1 ≡ arguments) ones others all.same; plain = all.plain }

-- no applications have any arguments
pub nothing_at_once : (all : List (ℕ × Exprs)) → all ≡ [] → AreAtOnce all none
unfolding all_applications
nothing_at_once all nothing = record { same = subst (All (λ (a : ℕ × Exprs). a.1 ≡ none)) (sym nothing) (All-nil (λ (a : ℕ × Exprs). a.1 ≡ none)); plain = refl }

module _ (terms : List Expr) (ones others : List (ℕ × Exprs)) where
  -- where one of two lists has no applications, both have those of the other
  pub nothing_first : (asks : Asks) → ones ≡ [] → AreApplications terms others asks → AreApplications terms (ones ++ others) asks
  nothing_first asks nothing known = subst (λ all. AreApplications terms (all ++ others) asks) (sym nothing) known

  pub nothing_second : (asks : Asks) → others ≡ [] → AreApplications terms ones asks → AreApplications terms (ones ++ others) asks
  nothing_second asks nothing known = subst (λ all. AreApplications terms all asks) (sym (ap (λ rest. ones ++ rest) nothing ∙ append-nil ones)) known

  -- both are at once where each is, and the arguments are the same
  pub same_joined : (one other : ℕ) (first : IsTheCall terms ones one) (second : IsTheCall terms others other) → first.application.1 ≡ second.application.1 → IsTheCall terms (ones ++ others) one
  same_joined one other first second same = record {
    application = first.application;
    of = Contains-append_left ones others first.application first.of;
    is = first.is;
    at_once = record {
      same = All-append (λ (a : ℕ × Exprs). a.1 ≡ first.application.1) ones others first.at_once.same
          (All-weaker (λ (a : ℕ × Exprs). a.1 ≡ second.application.1) (λ (a : ℕ × Exprs). a.1 ≡ first.application.1) (λ a is. is ∙ sym same) others second.at_once.same);
      plain = first.at_once.plain;
    };
  }

  -- and not where they aren't
  pub others_joined : (one other : ℕ) (first : IsTheCall terms ones one) (second : IsTheCall terms others other) → (first.application.1 ≡ second.application.1 → ⊥) → AreApplications terms (ones ++ others) Mixed
  others_joined one other first second differ arguments all =
      let here = All-contains (λ (a : ℕ × Exprs). a.1 ≡ arguments) ones first.application (at_once_first ones others arguments all).same first.of in
      let there = All-contains (λ (a : ℕ × Exprs). a.1 ≡ arguments) others second.application (at_once_second ones others arguments all).same second.of in
      differ (here ∙ sym there)

  pub mixed_first : AreApplications terms ones Mixed → AreApplications terms (ones ++ others) Mixed
  mixed_first mixed arguments all = mixed arguments (at_once_first ones others arguments all)

  pub mixed_second : AreApplications terms others Mixed → AreApplications terms (ones ++ others) Mixed
  mixed_second mixed arguments all = mixed arguments (at_once_second ones others arguments all)

-- the applications within one, by those within its arguments
module _ (terms : List Expr) (function : ℕ) (arguments : Exprs) (number : ℕ) where
  own : (others : Exprs) → AreAtOnce (all_applications arguments ++ (function, arguments) ∷ []) others → arguments ≡ others
  own others all = All-contains (λ (a : ℕ × Exprs). a.1 ≡ others) (all_applications arguments ++ (function, arguments) ∷ []) (function, arguments) all.same (Contains-push (all_applications arguments) (function, arguments))

  -- it is the one that is called, where they have none
  pub applied_once : term_of terms number ≡ Invoke (Wanted function) arguments → all_applications arguments ≡ [] → IsTheCall terms (applications (Invoke (Wanted function) arguments)) number
  unfolding applications
  applied_once is nothing = record {
    application = (function, arguments);
    of = Contains-push (all_applications arguments) (function, arguments);
    is = is;
    at_once = record {
      same = All-append (λ (a : ℕ × Exprs). a.1 ≡ arguments) (all_applications arguments) ((function, arguments) ∷ [])
          (subst (All (λ (a : ℕ × Exprs). a.1 ≡ arguments)) (sym nothing) (All-nil (λ (a : ℕ × Exprs). a.1 ≡ arguments)))
          (All-cons (λ (a : ℕ × Exprs). a.1 ≡ arguments) (function, arguments) [] refl (All-nil (λ (a : ℕ × Exprs). a.1 ≡ arguments)));
      plain = nothing;
    };
  }

  -- and else they are not at once with it
  pub applied_again : (other : ℕ) → IsTheCall terms (all_applications arguments) other → AreApplications terms (applications (Invoke (Wanted function) arguments)) Mixed
  unfolding applications
  applied_again other call others all =
      let plain : all_applications arguments ≡ [] = ap all_applications (own others all) ∙ all.plain in
      in_nothing call.application (subst (λ apps. Contains apps call.application) plain call.of)

  pub applied_mixed : AreApplications terms (all_applications arguments) Mixed → AreApplications terms (applications (Invoke (Wanted function) arguments)) Mixed
  unfolding applications
  applied_mixed mixed others all = mixed none (nothing_at_once (all_applications arguments) (ap all_applications (own others all) ∙ all.plain))
