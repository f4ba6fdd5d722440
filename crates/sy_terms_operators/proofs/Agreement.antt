-- Under functions with the same values at what a term asks for, the term has the same value and asks for the same.
use Rattle.std.specs.Prelude.{ℕ, List, [], ◌∷◌, ◌++◌, refl, slice_get}
use Rattle.std.proofs.Common.{ap, ◌∙◌}
use Rattle.std.proofs.lemmas.List.Elements.{Contains-append_left, Contains-append_right, Contains-push}
use Rattle.sy_terms.specs.Values.{Val}
use Rattle.sy_terms.specs.Expr.{Expr, Exprs, Constant, Variable, Apply, Invoke, Bind, none, more}
use Rattle.sy_terms.specs.Operators.{op_value}
use Rattle.sy_terms.specs.Meaning.{Function, called, meaning, meanings, asked, all_asked}
use Rattle.sy_terms.specs.declared.term.Fun.TheVariants.{Defined, Wanted}
use Rattle.sy_terms_operators.specs.Agreement.{Agree, SameUnder, AllSameUnder}

same_left : (wanted others : List Function) (first second : List (ℕ × List Val)) → Agree wanted others (first ++ second) → Agree wanted others first
same_left wanted others first second same call in_first = same call (Contains-append_left first second call in_first)

same_right : (wanted others : List Function) (first second : List (ℕ × List Val)) → Agree wanted others (first ++ second) → Agree wanted others second
same_right wanted others first second same call in_second = same call (Contains-append_right first second call in_second)

mutual
  unfolding meaning meanings asked all_asked

  pub same_under : (defined wanted others : List Function) (values : List Val) (term : Expr) → Agree wanted others (asked defined wanted values term) → SameUnder defined wanted others values term
  same_under defined wanted others values (Constant value) same = record { value = refl; asks = refl }
  same_under defined wanted others values (Variable position) same = record { value = refl; asks = refl }
  same_under defined wanted others values (Apply operator arguments) same =
      let below = all_same_under defined wanted others values arguments same in
      record { value = ap (op_value operator) below.values_are; asks = below.asks }
  same_under defined wanted others values (Invoke (Defined f) arguments) same =
      let below = all_same_under defined wanted others values arguments same in
      record { value = ap (called (slice_get defined f)) below.values_are; asks = below.asks }
  same_under defined wanted others values (Invoke (Wanted f) arguments) same =
      let before = all_asked defined wanted values arguments in
      let call : ℕ × List Val = (f, meanings defined wanted values arguments) in
      let below = all_same_under defined wanted others values arguments (same_left wanted others before (call ∷ []) same) in
      record {
        value = same call (Contains-push before call) ∙ ap (called (slice_get others f)) below.values_are;
        asks = λ i. below.asks i ++ (f, below.values_are i) ∷ [];
      }
  same_under defined wanted others values (Bind bound inner) same =
      let first = all_asked defined wanted values bound in
      let second = asked defined wanted (values ++ meanings defined wanted values bound) inner in
      let below = all_same_under defined wanted others values bound (same_left wanted others first second same) in
      let inside = same_under defined wanted others (values ++ meanings defined wanted values bound) inner (same_right wanted others first second same) in
      record {
        value = inside.value ∙ ap (λ vs. meaning defined others (values ++ vs) inner) below.values_are;
        asks = (λ i. below.asks i ++ inside.asks i) ∙ ap (λ vs. all_asked defined others values bound ++ asked defined others (values ++ vs) inner) below.values_are;
      }

  pub all_same_under : (defined wanted others : List Function) (values : List Val) (terms : Exprs) → Agree wanted others (all_asked defined wanted values terms) → AllSameUnder defined wanted others values terms
  all_same_under defined wanted others values none same = record { values_are = refl; asks = refl }
  all_same_under defined wanted others values (more first rest) same =
      let here = asked defined wanted values first in
      let there = all_asked defined wanted values rest in
      let one = same_under defined wanted others values first (same_left wanted others here there same) in
      let there_same = all_same_under defined wanted others values rest (same_right wanted others here there same) in
      record {
        values_are = λ i. one.value i ∷ there_same.values_are i;
        asks = λ i. one.asks i ++ there_same.asks i;
      }
