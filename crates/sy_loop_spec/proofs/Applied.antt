-- What terms with their bindings written out apply, and what that says of the calls that terms ask for.
use Rattle.std.specs.Prelude.{ℕ, zero, suc, List, [], ◌∷◌, ◌++◌, ◌≡◌, refl, ◌⊎◌, Contains}
use Rattle.std.proofs.Common.{ap, sym, ◌∙◌, subst, arith, append_assoc, inl, inr}
use Rattle.std.proofs.lemmas.List.Elements.{Contains-append_left, Contains-append_right, Contains-append_cases, Contains-push, Contains-push_cases}
use Rattle.sy_terms.specs.Values.{Val}
use Rattle.sy_terms.specs.Expr.{Expr, Exprs, Constant, Variable, Apply, Invoke, Bind, none, more, append}
use Rattle.sy_terms.specs.Meaning.{Function, meanings, asked, all_asked}
use Rattle.sy_terms.specs.declared.term.Fun.TheVariants.{Defined, Wanted}
use Rattle.sy_loop_spec.specs.Applications.{applications, all_applications}
use Rattle.sy_loop_spec.specs.WrittenOut.{term_at, written, all_written}
use Rattle.sy_loop_spec.proofs.WrittenOut.{all_written_mean, bound_mean}

-- nothing stands in an empty list
pub in_nothing : {A : Type 0} (item : A) → (let items : List A = [] in Contains items item) → ⊥
in_nothing item found = omega (arith, found.1)

-- what two lists of terms in a row apply
pub applications_append : (first second : Exprs) → all_applications (append first second) ≡ all_applications first ++ all_applications second
unfolding all_applications
applications_append none second = refl
applications_append (more term first) second =
    ap (λ rest. applications term ++ rest) (applications_append first second) ∙ sym (append_assoc (applications term) (all_applications first) (all_applications second))

term_at_applies : (known : Exprs) (position : ℕ) (application : ℕ × Exprs) → Contains (applications (term_at known position)) application → Contains (all_applications known) application
unfolding applications all_applications
term_at_applies none position application found = found
term_at_applies (more term rest) zero application found = Contains-append_left (applications term) (all_applications rest) application found
term_at_applies (more term rest) (suc position) application found = Contains-append_right (applications term) (all_applications rest) application (term_at_applies rest position application found)

-- the application as a call: its function at the meanings of its arguments
abbrev pub call_of : List Function → List Function → List Val → ℕ × Exprs → ℕ × List Val
call_of defined wanted values application = (application.0, meanings defined wanted values application.1)

-- one of either, where the second list grows
more_behind : {A B : Type 0} (ones : List A) (twos behind : List B) (one : A) (two : B) → Contains ones one ⊎ Contains twos two → Contains ones one ⊎ Contains (twos ++ behind) two
more_behind ones twos behind one two (inl found) = inl found
more_behind ones twos behind one two (inr found) = inr (Contains-append_left twos behind two found)

more_before : {A B : Type 0} (ones : List A) (before twos : List B) (one : A) (two : B) → Contains ones one ⊎ Contains twos two → Contains ones one ⊎ Contains (before ++ twos) two
more_before ones before twos one two (inl found) = inl found
more_before ones before twos one two (inr found) = inr (Contains-append_right before twos two found)

mutual
  unfolding applications all_applications asked all_asked written all_written

  pub written_asks : (defined wanted : List Function) (values : List Val) (known : Exprs) (term : Expr) (application : ℕ × Exprs) → Contains (applications (written known term)) application →
      Contains (all_applications known) application ⊎ Contains (asked defined wanted (meanings defined wanted values known) term) (call_of defined wanted values application)
  written_asks defined wanted values known (Constant value) application found = absurd (in_nothing application found)
  written_asks defined wanted values known (Variable position) application found = inl (term_at_applies known position application found)
  written_asks defined wanted values known (Apply operator arguments) application found = all_written_ask defined wanted values known arguments application found
  written_asks defined wanted values known (Invoke (Defined f) arguments) application found = all_written_ask defined wanted values known arguments application found
  written_asks defined wanted values known (Invoke (Wanted f) arguments) application found =
      let mean = meanings defined wanted values known in
      let before = all_asked defined wanted mean arguments in
      let own = call_of defined wanted values (f, all_written known arguments) in
      let last : own ≡ (f, meanings defined wanted mean arguments) = λ i. (f, all_written_mean defined wanted values known arguments i) in
      elim (Contains-push_cases (all_applications (all_written known arguments)) (f, all_written known arguments) application found) [
        | inl within ↦ more_behind (all_applications known) before ((f, meanings defined wanted mean arguments) ∷ []) application (call_of defined wanted values application) (all_written_ask defined wanted values known arguments application within)
        | inr is ↦ inr (subst (Contains (before ++ (f, meanings defined wanted mean arguments) ∷ [])) (sym last ∙ ap (call_of defined wanted values) is) (Contains-push before (f, meanings defined wanted mean arguments)))
      ]
  written_asks defined wanted values known (Bind bound inner) application found =
      let mean = meanings defined wanted values known in
      let names = append known (all_written known bound) in
      let call = call_of defined wanted values application in
      let first = all_asked defined wanted mean bound in
      let second = asked defined wanted (mean ++ meanings defined wanted mean bound) inner in
      elim (written_asks defined wanted values names inner application found) [
        | inl named ↦ elim (Contains-append_cases (all_applications known) (all_applications (all_written known bound)) application (subst (λ all. Contains all application) (applications_append known (all_written known bound)) named)) [
          | inl within ↦ inl within
          | inr within ↦ more_behind (all_applications known) first second application call (all_written_ask defined wanted values known bound application within)
        ]
        | inr asks ↦ inr (Contains-append_right first second call (subst (λ vs. Contains (asked defined wanted vs inner) call) (bound_mean defined wanted values known bound) asks))
      ]

  pub all_written_ask : (defined wanted : List Function) (values : List Val) (known terms : Exprs) (application : ℕ × Exprs) → Contains (all_applications (all_written known terms)) application →
      Contains (all_applications known) application ⊎ Contains (all_asked defined wanted (meanings defined wanted values known) terms) (call_of defined wanted values application)
  all_written_ask defined wanted values known none application found = absurd (in_nothing application found)
  all_written_ask defined wanted values known (more first rest) application found =
      let mean = meanings defined wanted values known in
      let call = call_of defined wanted values application in
      let here = asked defined wanted mean first in
      let there = all_asked defined wanted mean rest in
      elim (Contains-append_cases (applications (written known first)) (all_applications (all_written known rest)) application found) [
        | inl within ↦ more_behind (all_applications known) here there application call (written_asks defined wanted values known first application within)
        | inr within ↦ more_before (all_applications known) here there application call (all_written_ask defined wanted values known rest application within)
      ]
