-- What agrees is refuted together, and so is all that kept terms stand for.
use Rattle.std.specs.Prelude.{ℕ, zero, suc, Bool, ◌-◌, ◌≡◌, ◌<◌, ◌≤◌, ◌⊎◌, List, [], ◌∷◌, map, slice_get, Some, Contains, refl}
use Rattle.std.proofs.Common.{ap, ◌∙◌, sym, subst, arith, ⊎_elim, inl, inr}
use Rattle.std.proofs.lemmas.Option.{slice_get-get_or}
use Rattle.std.proofs.lemmas.List.Elements.{All-contains}
use Rattle.sy_terms.specs.Values.{Val}
use Rattle.sy_terms.specs.Expr.{Expr}
use Rattle.sy_terms.specs.Fitting.{Scope}
use Rattle.sy_terms.specs.Meaning.{functions, function_from}
use Rattle.sy_terms.specs.declared.op.Op.{Op}
use Rattle.sy_terms.specs.declared.sort.Sort.TheVariants as sorts
use Rattle.sy_terms_operators.proofs.Asked.{asks_nothing}
use Rattle.sy_grammar_base.specs.Trees.{tree_size}
use Rattle.sy_grammar_base.specs.Questions.{Goal, Question}
use Rattle.sy_grammar_base.specs.Solving.{IsTrueUnder, AreValues, AreMembers, AreWithin}
use Rattle.sy_query_base.specs.Queries.{Violates}
use Rattle.sy_points.specs.Asked.{Asked}
use Rattle.sy_bank_level.specs.Banks.{Entry, Merged}
use Rattle.sy_bank_level.specs.Covering.{sizes, terms}
use Rattle.sy_loop_spec.specs.declared.reach.Reach.{Reach}
use Rattle.sy_loop_spec.specs.declared.reach.Reach.TheVariants.{Sizes}
use Rattle.sy_loop_spec.specs.Histories.{AllViolate, Counterexample, IsHonestHistory, IsViolatedIn}
use Rattle.sy_loop_spec.proofs.Staying.{in_bound}
use Rattle.sy_loop_spec.specs.Sizes.{SumTo, AreAtMost}
use Rattle.sy_loop_spec.specs.Unsolved.{NoSolution, NoSolutionWithin}
use Rattle.sy_loop_spec.specs.Adding.{AreAsked, KnownGrows}
use Rattle.sy_loop_spec.specs.Truths.{asked_by, IsFalseByCalls, IsViolated}
use Rattle.sy_loop_spec.specs.Trials.{IsRefuted}
use Rattle.sy_loop_spec.specs.Agreeing.{BodiesAgree, AssumptionsFit, AssumptionsAskNothing}
use Rattle.sy_loop_spec.specs.Merging.{AreCovering, AreChosen, AreMerged}
use Rattle.sy_loop_spec.specs.Refuting.{AllRefuted}
use Rattle.sy_terms_operators.specs.Agreement.{Agree, SameUnder}
use Rattle.sy_terms_operators.proofs.Agreement.{same_under}
use Rattle.sy_loop_spec.proofs.Same.{same_called}
use Rattle.sy_loop_spec.proofs.Covered.{are_merged}

-- bodies that agree have functions of the same values at the tuples
same_at : (question : Question) (asked : Asked) (bodies others : List Expr) (calls : List (ℕ × List Val)) → BodiesAgree question asked bodies others → AreAsked calls asked →
    Agree (map (function_from (functions question.definitions)) bodies) (map (function_from (functions question.definitions)) others) calls
same_at question asked bodies others calls agree there call of =
    same_called (functions question.definitions) bodies others call.0 call.1 agree.many (λ body other first second. agree.each call.0 body other call.1 first second (there call.0 call.1 of))

-- a term whose calls are among those at which bodies have the same values
same_of : (question : Question) (bodies others : List Expr) (values : List Val) (term : Expr) (calls : List (ℕ × List Val)) →
    Agree (map (function_from (functions question.definitions)) bodies) (map (function_from (functions question.definitions)) others) calls →
    ((call : ℕ × List Val) → Contains (asked_by question bodies values term) call → Contains calls call) →
    SameUnder (functions question.definitions) (map (function_from (functions question.definitions)) bodies) (map (function_from (functions question.definitions)) others) values term
same_of question bodies others values term calls same among = same_under (functions question.definitions) _ _ values term (λ call of. same call (among call of))

false_of : (question : Question) (bodies others : List Expr) (values : List Val) (term : Expr) (calls : List (ℕ × List Val)) →
    Agree (map (function_from (functions question.definitions)) bodies) (map (function_from (functions question.definitions)) others) calls → IsFalseByCalls question bodies values term calls → IsFalseByCalls question others values term calls
false_of question bodies others values term calls same is =
    let both = same_of question bodies others values term calls same is.all in
    record {
      untrue = λ holds. is.untrue (both.value ∙ holds);
      all = λ call of. is.all call (subst (λ cs. Contains cs call) (sym both.asks) of);
      only = λ call of. subst (λ cs. Contains cs call) both.asks (is.only call of);
      taken = is.taken;
    }

nothing_among : (calls more : List (ℕ × List Val)) → calls ≡ [] → (call : ℕ × List Val) → Contains calls call → Contains more call
nothing_among [] more e call of = absurd (no_element call of)
  where
    no_element : {X : Type 0} (x : X) → Contains [] x → ⊥
    no_element x of = omega (arith, of.1)
nothing_among (c ∷ calls) more e call of = absurd (cc)

pub violated_together : (question : Question) (asked : Asked) (bodies others : List Expr) (values : List Val) (calls : List (ℕ × List Val)) → AssumptionsAskNothing question → BodiesAgree question asked bodies others → AreAsked calls asked →
    IsViolated question bodies values calls → IsViolated question others values calls
violated_together question asked bodies others values calls assumes agree there violated =
    let same = same_at question asked bodies others calls agree there in
    let one = violated.constraint in
    record {
      assumed = λ k d within.
          let both = same_of question bodies others values _ calls same (nothing_among _ calls (assumes bodies values k d within)) in
          sym both.value ∙ violated.assumed k d within;
      constraint = record { term = one.term; of = one.of; is = false_of question bodies others values one.term calls same one.is };
    }

pub refuted_together : (question : Question) (history : List Counterexample) (asked : Asked) (bodies others : List Expr) → AssumptionsAskNothing question → BodiesAgree question asked bodies others →
    IsRefuted question history asked bodies → IsRefuted question history asked others
refuted_together question history asked bodies others assumes agree refuted = record {
  counterexample = refuted.counterexample;
  stored = refuted.stored;
  calls = refuted.calls;
  violated = violated_together question asked bodies others refuted.counterexample.assignment refuted.calls assumes agree refuted.there refuted.violated;
  there = refuted.there;
}

-- bodies that make a constraint false violate the problem
pub violates : (question : Question) (bodies : List Expr) (values : List Val) (calls : List (ℕ × List Val)) → IsViolated question bodies values calls → Violates question bodies values
violates question bodies values calls violated =
    (violated.assumed, λ all. violated.constraint.is.untrue (All-contains (IsTrueUnder question bodies values) question.constraints violated.constraint.term all violated.constraint.of))

pub violated_in : (question : Question) (history : List Counterexample) (asked : Asked) (bodies : List Expr) → IsRefuted question history asked bodies → IsViolatedIn question history bodies
violated_in question history asked bodies refuted = record {
  counterexample = refuted.counterexample;
  stored = refuted.stored;
  violates = violates question bodies refuted.counterexample.assignment refuted.calls refuted.violated;
}

-- where the kept terms that the members are merged with are refuted, the members are
merged_refuted : (question : Question) (history : List Counterexample) (asked : Asked) (n : ℕ) (banks : List Merged) (bodies : List Expr) → AssumptionsAskNothing question → (merged : AreMerged question asked n banks bodies) →
    IsRefuted question history asked (terms merged.chosen) → IsRefuted question history asked bodies
merged_refuted question history asked n banks bodies assumes merged kept = refuted_together question history asked (terms merged.chosen) bodies assumes merged.agree kept

pub all_refuted : (question : Question) (history : List Counterexample) (asked : Asked) (n : ℕ) (banks : List Merged) → AssumptionsAskNothing question → AreCovering question asked n banks →
    ((chosen : List Entry) → AreChosen banks chosen → sizes chosen ≤ n → IsRefuted question history asked (terms chosen)) → AllRefuted question history asked n
all_refuted question history asked n banks assumes covering kept bodies candidate =
    let merged = are_merged question asked n banks bodies covering candidate in
    merged_refuted question history asked n banks bodies assumes merged (kept merged.chosen merged.kept merged.small)

-- members of lesser sizes may be refuted already
pub next_refuted : (question : Question) (history : List Counterexample) (asked : Asked) (n : ℕ) (banks : List Merged) → AssumptionsAskNothing question → AreCovering question asked n banks →
    ((m : ℕ) → m < n → AllRefuted question history asked m) →
    ((chosen : List Entry) → AreChosen banks chosen → sizes chosen ≡ n → IsRefuted question history asked (terms chosen)) → AllRefuted question history asked n
next_refuted question history asked n banks assumes covering below kept bodies candidate =
    let merged = are_merged question asked n banks bodies covering candidate in
    merged_refuted question history asked n banks bodies assumes merged (⊎_elim
    (λ (less : sizes merged.chosen < n). below (sizes merged.chosen) less (terms merged.chosen) merged.members)
    (λ (same : sizes merged.chosen ≡ n). kept merged.chosen merged.kept same)
    (less_or_same (sizes merged.chosen) n merged.small))
  where
    less_or_same : (m k : ℕ) → m ≤ k → (m < k) ⊎ (m ≡ k)
    less_or_same zero zero le = inr refl
    less_or_same zero (suc k) le = inl (omega arith)
    less_or_same (suc m) zero le = absurd (omega (arith, le))
    less_or_same (suc m) (suc k) le = ⊎_elim (λ (less : m < k). inl (omega (arith, less))) (λ (same : m ≡ k). inr (ap suc same)) (less_or_same m k (omega (arith, le)))

-- what is refuted stays so
pub stays_refuted : (question : Question) (history history' : List Counterexample) (asked asked' : Asked) (bodies : List Expr) → KnownGrows history asked history' asked' →
    IsRefuted question history asked bodies → IsRefuted question history' asked' bodies
stays_refuted question history history' asked asked' bodies grows refuted = record {
  counterexample = refuted.counterexample;
  stored = grows.stored refuted.counterexample refuted.stored;
  calls = refuted.calls;
  violated = refuted.violated;
  there = λ function tuple of. grows.tuples function tuple (refuted.there function tuple of);
}

pub all_violate : (question : Question) (history : List Counterexample) (asked : Asked) (n : ℕ) → AllRefuted question history asked n → AllViolate Sizes question history n
all_violate question history asked n all bodies candidate = violated_in question history asked bodies (all bodies candidate)

-- the assignments of an honest history are values of the variables
assigned : (reach : Reach) (question : Question) (size rounds : ℕ) (history : List Counterexample) (c : Counterexample) → IsHonestHistory reach question size rounds history → Contains history c → AreValues question.variables c.assignment
assigned reach question size rounds history c honest of = let at = place_of history c of in (honest.each at.0 c at.1).values
  where
    place_of : {X : Type 0} (xs : List X) (x : X) → Contains xs x → (place : ℕ) × (slice_get xs place ≡ Some x)
    place_of xs x of = (of.0, slice_get-get_or xs of.0 x of.1 ∙ ap Some of.2)

pub no_solution_within : (reach : Reach) (question : Question) (size rounds n : ℕ) (history : List Counterexample) → IsHonestHistory reach question size rounds history → AllViolate reach question history n → NoSolutionWithin reach question n
no_solution_within reach question size rounds n history honest all bodies bound solves =
    let at = all bodies bound in
    at.violates.1 (solves at.counterexample.assignment (assigned reach question size rounds history at.counterexample honest at.stored) at.violates.0)

-- assumptions that fit where no function is to be found ask for none
pub assumes_nothing : (owned : Op → Bool) (question : Question) →
    AssumptionsFit owned question → AssumptionsAskNothing question
assumes_nothing owned question fit bodies values =
    let scope : Scope = record { owned = owned; defined = question.signatures; wanted = [] } in
    λ k d within. asks_nothing scope refl (functions question.definitions) (map (function_from (functions question.definitions)) bodies) question.variables values _ sorts.Bool (fit k d within)

-- members are within what the largest sizes sum to
members_within : (pool : List Val) (goals : List Goal) (bodies : List Expr) (total n : ℕ) → SumTo pool goals total → total ≤ n → AreMembers goals bodies → AreWithin pool n goals bodies
members_within pool [] [] total n sum small members = tt
members_within pool [] (body ∷ bodies) total n sum small members = absurd members
members_within pool (goal ∷ goals) [] total n sum small members = absurd members
members_within pool (goal ∷ goals) (body ∷ bodies) total n sum small members =
    let size = tree_size goal.grammar pool 0 members.0.tree in
    let less : size ≤ sum.0 = sum.2.bounds size (record { tree = members.0.tree; term = body; derives = members.0.derives; is = refl }) in
    let split = sum.4 in
    (members.0.tree, members.0.derives, omega (arith, less, split, small), members_within pool goals bodies sum.1 (n - size) sum.3 (omega (arith, less, split, small)) members.1)

pub no_solution : (reach : Reach) (question : Question) (n : ℕ) → AreAtMost question n → NoSolutionWithin reach question n → NoSolution question
no_solution reach question n most none bodies members solves =
    none bodies (in_bound reach question n bodies (members_within question.pool question.goals bodies most.0 n most.1 most.2 members)) solves
