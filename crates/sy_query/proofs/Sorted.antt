-- A term with its calls replaced has the sort that the term has.
use Rattle.std.specs.Prelude.{ℕ, zero, suc, ◌+◌, Bool, List, [], ◌∷◌, ◌++◌, ◌≡◌, refl, length, slice_get, map, Some}
use Rattle.std.proofs.Common.{arith, ap, ◌∙◌, sym, subst, append_assoc, length-append}
use Rattle.std.proofs.lemmas.Option.{none-some}
use Rattle.std.proofs.lemmas.List.{append-nil}
use Rattle.sy_terms.specs.Values.{Val}
use Rattle.sy_terms.specs.Expr as expr
use Rattle.sy_terms.specs.Expr.{Expr, Exprs, Constant, Variable, Apply, Invoke, Bind}
use Rattle.sy_terms.specs.Denoted.{expr_of}
use Rattle.sy_terms.specs.Definitions.{FitAfter, DefinitionsFit, body, bodies, signature}
use Rattle.sy_terms.specs.Fitting.{Scope, Signature, sort_in, sorts_in, applied_sort, after}
use Rattle.sy_terms.specs.declared.op.Op.{Op}
use Rattle.sy_terms.specs.declared.sort.Sort.{Sort}
use Rattle.sy_terms.specs.declared.term.Def.{Def}
use Rattle.sy_terms.specs.declared.term.Term.{Term}
use Rattle.sy_terms.specs.declared.term.Fun.TheVariants.{Defined, Wanted}
use Rattle.sy_terms_operators.proofs.Equations.{applied_sort_Some, called_sort_Some, after_Some, with_sort_Some}
use Rattle.sy_terms_operators.specs.Evaluation.{BodiesFit}
use Rattle.sy_query_base.specs.Placed.{Placement, called_at, count, placed, all_placed, placement_from, placements_after, placements}
use Rattle.sy_query_base.specs.Weights.{query_scope}

-- a placed body has the sort that the signature gives
pub record Sorts (owned : Op → Bool) (placement : Placement) (signature : Signature) : Type 0 where
  pub gives : (front : List Sort) → sort_in (query_scope owned) (front ++ signature.takes) (placement (length front) (length front + length signature.takes)) ≡ Some signature.gives

abbrev pub AllSort : (Op → Bool) → List Placement → List Signature → Type 0
AllSort owned [] [] = Unit {0}
AllSort owned [] (s ∷ ss) = ⊥
AllSort owned (p ∷ ps) [] = ⊥
AllSort owned (p ∷ ps) (s ∷ ss) = Sorts owned p s × AllSort owned ps ss

abbrev pub scope_from : (Op → Bool) → List Signature → List Signature → Scope
scope_from owned defined wanted = record { owned = owned; defined = defined; wanted = wanted }

past : (front own : List Sort) (position : ℕ) → slice_get (front ++ own) (length front + position) ≡ slice_get own position
past [] own position = ap (slice_get own) (omega arith)
past (s ∷ front) own position =
    let next : length (s ∷ front) + position ≡ suc (length front + position) = omega arith in
    rw next (past front own position)

pub sorts_in-length : (scope : Scope) (own : List Sort) (terms : Exprs) (found : List Sort) → sorts_in scope own terms ≡ Some found → length found ≡ count terms
unfolding sorts_in
sorts_in-length scope own expr.none found e =
    let empty : [] ≡ found = cc in
    ap length (sym empty)
sorts_in-length scope own (expr.more first rest) found e =
    let parts = with_sort_Some (sort_in scope own first) (sorts_in scope own rest) found e in
    ap length (sym parts.whole_is) ∙ omega (arith, sorts_in-length scope own rest parts.sorts parts.rest_is)

serves-at : (owned : Op → Bool) (ps : List Placement) (ss : List Signature) (k : ℕ) (s : Signature) → AllSort owned ps ss → slice_get ss k ≡ Some s → (front : List Sort) → sort_in (query_scope owned) (front ++ s.takes) (called_at (slice_get ps k) (length front) (length front + length s.takes)) ≡ Some s.gives
serves-at owned [] [] k s all e front = absurd (none-some s e)
serves-at owned [] (t ∷ ss) k s all e front = absurd all
serves-at owned (p ∷ ps) [] k s all e front = absurd all
serves-at owned (p ∷ ps) (t ∷ ss) zero s all e front =
    let same : t ≡ s = cc in
    subst (λ (u : Signature). sort_in (query_scope owned) (front ++ u.takes) (p (length front) (length front + length u.takes)) ≡ Some u.gives) same (all.0.gives front)
serves-at owned (p ∷ ps) (t ∷ ss) (suc k) s all e front = serves-at owned ps ss k s all.1 e front

mutual
  unfolding placed all_placed sort_in sorts_in

  pub placed-sort : (owned : Op → Bool) (defined wanted : List Placement) (given found : List Signature) → AllSort owned defined given → AllSort owned wanted found → (front own : List Sort) (term : Expr) (s : Sort) → sort_in (scope_from owned given found) own term ≡ Some s → sort_in (query_scope owned) (front ++ own) (placed defined wanted (length front) (length front + length own) term) ≡ Some s
  placed-sort owned defined wanted given found serve also front own (Constant value) s h = h
  placed-sort owned defined wanted given found serve also front own (Variable position) s h = past front own position ∙ h
  placed-sort owned defined wanted given found serve also front own (Apply operator arguments) s h =
      let parts = applied_sort_Some (scope_from owned given found) operator (sorts_in (scope_from owned given found) own arguments) s h in
      let here = all_placed-sorts owned defined wanted given found serve also front own arguments parts.sorts parts.is in
      ap (applied_sort (query_scope owned) operator) here ∙ (sym (ap (applied_sort (scope_from owned given found) operator) parts.is) ∙ h)
  placed-sort owned defined wanted given found serve also front own (Invoke (Defined f) arguments) s h =
      let parts = called_sort_Some (slice_get given f) (sorts_in (scope_from owned given found) own arguments) s h in
      let here = all_placed-sorts owned defined wanted given found serve also front own arguments parts.function.takes parts.takes in
      let many = sorts_in-length (scope_from owned given found) own arguments parts.function.takes parts.takes in
      let body = serves-at owned defined given f parts.function serve parts.is (front ++ own) in
      ap (λ (found : _). after found (λ (found : List Sort). sort_in (query_scope owned) ((front ++ own) ++ found) (called_at (slice_get defined f) (length front + length own) (length front + length own + count arguments)))) here ∙ ((rw (length-append front own, many) at body) ∙ ap Some parts.gives)
  placed-sort owned defined wanted given found serve also front own (Invoke (Wanted f) arguments) s h =
      let parts = called_sort_Some (slice_get found f) (sorts_in (scope_from owned given found) own arguments) s h in
      let here = all_placed-sorts owned defined wanted given found serve also front own arguments parts.function.takes parts.takes in
      let many = sorts_in-length (scope_from owned given found) own arguments parts.function.takes parts.takes in
      let body = serves-at owned wanted found f parts.function also parts.is (front ++ own) in
      ap (λ (found : _). after found (λ (found : List Sort). sort_in (query_scope owned) ((front ++ own) ++ found) (called_at (slice_get wanted f) (length front + length own) (length front + length own + count arguments)))) here ∙ ((rw (length-append front own, many) at body) ∙ ap Some parts.gives)
  placed-sort owned defined wanted given found serve also front own (Bind bound inner) s h =
      let parts = after_Some (sorts_in (scope_from owned given found) own bound) (λ (more : List Sort). sort_in (scope_from owned given found) (own ++ more) inner) s h in
      let here = all_placed-sorts owned defined wanted given found serve also front own bound parts.sorts parts.is in
      let many = sorts_in-length (scope_from owned given found) own bound parts.sorts parts.is in
      let long : length front + length (own ++ parts.sorts) ≡ (length front + length own) + count bound = omega (arith, length-append own parts.sorts, many) in
      let within = placed-sort owned defined wanted given found serve also front (own ++ parts.sorts) inner s parts.next_is in
      ap (λ (found : _). after found (λ (found : List Sort). sort_in (query_scope owned) ((front ++ own) ++ found) (placed defined wanted (length front) (length front + length own + count bound) inner))) here ∙ (ap (λ (all : List Sort). sort_in (query_scope owned) all (placed defined wanted (length front) (length front + length own + count bound) inner)) (append_assoc front own parts.sorts) ∙ (rw long at within))

  pub all_placed-sorts : (owned : Op → Bool) (defined wanted : List Placement) (given found : List Signature) → AllSort owned defined given → AllSort owned wanted found → (front own : List Sort) (terms : Exprs) (ss : List Sort) → sorts_in (scope_from owned given found) own terms ≡ Some ss → sorts_in (query_scope owned) (front ++ own) (all_placed defined wanted (length front) (length front + length own) terms) ≡ Some ss
  all_placed-sorts owned defined wanted given found serve also front own expr.none ss h = h
  all_placed-sorts owned defined wanted given found serve also front own (expr.more first rest) ss h =
      let parts = with_sort_Some (sort_in (scope_from owned given found) own first) (sorts_in (scope_from owned given found) own rest) ss h in
      let one = placed-sort owned defined wanted given found serve also front own first parts.sort parts.first_is in
      let others = all_placed-sorts owned defined wanted given found serve also front own rest parts.sorts parts.rest_is in
      rw (one, others) (ap Some parts.whole_is)

body-sorts : (owned : Op → Bool) (ps : List Placement) (given : List Signature) → AllSort owned ps given → (body : Expr) (s : Signature) → sort_in (scope_from owned given []) s.takes body ≡ Some s.gives → Sorts owned (placement_from ps body) s
body-sorts owned ps given serve body s h = record { gives = λ front. placed-sort owned ps [] given [] serve tt front s.takes body s.gives h }

sort-last : (owned : Op → Bool) (ps : List Placement) (ss : List Signature) → AllSort owned ps ss → (p : Placement) (s : Signature) → Sorts owned p s → AllSort owned (ps ++ p ∷ []) (ss ++ s ∷ [])
sort-last owned [] [] all p s h = (h, tt)
sort-last owned [] (t ∷ ss) all p s h = absurd all
sort-last owned (q ∷ ps) [] all p s h = absurd all
sort-last owned (q ∷ ps) (t ∷ ss) all p s h = (all.0, sort-last owned ps ss all.1 p s h)

map-last : {T N : Type 0} (defs : List (Def T N)) (def : Def T N) → map signature (defs ++ def ∷ []) ≡ map signature defs ++ signature def ∷ []
map-last [] def = refl
map-last (d ∷ defs) def = ap (λ (ss : List Signature). signature d ∷ ss) (map-last defs def)

after-sort : {T N : Type 0} (owned : Op → Bool) (number : N → Val) (ps : List Placement) (earlier defs : List (Def T N)) → AllSort owned ps (map signature earlier) → FitAfter owned number earlier defs → AllSort owned (placements_after ps (bodies number defs)) (map signature (earlier ++ defs))
after-sort {T} {N} owned number ps earlier [] all fit = subst (λ (ds : List (Def T N)). AllSort owned ps (map signature ds)) (sym (append-nil earlier)) all
after-sort {T} {N} owned number ps earlier (def ∷ defs) all fit =
    let one = body-sorts owned ps (map signature earlier) all (body number def) (signature def) fit.0 in
    let longer = subst (λ (ss : List Signature). AllSort owned (ps ++ placement_from ps (body number def) ∷ []) ss) (sym (map-last earlier def)) (sort-last owned ps (map signature earlier) all (placement_from ps (body number def)) (signature def) one) in
    subst (λ (ds : List (Def T N)). AllSort owned (placements_after (ps ++ placement_from ps (body number def) ∷ []) (bodies number defs)) (map signature ds)) (append_assoc earlier (def ∷ []) defs) (after-sort owned number (ps ++ placement_from ps (body number def) ∷ []) (earlier ++ def ∷ []) defs longer fit.1)

-- the placements of definitions that fit have their sorts
pub definitions-sort : {T N : Type 0} (owned : Op → Bool) (number : N → Val) (defs : List (Def T N)) → DefinitionsFit owned number defs → AllSort owned (placements (bodies number defs)) (map signature defs)
definitions-sort owned number defs fit = after-sort owned number [] [] defs tt fit

-- and so have those of bodies that fit
pub bodies-sort : {T N : Type 0} (owned : Op → Bool) (number : N → Val) (defs : List (Def T N)) (terms : List (Term T N)) (wanted : List Signature) → DefinitionsFit owned number defs → BodiesFit owned number defs terms wanted → AllSort owned (map (placement_from (placements (bodies number defs))) (map (expr_of number) terms)) wanted
bodies-sort owned number defs [] [] definitions fit = tt
bodies-sort owned number defs [] (s ∷ wanted) definitions fit = absurd fit
bodies-sort owned number defs (term ∷ terms) [] definitions fit = absurd fit
bodies-sort owned number defs (term ∷ terms) (s ∷ wanted) definitions fit =
    (body-sorts owned (placements (bodies number defs)) (map signature defs) (definitions-sort owned number defs definitions) (expr_of number term) s fit.0, bodies-sort owned number defs terms wanted definitions fit.1)
