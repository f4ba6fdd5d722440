-- The definition or the body that a call reaches, and what stands for it.
use Rattle.std.specs.Prelude.{ℕ, zero, suc, ◌+◌, ◌<◌, Bool, List, [], ◌∷◌, ◌++◌, ◌≡◌, refl, slice_get, Some, map, length}
use Rattle.std.specs.Option.{option_map}
use Rattle.std.proofs.Common.{arith, ap, ◌∙◌, subst, take, length-append}
use Rattle.std.proofs.lemmas.Option.{none-some, slice_get-map}
use Rattle.sy_terms.specs.Values.{Val}
use Rattle.sy_terms.specs.Expr.{Expr, nodes}
use Rattle.sy_terms.specs.Denoted.{expr_of}
use Rattle.sy_terms.specs.Fitting.{Signature, sort_in}
use Rattle.sy_terms.specs.Definitions.{scope_of, signature, bodies, body, DefinitionsFit}
use Rattle.sy_terms.specs.declared.op.Op.{Op}
use Rattle.sy_terms.specs.declared.term.Def.{Def}
use Rattle.sy_terms.specs.declared.term.Term.{Term}
use Rattle.sy_terms_operators.specs.Evaluation.{BodiesFit}
use Rattle.sy_terms_operators.proofs.Called.{FitAfter-at}
use Rattle.sy_terms_operators.proofs.Reached.{weight_of}
use Rattle.sy_query_base.specs.Placed.{Placement, placement_from, placements_after, placements}
use Rattle.sy_query.specs.Placing.{wanted_placements}

slice_get-before : {X : Type 0} (xs ys : List X) (k : ℕ) → k < length xs → slice_get (xs ++ ys) k ≡ slice_get xs k
slice_get-before [] ys k h = absurd (omega arith)
slice_get-before (x ∷ xs) ys zero h = refl
slice_get-before (x ∷ xs) ys (suc k) h = slice_get-before xs ys k (omega arith)

slice_get-last : {X : Type 0} (xs : List X) (x : X) → slice_get (xs ++ x ∷ []) (length xs) ≡ Some x
slice_get-last [] x = refl
slice_get-last (y ∷ xs) x = slice_get-last xs x

kept : (earlier : List Placement) (bs : List Expr) (k : ℕ) → k < length earlier → slice_get (placements_after earlier bs) k ≡ slice_get earlier k
kept earlier [] k h = refl
kept earlier (b ∷ bs) k h =
    let longer = earlier ++ placement_from earlier b ∷ [] in
    kept longer bs k (omega (arith, length-append earlier (placement_from earlier b ∷ []))) ∙ slice_get-before earlier (placement_from earlier b ∷ []) k h

placements_after-at : (earlier : List Placement) (bs : List Expr) (n i : ℕ) (b : Expr) → i ≡ length earlier + n → slice_get bs n ≡ Some b → slice_get (placements_after earlier bs) i ≡ Some (placement_from (placements_after earlier (take n bs)) b)
placements_after-at earlier [] n i b at e = absurd (none-some b e)
placements_after-at earlier (x ∷ bs) zero i b at e =
    let longer = earlier ++ placement_from earlier x ∷ [] in
    let here : i ≡ length earlier = omega arith in
    let same : x ≡ b = cc in
    rw (here, ← same) (kept longer bs (length earlier) (omega (arith, length-append earlier (placement_from earlier x ∷ []))) ∙ slice_get-last earlier (placement_from earlier x))
placements_after-at earlier (x ∷ bs) (suc n) i b at e =
    placements_after-at (earlier ++ placement_from earlier x ∷ []) bs n i b (omega (arith, length-append earlier (placement_from earlier x ∷ []))) e

take-bodies : {T N : Type 0} (number : N → Val) (defs : List (Def T N)) (n : ℕ) → take n (bodies number defs) ≡ bodies number (take n defs)
take-bodies number [] zero = refl
take-bodies number [] (suc n) = refl
take-bodies number (x ∷ defs) zero = refl
take-bodies number (x ∷ defs) (suc n) = ap (λ (rest : List Expr). body number x ∷ rest) (take-bodies number defs n)

-- what stands for a definition
pub definition-at : {T N : Type 0} (number : N → Val) (defs : List (Def T N)) (n : ℕ) (def : Def T N) → slice_get defs n ≡ Some def → slice_get (placements (bodies number defs)) n ≡ Some (placement_from (placements (bodies number (take n defs))) (body number def))
definition-at number defs n def e =
    placements_after-at [] (bodies number defs) n n (body number def) (omega arith) (slice_get-map (body number) defs n ∙ ap (option_map (body number)) e) ∙ ap (λ (bs : List Expr). Some (placement_from (placements bs) (body number def))) (take-bodies number defs n)

-- what stands for a body
pub body-at : {T N : Type 0} (number : N → Val) (defs : List (Def T N)) (terms : List (Term T N)) (n : ℕ) (term : Term T N) → slice_get terms n ≡ Some term → slice_get (wanted_placements number defs terms) n ≡ Some (placement_from (placements (bodies number defs)) (expr_of number term))
body-at number defs [] n term e = absurd (none-some term e)
body-at {T} {N} number defs (t ∷ terms) zero term e =
    let same : t ≡ term = cc in
    ap (λ (u : Term T N). Some (placement_from (placements (bodies number defs)) (expr_of number u))) same
body-at number defs (t ∷ terms) (suc n) term e = body-at number defs terms n term e

-- a definition, with those before it
pub record Defines {T N : Type 0} (owned : Op → Bool) (number : N → Val) (defs : List (Def T N)) (n : ℕ) (s : Signature) : Type 0 where
  pub def : Def T N
  pub is : slice_get defs n ≡ Some def
  pub before : DefinitionsFit owned number (take n defs)
  pub fits : sort_in (scope_of owned (take n defs)) s.takes (body number def) ≡ Some s.gives

signature-at : {T N : Type 0} (defs : List (Def T N)) (n : ℕ) (s : Signature) → slice_get (map signature defs) n ≡ Some s → (def : Def T N) × (slice_get defs n ≡ Some def) × (signature def ≡ s)
signature-at [] n s e = absurd (none-some s e)
signature-at (x ∷ defs) zero s e =
    let same : signature x ≡ s = cc in
    (x, refl, same)
signature-at (x ∷ defs) (suc n) s e = signature-at defs n s e

pub defines : {T N : Type 0} (owned : Op → Bool) (number : N → Val) (defs : List (Def T N)) (n : ℕ) (s : Signature) → DefinitionsFit owned number defs → slice_get (map signature defs) n ≡ Some s → Defines owned number defs n s
defines {T} {N} owned number defs n s fit e =
    let at = signature-at defs n s e in
    let there = FitAfter-at owned number [] defs n at.0 fit at.1 in
    record {
      def = at.0;
      is = at.1;
      before = there.before_fit;
      fits = subst (λ (u : Signature). sort_in (scope_of owned (take n defs)) u.takes (body number at.0) ≡ Some u.gives) at.2 there.fits;
    }

-- the body of a function to be found
pub record Fills {T N : Type 0} (owned : Op → Bool) (number : N → Val) (defs : List (Def T N)) (terms : List (Term T N)) (n : ℕ) (s : Signature) : Type 0 where
  pub term : Term T N
  pub is : slice_get terms n ≡ Some term
  pub fits : sort_in (scope_of owned defs) s.takes (expr_of number term) ≡ Some s.gives

pub fills : {T N : Type 0} (owned : Op → Bool) (number : N → Val) (defs : List (Def T N)) (terms : List (Term T N)) (ss : List Signature) (n : ℕ) (s : Signature) → BodiesFit owned number defs terms ss → slice_get ss n ≡ Some s → Fills owned number defs terms n s
fills owned number defs [] [] n s fit e = absurd (none-some s e)
fills owned number defs [] (s' ∷ ss) n s fit e = absurd fit
fills owned number defs (t ∷ terms) [] n s fit e = absurd fit
fills owned number defs (t ∷ terms) (s' ∷ ss) zero s fit e =
    let same : s' ≡ s = cc in
    record { term = t; is = refl; fits = subst (λ (u : Signature). sort_in (scope_of owned defs) u.takes (expr_of number t) ≡ Some u.gives) same fit.0 }
fills owned number defs (t ∷ terms) (s' ∷ ss) (suc n) s fit e =
    let there = fills owned number defs terms ss n s fit.1 e in
    record { term = there.term; is = there.is; fits = there.fits }

-- a body has fewer nodes than all bodies together
pub weight_of-at : {T N : Type 0} (number : N → Val) (terms : List (Term T N)) (n : ℕ) (term : Term T N) → slice_get terms n ≡ Some term → nodes (expr_of number term) < weight_of number terms
weight_of-at number [] n term e = absurd (none-some term e)
weight_of-at number (x ∷ terms) zero term e =
    let same : x ≡ term = cc in
    rw same (omega arith)
weight_of-at number (x ∷ terms) (suc n) term e = omega (arith, weight_of-at number terms n term e)
