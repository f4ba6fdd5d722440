-- A term with its calls replaced by the called bodies means what the term means.
use Rattle.std.specs.Prelude.{ℕ, zero, suc, ◌+◌, List, [], ◌∷◌, ◌++◌, ◌≡◌, refl, length, slice_get, map}
use Rattle.std.proofs.Common.{arith, ap, ◌∙◌, append_assoc, length-append}
use Rattle.sy_terms.specs.Values.{Val}
use Rattle.sy_terms.specs.Operators.{op_value}
use Rattle.sy_terms.specs.Expr as expr
use Rattle.sy_terms.specs.Expr.{Expr, Exprs, Constant, Variable, Apply, Invoke, Bind}
use Rattle.sy_terms.specs.Meaning.{Function, meaning, meanings, value_at_position, called, function_from, functions_after, functions}
use Rattle.sy_terms.specs.declared.term.Fun.TheVariants.{Defined, Wanted}
use Rattle.sy_query_base.specs.Placed.{Placement, called_at, count, placed, all_placed, placement_from, placements_after, placements}

-- a placed body means what the function gives
pub record Serves (placement : Placement) (function : Function) : Type 0 where
  pub means : (front arguments : List Val) → meaning [] [] (front ++ arguments) (placement (length front) (length front + length arguments)) ≡ function.value arguments

abbrev pub AllServe : List Placement → List Function → Type 0
AllServe [] [] = Unit {0}
AllServe [] (f ∷ fs) = ⊥
AllServe (p ∷ ps) [] = ⊥
AllServe (p ∷ ps) (f ∷ fs) = Serves p f × AllServe ps fs

past : (front values : List Val) (position : ℕ) → value_at_position (front ++ values) (length front + position) ≡ value_at_position values position
past [] values position = ap (value_at_position values) (omega arith)
past (v ∷ front) values position =
    let next : length (v ∷ front) + position ≡ suc (length front + position) = omega arith in
    rw next (past front values position)

pub meanings-length : (defined wanted : List Function) (values : List Val) (terms : Exprs) → length (meanings defined wanted values terms) ≡ count terms
unfolding meanings
meanings-length defined wanted values expr.none = refl
meanings-length defined wanted values (expr.more first rest) = omega (arith, meanings-length defined wanted values rest)

serves-at : (ps : List Placement) (fs : List Function) (k : ℕ) → AllServe ps fs → (front arguments : List Val) → meaning [] [] (front ++ arguments) (called_at (slice_get ps k) (length front) (length front + length arguments)) ≡ called (slice_get fs k) arguments
unfolding meaning
serves-at [] [] k all front arguments = refl
serves-at [] (f ∷ fs) k all front arguments = absurd all
serves-at (p ∷ ps) [] k all front arguments = absurd all
serves-at (p ∷ ps) (f ∷ fs) zero all front arguments = all.0.means front arguments
serves-at (p ∷ ps) (f ∷ fs) (suc k) all front arguments = serves-at ps fs k all.1 front arguments

cons_both : {x y : Val} {xs ys : List Val} → x ≡ y → xs ≡ ys → (x ∷ xs) ≡ (y ∷ ys)
cons_both e f = cc

mutual
  unfolding placed all_placed meaning meanings

  pub placed-means : (defined wanted : List Placement) (given found : List Function) → AllServe defined given → AllServe wanted found → (front values : List Val) (term : Expr) → meaning [] [] (front ++ values) (placed defined wanted (length front) (length front + length values) term) ≡ meaning given found values term
  placed-means defined wanted given found serve also front values (Constant value) = refl
  placed-means defined wanted given found serve also front values (Variable position) = past front values position
  placed-means defined wanted given found serve also front values (Apply operator arguments) = ap (op_value operator) (all_placed-mean defined wanted given found serve also front values arguments)
  placed-means defined wanted given found serve also front values (Invoke (Defined f) arguments) =
      let are = all_placed-mean defined wanted given found serve also front values arguments in
      let many = meanings-length given found values arguments in
      let here = serves-at defined given f serve (front ++ values) (meanings given found values arguments) in
      ap (λ (vs : List Val). meaning [] [] ((front ++ values) ++ vs) (called_at (slice_get defined f) (length front + length values) (length front + length values + count arguments))) are ∙ (rw (length-append front values, many) at here)
  placed-means defined wanted given found serve also front values (Invoke (Wanted f) arguments) =
      let are = all_placed-mean defined wanted given found serve also front values arguments in
      let many = meanings-length given found values arguments in
      let here = serves-at wanted found f also (front ++ values) (meanings given found values arguments) in
      ap (λ (vs : List Val). meaning [] [] ((front ++ values) ++ vs) (called_at (slice_get wanted f) (length front + length values) (length front + length values + count arguments))) are ∙ (rw (length-append front values, many) at here)
  placed-means defined wanted given found serve also front values (Bind bound inner) =
      let are = all_placed-mean defined wanted given found serve also front values bound in
      let vs = meanings given found values bound in
      let long : length front + length (values ++ vs) ≡ (length front + length values) + count bound = omega (arith, length-append values vs, meanings-length given found values bound) in
      let here = placed-means defined wanted given found serve also front (values ++ vs) inner in
      ap (λ (us : List Val). meaning [] [] ((front ++ values) ++ us) (placed defined wanted (length front) (length front + length values + count bound) inner)) are ∙ (ap (λ (us : List Val). meaning [] [] us (placed defined wanted (length front) (length front + length values + count bound) inner)) (append_assoc front values vs) ∙ (rw long at here))

  pub all_placed-mean : (defined wanted : List Placement) (given found : List Function) → AllServe defined given → AllServe wanted found → (front values : List Val) (terms : Exprs) → meanings [] [] (front ++ values) (all_placed defined wanted (length front) (length front + length values) terms) ≡ meanings given found values terms
  all_placed-mean defined wanted given found serve also front values expr.none = refl
  all_placed-mean defined wanted given found serve also front values (expr.more first rest) =
      cons_both (placed-means defined wanted given found serve also front values first) (all_placed-mean defined wanted given found serve also front values rest)

body-serves : (defined : List Placement) (given : List Function) → AllServe defined given → (body : Expr) → Serves (placement_from defined body) (function_from given body)
body-serves defined given serve body = record { means = λ front arguments. placed-means defined [] given [] serve tt front arguments body }

serve-last : (ps : List Placement) (fs : List Function) → AllServe ps fs → (p : Placement) (f : Function) → Serves p f → AllServe (ps ++ p ∷ []) (fs ++ f ∷ [])
serve-last [] [] all p f s = (s, tt)
serve-last [] (g ∷ fs) all p f s = absurd all
serve-last (q ∷ ps) [] all p f s = absurd all
serve-last (q ∷ ps) (g ∷ fs) all p f s = (all.0, serve-last ps fs all.1 p f s)

after-serve : (ps : List Placement) (fs : List Function) → AllServe ps fs → (bodies : List Expr) → AllServe (placements_after ps bodies) (functions_after fs bodies)
after-serve ps fs all [] = all
after-serve ps fs all (body ∷ bodies) =
    after-serve (ps ++ placement_from ps body ∷ []) (fs ++ function_from fs body ∷ []) (serve-last ps fs all (placement_from ps body) (function_from fs body) (body-serves ps fs all body)) bodies

pub definitions-serve : (definitions : List Expr) → AllServe (placements definitions) (functions definitions)
definitions-serve definitions = after-serve [] [] tt definitions

pub bodies-serve : (definitions bodies : List Expr) → AllServe (map (placement_from (placements definitions)) bodies) (map (function_from (functions definitions)) bodies)
bodies-serve definitions [] = tt
bodies-serve definitions (body ∷ bodies) = (body-serves (placements definitions) (functions definitions) (definitions-serve definitions) body, bodies-serve definitions bodies)
