-- Slots whose bodies fit.
use Rattle.std.proofs.Common.{◌≡◌, refl, sym, ap, subst, ◌∙◌, ℕ, zero, suc, ◌+◌, ◌-◌, Bool, true, false, cond, List, [], ◌∷◌, ◌++◌, ◌<◌, ◌≤◌, length, map, take, drop, get_or, Option, Some, None, arith, append_assoc, length-drop}
use Rattle.std.proofs.lemmas.List.{map_push, append-nil, take_all}
use Rattle.std.specs.Prelude.{⊤, slice_set, if◌then◌else◌}
use Rattle.std.specs.Option.{option_map}
use Rattle.sy_terms.specs.Values.{Val}
use Rattle.sy_terms.specs.Expr.{Expr}
use Rattle.sy_terms.specs.Denoted.{expr_of}
use Rattle.sy_terms.specs.Fitting.{Signature, sort_in}
use Rattle.sy_terms.specs.declared.op.Op.{Op}
use Rattle.sy_terms.specs.declared.term.Term.{Term}
use Rattle.sy_scope_causes.specs.declared.titles.Title.{Title}
use Rattle.sy_grammar_base.specs.Fits.{with_functions}
use Rattle.sy_grammar_base.specs.Questions.{Goal}
use Rattle.sy_reply_reader.specs.Slots.{no_bodies, is_open, open_from, all_there, with_first, slots_of}

-- where all bodies are there, the others are
first_some : (body : Expr) (rest : Option (List Expr)) (bodies : List Expr) → with_first (Some body) rest ≡ Some bodies → (others : List Expr) × (rest ≡ Some others) × (body ∷ others ≡ bodies)
first_some body None bodies e = absurd (cc)
first_some body (Some others) bodies e = (others, refl, cc)

module _ (owned : Op → Bool) (defined : List Signature) where
  -- a body of the signature, which may call the definitions
  abbrev pub Fits : Signature → Expr → Type 0
  Fits f body = sort_in (with_functions owned defined []) f.takes body ≡ Some f.gives

  abbrev pub SlotFits : Goal → Option Expr → Type 0
  SlotFits goal None = ⊤
  SlotFits goal (Some body) = Fits goal.signature body

  abbrev pub SlotsFit : List Goal → List (Option Expr) → Type 0
  SlotsFit [] [] = ⊤
  SlotsFit (goal ∷ goals) (slot ∷ slots) = SlotFits goal slot × SlotsFit goals slots
  SlotsFit _ _ = ⊥

  -- a body for each function
  abbrev pub AllFit : List Goal → List Expr → Type 0
  AllFit [] [] = ⊤
  AllFit (goal ∷ goals) (body ∷ bodies) = Fits goal.signature body × AllFit goals bodies
  AllFit _ _ = ⊥

  pub none_fit : (goals : List Goal) → SlotsFit goals (no_bodies goals)
  none_fit [] = tt
  none_fit (goal ∷ goals) = (tt, none_fit goals)

  pub all_fit : (goals : List Goal) (slots : List (Option Expr)) (bodies : List Expr) → SlotsFit goals slots → all_there slots ≡ Some bodies → AllFit goals bodies
  all_fit [] [] [] fit e = tt
  all_fit [] [] (body ∷ bodies) fit e = absurd (cc)
  all_fit [] (slot ∷ slots) bodies fit e = absurd fit
  all_fit (goal ∷ goals) [] bodies fit e = absurd fit
  all_fit (goal ∷ goals) (None ∷ slots) bodies fit e = absurd (cc)
  all_fit (goal ∷ goals) (Some body ∷ slots) bodies fit e =
      let found = first_some body (all_there slots) bodies e in
      subst (AllFit (goal ∷ goals)) found.2 (fit.0, all_fit goals slots found.0 fit.1 found.1)

  -- the number of an open slot, behind so many, and that slots fit where it is filled with a body that fits
  pub record Open (number : ℕ) (goals : List Goal) (slots : List (Option Expr)) (found : ℕ × Signature) : Type 0 where
    pub at : ℕ
    pub is : found.0 ≡ number + at
    pub filled : (body : Expr) → SlotsFit goals slots → Fits found.1 body → SlotsFit goals (slice_set slots at (Some body))

  open_by : (b : Bool) (number : ℕ) (goal : Goal) (goals : List Goal) (slot : Option Expr) (slots : List (Option Expr)) (later : Option (ℕ × Signature)) (found : ℕ × Signature) →
      ((x : ℕ × Signature) → later ≡ Some x → Open (number + 1) goals slots x) → (if b then Some (number, goal.signature) else later) ≡ Some found → Open number (goal ∷ goals) (slot ∷ slots) found
  open_by true number goal goals slot slots later found next e =
      let same : (number, goal.signature) ≡ found = cc in
      subst (Open number (goal ∷ goals) (slot ∷ slots)) same (record {
        at = 0;
        is = omega arith;
        filled = λ body fit fits. (fits, fit.1);
      })
  open_by false number goal goals slot slots later found next e =
      let o = next found e in
      record {
        at = suc o.at;
        is = omega (arith, o.is);
        filled = λ body fit fits. (fit.0, o.filled body fit.1 fits);
      }

  pub open_found : (number : ℕ) (name : List ℕ) (titles : List Title) (goals : List Goal) (slots : List (Option Expr)) (found : ℕ × Signature) → open_from number name titles goals slots ≡ Some found → Open number goals slots found
  unfolding open_from
  open_found number name [] goals slots found e = absurd (cc)
  open_found number name (title ∷ titles) [] slots found e = absurd (cc)
  open_found number name (title ∷ titles) (goal ∷ goals) [] found e = absurd (cc)
  open_found number name (title ∷ titles) (goal ∷ goals) (slot ∷ slots) found e =
      open_by (is_open title.name name slot) number goal goals slot slots (open_from (number + 1) name titles goals slots) found (open_found (number + 1) name titles goals slots) e

  pub slot_filled : (name : List ℕ) (titles : List Title) (goals : List Goal) (slots : List (Option Expr)) (found : ℕ × Signature) (body : Expr) → open_from 0 name titles goals slots ≡ Some found →
      SlotsFit goals slots → Fits found.1 body → SlotsFit goals (slice_set slots found.0 (Some body))
  slot_filled name titles goals slots found body e fit fits =
      let o = open_found 0 name titles goals slots found e in
      let same : o.at ≡ found.0 = omega (arith, o.is) in
      subst (λ n. SlotsFit goals (slice_set slots n (Some body))) same (o.filled body fit fits)

-- bodies behind others
abbrev pub behind_bodies : List Expr → Option (List Expr) → Option (List Expr)
behind_bodies done None = None
behind_bodies done (Some rest) = Some (done ++ rest)

pub behind_none : (found : Option (List Expr)) → behind_bodies [] found ≡ found
behind_none None = refl
behind_none (Some rest) = refl

behind_more : (done : List Expr) (body : Expr) (rest : Option (List Expr)) → behind_bodies done (with_first (Some body) rest) ≡ behind_bodies (done ++ body ∷ []) rest
behind_more done body None = refl
behind_more done body (Some rest) = ap Some (sym (append_assoc done (body ∷ []) rest))

module _ {T N : Type 0} (number : N → Val) (goal : Option (List Expr)) (items after : List (Option (Term T N))) (slot : Option (Term T N)) (done : List (Term T N)) where
  -- a slot with a body is taken
  pub slot_taken : (body : Term T N) (now : List (Term T N)) → items ≡ slot ∷ after → slot ≡ Some body → now ≡ done ++ body ∷ [] → behind_bodies (map (expr_of number) done) (all_there (slots_of number items)) ≡ goal
      → behind_bodies (map (expr_of number) now) (all_there (slots_of number after)) ≡ goal
  slot_taken body now is full more same =
      ap (λ (ts : List (Term T N)). behind_bodies (map (expr_of number) ts) (all_there (slots_of number after))) more
      ∙ ap (λ (es : List Expr). behind_bodies es (all_there (slots_of number after))) (map_push (expr_of number) done body)
      ∙ sym (behind_more (map (expr_of number) done) (expr_of number body) (all_there (slots_of number after)))
      ∙ sym (ap (λ (ss : List (Option (Term T N))). behind_bodies (map (expr_of number) done) (all_there (slots_of number ss))) (is ∙ ap (λ (s : Option (Term T N)). s ∷ after) full))
      ∙ same

  -- a slot has none
  pub slot_empty : items ≡ slot ∷ after → slot ≡ None → behind_bodies (map (expr_of number) done) (all_there (slots_of number items)) ≡ goal → None ≡ goal
  slot_empty is empty same =
      sym (ap (λ (ss : List (Option (Term T N))). behind_bodies (map (expr_of number) done) (all_there (slots_of number ss))) (is ∙ ap (λ (s : Option (Term T N)). s ∷ after) empty))
      ∙ same

-- no slot is left
pub slots_taken : {T N : Type 0} (number : N → Val) (goal : Option (List Expr)) (items : List (Option (Term T N))) (done : List (Term T N)) → items ≡ [] → behind_bodies (map (expr_of number) done) (all_there (slots_of number items)) ≡ goal
    → Some (map (expr_of number) done) ≡ goal
slots_taken {T} {N} number goal items done is same =
    ap Some (sym (append-nil (map (expr_of number) done)))
    ∙ sym (ap (λ (ss : List (Option (Term T N))). behind_bodies (map (expr_of number) done) (all_there (slots_of number ss))) is)
    ∙ same

-- one empty slot more
pub nones : {A : Type 0} (f : A → Goal) (xs : List A) (i : ℕ) → i < length xs → no_bodies (map f (take (i + 1) xs)) ≡ no_bodies (map f (take i xs)) ++ None ∷ []
nones f [] i less = absurd (omega arith)
nones f (x ∷ xs) zero less = refl
nones f (x ∷ xs) (suc i) less =
    let next : suc i + 1 ≡ suc (i + 1) = omega arith in
    ap (λ n. no_bodies (map f (take n (x ∷ xs)))) next ∙ ap (λ (slots : List (Option Expr)). None ∷ slots) (nones f xs i (omega arith))

-- The first open slot, by what the lists begin with

pub empty_below : {A : Type 0} (xs : List A) → length xs < 1 → xs ≡ []
empty_below [] less = refl
empty_below (x ∷ xs) less = absurd (omega arith)

pub first_of : {A : Type 0} (xs : List A) (x : A) → 1 ≤ length xs → x ≡ get_or xs 0 x → xs ≡ x ∷ drop 1 xs
first_of [] x there is = absurd (omega arith)
first_of (y ∷ ys) x there is = ap (λ z. z ∷ ys) (sym is)

pub all_but_first : {A : Type 0} (xs : List A) → take (length xs - 1) (drop 1 xs) ≡ drop 1 xs
all_but_first xs = take_all (length xs - 1) (drop 1 xs) (omega (arith, length-drop 1 xs))

module _ (number : ℕ) (name : List ℕ) (titles : List Title) (goals : List Goal) (slots : List (Option Expr)) where
  pub no_titles : titles ≡ [] → None ≡ open_from number name titles goals slots
  unfolding open_from
  no_titles e = rw e refl

  pub no_goals : (title : Title) (later : List Title) → titles ≡ title ∷ later → goals ≡ [] → None ≡ open_from number name titles goals slots
  unfolding open_from
  no_goals title later e f = rw (e, f) refl

  pub no_slots : (title : Title) (later : List Title) (goal : Goal) (others : List Goal) → titles ≡ title ∷ later → goals ≡ goal ∷ others → slots ≡ [] → None ≡ open_from number name titles goals slots
  unfolding open_from
  no_slots title later goal others e f h = rw (e, f, h) refl

  pub open_here : (title : Title) (later : List Title) (goal : Goal) (others : List Goal) (slot : Option Expr) (rest : List (Option Expr)) → titles ≡ title ∷ later → goals ≡ goal ∷ others → slots ≡ slot ∷ rest
      → is_open title.name name slot ≡ true → Some (number, goal.signature) ≡ open_from number name titles goals slots
  unfolding open_from
  open_here title later goal others slot rest e f h is = rw (e, f, h, is) refl

  pub open_later : (title : Title) (later : List Title) (goal : Goal) (others : List Goal) (slot : Option Expr) (rest : List (Option Expr)) → titles ≡ title ∷ later → goals ≡ goal ∷ others → slots ≡ slot ∷ rest
      → is_open title.name name slot ≡ false → open_from (number + 1) name later others rest ≡ open_from number name titles goals slots
  unfolding open_from
  open_later title later goal others slot rest e f h is = rw (e, f, h, is) refl

-- a slot is filled by a term
pub filled_at : {T N : Type 0} (number : N → Val) (slots : List (Option (Term T N))) (i : ℕ) (body : Term T N) → slots_of number (slice_set slots i (Some body)) ≡ slice_set (slots_of number slots) i (Some (expr_of number body))
filled_at number [] i body = refl
filled_at number (slot ∷ slots) zero body = refl
filled_at number (slot ∷ slots) (suc i) body = ap (λ (rest : List (Option Expr)). option_map (expr_of number) slot ∷ rest) (filled_at number slots i body)
