-- How the solver begins and ends.
use Rattle.std.proofs.Common.{◌≡◌, ◌≢◌, ℕ, Bool, true, false, ◌||◌, List, [], ◌∷◌, ◌++◌, refl, arith, ap, sym, subst, ◌∙◌, length, length-append, zero, suc, ◌<◌, ◌-◌, Option, Some, None, map, inl, inr, ⊎_elim, ◌⊎◌}
use Rattle.std.specs.Prelude.{slice_get, slice_index_or, option_map, MatchOption}
use Rattle.std.proofs.lemmas.Option.{slice_get_within, slice_get-get_or}
use Rattle.std.proofs.lemmas.List.{append-nil, length-map}
use Rattle.sy_clauses.specs.declared.Lit.{Lit}
use Rattle.sy_clauses.specs.declared.Line.{Line}
use Rattle.sy_clauses.specs.declared.Cnf.{Cnf}
use Rattle.sy_clauses.specs.Clauses.{Clause, literals, same_literal, known_clauses, all_clauses, line_clause, IsModel, IsEmpty, Refutes, VarsFit}
use Rattle.sy_clauses.specs.New.{HasTrue, HasTwoOpen, AllSettled, EachNew}
use Rattle.sy_clauses.proofs.Sets.{literal_is}
use Rattle.sy_clauses.proofs.Known.{known_first}
use Rattle.sy_cdcl_literals.specs.declared.entries.Entry.{Entry}
use Rattle.sy_cdcl.specs.declared.trail.Trail.{Trail}
use Rattle.sy_cdcl.specs.Trails.{kept_values, IsTrail, TrailIsReady, LevelsSettled, VarsBelow}
use Rattle.sy_cdcl.specs.Conflicts.{IsLearned}
use Rattle.sy_cdcl.specs.Answer.{or_false}
use Rattle.sy_cdcl.proofs.Push.{some_is}
use Rattle.sy_cdcl.proofs.Growth.{numbering_more}

or_cases : (a b : Bool) → (a || b) ≡ true → (a ≡ true) ⊎ (b ≡ true)
or_cases true b h = inl refl
or_cases false b h = inr h

literals_below : (vars : ℕ) (ls : List Lit) → ((k : ℕ) (l : Lit) → slice_get ls k ≡ Some l → l.var < vars) →
    (v : ℕ) (s : Bool) → literals ls v s ≡ true → v < vars
literals_below vars [] f v s h = cc
literals_below vars (l ∷ ls) f v s h =
    ⊎_elim
    (λ (a : same_literal l.var l.positive v s ≡ true).
    let q = literal_is l.var l.positive v s a in
    subst (λ (w : ℕ). w < vars) (sym q.0) (f zero l refl))
    (λ (b : literals ls v s ≡ true). literals_below vars ls (λ k m g. f (suc k) m g) v s b)
    (or_cases (same_literal l.var l.positive v s) (literals ls v s) h)

clauses_below : (vars : ℕ) (cs : List (List Lit)) →
    ((n : ℕ) (c : List Lit) (k : ℕ) (l : Lit) → slice_get cs n ≡ Some c → slice_get c k ≡ Some l → l.var < vars) →
    VarsBelow vars (map literals cs)
clauses_below vars [] f n c v s h g = cc
clauses_below vars (d ∷ ds) f zero c v s h g =
    literals_below vars d (λ k l q. f zero d k l refl q) v s (subst (λ (x : Clause). x v s ≡ true) (sym (some_is h)) g)
clauses_below vars (d ∷ ds) f (suc n) c v s h g =
    clauses_below vars ds (λ m e k l p q. f (suc m) e k l p q) n c v s h g

pub known_none : (clauses : List (List Lit)) → known_clauses clauses [] ≡ map literals clauses
known_none clauses = ap (map literals) (append-nil clauses)

pub vars_first : (cnf : Cnf) → VarsFit cnf → VarsBelow cnf.vars (known_clauses cnf.clauses [])
vars_first cnf f = subst (λ (ks : List Clause). VarsBelow cnf.vars ks) (sym (known_none cnf.clauses)) (clauses_below cnf.vars cnf.clauses f)

-- an empty trail
pub ready_first : (known : List Clause) (t : Trail) → IsTrail t → t.entries.items ≡ [] → TrailIsReady known t
ready_first known t a e = record {
  assignment = a;
  justified = record {
    forced = λ p x r h q. absurd (let g : slice_get [] p ≡ Some x = subst (λ (es : List Entry). slice_get es p ≡ Some x) e h in cc);
    decided = λ p x h q. absurd (let g : slice_get [] p ≡ Some x = subst (λ (es : List Entry). slice_get es p ≡ Some x) e h in cc);
  };
}

pub levels_first : (known : List Clause) (t : Trail) → t.starts.items ≡ [] → LevelsSettled known t
levels_first known t e k n h =
    absurd (let g : slice_get [] k ≡ Some n = subst (λ (ss : List ℕ). slice_get ss k ≡ Some n) e h in cc)

pub fresh_first : (known : List Clause) (n : ℕ) → length known ≡ n → EachNew n known
fresh_first known n e k c l h = let w = slice_get_within known k c h in absurd (omega arith)

held : (values : List (Option Bool)) (v : ℕ) (s : Bool) → kept_values values v ≡ Some s →
    slice_index_or (map or_false values) v false ≡ s
held [] v s h = cc
held (x ∷ xs) zero s h = ap or_false h
held (x ∷ xs) (suc v) s h = held xs v s h

-- where all clauses are settled and each variable has a value, the values are a model
pub model_of : (vars : ℕ) (values : List (Option Bool)) (clauses derived : List (List Lit)) →
    VarsBelow vars (known_clauses clauses derived) → AllSettled (kept_values values) (known_clauses clauses derived) →
    ((v : ℕ) → v < vars → kept_values values v ≢ None) →
    IsModel (λ v. slice_index_or (map or_false values) v false) clauses
model_of vars values clauses derived below settled valued k d h =
    let c : Clause = literals (slice_index_or clauses k d) in
    let at : slice_get (known_clauses clauses derived) k ≡ Some c =
    known_first clauses derived k h ∙ ap (option_map literals) (slice_get-get_or clauses k d h) in
    ⊎_elim
    (λ (t : HasTrue (kept_values values) c). record {
      var = t.var;
      has = subst (λ (b : Bool). c t.var b ≡ true) (sym (held values t.var t.positive t.is_true)) t.has;
    })
    (λ (o : HasTwoOpen (kept_values values) c). absurd (valued o.var (below k c o.var o.positive at o.has) o.unvalued))
    (settled k c at)

get_past : (xs : List Clause) (x : Clause) → slice_get (xs ++ x ∷ []) (length xs) ≡ Some x
get_past [] x = refl
get_past (y ∷ ys) x = get_past ys x

get_end : (xs : List Clause) (x : Clause) → slice_get (xs ++ x ∷ []) (length (xs ++ x ∷ []) - 1) ≡ Some x
get_end xs x =
    let e = length-append xs (x ∷ []) in
    let at : length (xs ++ x ∷ []) - 1 ≡ length xs = omega (arith, e) in
    ap (slice_get (xs ++ x ∷ [])) at ∙ get_past xs x

-- a log whose last line has the empty clause
pub refutes_more : (cnf : Cnf) (lines : List Line) (line : Line) (known : List Clause) (c : Clause) →
    all_clauses cnf record { lines = lines } ≡ Some known → line_clause known line ≡ Some c → IsEmpty c →
    Refutes cnf record { lines = lines ++ line ∷ [] }
refutes_more cnf lines line known c h k e = record {
  clauses = known ++ c ∷ [];
  numbered = numbering_more (map literals cnf.clauses) lines line known c h k;
  ends_empty = record { last = c; is_last = get_end known c; empty = e };
}

-- no line derives the formula's clauses alone
pub numbered_first : (cnf : Cnf) (lines : List Line) (derived : List (List Lit)) → lines ≡ [] → derived ≡ [] →
    all_clauses cnf record { lines = lines } ≡ Some (known_clauses cnf.clauses derived)
numbered_first cnf lines derived l d =
    subst (λ (ls : List Line). all_clauses cnf record { lines = ls } ≡ Some (known_clauses cnf.clauses derived)) (sym l)
    (ap Some (sym (ap (known_clauses cnf.clauses) d ∙ known_none cnf.clauses)))

-- at the lowest level nothing is left of the clause
pub learned_empty : (t : Trail) (c : Clause) (last : Option Lit) → t.starts.items ≡ [] → IsLearned t c last → IsEmpty c
learned_empty t c None s h = h
learned_empty t c (Some l) s h = absurd (let z = h.0 in let e : length t.starts.items ≡ 0 = ap length s in omega arith)

-- the solver begins
pub attach_vars : (cnf : Cnf) (derived : List (List Lit)) (vars : ℕ) → VarsFit cnf → derived ≡ [] → vars ≡ cnf.vars →
    VarsBelow vars (known_clauses cnf.clauses derived)
attach_vars cnf derived vars f d v =
    subst (λ (n : ℕ). VarsBelow n (known_clauses cnf.clauses derived)) (sym v)
    (subst (λ (ds : List (List Lit)). VarsBelow cnf.vars (known_clauses cnf.clauses ds)) (sym d) (vars_first cnf f))

pub attach_count : (cnf : Cnf) (derived : List (List Lit)) → derived ≡ [] → length (known_clauses cnf.clauses derived) ≡ length cnf.clauses
attach_count cnf derived d = ap length (ap (known_clauses cnf.clauses) d ∙ known_none cnf.clauses) ∙ length-map cnf.clauses literals

-- what each case of an option says
pub option_map_facts : {X A B : Type 0} {P Q : X → Type 0} → (o : Option X) → (A → B) → ((x : X) → P x → Q x) → MatchOption o A P → MatchOption o B Q
option_map_facts None f g h = f h
option_map_facts (Some x) f g h = g x h
