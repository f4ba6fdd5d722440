-- The texts of terms.
use native.Mathlib.Numerals.{unary_clauses}
use Rattle.std.proofs.Common.{◌≡◌, ◌<◌, ◌≤◌, ◌+◌, ◌++◌, ◌∙◌, refl, sym, ap, ℕ, List, [], ◌∷◌, length, map, drop, get_or, suc, zero, append_assoc, append-nil, arith, Result, Ok, Err, OnOk, true}
use Rattle.std.specs.Prelude.{codes, slice_get}
use Rattle.std.specs.List.{join_with_byte, concat}
use Rattle.std.proofs.lemmas.List.{drop_more}
use Rattle.sy_terms.specs.Values.{Val}
use Rattle.sy_terms.specs.Expr.{Expr, Exprs, nodes, nodes_of}
use Rattle.sy_terms.specs.Denoted.{expr_of, exprs_of, val_of, expr_of-Const, expr_of-Var, expr_of-App, expr_of-Call, expr_of-Let}
use Rattle.sy_terms.specs.declared.op.Op.{Op}
use Rattle.sy_terms.specs.declared.sort.Value.{Value}
use Rattle.sy_terms.specs.declared.term.Fun.{Fun}
use Rattle.sy_terms.specs.declared.term.Term.{Term, Const, Var, App, Call, Let}
use Rattle.sy_terms.specs.declared.term.Terms.{Terms}
use Rattle.std.specs.declared.boxed.Box.{Box}
use Rattle.std.specs.declared.alloc.Global.{Global}
use Rattle.sy_terms.specs.Expr.{Constant, Variable, Apply, Invoke, Bind, none, more}
use Rattle.sy_terms.specs.declared.sort.Sort.{Sort}
use Rattle.sy_terms.specs.declared.term.Fun.TheVariants.{Defined, Wanted}
use Rattle.sy_text.specs.Spelling.{symbol_text}
use Rattle.sy_scope_causes.specs.declared.titles.Title.{Title}
use Rattle.sy_grammar_base.specs.Questions.{Goal, goal_of}
use Rattle.sy_grammar_base.specs.declared.problem.Wanted.{Wanted as Asked}
use Rattle.sy_reply.specs.Replies.{line, bracketed, spaced, sort_text, operator_text, value_text, name_text, function_text, called_text, term_text, terms_text, argument_text, arguments_text, definition_text, definitions_text}
use Rattle.sy_reply.specs.Writable.{is_plain_value, IsDefined, IsWritable, AreWritable, AreTitled, HaveBodies}

-- a tail call's answer
pub on_ok : {T E : Type 0} {P Q : Type 0} (r : Result T E) → OnOk r P → (P → Q) → OnOk r Q
on_ok (Ok x) h f = f h
on_ok (Err e) h f = tt

-- bytes appended in two and in four steps
pub appended_twice : (old middle new xs ys : List ℕ) → middle ≡ old ++ xs → new ≡ middle ++ ys → new ≡ old ++ (xs ++ ys)
appended_twice old middle new xs ys first second = second ∙ ap (λ zs. zs ++ ys) first ∙ append_assoc old xs ys

pub appended_in_four : (old a b c new ws xs ys zs : List ℕ) → a ≡ old ++ ws → b ≡ a ++ xs → c ≡ b ++ ys → new ≡ c ++ zs → new ≡ old ++ (ws ++ (xs ++ (ys ++ zs)))
appended_in_four old a b c new ws xs ys zs first second third fourth =
    appended_twice old a new ws (xs ++ (ys ++ zs)) first (appended_twice a b new xs (ys ++ zs) second (appended_twice b c new ys zs third fourth))

-- parts with spaces between them are the first and the others after spaces
pub join_spaced : (first : List ℕ) (rest : List (List ℕ)) → join_with_byte 32 (first ∷ rest) ≡ first ++ spaced rest
join_spaced first [] = sym (append-nil first)
join_spaced first (second ∷ rest) = ap (λ text. first ++ (32 ∷ text)) (join_spaced second rest)

pub bracketed_head : (head : List ℕ) (parts : List (List ℕ)) → bracketed (head ∷ parts) ≡ codes "(" ++ (head ++ (spaced parts ++ codes ")"))
unfolding bracketed
bracketed_head head parts = ap (λ text. codes "(" ++ (text ++ codes ")")) (join_spaced head parts) ∙ ap (λ text. codes "(" ++ text) (append_assoc head (spaced parts) (codes ")"))

-- parts that stand in brackets behind `_` and a name
pub bracketed_name : (name : List ℕ) (parts : List (List ℕ)) → bracketed (codes "_" ∷ name ∷ parts) ≡ codes "(_ " ++ (name ++ (spaced parts ++ codes ")"))
bracketed_name name parts = bracketed_head (codes "_") (name ∷ parts) ∙ ap (λ text. codes "(_ " ++ text) (append_assoc name (spaced parts) (codes ")"))

-- one part after a space, of what is left
pub spaced_step : (out between new text rest total : List ℕ) → between ≡ out ++ codes " " → new ≡ between ++ text → out ++ (codes " " ++ (text ++ rest)) ≡ total → new ++ rest ≡ total
spaced_step out between new text rest total first second left =
    ap (λ bytes. bytes ++ rest) (appended_twice out between new (codes " ") text first second) ∙ append_assoc out (codes " " ++ text) rest ∙ left

-- what is left of the parts with spaces between them, where so many are written
abbrev pub left_text : ℕ → List (List ℕ) → List ℕ
left_text zero parts = join_with_byte 32 parts
left_text (suc written) parts = spaced parts

pub left_none : (written : ℕ) → left_text written [] ≡ []
left_none zero = refl
left_none (suc written) = refl

-- the first part stands without a space
pub first_step : (out new text total : List ℕ) (written : ℕ) (parts : List (List ℕ)) → written ≡ 0 → new ≡ out ++ text → out ++ left_text written (text ∷ parts) ≡ total → new ++ left_text (written + 1) parts ≡ total
first_step out new text total zero parts is appended left =
    ap (λ bytes. bytes ++ spaced parts) appended ∙ append_assoc out text (spaced parts) ∙ ap (λ bytes. out ++ bytes) (sym (join_spaced text parts)) ∙ left
first_step out new text total (suc written) parts is appended left = absurd (omega arith)

pub next_step : (out between new text total : List ℕ) (written : ℕ) (parts : List (List ℕ)) → 0 < written → between ≡ out ++ codes " " → new ≡ between ++ text → out ++ left_text written (text ∷ parts) ≡ total → new ++ left_text (written + 1) parts ≡ total
next_step out between new text total zero parts some first second left = absurd (omega arith)
next_step out between new text total (suc written) parts some first second left = simp unary_clauses (spaced_step out between new text (spaced parts) total first second left)

-- nothing is left
pub ended : (out rest total : List ℕ) → rest ≡ [] → out ++ rest ≡ total → out ≡ total
ended out rest total empty left = sym (append-nil out) ∙ ap (λ text. out ++ text) (sym empty) ∙ left

-- the items from one on
pub from_item : {X : Type 0} (items : List X) (place : ℕ) (item : X) → place < length items → item ≡ get_or items place item → drop place items ≡ item ∷ drop (place + 1) items
from_item items place item within is = drop_more items place item within ∙ ap (λ x. x ∷ drop (place + 1) items) (sym is)

-- a term of a list has no more nodes than the list
pub nodes_within : {T N : Type 0} (number : N → Val) (items : List (Term T N)) (place : ℕ) (item : Term T N) → place < length items → item ≡ get_or items place item → nodes (expr_of number item) ≤ nodes_of (exprs_of number items)
nodes_within number [] place item within is = absurd (omega arith)
nodes_within number (first ∷ items) zero item within is = rw is (omega arith)
nodes_within number (first ∷ items) (suc place) item within is = omega (arith, nodes_within number items place item (omega arith) is)

module _ {T N : Type 0} (number : N → Val) (arguments definitions : List (List ℕ)) where
  pub constant-text : (term : Term T N) (value : Value N) → term ≡ Const value → term_text arguments definitions (expr_of number term) ≡ value_text (val_of number value)
  unfolding term_text
  constant-text term value is = rw (is, expr_of-Const) refl

  pub variable-text : (term : Term T N) (position : ℕ) → term ≡ Var position → term_text arguments definitions (expr_of number term) ≡ name_text (slice_get arguments position)
  unfolding term_text
  variable-text term position is = rw (is, expr_of-Var) refl

  pub application-text : (term : Term T N) (operator : Op) (parts : Terms T N) → term ≡ App operator parts
      → term_text arguments definitions (expr_of number term) ≡ codes "(" ++ (operator_text operator ++ (spaced (terms_text arguments definitions (exprs_of number parts.items.items)) ++ codes ")"))
  unfolding term_text terms_text
  application-text term operator parts is = rw (is, expr_of-App) (bracketed_head (operator_text operator) (terms_text arguments definitions (exprs_of number parts.items.items)))

  called-text : (name : List ℕ) (items : List (Term T N)) → 0 < length items
      → called_text name (terms_text arguments definitions (exprs_of number items)) ≡ codes "(" ++ (name ++ (spaced (terms_text arguments definitions (exprs_of number items)) ++ codes ")"))
  unfolding called_text terms_text term_text
  called-text name [] some = absurd (omega arith)
  called-text name (first ∷ rest) some = bracketed_head name (terms_text arguments definitions (exprs_of number (first ∷ rest)))

  pub call-text : (term : Term T N) (function : Fun) (parts : Terms T N) → term ≡ Call function parts → 0 < length parts.items.items
      → term_text arguments definitions (expr_of number term) ≡ codes "(" ++ (function_text definitions function ++ (spaced (terms_text arguments definitions (exprs_of number parts.items.items)) ++ codes ")"))
  unfolding term_text
  call-text term function parts is some = rw (is, expr_of-Call) (called-text (function_text definitions function) parts.items.items some)

  alone-text : (name : List ℕ) (items : List (Term T N)) → length items ≡ 0 → called_text name (terms_text arguments definitions (exprs_of number items)) ≡ name
  unfolding called_text terms_text term_text
  alone-text name [] empty = refl
  alone-text name (first ∷ rest) empty = absurd (omega arith)

  pub name-text : (term : Term T N) (function : Fun) (parts : Terms T N) → term ≡ Call function parts → length parts.items.items ≡ 0
      → term_text arguments definitions (expr_of number term) ≡ function_text definitions function
  unfolding term_text
  name-text term function parts is empty = rw (is, expr_of-Call) (alone-text (function_text definitions function) parts.items.items empty)

  -- what is left of a list from one term on
  pub first-text : (terms rest : List (Term T N)) (first : Term T N) → terms ≡ first ∷ rest
      → spaced (terms_text arguments definitions (exprs_of number terms)) ≡ codes " " ++ (term_text arguments definitions (expr_of number first) ++ spaced (terms_text arguments definitions (exprs_of number rest)))
  unfolding terms_text
  first-text terms rest first is = rw is refl

  pub empty-text : (terms : List (Term T N)) → length terms ≡ 0 → spaced (terms_text arguments definitions (exprs_of number terms)) ≡ []
  unfolding terms_text
  empty-text [] empty = refl
  empty-text (first ∷ rest) empty = absurd (omega arith)

module _ {T N : Type 0} (number : N → Val) where
  pub application-falls : (term : Term T N) (operator : Op) (parts : Terms T N) → term ≡ App operator parts → nodes_of (exprs_of number parts.items.items) < nodes (expr_of number term)
  application-falls term operator parts is = rw (is, expr_of-App) (omega arith)

  pub call-falls : (term : Term T N) (function : Fun) (parts : Terms T N) → term ≡ Call function parts → nodes_of (exprs_of number parts.items.items) < nodes (expr_of number term)
  call-falls term function parts is = rw (is, expr_of-Call) (omega arith)

module _ {T N : Type 0} (number : N → Val) (arguments definitions : ℕ) where
  pub constant-fits : (term : Term T N) (value : Value N) → term ≡ Const value → IsWritable arguments definitions (expr_of number term) → is_plain_value (val_of number value) ≡ true
  unfolding IsWritable
  constant-fits term value is fits = rw (is, expr_of-Const) at fits

  pub variable-fits : (term : Term T N) (position : ℕ) → term ≡ Var position → IsWritable arguments definitions (expr_of number term) → position < arguments
  unfolding IsWritable
  variable-fits term position is fits = rw (is, expr_of-Var) at fits

  pub application-fits : (term : Term T N) (operator : Op) (parts : Terms T N) → term ≡ App operator parts → IsWritable arguments definitions (expr_of number term) → AreWritable arguments definitions (exprs_of number parts.items.items)
  unfolding IsWritable AreWritable
  application-fits term operator parts is fits = rw (is, expr_of-App) at fits

  pub call-fits : (term : Term T N) (function : Fun) (parts : Terms T N) → term ≡ Call function parts → IsWritable arguments definitions (expr_of number term) → IsDefined definitions function × AreWritable arguments definitions (exprs_of number parts.items.items)
  unfolding IsWritable AreWritable
  call-fits term function parts is fits = rw (is, expr_of-Call) at fits

  pub binding-fits : (term : Term T N) (bound : Terms T N) (inner : Box (Term T N) Global) → term ≡ Let bound inner → IsWritable arguments definitions (expr_of number term) → ⊥
  unfolding IsWritable
  binding-fits term bound inner is fits = rw (is, expr_of-Let) at fits

  pub first-fits : (terms rest : List (Term T N)) (first : Term T N) → terms ≡ first ∷ rest → AreWritable arguments definitions (exprs_of number terms) → IsWritable arguments definitions (expr_of number first) × AreWritable arguments definitions (exprs_of number rest)
  unfolding AreWritable IsWritable
  first-fits terms rest first is fits = rw is at fits

-- the parts of a definition, one after the other
pub definition_parts : (out a b c d e f g h new name arguments sort body : List ℕ)
    → a ≡ out ++ codes "(define-fun " → b ≡ a ++ name → c ≡ b ++ codes " (" → d ≡ c ++ arguments → e ≡ d ++ codes ") " → f ≡ e ++ sort → g ≡ f ++ codes " " → h ≡ g ++ body → new ≡ h ++ 41 ∷ 10 ∷ []
    → new ≡ out ++ line (codes "(" ++ (join_with_byte 32 (codes "define-fun" ∷ name ∷ (codes "(" ++ (arguments ++ codes ")")) ∷ sort ∷ body ∷ []) ++ codes ")"))
definition_parts out a b c d e f g h new name arguments sort body one two three four five six seven eight nine =
    rw (nine, eight, seven, six, five, four, three, two, one) (simp append_assoc)

pub definition-parts : (definitions : List (List ℕ)) (title : Title) (goal : Goal) (body : Expr) → definition_text definitions title goal body
    ≡ codes "(" ++ (join_with_byte 32 (codes "define-fun" ∷ symbol_text title.name ∷ (codes "(" ++ (join_with_byte 32 (arguments_text title.args goal.signature.takes) ++ codes ")")) ∷ sort_text goal.signature.gives ∷ term_text title.args definitions body ∷ []) ++ codes ")")
unfolding definition_text bracketed
definition-parts definitions title goal body = refl

-- no argument is left
pub no_names : (names : List (List ℕ)) (sorts : List Sort) → length names ≡ 0 → arguments_text names sorts ≡ []
unfolding arguments_text
no_names [] sorts empty = refl
no_names (name ∷ names) sorts empty = absurd (omega arith)

pub no_sorts : (names : List (List ℕ)) (sorts : List Sort) → length sorts ≡ 0 → arguments_text names sorts ≡ []
unfolding arguments_text
no_sorts [] [] empty = refl
no_sorts (name ∷ names) [] empty = refl
no_sorts names (sort ∷ sorts) empty = absurd (omega arith)

-- what is left of the arguments from one on
pub first-argument : (names rest : List (List ℕ)) (sorts others : List Sort) (name : List ℕ) (sort : Sort) → names ≡ name ∷ rest → sorts ≡ sort ∷ others → arguments_text names sorts ≡ argument_text name sort ∷ arguments_text rest others
unfolding arguments_text
first-argument names rest sorts others name sort names_are sorts_are = rw (names_are, sorts_are) refl

-- a term that calls few definitions calls many
mutual
  unfolding IsWritable AreWritable

  pub wider : (arguments few many : ℕ) → few ≤ many → (term : Expr) → IsWritable arguments few term → IsWritable arguments many term
  wider arguments few many within (Constant value) fits = fits
  wider arguments few many within (Variable position) fits = fits
  wider arguments few many within (Apply operator parts) fits = wider_all arguments few many within parts fits
  wider arguments few many within (Invoke (Defined number) parts) fits = (omega (arith, fits.0), wider_all arguments few many within parts fits.1)
  wider arguments few many within (Invoke (Wanted number) parts) fits = absurd fits.0
  wider arguments few many within (Bind bound inner) fits = absurd fits

  pub wider_all : (arguments few many : ℕ) → few ≤ many → (terms : Exprs) → AreWritable arguments few terms → AreWritable arguments many terms
  wider_all arguments few many within none fits = tt
  wider_all arguments few many within (more first rest) fits = (wider arguments few many within first fits.0, wider_all arguments few many within rest fits.1)

-- one line of what is left
pub line_step : (out new text total : List ℕ) (rest : List (List ℕ)) → new ≡ out ++ line text → out ++ concat (map line (text ∷ rest)) ≡ total → new ++ concat (map line rest) ≡ total
line_step out new text total rest appended left = ap (λ bytes. bytes ++ concat (map line rest)) appended ∙ append_assoc out (line text) (concat (map line rest)) ∙ left

module _ {T N : Type 0} (number : N → Val) where
  pub first-titled : (titles rest : List Title) (functions others : List (Asked T N)) (title : Title) (function : Asked T N) → titles ≡ title ∷ rest → functions ≡ function ∷ others
      → AreTitled titles (map (goal_of number) functions) → (length title.args ≡ length function.args) × AreTitled rest (map (goal_of number) others)
  first-titled titles rest functions others title function titles_are functions_are titled = rw (titles_are, functions_are) at titled

  pub first-body : (definitions : ℕ) (functions others : List (Asked T N)) (bodies rest : List (Term T N)) (function : Asked T N) (body : Term T N) → functions ≡ function ∷ others → bodies ≡ body ∷ rest
      → HaveBodies definitions (map (goal_of number) functions) (map (expr_of number) bodies) → IsWritable (length function.args) definitions (expr_of number body) × HaveBodies definitions (map (goal_of number) others) (map (expr_of number) rest)
  first-body definitions functions others bodies rest function body functions_are bodies_are have = rw (functions_are, bodies_are) at have

  pub first-definition : (definitions : List (List ℕ)) (titles titles' : List Title) (functions functions' : List (Asked T N)) (bodies bodies' : List (Term T N)) (title : Title) (function : Asked T N) (body : Term T N)
      → titles ≡ title ∷ titles' → functions ≡ function ∷ functions' → bodies ≡ body ∷ bodies'
      → definitions_text definitions titles (map (goal_of number) functions) (map (expr_of number) bodies) ≡ definition_text definitions title (goal_of number function) (expr_of number body) ∷ definitions_text definitions titles' (map (goal_of number) functions') (map (expr_of number) bodies')
  unfolding definitions_text
  first-definition definitions titles titles' functions functions' bodies bodies' title function body titles_are functions_are bodies_are = rw (titles_are, functions_are, bodies_are) refl

pub no_titles : (definitions : List (List ℕ)) (titles : List Title) (goals : List Goal) (bodies : List Expr) → length titles ≡ 0 → definitions_text definitions titles goals bodies ≡ []
unfolding definitions_text
no_titles definitions [] goals bodies empty = refl
no_titles definitions (title ∷ titles) goals bodies empty = absurd (omega arith)

pub no_goals : (definitions : List (List ℕ)) (titles : List Title) (goals : List Goal) (bodies : List Expr) → length goals ≡ 0 → definitions_text definitions titles goals bodies ≡ []
unfolding definitions_text
no_goals definitions [] [] bodies empty = refl
no_goals definitions (title ∷ titles) [] bodies empty = refl
no_goals definitions titles (goal ∷ goals) bodies empty = absurd (omega arith)

pub no_bodies : (definitions : List (List ℕ)) (titles : List Title) (goals : List Goal) (bodies : List Expr) → length bodies ≡ 0 → definitions_text definitions titles goals bodies ≡ []
unfolding definitions_text
no_bodies definitions [] goals [] empty = refl
no_bodies definitions (title ∷ titles) [] [] empty = refl
no_bodies definitions (title ∷ titles) (goal ∷ goals) [] empty = refl
no_bodies definitions titles goals (body ∷ bodies) empty = absurd (omega arith)
