-- Titles go on as functions are declared.
use Rattle.std.specs.Prelude.{ℕ, suc, ◌+◌, ◌≤◌, List, [], ◌∷◌, ◌++◌, length, map, ◌≡◌, refl}
use Rattle.std.proofs.Common.{arith, ap, sym, subst}
use Rattle.std.proofs.lemmas.List.{length-map}
use Rattle.sy_scope_causes.specs.declared.titles.Title.{Title}
use Rattle.sy_grammar_base.specs.Questions.{Goal, Question}
use Rattle.sy_forms_items.specs.declared.names.Named.{Named}
use Rattle.sy_reply.specs.Writable.{AreTitled}
use Rattle.sy_scope_names.specs.Contexts.{Context, Definition, Sought, goal_sought, body_of, question_at}
use Rattle.sy_scope_names.specs.Jobs.{title_of, titles_of}
use Rattle.sy_reply.specs.Writable.{IsTitled}

abbrev Names : Title → Goal → Type 0
Names title goal = length title.args ≡ length goal.signature.takes

-- with titles behind them
titled_more : (titles more : List Title) (goals : List Goal) → AreTitled titles goals → AreTitled (titles ++ more) goals
titled_more titles more [] is = tt
titled_more [] more (goal ∷ goals) is = absurd is
titled_more (title ∷ titles) more (goal ∷ goals) is = (is.0, titled_more titles more goals is.1)

argument_count : (arguments : List Named) → length (map (λ (x : Named). x.name) arguments) ≡ length (map (λ (x : Named). x.sort) arguments)
argument_count [] = refl
argument_count (x ∷ arguments) = ap suc (argument_count arguments)

-- functions have their own titles
pub titled_itself : (sought : List Sought) → AreTitled (map title_of sought) (map goal_sought sought)
titled_itself [] = tt
titled_itself (f ∷ sought) = (argument_count f.arguments, titled_itself sought)

map_last : {A B : Type 0} (f : A → B) (xs : List A) (x : A) → map f (xs ++ x ∷ []) ≡ map f xs ++ f x ∷ []
map_last f [] x = refl
map_last f (y ∷ xs) x = ap (λ (rest : List _). f y ∷ rest) (map_last f xs x)

longer_map : {A B : Type 0} (f : A → B) (xs : List A) (x : A) → length (map f xs) ≤ length (map f (xs ++ x ∷ []))
longer_map f [] x = omega arith
longer_map f (y ∷ xs) x = omega (arith, longer_map f xs x)

-- a function more, and a definition more
pub function_more : (defined : List (List ℕ)) (sought : List Sought) (f : Sought) (question : Question) →
    IsTitled (record { wanted = map title_of sought; defined = defined }) question → IsTitled (record { wanted = map title_of (sought ++ f ∷ []); defined = defined }) question
function_more defined sought f question is = record {
  wanted = subst (λ (titles : List Title). AreTitled titles question.goals) (sym (map_last title_of sought f)) (titled_more (map title_of sought) (title_of f ∷ []) question.goals is.wanted);
  defined = is.defined;
}

pub definition_more : (wanted : List Title) (definitions : List Definition) (d : Definition) (question : Question) →
    IsTitled (record { wanted = wanted; defined = map (λ (d : Definition). d.name) definitions }) question → IsTitled (record { wanted = wanted; defined = map (λ (d : Definition). d.name) (definitions ++ d ∷ []) }) question
definition_more wanted definitions d question is =
    let less = is.defined in
    let more = longer_map (λ (d : Definition). d.name) definitions d in
    record { wanted = is.wanted; defined = omega (arith, less, more) }

-- what is asked now is titled by what is declared
pub titled_now : (context : Context) → IsTitled (titles_of context) (question_at context)
titled_now context =
    let bodies = length-map context.definitions (λ (d : Definition). body_of d) in
    let names = length-map context.definitions (λ (d : Definition). d.name) in
    record { wanted = titled_itself context.sought; defined = omega (arith, bodies, names) }
