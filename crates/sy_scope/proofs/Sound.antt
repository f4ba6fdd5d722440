-- Contexts that are read are sound, and what a sound context asks fits.
use Rattle.std.specs.Prelude.{Bool, List, map, Some, Ok, ◌≡◌, All, IfOk}
use Rattle.std.proofs.Common.{sym, subst}
use Rattle.std.proofs.lemmas.List.Elements.{All-map}
use Rattle.sy_text_items.specs.Items.{Item}
use Rattle.sy_terms.specs.Fitting.{Signature}
use Rattle.sy_terms.specs.declared.op.Op.{Op}
use Rattle.sy_terms.specs.declared.sort.Logic.{Logic}
use Rattle.sy_terms.specs.declared.sort.Sort.{Sort}
use Rattle.sy_terms.specs.Logics.{IsTheoryOf, number_sorts, operators_of}
use Rattle.sy_grammar_base.specs.Fits.{GoalFits}
use Rattle.sy_forms_items.specs.Readings.{Reading}
use Rattle.sy_scope_names.specs.Contexts.{Context, beginning, with_logic, goal_sought}
use Rattle.sy_scope_steps.specs.Steps.{step}
use Rattle.sy_scope.specs.Sound.{defined_in, ContextIsSound, SoundBy, Sound}
use Rattle.sy_scope.proofs.Files.{begun_sound, step_sound}

-- a file's first context
pub sound_from : (logic : Logic) (context : Context) → context ≡ with_logic logic beginning → Sound context
sound_from logic context is = subst Sound (sym is) (begun_sound logic)

-- after a step
pub stays_sound : (context later : Context) (item : Item) → Sound context → step context item ≡ Ok later → Sound later
stays_sound context later item sound is = subst (λ (read : Reading Context). IfOk read Sound) is (step_sound context item sound)

-- the functions to be found fit under the theory of the logic
pub goals_fit : (logic : Logic) (owned : Op → Bool) (numeric : Sort → Bool) (context : Context) (signatures : List Signature) → IsTheoryOf logic owned numeric → context.logic ≡ Some logic → Sound context → signatures ≡ defined_in context.definitions
    → All (GoalFits owned numeric signatures) (map goal_sought context.sought)
goals_fit logic owned numeric context signatures of set sound same =
    let fit : ContextIsSound logic context = subst (λ l. SoundBy l context) set sound in
    let operators : operators_of logic ≡ owned = λ i. λ operator. sym (of.operators operator) i in
    let numbers : number_sorts logic ≡ numeric = λ i. λ s. sym (of.sorts s) i in
    let goals = All-map (GoalFits (operators_of logic) (number_sorts logic) (defined_in context.definitions)) goal_sought context.sought fit.sought in
    subst (λ (o : Op → Bool). All (GoalFits o numeric signatures) (map goal_sought context.sought)) operators
    (subst (λ (n : Sort → Bool). All (GoalFits (operators_of logic) n signatures) (map goal_sought context.sought)) numbers
    (subst (λ (ss : List Signature). All (GoalFits (operators_of logic) (number_sorts logic) ss) (map goal_sought context.sought)) (sym same) goals))
