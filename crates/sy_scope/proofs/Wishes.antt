-- What a file asks for, by the context that its commands leave.
use Rattle.std.proofs.Common.{◌≡◌, List, map, ap, sym, ◌∙◌, Some, Ok}
use Rattle.sy_terms.specs.Values.{Val}
use Rattle.sy_terms.specs.declared.sort.Logic.{Logic}
use Rattle.sy_grammar_base.specs.Questions.{question_of}
use Rattle.sy_grammar_base.specs.declared.problem.Problem.{Problem}
use Rattle.sy_scope_causes.specs.declared.titles.Titles.{Titles}
use Rattle.sy_scope_ends.specs.declared.ScopeEnd.{ScopeEnd}
use Rattle.sy_scope_ends.specs.declared.ScopeEnd.TheVariants as ends
use Rattle.sy_scope_steps.specs.Files.{FileOutcome}
use Rattle.sy_scope_names.specs.Jobs.{titles_of, wished}
use Rattle.sy_scope_declared.specs.Seen.{context_of}
use Rattle.sy_scope_declared.specs.declared.context.Context.{Context}
use Rattle.sy_scope.specs.Read.{EndsAs, wish_over}

-- the wish of a file that is read
pub wished_by : {T N : Type 0} (number : N → Val) (logic : Logic) (context : Context T N) (outcome : FileOutcome) (questions : List (Problem T N)) (titles : Titles) →
    outcome ≡ Ok (context_of number context) → context.logic ≡ logic → questions ≡ context.questions → titles ≡ titles_of (context_of number context) →
    wished outcome ≡ Ok (wish_over number logic (questions, titles))
wished_by number logic context outcome questions titles read same asked named =
    ap wished read ∙ (λ i. Ok (record { logic = Some (same i); questions = map (question_of number) (sym asked i); titles = sym named i }))

-- the reader of wishes ends as that of files
pub ends_wished : (end : ScopeEnd) (outcome : FileOutcome) → EndsAs end outcome → EndsAs end (wished outcome)
ends_wished ends.Want outcome is = tt
ends_wished (ends.Refused refused) outcome is = ap wished is
