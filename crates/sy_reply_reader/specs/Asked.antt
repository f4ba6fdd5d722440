-- What a reply is read under, apart from memory.
use Rattle.std.specs.Prelude.{◌≡◌, map}
use Rattle.sy_terms.specs.Values.{Val}
use Rattle.sy_terms.specs.Definitions.{signature, bodies}
use Rattle.sy_grammar_base.specs.Questions.{Question, question_of}
use Rattle.sy_scope_steps.specs.Around.{surroundings}
use Rattle.sy_scope_steps.specs.BodiesSeen.{context_around}
use Rattle.sy_reply_reader.specs.declared.definitions.Asked.{Asked}

-- what the problem asks
abbrev pub question_in : {T N : Type 0} → (N → Val) → Asked T N → Question
question_in number asked = question_of number asked.problem.now

-- the surroundings are those of the problem
abbrev pub IsSurrounded : {T N : Type 0} → (N → Val) → Asked T N → Type 0
IsSurrounded number asked =
    context_around asked.around.now ≡ surroundings asked.titles.now (map signature asked.problem.now.defs) (bodies number asked.problem.now.defs)
