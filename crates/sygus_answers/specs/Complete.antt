-- What is replied to problems that some bodies in bound solve.
use Rattle.std.specs.Prelude.{List}
use Rattle.sy_grammar_base.specs.Questions.{Question}
use Rattle.sy_query_limits.specs.declared.FailName.{FailName}
use Rattle.sy_query_limits.specs.declared.FailName.TheVariants as names
use Rattle.sy_query_limits.specs.declared.Limits.{Limits}
use Rattle.sy_loop.specs.Solvable.{IsSolvable}
use Rattle.sygus_words.specs.Reaches.{reach_of}
use Rattle.sygus_replies.specs.Answered.{AreRight}
use Rattle.sygus_replies.specs.Replies.{Reply, Defined, Infeasible, Failed}
use Rattle.sygus_words.specs.declared.settings.Mode.{Mode}

-- the name is that of a limit other than the bound
abbrev pub IsOtherLimit : FailName → Type 0
IsOtherLimit names.Size = ⊥
IsOtherLimit _ = Unit {0}

-- the reply gives definitions, or names a limit other than the bound
abbrev pub IsDefinedOrLimited : Reply → Type 0
IsDefinedOrLimited (Defined bodies) = Unit {0}
IsDefinedOrLimited Infeasible = ⊥
IsDefinedOrLimited (Failed name) = IsOtherLimit name

-- so it is where some bodies in the mode's bound solve the problem
abbrev pub IsCompleteReply : Mode → Limits → Question → Reply → Type 0
IsCompleteReply mode limits question reply = IsSolvable (reach_of mode) question limits.size → IsDefinedOrLimited reply

-- the replies to the first questions are so
abbrev pub AreComplete : Mode → Limits → List Question → List Reply → Type 0
AreComplete mode limits questions replies = AreRight (IsCompleteReply mode limits) questions replies
