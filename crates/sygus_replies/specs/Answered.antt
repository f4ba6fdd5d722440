-- What the answers to the first problems are, and what was written of them. What an answer is, when it is right, which
-- reply it has and how that is shown is up to the mode.
use Rattle.std.specs.Prelude.{ℕ, ◌≡◌, ◌≤◌, ◌+◌, ◌++◌, List, [], ◌∷◌, length, take, Option}
use Rattle.std.specs.Io.KnownBytes.{Appends}
use Rattle.sy_grammar_base.specs.Questions.{Question}
use Rattle.sy_scope_causes.specs.declared.titles.Titles.{Titles}
use Rattle.sygus_replies.specs.Replies.{Reply, Shown}
use Rattle.sygus_replies.specs.Texts.{answer_text, texts, answer_line, answer_lines, memory_line}

-- these answers are right for the first questions, in order
unfoldable pub AreRight : {A : Type 0} → (Question → A → Type 0) → List Question → List A → Type 0
AreRight Right questions [] = Unit {0}
AreRight Right [] (answer ∷ answers) = ⊥
AreRight Right (question ∷ questions) (answer ∷ answers) = Right question answer × AreRight Right questions answers

-- what was written are the texts of all replies but the last, and a prefix of the last one's
pub record WritesMost (titles : Titles) (questions : List Question) (shown : List Shown) (out out' : Option (List ℕ)) : Type 0 where
  pub earlier : List Shown
  pub last : List Shown
  pub split : shown ≡ earlier ++ last
  pub one : length last ≤ 1
  pub count : ℕ
  pub whole : length (texts titles questions earlier) ≤ count
  pub written : Appends out out' (take count (texts titles questions shown))

-- the line that follows those of earlier replies: that of the last one, or, where there is none, that memory was wanted
abbrev pub next_line : ℕ → List Reply → List ℕ
next_line k [] = memory_line
next_line k (reply ∷ replies) = answer_line k reply

-- what was written are the lines of all replies but the last, and a prefix of the last one's; or the lines of all, and a prefix
-- of that of want of memory
pub record WritesMostFails (replies : List Reply) (err err' : Option (List ℕ)) : Type 0 where
  pub earlier : List Reply
  pub last : List Reply
  pub split : replies ≡ earlier ++ last
  pub one : length last ≤ 1
  pub count : ℕ
  pub written : Appends err err' (answer_lines 1 earlier ++ take count (next_line (length earlier + 1) last))

-- one more problem was answered, and its text and its line are written
pub record AnswersNext {A : Type 0} (Right : Question → A → Type 0) (reply : A → Reply) (shown : A → Shown) (titles : Titles) (question : Question) (old new : List A) (out out' err err' : Option (List ℕ)) : Type 0 where
  pub answer : A
  pub right : Right question answer
  pub more : new ≡ old ++ answer ∷ []
  pub replied : Appends out out' (answer_text titles question (shown answer))
  pub lined : Appends err err' (answer_line (length old + 1) (reply answer))

-- one more problem was answered, and prefixes of its text and of its line are written
pub record BreaksNext {A : Type 0} (Right : Question → A → Type 0) (reply : A → Reply) (shown : A → Shown) (titles : Titles) (question : Question) (old new : List A) (out out' err err' : Option (List ℕ)) : Type 0 where
  pub answer : A
  pub right : Right question answer
  pub more : new ≡ old ++ answer ∷ []
  pub count : ℕ
  pub begun : Appends out out' (take count (answer_text titles question (shown answer)))
  pub line_count : ℕ
  pub line_begun : Appends err err' (take line_count (answer_line (length old + 1) (reply answer)))
