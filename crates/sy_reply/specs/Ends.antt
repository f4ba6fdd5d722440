-- What is read of replies: a value, or the first reply that is refused.
use Rattle.std.specs.Prelude.{◌≡◌, ℕ, Result, Ok, Err}
use Rattle.sy_text_items.specs.declared.atom.Place.{Place}
use Rattle.sy_reply.specs.declared.end.ReplyEnd.{ReplyEnd}
use Rattle.sy_reply.specs.declared.end.ReplyEnd.TheVariants as ends
use Rattle.sy_reply.specs.declared.refused.ReplyCause.{ReplyCause}
use Rattle.sy_reply.specs.declared.refused.ReplyRefused.{ReplyRefused}

abbrev pub ReplyReading : Type 0 → Type 0
ReplyReading A = Result A ReplyRefused

-- the reply to the check-synth of this number is refused
abbrev pub refuse_reply : {A : Type 0} → ℕ → Place → ReplyCause → ReplyReading A
refuse_reply check place cause = Err (record { check = check; place = place; cause = cause })

-- the one, and then the other by what the first is
infixl 10 ◌>>=◌
abbrev pub ◌>>=◌ : {A B : Type 0} → ReplyReading A → (A → ReplyReading B) → ReplyReading B
(Ok x) >>= f = f x
(Err refused) >>= f = Err refused

-- What a function returned, seen by view, is what is read, unless memory ran out.
abbrev pub RepliesEndAs : {Y : Type 0} → ReplyEnd → ReplyReading Y → Type 0
RepliesEndAs ends.Want read = Unit {0}
RepliesEndAs (ends.Refused refused) read = read ≡ Err refused

abbrev pub ReadsReplies : {X Y : Type 0} → (X → Y) → Result X ReplyEnd → ReplyReading Y → Type 0
ReadsReplies view (Ok x) read = read ≡ Ok (view x)
ReadsReplies view (Err end) read = RepliesEndAs end read
