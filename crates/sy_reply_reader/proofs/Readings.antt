-- Readings of replies, one after the other.
use Rattle.std.proofs.Common.{◌≡◌, refl, ap, sym, ◌∙◌, subst}
use Rattle.std.specs.Prelude.{Result, Ok, Err}
use Rattle.sy_reply.specs.declared.end.ReplyEnd.{ReplyEnd}
use Rattle.sy_reply.specs.declared.end.ReplyEnd.TheVariants as ends
use Rattle.sy_reply.specs.Ends.{ReplyReading, RepliesEndAs, ReadsReplies, ◌>>=◌}

-- what is returned gives what is read, where that is another way to read
pub gives_same : {X Y : Type 0} (view : X → Y) (result : Result X ReplyEnd) (read other : ReplyReading Y) → read ≡ other → ReadsReplies view result other → ReadsReplies view result read
gives_same view result read other e g = rw e g

pub ends_same : {Y : Type 0} (end : ReplyEnd) (read other : ReplyReading Y) → read ≡ other → RepliesEndAs end other → RepliesEndAs end read
ends_same end read other same f = rw same f

-- what ends first ends
pub ends_bind : {A B : Type 0} (end : ReplyEnd) (read : ReplyReading A) (next : A → ReplyReading B) → RepliesEndAs end read → RepliesEndAs end (read >>= next)
ends_bind ends.Want read next f = tt
ends_bind (ends.Refused refused) read next f = rw f refl

-- what ends behind something that is read
pub ends_next : {A B : Type 0} (end : ReplyEnd) (read : ReplyReading A) (x : A) (next : A → ReplyReading B) → read ≡ Ok x → RepliesEndAs end (next x) → RepliesEndAs end (read >>= next)
ends_next end read x next is f = rw is f

pub gives_next : {X A B : Type 0} (view : X → B) (result : Result X ReplyEnd) (read : ReplyReading A) (x : A) (next : A → ReplyReading B) → read ≡ Ok x → ReadsReplies view result (next x) → ReadsReplies view result (read >>= next)
gives_next view result read x next is g = rw is g

-- what is read in two steps was read in each
pub bound : {A B : Type 0} (read : ReplyReading A) (x : A) (next : A → ReplyReading B) → read ≡ Ok x → (read >>= next) ≡ next x
bound read x next is = rw is refl

pub bind_ok : {A B : Type 0} (read : ReplyReading A) (next : A → ReplyReading B) (y : B) → (read >>= next) ≡ Ok y → (x : A) × (read ≡ Ok x) × (next x ≡ Ok y)
bind_ok (Ok x) next y e = (x, refl, e)
bind_ok (Err refused) next y e = absurd (cc)
