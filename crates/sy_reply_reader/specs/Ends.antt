-- Why a body gives no statement.
use Rattle.std.specs.Prelude.{ℕ}
use Rattle.sy_forms_items.specs.declared.fault.ReadEnd.{ReadEnd}
use Rattle.sy_forms_items.specs.declared.fault.ReadEnd.TheVariants as read_ends
use Rattle.sy_reply.specs.declared.end.ReplyEnd.{ReplyEnd}
use Rattle.sy_reply.specs.declared.end.ReplyEnd.TheVariants as ends
use Rattle.sy_reply.specs.declared.refused.ReplyCause.TheVariants as reply

abbrev pub ended_as : ℕ → ReadEnd → ReplyEnd
ended_as check read_ends.Want = ends.Want
ended_as check (read_ends.Refused place cause) = ends.Refused (record { check = check; place = place; cause = reply.Term cause })
