use Rattle.sygus_replies.proofs.Writable.{problem_written, definitions_named}
use Rattle.sygus_replies.proofs.text.answer_text.Goals as goal

pub reply_text-requires-clause-titles : goal.reply_text-requires-clause-titles
reply_text-requires-clause-titles g c = c.requires.answerable.titled.wanted

pub reply_text-requires-clause-names : goal.reply_text-requires-clause-names
reply_text-requires-clause-names g c = definitions_named g.T.Theory.denotes c.args.titles.now c.args.problem.now c.requires.answerable

pub reply_text-requires-clause-bodies : goal.reply_text-requires-clause-bodies
reply_text-requires-clause-bodies g c =
    let members = rw c.in-Found.is at c.requires.members in
    problem_written g.T.Theory.denotes c.args.titles.now c.args.problem.now _ c.requires.answerable members
