use Rattle.std.proofs.Common.{map}
use Rattle.std.proofs.lemmas.List.Elements.{All-map}
use Rattle.sy_terms.specs.Values.{Whole}
use Rattle.sy_grammar_base.specs.Fits.{QuestionFits}
use Rattle.sy_grammar_base.specs.Questions.{question_of}
use Rattle.sy_meaning_integers.specs.Lia as lia
use Rattle.sy_meaning_words.specs.Vectors as vectors
use Rattle.sygus_solve.proofs.Answerable.{answerable}
use Rattle.sygus_solve.proofs.Jobs.{texts_nothing, lines_nothing}
use Rattle.sygus_answers.proofs.Named.{ints_named, bits_named}
use Rattle.sygus_solve.proofs.job.answer.Goals as goal

pub solve-solved-requires-clause-answerable : goal.solve-solved-requires-clause-answerable
solve-solved-requires-clause-answerable g c =
    let titled = rw c.in-Ints.is at c.requires.titled in
    let fit = rw c.in-Ints.is at c.requires.fit in
    rw c.as_slice.ensures (answerable lia.owned lia.numeric Whole c.in-Ints.titles c.in-Ints.problems titled fit)

pub solve-solved-requires-in-Bits-clause-answerable :
    goal.solve-solved-requires-in-Bits-clause-answerable
solve-solved-requires-in-Bits-clause-answerable g c =
    let titled = rw c.in-Bits.is at c.requires.titled in
    let fit = rw c.in-Bits.is at c.requires.fit in
    rw c.as_slice-in-Bits.ensures (answerable vectors.owned vectors.is_bits vectors.vector c.in-Bits.titles c.in-Bits.problems titled fit)

pub returns-in-Idle-clause-replied : goal.returns-in-Idle-clause-replied
returns-in-Idle-clause-replied g c small = texts_nothing _ _ _

pub returns-in-Idle-clause-lines : goal.returns-in-Idle-clause-lines
returns-in-Idle-clause-lines g c small = lines_nothing _

pub returns-in-Ints-clause-named : goal.returns-in-Ints-clause-named
returns-in-Ints-clause-named g c = ints_named Whole c.solve-solved.result.answers

pub returns-in-Bits-clause-named : goal.returns-in-Bits-clause-named
returns-in-Bits-clause-named g c =
    let fit = rw c.in-Bits.is at c.requires.fit in
    let fits = All-map (QuestionFits vectors.owned vectors.is_bits) (question_of vectors.vector) c.in-Bits.problems fit in
    bits_named c.args.settings.now.mode c.args.settings.now.limits (map (question_of vectors.vector) c.in-Bits.problems) c.solve-solved-in-Bits.result.answers fits
    (rw c.as_slice-in-Bits.ensures at c.solve-solved-in-Bits.ensures.right)
