use Rattle.std.proofs.Common.{refl}
use Rattle.answer_reader.proofs.Speeches.{hears_new, says_new}
use Rattle.answer_reader.proofs.reader.AnswerReader.new.Goals as goal

pub returns-clause-hears : goal.returns-clause-hears
returns-clause-hears c =
    let fresh = c.new.ensures.fresh in
    hears_new c.args.speech c.framing_of.result (record { cutter = c.new.result; speech = c.args.speech; parts = c.new-2.result }) c.new-2.ensures refl c.new.ensures.framing c.framing_of.ensures c.new.ensures.stands fresh.0 fresh.1

pub returns-clause-waits : goal.returns-clause-waits
returns-clause-waits c = says_new c.args.speech
