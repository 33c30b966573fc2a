use Rattle.std.proofs.Common.{refl, ◌++◌, List, ℕ}
use Rattle.run_plan.specs.declared.plan.Speech.{Speech}
use Rattle.exec_journal.specs.declared.call.Answer.{Answer}
use Rattle.json_framing.specs.Cutter.{framing_of, held}
use Rattle.answer_reader.specs.Says.{Hears}
use Rattle.answer_reader.specs.declared.reader.AnswerReader.{AnswerReader}
use Rattle.answer_reader.proofs.Streams.{on_ok}
use Rattle.answer_reader.proofs.Speeches.{Fed, hears_piece}
use Rattle.answer_reader.proofs.reader.AnswerReader.feed.Goals as goal

pub returns : goal.returns
returns c =
    let r = c.args.self.now in
    let r' : AnswerReader = record { cutter = c.feed.new.self; speech = r.speech; parts = r.parts } in
    let same = c.feed.ensures.same in
    record {
      ok = on_ok c.feed.result (Fed (framing_of r.cutter) (held r.cutter) c.args.piece.now (held r'.cutter))
          ((s : Speech) (fed : List ℕ) (answers : List Answer) → Hears s fed answers r → Hears s (fed ++ c.args.piece.now) answers r')
          (λ step s fed answers x. hears_piece s fed c.args.piece.now answers r r' refl refl step same.0.0 same.0.1 same.1 x) c.feed.ensures.ok;
    }
