use Rattle.std.proofs.Common.{ℕ, List, refl}
use Rattle.delimited_framing.specs.declared.frame.Next.TheVariants as next
use Rattle.run_plan.specs.declared.plan.Speech.{Speech}
use Rattle.exec_journal.specs.declared.call.Answer.{Answer}
use Rattle.json_framing.specs.Cutter.{framing_of, held}
use Rattle.answer_reader.specs.declared.reader.AnswerReader.{AnswerReader}
use Rattle.answer_reader.specs.declared.reader.Spoken.{Spoken}
use Rattle.answer_reader.specs.Says.{Hears, SaysNext, ReadsAs}
use Rattle.answer_reader.proofs.Streams.{if_ok}
use Rattle.answer_reader.proofs.Speeches.{Gave, Framed, not_yet, faulty, of_frame}
use Rattle.answer_reader.proofs.reader.AnswerReader.next.Goals as goal

pub returns-in-NotYet : goal.returns-in-NotYet
returns-in-NotYet c =
    let r = c.args.self.now in
    let r' : AnswerReader = record { cutter = c.next.new.self; speech = r.speech; parts = r.parts } in
    let gave : Gave (framing_of r.cutter) (held r.cutter) next.NotYet (held r'.cutter) = rw (c.in-NotYet.is) at (c.in_ok-next.ensures.ok) in
    record { ok = λ s fed answers x. not_yet s fed answers r r' refl refl c.next.ensures.same gave x }

pub returns-in-Bad : goal.returns-in-Bad
returns-in-Bad c =
    let r = c.args.self.now in
    let r' : AnswerReader = record { cutter = c.next.new.self; speech = r.speech; parts = r.parts } in
    let gave : Gave (framing_of r.cutter) (held r.cutter) (next.Bad c.in-Bad.field-0) (held r'.cutter) = rw (c.in-Bad.is) at (c.in_ok-next.ensures.ok) in
    record { ok = λ s fed answers x. faulty s fed answers r r' c.in-Bad.field-0 gave x }

pub returns-in-Frame : goal.returns-in-Frame
returns-in-Frame c =
    let r = c.args.self.now in
    let r' : AnswerReader = record { cutter = c.next.new.self; speech = r.speech; parts = c.spoken_by.new.parts } in
    let framed : Framed (framing_of r.cutter) (held r.cutter) c.in-Frame.frame.items (held r'.cutter) = rw (c.in-Frame.is) at (c.in_ok-next.ensures.ok) in
    record {
      ok = if_ok c.spoken_by.result (λ (out : Spoken). ReadsAs r.speech c.deref.result.now r.parts out r'.parts)
          (λ (out : Spoken). (s : Speech) (fed : List ℕ) (answers : List Answer) → Hears s fed answers r → SaysNext s fed answers out r r')
          (λ out reads s fed answers x. of_frame s r.speech fed c.in-Frame.frame.items answers r r' out refl refl c.next.ensures.same framed (rw (c.deref.ensures.value) at reads) x) c.spoken_by.ensures;
    }
