use Rattle.std.proofs.Common.{List, ℕ}
use Rattle.exec_journal.specs.declared.call.Answer.{Answer}
use Rattle.run_plan.specs.declared.plan.Speech.{Speech}
use Rattle.answer_reader.specs.Says.{Hears}
use Rattle.core_contract.specs.Laws as laws
use Rattle.tap_lane.specs.Heard.{Went}
use Rattle.tap_lane.specs.Working.{IsAt, IsSameLane, own}
use Rattle.tap_lane.proofs.hearing.TapLane+Bench+B+P+C.tell_all.Given as goal

-- All answers that the reader has given were told.
abbrev pub invariant-loop : goal.invariant-loop
invariant-loop g l = record {
  same : IsSameLane l.initial.self l.self;
  hears : IsAt g.C.Rules.discipline (laws.Hears l.line) l.self;
  went : (s : Speech) (fed : List ℕ) (answers : List Answer) → Hears s fed answers l.initial.reader
      → Went l.line answers (own l.initial.self) (own l.self)
      (λ (xs : List Answer). Hears s fed xs l.reader);
}
