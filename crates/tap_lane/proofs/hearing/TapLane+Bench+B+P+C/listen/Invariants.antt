use Rattle.std.proofs.Common.{◌≡◌, ◌≤◌, List, ℕ, ◌++◌, length}
use Rattle.std.specs.Prelude.{IfSome}
use Rattle.outside.specs.Lists.{Tells}
use Rattle.exec_journal.specs.declared.call.Answer.{Answer}
use Rattle.answer_reader.specs.Says.{Hears, SaysAll}
use Rattle.core_contract.specs.Moves.{History}
use Rattle.core_contract.specs.Laws as laws
use Rattle.tap_lane.specs.Heard.{AreAnswers, IsOpen}
use Rattle.tap_lane.specs.Working.{IsAt, IsSameLane, own}
use Rattle.tap_lane.proofs.hearing.TapLane+Bench+B+P+C.listen.Given as goal

-- What was taken is what the reader was fed, and all that it says was told.
abbrev pub invariant-loop : goal.invariant-loop
invariant-loop g l = record {
  fed : List ℕ;
  answers : List Answer;
  made : History;
  same : IsSameLane l.initial.self l.self;
  hears : IsAt g.C.Rules.discipline (laws.Hears l.line) l.self;
  taken : Tells (g.B.Tap.Tap.told l.tap).taken fed;
  is_open : IsOpen (g.B.Tap.Tap.told l.tap);
  of_line : IfSome (g.B.Tap.Tap.told l.tap).line (λ n. n ≡ l.line);
  heard : Hears l.initial.self.speech fed answers l.reader;
  says : SaysAll l.initial.self.speech fed answers;
  are : AreAnswers l.line made answers;
  grown : own l.self ≡ own l.initial.self ++ made;
  reads : l.counter ≤ length fed;
}
