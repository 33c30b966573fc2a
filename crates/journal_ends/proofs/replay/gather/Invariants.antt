use Rattle.std.proofs.Common.{option_copied}
use Rattle.journal_lookback.specs.Lookback.{front}
use Rattle.journal_ends.specs.Replay.{AreActions, AreLines, AreOrders}
use Rattle.journal_ends.proofs.replay.gather.Given as goal

abbrev pub invariant-loop-i : goal.invariant-loop-i
invariant-loop-i l = AreActions l.actions l.limit (front l.entries l.i) × AreLines l.lines (front l.entries l.i) × AreOrders option_copied l.orders (front l.entries l.i)
