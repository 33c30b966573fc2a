use Rattle.std.proofs.Common.{reverse}
use Rattle.journal_ends.proofs.Replayed.{flag_read}
use Rattle.journal_ends.proofs.replay.answered_by.Goals as goal

pub returns-in-Some : goal.returns-in-Some
returns-in-Some c =
    flag_read c.args.actions.now c.requires.0 (reverse c.args.before.now) c.args.attempt c.answer_flag.result c.in-Some.answered c.requires.1 c.answer_flag.ensures c.in-Some.is
