use Rattle.std.proofs.Common.{None, option_copied, refl}
use Rattle.journal_ends.proofs.Replayed.{actions_start, lines_start, orders_start}
use Rattle.journal_ends.proofs.replay.gather.Goals as goal

pub loop-i-init : goal.loop-i-init
loop-i-init c = (actions_start c.args.actions.now c.args.limit c.requires.actions, lines_start c.args.lines.now c.requires.lines, orders_start option_copied None 128 refl)
