use Rattle.std.proofs.Common.{◌∙◌}
use Rattle.journal_lookback.proofs.LookedBack.{ever_sent_any}
use Rattle.journal_lookback.proofs.lookback.ever_sent.Goals as goal

pub returns : goal.returns
returns c = c.has_send_of.ensures ∙ ever_sent_any c.args.entries.now c.args.action c.args.branch
