use Rattle.journal_reading.proofs.Names.{other_name}
use Rattle.journal_reading.proofs.replies.reply_by.Goals as goal

pub returns-in_default : goal.returns-in_default
returns-in_default c = λ d deep.
    let o = c.in_default in
    rw (other_name _ _ o.not-Launch, other_name _ _ o.not-Send, other_name _ _ o.not-Cancel, other_name _ _ o.not-Gather, other_name _ _ o.not-Kill) (c.told_by.ensures d deep)
