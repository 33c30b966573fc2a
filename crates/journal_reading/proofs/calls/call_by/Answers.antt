use Rattle.journal_reading.proofs.Names.{other_name}
use Rattle.journal_reading.proofs.calls.call_by.Goals as goal

pub returns-in_default : goal.returns-in_default
returns-in_default c = λ d deep.
    let o = c.in_default in
    rw (other_name _ _ o.not-Ask, other_name _ _ o.not-Launched, other_name _ _ o.not-Wrote, other_name _ _ o.not-Look, other_name _ _ o.not-Claim, other_name _ _ o.not-Committed, other_name _ _ o.not-Killed) (c.heard_by.ensures d deep)
