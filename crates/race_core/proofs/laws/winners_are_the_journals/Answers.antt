use Rattle.race_core.proofs.Kept.{winner_is, other_is}
use Rattle.race_core.proofs.laws.winners_are_the_journals.Goals as goal

pub returns-clause-winner : goal.returns-clause-winner
returns-clause-winner c = λ p rows j a s known. winner_is p rows j a s known

pub returns-clause-other : goal.returns-clause-other
returns-clause-other c = λ p rows j a b s known h. other_is p rows j a s known b h
