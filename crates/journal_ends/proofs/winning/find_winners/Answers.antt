use Rattle.std.proofs.Common.{◌∷◌, sym, subst, ◌∙◌}
use Rattle.journal_lookback.specs.Lookback.{front}
use Rattle.journal_ends.specs.Winning.{AreWinners}
use Rattle.journal_ends.proofs.Answered.{winners_start, winners_stay, winners_more, next_front}
use Rattle.journal_ends.proofs.winning.find_winners.Goals as goal
use Rattle.journal_ends.proofs.winning.find_winners.Goals.{in-Some, in_default}

pub loop-entry-init : goal.loop-entry-init
loop-entry-init c = winners_start c.args.winners.now c.requires

pub loop-entry-preserved : goal.loop-entry-preserved
loop-entry-preserved c =
    let before = front c.args.entries.now c.loop-entry.entry-index in
    let more = next_front c.args.entries.now c.loop-entry.entry-index c.entry-item.result c.loop-entry-test.true c.entry-item.is in
    subst (AreWinners c.match-granted_at.winners) (sym more)
    (elim c.match-granted_at.branch [
      | in-Some w ↦ winners_more c.loop-entry.winners c.match-granted_at.winners before c.entry-item.result w.in-Some.attempt c.loop-entry.invariant (sym c.granted_at.ensures ∙ w.in-Some.is) (w.winners-is ∙ w.note_winner.ensures)
      | in_default w ↦ subst (λ ws. AreWinners ws (c.entry-item.result ∷ before)) (sym w.winners-is) (winners_stay c.loop-entry.winners before c.entry-item.result c.loop-entry.invariant (sym c.granted_at.ensures ∙ w.in_default.is))
    ])
