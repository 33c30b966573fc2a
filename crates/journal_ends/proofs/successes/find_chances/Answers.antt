use Rattle.std.proofs.Common.{sym, subst}
use Rattle.journal_lookback.specs.Lookback.{front}
use Rattle.journal_ends.specs.Successes.{AreChances}
use Rattle.journal_ends.proofs.Answered.{next_front, whole_front}
use Rattle.journal_ends.proofs.Succeeded.{chances_start, chances_more}
use Rattle.journal_ends.proofs.successes.find_chances.Goals as goal

pub loop-entry-init : goal.loop-entry-init
loop-entry-init c = chances_start c.args.chances.now c.requires

pub loop-entry-preserved : goal.loop-entry-preserved
loop-entry-preserved c =
    let before = front c.args.entries.now c.loop-entry.entry-index in
    let more = next_front c.args.entries.now c.loop-entry.entry-index c.entry-item.result c.loop-entry-test.true c.entry-item.is in
    subst (AreChances c.note_chance.new.chances) (sym more)
    (chances_more c.loop-entry.chances c.note_chance.new.chances before c.entry-item.result c.loop-entry.invariant c.note_chance.ensures)

pub returns : goal.returns
returns c = subst (AreChances c.loop-entry.chances) (whole_front c.args.entries.now c.loop-entry.entry-index c.loop-entry-test.false) c.loop-entry.invariant
