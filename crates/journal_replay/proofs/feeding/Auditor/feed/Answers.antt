use Rattle.std.proofs.Common.{◌+◌, ◌<◌, ◌≤◌, ◌^◌, ◌++◌, length, take, refl, arith}
use Rattle.journal_replay.proofs.Pieces.{fed_byte, fed_same, front_fits, front_more, no_part, part_more}
use Rattle.journal_replay.proofs.feeding.Auditor.feed.Goals as goal
use Rattle.journal_replay.proofs.feeding.Auditor.feed.Goals.{then-byte-eq10+in_ok-end_line, else-byte-eq10}

pub loop-at-preserved : goal.loop-at-preserved
loop-at-preserved g c =
    let rules = g.C.Replayed.rules in
    let stands = g.C.Replayed.stands in
    let piece = c.args.piece.now in
    let at = c.loop-at.at in
    let start = c.loop-at.start in
    let before = c.loop-at.invariant in
    elim c.if-byte-eq10.branch [
      | then-byte-eq10+in_ok-end_line w ↦ (
          let order : at + 1 ≤ at + 1 = omega arith in
          rw (w.self-is, w.start-is)
          record {
            order = order;
            fed = λ skips bytes fed few.
                let known = before.fed skips bytes fed few in
                let below : length (bytes ++ take at piece) < 2 ^ 63 = front_fits bytes piece at c.loop-at-test.true few in
                fed_same skips rules stands _ _ _ _ _ _ (w.in_ok-end_line.ensures skips (bytes ++ take at piece) known below)
                (no_part _ piece (at + 1)) (front_more bytes piece at 10 c.loop-at-test.true w.if-byte-eq10.true);
          }
          )
      | else-byte-eq10 w ↦ (
          rw (w.self-is, w.start-is)
          record {
            order = omega (arith, before.order);
            fed = λ skips bytes fed few.
                fed_same skips rules stands c.loop-at.self.stage c.loop-at.self.number _ _ _ _
                (fed_byte skips rules stands c.loop-at.self.stage c.loop-at.self.number _ _ _ (before.fed skips bytes fed few) w.if-byte-eq10.false)
                (part_more c.loop-at.self.begun.items piece start at _ before.order c.loop-at-test.true refl)
                (front_more bytes piece at _ c.loop-at-test.true refl);
          }
          )
    ]
