use Rattle.std.proofs.Common.{◌≤◌, drop, length, subst, sym, arith, length-drop}
use Rattle.journal_replay.specs.Staged.{SaysOn}
use Rattle.journal_replay.proofs.Stages.{said_of_report, said_of_text}
use Rattle.journal_replay.proofs.front.verdict_on.Goals as goal

pub returns-in-Report : goal.returns-in-Report
returns-in-Report g c = λ skips ls known few.
    let s = rw c.in-Report.is at known in
    said_of_report skips g.C.Replayed.rules ls s

pub returns-in-Text : goal.returns-in-Text
returns-in-Text g c = λ skips ls known few.
    let n = c.in-Text.skipped in
    let s = rw c.in-Text.is at known in
    let long = length-drop n ls in
    let less : length (drop n ls) ≤ length ls = omega arith in
    subst (SaysOn skips g.C.Replayed.rules ls) (sym c.shifted.ensures)
    (said_of_text skips g.C.Replayed.rules g.C.Replayed.stands n c.in-Text.found ls c.verdict_of.result s few less (c.verdict_of.ensures (drop n ls) s.knows))
