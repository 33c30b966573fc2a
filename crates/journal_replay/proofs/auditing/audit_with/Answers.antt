use Rattle.std.proofs.Common.{◌+◌, ◌<◌, ◌≤◌, ◌^◌, [], false, length, arith}
use Rattle.journal_replay.proofs.Once.{judged_only}
use Rattle.journal_replay.proofs.Stages.{judged_text}
use Rattle.journal_replay.proofs.auditing.audit_with.Goals as goal

pub returns-clause-answer : goal.returns-clause-answer
returns-clause-answer g c =
    let bytes = c.args.bytes.now in
    let few : length bytes ≤ 268435456 = omega arith in
    let fits : 0 + length bytes < 2 ^ 63 = omega arith in
    judged_text g.C.Replayed.rules bytes c.verdict.result few (c.verdict.ensures false bytes (c.in_ok-feed.ensures false [] c.of_text-auditor.ensures fits) few)

pub returns-clause-only : goal.returns-clause-only
returns-clause-only g c =
    let bytes = c.args.bytes.now in
    let few : length bytes ≤ 268435456 = omega arith in
    let fits : 0 + length bytes < 2 ^ 63 = omega arith in
    judged_only g.C.Replayed.rules g.met.C.Replayed.fronts bytes c.verdict.result
    (judged_text g.C.Replayed.rules bytes c.verdict.result few (c.verdict.ensures false bytes (c.in_ok-feed.ensures false [] c.of_text-auditor.ensures fits) few))
