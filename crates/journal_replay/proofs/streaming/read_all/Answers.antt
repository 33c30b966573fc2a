use Rattle.std.proofs.Common.{◌+◌, ◌<◌, ◌≤◌, ◌^◌, length, take, true, arith}
use Rattle.journal_replay.proofs.Stages.{judge_input}
use Rattle.journal_replay.proofs.Taken.{all_read, more_read, much_read, piece_fits}
use Rattle.journal_replay.proofs.streaming.read_all.Goals as goal

pub returns-then-taken-gt-LIMIT-clause-read : goal.returns-then-taken-gt-LIMIT-clause-read
returns-then-taken-gt-LIMIT-clause-read g c =
    let s = c.loop.invariant.so_far in
    let got = c.in-Bytes.ensures.taken in
    much_read g.C.Replayed.rules g.C.Replayed.stands c.loop.auditor (g.T.Tap.told c.args.input.now) (g.T.Tap.told c.loop.input) (g.T.Tap.told c.read.new.self) c.loop.counter c.loop.taken c.in-Bytes.count c.read.new.into s
    got.1 got.2 c.if-taken-gt-LIMIT.true

pub returns-in-End-clause-read : goal.returns-in-End-clause-read
returns-in-End-clause-read g c =
    let s = c.loop.invariant.so_far in
    let few : length s.bytes ≤ 268435456 = s.few in
    all_read g.C.Replayed.rules g.C.Replayed.stands c.loop.auditor (g.T.Tap.told c.args.input.now) (g.T.Tap.told c.loop.input) (g.T.Tap.told c.read.new.self) c.loop.counter c.loop.taken c.in_ok-verdict-in-End.field-0 s
    c.in-End.ensures.taken c.in-End.ensures.ended (judge_input g.C.Replayed.rules s.bytes c.in_ok-verdict-in-End.field-0 few (c.in_ok-verdict-in-End.ensures true s.bytes s.fed few))

pub loop-preserved : goal.loop-preserved
loop-preserved g c =
    let s = c.loop.invariant.so_far in
    let got = c.in-Bytes.ensures.taken in
    let is = s.taken_is in
    let most : c.loop.taken + c.in-Bytes.count ≤ 268435456 = omega (arith, c.if-taken-gt-LIMIT.false) in
    let small : c.in-Bytes.count ≤ 268435456 = omega arith in
    let within : length s.bytes + length (take c.in-Bytes.count c.read.new.into) < 2 ^ 63 = piece_fits s.bytes c.in-Bytes.count c.read.new.into s.few got.1 small in
    let next = c.in_ok-feed-in-Bytes.ensures true s.bytes s.fed within in
    record {
      so_far = more_read g.C.Replayed.rules g.C.Replayed.stands c.loop.auditor c.feed.new.self (g.T.Tap.told c.args.input.now) (g.T.Tap.told c.loop.input) (g.T.Tap.told c.read.new.self) c.loop.counter c.loop.taken c.in-Bytes.count c.read.new.into s
          got.0 got.1 got.2 next most;
      later = omega (arith, c.loop.invariant.later, c.in-Bytes.ensures.count.later);
    }
