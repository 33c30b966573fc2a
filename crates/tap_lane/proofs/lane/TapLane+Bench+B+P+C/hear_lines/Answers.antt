use Rattle.std.proofs.Common.{refl, map}
use Rattle.core_contract.specs.Laws as laws
use Rattle.tap_lane.specs.Heard.{back_by}
use Rattle.tap_lane.specs.Lane.{ToHalt}
use Rattle.tap_lane.specs.Working.{own, number}
use Rattle.tap_lane.proofs.Goings.{never_ok, given_on}
use Rattle.tap_lane.proofs.Leaving.{one_heard, one_cut, none_taken, told_to_stop}
use Rattle.tap_lane.proofs.Passing.{same_then, now_at}
use Rattle.tap_lane.proofs.lane.TapLane+Bench+B+P+C.hear_lines.Goals as goal

pub loop-preserved : goal.loop-preserved
loop-preserved g c =
    let i = c.loop.invariant in
    let took = rw (c.in-Ok-Line.field-0-is) at (c.in-Ok-Line.ensures.ok) in
    let heard = c.in_ok-heard-in-Ok-Line.ensures.ok in
    let before = c.loop.self in
    let now = c.hear-heard.new.self in
    let first = c.take.ensures.same in
    let both = same_then before c.take.new.self now first c.hear-heard.ensures.same in
    record {
      same = same_then c.args.self.now before now i.same both;
      free = now_at g.C.Rules.discipline laws.Free laws.Free before now both i.free heard.1;
      runs = one_heard (back_by g.B.Tap.Tap.told) c.args.self.now before c.loop.taps.items
          c.reserve.new.self.items i.same c.reserve.ensures.items i.runs c.take.new.self now first
          c.push_reserved.new.self.items
          (record { line = c.in-Ok-Line.line; tap = c.hear-heard.new.tap })
          c.push_reserved.ensures.items c.in-Ok-Line.line (g.B.Tap.Tap.told c.hear-heard.new.tap)
          refl took.1 heard.0;
    }

pub returns-then-is_err-clause-same : goal.returns-then-is_err-clause-same
returns-then-is_err-clause-same g c = c.loop.invariant.same

pub returns-then-is_err-clause-err : goal.returns-then-is_err-clause-err
returns-then-is_err-clause-err g c =
    let i = c.loop.invariant in
    none_taken (back_by g.B.Tap.Tap.told) c.args.self.now c.loop.self c.loop.taps.items
    c.reserve.new.self.items i.same c.reserve.ensures.items i.runs (own c.loop.self) refl
    i.free.hears

pub take-requires : goal.take-requires
take-requires g c = c.loop.invariant.free

pub hear-heard-requires-clause-hears : goal.hear-heard-requires-clause-hears
hear-heard-requires-clause-hears g c =
    let took = rw (c.in-Ok-Line.field-0-is) at (c.in-Ok-Line.ensures.ok) in
    now_at g.C.Rules.discipline laws.Free (laws.Hears c.in-Ok-Line.line) c.loop.self c.take.new.self
    c.take.ensures.same c.loop.invariant.free took.2

pub hear-heard-requires-clause-tap : goal.hear-heard-requires-clause-tap
hear-heard-requires-clause-tap g c =
    let took = rw (c.in-Ok-Line.field-0-is) at (c.in-Ok-Line.ensures.ok) in took.0

pub returns-in_err-heard-in-Ok-Line-clause-same : goal.returns-in_err-heard-in-Ok-Line-clause-same
returns-in_err-heard-in-Ok-Line-clause-same g c =
    let first = same_then c.args.self.now c.loop.self c.take.new.self c.loop.invariant.same
    c.take.ensures.same in
    same_then c.args.self.now c.take.new.self c.hear-heard.new.self first
    c.hear-heard.ensures.same

pub returns-in_err-heard-in-Ok-Line-clause-err : goal.returns-in_err-heard-in-Ok-Line-clause-err
returns-in_err-heard-in-Ok-Line-clause-err g c =
    let i = c.loop.invariant in
    let took = rw (c.in-Ok-Line.field-0-is) at (c.in-Ok-Line.ensures.ok) in
    let want = c.in_err-heard-in-Ok-Line.field-0.0 in
    let until = c.in_err-heard-in-Ok-Line.ensures.err in
    let first = c.args.self.now in
    let now = c.hear-heard.new.self in
    given_on c.from_residual.result want
    (ToHalt first.speech (number first)
    (map (back_by g.B.Tap.Tap.told) c.push_reserved.new.self.items) (own now))
    c.from_residual.ensures.1
    (one_cut (back_by g.B.Tap.Tap.told) first c.loop.self c.loop.taps.items
    c.reserve.new.self.items i.same c.reserve.ensures.items i.runs c.take.new.self now
    c.take.ensures.same c.push_reserved.new.self.items
    (record { line = c.in-Ok-Line.line; tap = c.hear-heard.new.tap })
    c.push_reserved.ensures.items c.in-Ok-Line.line (g.B.Tap.Tap.told c.hear-heard.new.tap) refl
    took.1 want until.0 until.1)

pub returns-in_err-heard-in-Ok-Line-clause-ok : goal.returns-in_err-heard-in-Ok-Line-clause-ok
returns-in_err-heard-in-Ok-Line-clause-ok g c =
    never_ok c.from_residual.result _ c.from_residual.ensures.0

pub returns-in-Ok-Stop-clause-same : goal.returns-in-Ok-Stop-clause-same
returns-in-Ok-Stop-clause-same g c =
    same_then c.args.self.now c.loop.self c.take.new.self c.loop.invariant.same
    c.take.ensures.same

pub returns-in-Ok-Stop-clause-ok : goal.returns-in-Ok-Stop-clause-ok
returns-in-Ok-Stop-clause-ok g c =
    let i = c.loop.invariant in
    let told = rw (c.in-Ok-Stop.field-0-is) at (c.in-Ok-Stop.ensures.ok) in
    told_to_stop (back_by g.B.Tap.Tap.told) c.args.self.now c.loop.self c.loop.taps.items
    c.reserve.new.self.items i.same c.reserve.ensures.items i.runs (own c.take.new.self) told

pub returns-in-Err-clause-same : goal.returns-in-Err-clause-same
returns-in-Err-clause-same g c =
    same_then c.args.self.now c.loop.self c.take.new.self c.loop.invariant.same
    c.take.ensures.same

pub returns-in-Err-clause-err : goal.returns-in-Err-clause-err
returns-in-Err-clause-err g c =
    let i = c.loop.invariant in
    none_taken (back_by g.B.Tap.Tap.told) c.args.self.now c.loop.self c.loop.taps.items
    c.reserve.new.self.items i.same c.reserve.ensures.items i.runs (own c.take.new.self)
    c.in-Err.ensures.err i.free.hears
