use Rattle.std.proofs.Common.{◌≡◌, ◌∙◌, Option, ap, get_or, length, set, rules, arith}
use Rattle.lane_runs.specs.declared.halves.EndedLine.{EndedLine}
use Rattle.lane_runs.specs.declared.halves.Halves.{Halves}
use Rattle.lane_runs.specs.BerthHalves.{berth_lines, halves_of, taps_left}
use Rattle.lane_runs.proofs.Matching.{halves_at, pairs_none, pairs_one, next_inside, put_numbers, put_halves, same_number}
use Rattle.lane_runs.proofs.lines.put_halves.Goals as goal

pub loop-ended-init : goal.loop-ended-init
loop-ended-init g c =
    pairs_none (berth_lines c.args.feeds.items c.args.taps.items c.args.shelved)
    c.from_vec-feeds.result.items c.from_vec-taps.result.items c.args.lines.now.items
    c.requires.matched c.requires.below c.from_vec-feeds.ensures.items c.from_vec-taps.ensures.items

pub index_mut-requires : goal.index_mut-requires
index_mut-requires g c =
    let loop = c.loop-ended in
    let inside = next_inside loop.feeds.items c.pop_front.new.self.items
    (taps_left loop.taps.items loop.shelved) c.in-Some.ended c.args.lines.now.items loop.lines.items
    (halves_of (berth_lines c.args.feeds.items c.args.taps.items c.args.shelved)) loop.invariant
    c.in-Some.ensures.items in
    let len : c.loop-ended.lines.len ≡ length c.loop-ended.lines.items = search rules in
    omega (arith, inside, len)

pub loop-ended-preserved : goal.loop-ended-preserved
loop-ended-preserved g c =
    let loop = c.loop-ended in
    let tap = c.in-Some-next_tap.tap in
    let ended = c.in-Some.ended in
    let line : EndedLine g.row.D.Denot g.row.T.Denot g.row.K.Denot = record {
      number = c.index_mut.result.now.number;
      halves = c.replace.new.self;
    } in
    let put = put_halves loop.lines.items ended.line line
    ∙ ap (λ (o : Option (Halves g.row.D.Denot g.row.T.Denot g.row.K.Denot)).
    set (halves_at loop.lines.items) ended.line o) c.replace.ensures.after in
    pairs_one loop.feeds.items c.pop_front.new.self.items (taps_left loop.taps.items loop.shelved)
    (taps_left c.next_tap.new.taps.items c.next_tap.new.shelved) ended tap c.args.lines.now.items
    loop.lines.items (set loop.lines.items ended.line line)
    (halves_of (berth_lines c.args.feeds.items c.args.taps.items c.args.shelved)) loop.invariant
    c.in-Some.ensures.items c.in-Some-next_tap.ensures
    (put_numbers loop.lines.items ended.line line c.index_mut.result.now
    (same_number c.index_mut.result.now (get_or loop.lines.items ended.line c.index_mut.result.now)
    c.index_mut.ensures.value)) put
