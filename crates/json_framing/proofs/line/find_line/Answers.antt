use Rattle.std.proofs.Common.{arith, sym, ◌∙◌}
use Rattle.json_framing.proofs.Streams.{length_within, length_from, none_skipped, blank_skipped}
use Rattle.json_framing.proofs.line.find_line.Goals as goal

pub line_end-end-requires : goal.line_end-end-requires
line_end-end-requires c = let looked = c.requires in omega (arith, length_within c.args.held.now)

pub loop-end-init : goal.loop-end-init
loop-end-init c = record {
  skipped = none_skipped c.args.limit c.args.held.now;
  ends = let place = c.line_end-end.ensures.place in omega (arith, length_from c.args.held.now c.args.looked c.requires);
  within = c.line_end-end.ensures.within;
}

pub loop-end-preserved : goal.loop-end-preserved
loop-end-preserved c = record {
  skipped = blank_skipped c.args.limit c.args.held.now c.loop-end.start c.loop-end.end c.loop-end.invariant.skipped c.loop-end.invariant.ends (let test = c.loop-end-test.true in let all = c.len.ensures in omega arith) c.if-end-start.true (sym c.is_blank.ensures ∙ c.if-is_blank.true);
  ends = c.line_end-end-in-loop-end.ensures.place;
  within = c.line_end-end-in-loop-end.ensures.within;
}
