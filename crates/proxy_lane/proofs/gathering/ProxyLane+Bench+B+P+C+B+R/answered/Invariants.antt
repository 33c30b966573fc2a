use Rattle.std.proofs.Common.{◌≡◌, length}
use Rattle.proxy_words.specs.Deeds.{looks_from}
use Rattle.proxy_lane.specs.Sites.{StaysHere, WereTold}
use Rattle.proxy_lane.proofs.gathering.ProxyLane+Bench+B+P+C+B+R.answered.Given as goal

abbrev pub invariant-loop-output : goal.invariant-loop-output
invariant-loop-output g l = record {
  stays : StaysHere l.fn.self l.self;
  hands : l.self.hands ≡ l.fn.self.hands;
  files : length l.files.items ≡ l.output;
  told : WereTold g.C.Rules.discipline l.fn.self l.self
      (looks_from l.answer.line l.answer.number 0 l.files.items);
}
