use Rattle.std.proofs.Common.{◌≡◌, take}
use Rattle.proxy_words.specs.Deeds.{AreInputs, looks_of}
use Rattle.proxy_lane.specs.Sites.{StaysHere, WereTold}
use Rattle.proxy_lane.proofs.inputs.ProxyLane+Bench+B+P+C+B+R.inputs_of.Given as goal

abbrev pub invariant-loop-input : goal.invariant-loop-input
invariant-loop-input g l = record {
  stays : StaysHere l.fn.self l.self;
  hands : l.self.hands ≡ l.fn.self.hands;
  inputs : AreInputs (take l.input-index l.inputs) l.files.items;
  told : WereTold g.C.Rules.discipline l.fn.self l.self
      (looks_of (take l.input-index l.inputs) l.files.items);
}
