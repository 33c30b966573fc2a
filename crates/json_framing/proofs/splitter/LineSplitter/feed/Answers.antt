use Rattle.std.proofs.Common.{ap, ◌∙◌, sym}
use Rattle.delimited_framing.specs.Splitter.{Held}
use Rattle.json_framing.proofs.Splitters.{takes_found, none_is, looked_more}
use Rattle.json_framing.proofs.splitter.LineSplitter.feed.Goals as goal

pub invariant_of-self-2 : goal.invariant_of-self-2
invariant_of-self-2 c =
    let s0 = c.self.inside in
    looked_more s0.looked s0.held _ c.args.piece.now c.self.invariant c.in_ok-feed.ensures.ok

pub returns-clause-ok : goal.returns-clause-ok
returns-clause-ok c = λ fed given s.
    let s0 = c.self.inside in
    let none = sym (ap (λ (h : Held). h.fault) c.self.view_is) ∙ none_is s0.fault c.if-is_some.ensures in
    takes_found fed given s0.limit s0.held _ c.args.piece.now s0.fault _ c.self.view_is none c.in_ok-feed.ensures.ok s
