use Rattle.std.proofs.Common.{ap, ◌∙◌, sym}
use Rattle.delimited_framing.proofs.Streams.{takes_found, none_is}
use Rattle.delimited_framing.specs.Splitter.{Held}
use Rattle.delimited_framing.proofs.splitter.Splitter.feed.Goals as goal

pub returns-clause-ok : goal.returns-clause-ok
returns-clause-ok c = λ fed given s.
    let s0 = c.self.inside in
    let none = sym (ap (λ (h : Held). h.fault) c.self.view_is) ∙ none_is s0.fault c.if-is_some.ensures in
    takes_found fed given s0.limit s0.held _ c.args.piece.now s0.fault _ c.self.view_is none c.in_ok-feed.ensures.ok s
