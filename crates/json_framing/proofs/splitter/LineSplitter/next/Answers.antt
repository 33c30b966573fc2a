use Rattle.std.proofs.Common.{Some, ap, sym, ◌∙◌, arith}
use Rattle.delimited_framing.specs.Splitter.{Held}
use Rattle.delimited_framing.specs.declared.frame.FrameFault.TheVariants.{TooLong}
use Rattle.json_framing.specs.declared.line.Found.TheVariants as found
use Rattle.json_framing.proofs.Splitters.{found_here, looked_through, gives_line_as, gives_nothing, gives_fault, not_some}
use Rattle.json_framing.proofs.splitter.LineSplitter.next.Goals as goal

pub drop_read-requires-clause-looked : goal.drop_read-requires-clause-looked
drop_read-requires-clause-looked c =
    let old = c.args.self.now in
    let at = found_here c.self.inside.limit c.self.inside.held (found.Unfinished c.in-Unfinished.start) old (ap (λ (h : Held). h.limit) c.self.view_is) (ap (λ (h : Held). h.rest) c.self.view_is) c.in-Unfinished.ensures in
    let through = looked_through c.self.inside.held old.rest c.in-Unfinished.start old (ap (λ (h : Held). h.rest) c.self.view_is) at.1 in
    let all = c.len-unread.ensures in omega arith

pub returns-in-Unfinished-clause-ok : goal.returns-in-Unfinished-clause-ok
returns-in-Unfinished-clause-ok c = λ fed given s.
    let old = c.args.self.now in
    let none = sym (ap (λ (h : Held). h.fault) c.self.view_is) ∙ not_some c.self.inside.fault c.in_default.not-Some in
    let at = found_here c.self.inside.limit c.self.inside.held (found.Unfinished c.in-Unfinished.start) old (ap (λ (h : Held). h.limit) c.self.view_is) (ap (λ (h : Held). h.rest) c.self.view_is) c.in-Unfinished.ensures in
    gives_nothing fed given c.in-Unfinished.start old c.drop_read.new.self none at.0 at.1 c.drop_read.ensures s

pub returns-in-TooLong-clause-ok : goal.returns-in-TooLong-clause-ok
returns-in-TooLong-clause-ok c = λ fed given s.
    let old = c.args.self.now in
    let at = found_here c.self.inside.limit c.self.inside.held (found.TooLong c.in-TooLong.start c.in-TooLong.length) old (ap (λ (h : Held). h.limit) c.self.view_is) (ap (λ (h : Held). h.rest) c.self.view_is) c.in-TooLong.ensures in
    let fault = TooLong c.in-TooLong.length in
    let is = ap (λ (h : Held). record { limit = h.limit; rest = h.rest; fault = Some fault }) (c.self-in-TooLong.view_is ∙ c.drop_read-in-TooLong.ensures) in
    gives_fault fed given c.in-TooLong.start fault old _ at.0 at.1 is s

pub returns-in_ok-line-in-Whole-clause-ok : goal.returns-in_ok-line-in-Whole-clause-ok
returns-in_ok-line-in-Whole-clause-ok c = λ fed given s.
    let old = c.args.self.now in
    let none = sym (ap (λ (h : Held). h.fault) c.self.view_is) ∙ not_some c.self.inside.fault c.in_default.not-Some in
    let at = found_here c.self.inside.limit c.self.inside.held (found.Whole c.in-Whole.start c.in-Whole.end) old (ap (λ (h : Held). h.limit) c.self.view_is) (ap (λ (h : Held). h.rest) c.self.view_is) c.in-Whole.ensures in
    gives_line_as fed given c.in-Whole.start c.in-Whole.end c.self.inside.held c.in_ok-line-in-Whole.line.items old c.drop_read-in-Whole.new.self none at (ap (λ (h : Held). h.rest) c.self.view_is) c.in_ok-line-in-Whole.ensures c.drop_read-in-Whole.ensures s
