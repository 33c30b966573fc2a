use Rattle.std.proofs.Common.{◌≡◌, ◌+◌, ◌&&◌, nat_lt, ap, sym, ◌∙◌, arith}
use Rattle.core_machine.specs.Marks.{Marks, bit_for}
use Rattle.core_machine.proofs.Marking.{marks_none}
use Rattle.core_machine.proofs.waking.Span.look.Goals as goal

pub loop-k-init : goal.loop-k-init
loop-k-init g c = marks_none (λ k. g.C.Rules.news c.args.core.now (c.args.first + k))

pub loop-k-preserved : goal.loop-k-preserved
loop-k-preserved g c = c.mark-with_news.ensures
    (λ k. g.C.Rules.news c.args.core.now (c.args.first + k)) c.loop-k.invariant
    (sym c.has_news.ensures)

pub returns : goal.returns
returns g c =
    let most = c.loop-k.auto.k-end in let done = c.loop-k-test.false in
    let end : c.loop-k.k ≡ c.args.count = omega (arith, most, done) in
    let marked : Marks c.loop-k.with_news c.args.count
    (λ k. g.C.Rules.news c.args.core.now (c.args.first + k)) =
    λ k. c.loop-k.invariant k ∙ ap (λ n. bit_for (nat_lt k n
    && g.C.Rules.news c.args.core.now (c.args.first + k))) end in record {
      with_news = marked;
      stirred = c.stirred.ensures (g.C.Rules.news c.args.core.now) c.args.count c.requires.count
          marked;
    }
