use Rattle.std.proofs.Common.{refl, ap, sym, ◌∙◌}
use Rattle.std.specs.Prelude.{option_map}
use Rattle.proxy_laws.specs.Acts.{Writes}
use Rattle.proxy_laws.specs.Lanes.{open_line, open_of}
use Rattle.proxy_laws.proofs.Acting.{no_line}
use Rattle.proxy_lane.specs.Writing.{asks_of, due_of}
use Rattle.proxy_lane.proofs.Siting.{by_line_at}
use Rattle.proxy_lane.proofs.hands.Hands.send.Goals as goal

pub unreachable-requires : goal.unreachable-requires
unreachable-requires g c =
    let o = c.requires.opened in
    no_line g.B.Feed.Feed.told c.self.inside.«open» o.0.line
    (ap open_line (ap (λ h. h.opened) c.self.view_is ∙ o.1)) (sym c.take.ensures.value ∙ c.in-None.is)

pub returns : goal.returns
returns g c =
    let feed = g.B.Feed.Feed.told in
    let was = sym c.take.ensures.value ∙ c.in-Some.is in
    let site = c.args.site.now in
    let work = c.args.work.now in
    by_line_at (Writes (asks_of site c.args.attempt work) (due_of site c.args.attempt work) c.write-wrote.result)
    _ c.args.self.now c.self.view_is (record {
      was_open = open_of feed c.in-Some.open;
      feed = feed c.write-wrote.new.feed;
      was = ap (option_map (open_of feed)) was;
      is = refl;
      done = c.write-wrote.ensures;
    })
