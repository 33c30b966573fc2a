use Rattle.std.proofs.Common.{ℤ, refl, ap, sym, subst, ◌∙◌}
use Rattle.std.proofs.Math.Facts.{to_z-of_z}
use Rattle.std.specs.Prelude.{option_map}
use Rattle.proxy_laws.specs.Acts.{CancelActs}
use Rattle.proxy_laws.specs.Lanes.{open_line, open_of}
use Rattle.proxy_laws.proofs.Acting.{no_line}
use Rattle.proxy_lane.specs.Writing.{CancelsBy}
use Rattle.proxy_lane.proofs.Siting.{by_line_at}
use Rattle.proxy_lane.proofs.hands.Hands.cancel.Goals as goal

pub unreachable-requires : goal.unreachable-requires
unreachable-requires g c =
    let o = c.requires in
    no_line g.B.Feed.Feed.told c.self.inside.«open» o.0.line
    (ap open_line (ap (λ h. h.opened) c.self.view_is ∙ o.1)) (sym c.take.ensures.value ∙ c.in-None.is)

pub returns : goal.returns
returns g c =
    let feed = g.B.Feed.Feed.told in
    let was = sym c.take.ensures.value ∙ c.in-Some.is in
    by_line_at (CancelsBy c.args.site.now.speech c.args.number c.act_cancel-wrote.result) _ c.args.self.now
    c.self.view_is (record {
      was_open = open_of feed c.in-Some.open;
      feed = feed c.act_cancel-wrote.new.feed;
      was = ap (option_map (open_of feed)) was;
      is = refl;
      done = (
        refl,
        subst (λ (n : ℤ). CancelActs c.args.site.now.speech n c.act_cancel-wrote.result
            (feed c.in-Some.open.feed) (feed c.act_cancel-wrote.new.feed))
            (to_z-of_z c.ranges.number) c.act_cancel-wrote.ensures,
      );
    })
