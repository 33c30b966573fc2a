use Rattle.std.proofs.Common.{List, ◌∷◌, ap, ◌∙◌}
use Rattle.lane_threads.specs.declared.pair.Either.{Either}
use Rattle.lane_threads.specs.declared.pair.Either.TheVariants.{First}
use Rattle.proxy_lane.specs.declared.lane.ProxyLeft.{ProxyLeft}
use Rattle.tap_lane.specs.declared.ends.TapLeft.{TapLeft}
use Rattle.lane_runs.proofs.berths.next_two.Goals as goal

pub returns : goal.returns
returns g c =
    let first = c.in-Some-First in
    let second = c.in-Some-Second in
    first.ensures.items
    ∙ (ap (λ (x : Either (ProxyLeft g.row.B.Denot g.row.D.Denot g.row.K.Denot) (TapLeft g.row.T.Denot)).
    x ∷ c.pop_front.new.self.items) first.field-0-is
    ∙ ap (λ (l : List (Either (ProxyLeft g.row.B.Denot g.row.D.Denot g.row.K.Denot) (TapLeft g.row.T.Denot))).
    First first.proxy ∷ l) (second.ensures.items
    ∙ ap (λ (x : Either (ProxyLeft g.row.B.Denot g.row.D.Denot g.row.K.Denot) (TapLeft g.row.T.Denot)).
    x ∷ c.pop_front-2.new.self.items) second.field-0-is))
