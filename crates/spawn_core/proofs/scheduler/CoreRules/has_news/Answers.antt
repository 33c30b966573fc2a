use Rattle.std.proofs.Common.{◌≡◌, ◌∙◌, ◌<◌, ◌/◌, Some, ap, refl, subst, sym}
use Rattle.run_plan.specs.declared.plan.Kind.TheVariants as kind
use Rattle.core_contract.specs.News.{question}
use Rattle.spawn_core.specs.News.{news_at}
use Rattle.spawn_core.specs.Outlook.{has_news_at, has_news_by}
use Rattle.spawn_core.specs.Stands.{KeptBy, StandsIn}
use Rattle.spawn_core.specs.Turns.{orders_of}
use Rattle.spawn_core.proofs.Outlooks.{berth_of_lane, goes_by, journal_kept, news_of_asking, no_news, reads_berth}
use Rattle.spawn_core.proofs.Served.{serves}
use Rattle.spawn_core.proofs.scheduler.CoreRules.has_news.Goals as goal

pub is_awaited-requires-clause-berth : goal.is_awaited-requires-clause-berth
is_awaited-requires-clause-berth g c =
    let law = g.met.P.Policy in
    let rules = g.P.Policy.discipline in
    let s = c.self.inside.state in let m = c.self.inside.policy in let lane = c.args.lane in
    let h = journal_kept rules g.P.Policy.stands _ c.self.invariant in
    let own = (rules (g.P.Policy.basis m s.plan)).ticks in
    let same = goes_by rules g.P.Policy.basis m s h.journal h.basis h.stands.tables
    (law.basis_is h.basis m h.journal h.own) in
    subst (λ b. lane / 2 < (rules b).seats) (sym same)
    (berth_of_lane (rules h.basis) s h.journal kind.Single (own lane) lane (question own lane)
    h.stands.tables (sym (c.may_question.ensures kind.Single) ∙ c.if-may_question.true))

pub is_awaited-requires-clause-reads : goal.is_awaited-requires-clause-reads
is_awaited-requires-clause-reads g c =
    let rules = g.P.Policy.discipline in
    let s = c.self.inside.state in let m = c.self.inside.policy in let lane = c.args.lane in
    let h = journal_kept rules g.P.Policy.stands _ c.self.invariant in
    let own = (rules (g.P.Policy.basis m s.plan)).ticks in
    reads_berth (rules h.basis) s h.journal (lane / 2) h.stands
    (berth_of_lane (rules h.basis) s h.journal kind.Single (own lane) lane (question own lane)
    h.stands.tables (sym (c.may_question.ensures kind.Single) ∙ c.if-may_question.true))

pub returns-then-may_question-clause-exact : goal.returns-then-may_question-clause-exact
returns-then-may_question-clause-exact g c =
    let law = g.met.P.Policy in
    let rules = g.P.Policy.discipline in
    let s = c.self.inside.state in let m = c.self.inside.policy in let lane = c.args.lane in
    let h = journal_kept rules g.P.Policy.stands _ c.self.invariant in
    let x = orders_of g.P.Policy.chosen g.P.Policy.ticked m s lane in
    let own = (rules (g.P.Policy.basis m s.plan)).ticks in
    let v = serves rules g.P.Policy.stands g.P.Policy.seated g.P.Policy.chosen
    g.P.Policy.ticked law.is_discipline law.seats_are law.choices_are law.ticks_are h.basis m s
    h.journal h.stands h.own in
    let y = v.seats (lane / 2) (berth_of_lane (rules h.basis) s h.journal kind.Single (own lane) lane
    (question own lane) h.stands.tables
    (sym (c.may_question.ensures kind.Single) ∙ c.if-may_question.true)) in
    subst (λ (k : KeptBy g.row.P.Denot). c.is_awaited.result ≡ has_news_by k.state
    (g.P.Policy.seated k.policy k.state)
    (orders_of g.P.Policy.chosen g.P.Policy.ticked k.policy k.state lane)
    (rules (g.P.Policy.basis k.policy k.state.plan)).ticks lane) c.self.view_is
    (c.is_awaited.ensures ∙ sym (ap (has_news_at s x own lane) y.is
    ∙ news_of_asking s x own lane y.seat
    (sym (c.may_question.ensures y.seat.kind) ∙ c.if-may_question.true)))

pub returns-then-may_question-clause-news : goal.returns-then-may_question-clause-news
returns-then-may_question-clause-news g c = λ b j st.
    let law = g.met.P.Policy in
    let rules = g.P.Policy.discipline in
    let s = c.self.inside.state in let m = c.self.inside.policy in let lane = c.args.lane in
    let x = orders_of g.P.Policy.chosen g.P.Policy.ticked m s lane in
    let own = (rules (g.P.Policy.basis m s.plan)).ticks in
    let here = subst (λ (k : KeptBy g.row.P.Denot). StandsIn (rules b)
    (g.P.Policy.stands b) k j) (sym c.self.view_is) st in
    let v = serves rules g.P.Policy.stands g.P.Policy.seated g.P.Policy.chosen
    g.P.Policy.ticked law.is_discipline law.seats_are law.choices_are law.ticks_are b m s j
    (record { tables = here.both.tables; legal = here.both.legal }) here.both.own in
    let y = v.seats (lane / 2) (berth_of_lane (rules b) s j kind.Single (own lane) lane
    (question own lane) here.both.tables
    (sym (c.may_question.ensures kind.Single) ∙ c.if-may_question.true)) in
    let same = goes_by rules g.P.Policy.basis m s j b here.both.tables
    (law.basis_is b m j here.both.own) in
    c.is_awaited.ensures
    ∙ (sym (news_of_asking s x own lane y.seat
    (sym (c.may_question.ensures y.seat.kind) ∙ c.if-may_question.true))
    ∙ (ap (λ d. has_news_at s x (rules d).ticks lane (Some y.seat)) same
    ∙ news_at (rules b) s j (g.P.Policy.seated m s) (g.P.Policy.chosen m s)
    (g.P.Policy.ticked m s) here.both.tables here.both.legal v lane (Some y.seat) y.is))

pub returns-else-may_question-clause-news : goal.returns-else-may_question-clause-news
returns-else-may_question-clause-news g c = λ b j st.
    let law = g.met.P.Policy in
    let rules = g.P.Policy.discipline in
    let s = c.self.inside.state in let m = c.self.inside.policy in let lane = c.args.lane in
    let x = orders_of g.P.Policy.chosen g.P.Policy.ticked m s lane in
    let own = (rules (g.P.Policy.basis m s.plan)).ticks in
    let here = subst (λ (k : KeptBy g.row.P.Denot). StandsIn (rules b)
    (g.P.Policy.stands b) k j) (sym c.self.view_is) st in
    let v = serves rules g.P.Policy.stands g.P.Policy.seated g.P.Policy.chosen
    g.P.Policy.ticked law.is_discipline law.seats_are law.choices_are law.ticks_are b m s j
    (record { tables = here.both.tables; legal = here.both.legal }) here.both.own in
    let o = g.P.Policy.seated m s (lane / 2) in
    let same = goes_by rules g.P.Policy.basis m s j b here.both.tables
    (law.basis_is b m j here.both.own) in
    c.if-may_question.false
    ∙ (sym (no_news s x own lane o
    (λ k. sym (c.may_question.ensures k) ∙ c.if-may_question.false))
    ∙ (ap (λ d. has_news_at s x (rules d).ticks lane o) same
    ∙ news_at (rules b) s j (g.P.Policy.seated m s) (g.P.Policy.chosen m s)
    (g.P.Policy.ticked m s) here.both.tables here.both.legal v lane o refl))
