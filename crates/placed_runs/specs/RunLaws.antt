-- The laws of the core of placed berths, as a core.
use Rattle.std.specs.Prelude.{ℕ, Bool, List}
use Rattle.core_contract.specs.Keeps.{Keeps}
use Rattle.core_contract.specs.Moves.{History}
use Rattle.core_contract.specs.News.{SaysNews}
use Rattle.core_contract.specs.Ruled.{CameAbout, journal_of}
use Rattle.discipline_laws.proofs.OfRules as laws
use Rattle.placed_berths.specs.Basis.{placed_by, usable_placed}
use Rattle.placed_berths.specs.Choices.{chosen, seated}
use Rattle.placed_berths.specs.Due.{ticked_by}
use Rattle.placed_berths.specs.Laws as own
use Rattle.placed_berths.specs.Stands.{StandsBy}
use Rattle.placed_berths.specs.declared.policy.PlacedBerths.{PlacedBerths}
use Rattle.placed_rules.specs.declared.placed.Placed.{Placed}
use Rattle.placed_rules.specs.Placed.{placed_discipline}
use Rattle.spawn_core.specs.Histories.{basis_of}
use Rattle.spawn_core.specs.Laws as core
use Rattle.spawn_core.specs.News as news
use Rattle.spawn_core.specs.Outlook.{has_news_by}
use Rattle.spawn_core.specs.Stands.{KeptBy, StandsIn}
use Rattle.spawn_core.specs.Turns.{orders_of}

abbrev basis : KeptBy PlacedBerths → Placed
basis c = basis_of placed_by c

pub came_about : (c : KeptBy PlacedBerths) (h : History)
    → StandsIn (placed_discipline (usable_placed (basis c))) (StandsBy (basis c)) c (journal_of h)
    → CameAbout (placed_discipline (usable_placed (basis c))) h
came_about c h s =
    core.came_about (placed_discipline (usable_placed (basis c))) (StandsBy (basis c)) c h s

pub keeps : (b : Placed) → Keeps (placed_discipline (usable_placed b))
keeps b = laws.keeps (placed_discipline (usable_placed b)) (own.is_placed b) (own.few_berths b)

pub news_are : (c : KeptBy PlacedBerths) (h : History) (lane : ℕ)
    → StandsIn (placed_discipline (usable_placed (basis c))) (StandsBy (basis c)) c (journal_of h)
    → SaysNews (placed_discipline (usable_placed (basis c))) h lane
    (has_news_by c.state (seated c.policy c.state)
    (orders_of chosen (λ m s. ticked_by m.delay s) c.policy c.state lane)
    (placed_discipline (usable_placed (basis c))).ticks lane)
news_are c h lane s =
    let j = journal_of h in
    news.news_are (placed_discipline (usable_placed (basis c))) c.state h (seated c.policy c.state)
    (chosen c.policy c.state) (ticked_by c.policy.delay c.state) lane s.both.tables s.both.legal
    (record {
      is = own.is_placed (basis c);
      seats = λ w lt. own.seats_are (basis c) c.policy c.state j w
          (record { tables = s.both.tables; legal = s.both.legal }) s.both.own lt;
      choices = λ k may. own.choices_are (basis c) c.policy c.state j k
          (record { tables = s.both.tables; legal = s.both.legal }) s.both.own may;
      ticks = λ k yes. own.ticks_are (basis c) c.policy c.state j k
          (record { tables = s.both.tables; legal = s.both.legal }) s.both.own yes;
    })
