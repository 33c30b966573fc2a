-- A core whose policy has a discipline stands for histories that came about by it.
use Rattle.std.specs.Prelude.{List}
use Rattle.run_plan.specs.declared.plan.Plan.{Plan}
use Rattle.core_contract.specs.Moves.{History}
use Rattle.core_contract.specs.Disciplines.{own_discipline}
use Rattle.core_contract.specs.Discipline.{Discipline}
use Rattle.core_contract.specs.Ruled.{CameAbout, journal_of}
use Rattle.exec_journal.specs.Entry.{Entry}
use Rattle.spawn_core.specs.Stands.{KeptBy, StandsIn}

-- the discipline of a plan whose groups have berths of their own
abbrev pub own : Plan → Discipline
own p = own_discipline p

pub came_about : {M : Type 0} (q : Discipline) (tables : M → List Entry → Type 0) (m : KeptBy M)
    (h : History) → StandsIn q tables m (journal_of h) → CameAbout q h
came_about q tables m h s = record {
  sound = s.both.tables.sound;
  legal = s.both.legal;
}
