-- All that the tables ask of a journal, of one for which the state stands.
use Rattle.std.proofs.Common.{ℕ, List}
use Rattle.run_plan.specs.declared.plan.Plan.{Plan}
use Rattle.exec_journal.specs.Entry.{Entry}
use Rattle.core_state.specs.declared.state.State.{State}
use Rattle.core_laws.specs.Stands.{Stands}
use Rattle.table_laws.proofs.AllFacts.{all_facts}
use Rattle.table_laws.specs.Moments.{LawfulMore}

pub all_of : (p : Plan) (seats : ℕ) (s : State) (j : List Entry) → Stands p seats s j → LawfulMore p j
all_of p seats s j st = all_facts p j st.sound st.lawful
