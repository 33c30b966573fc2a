use Rattle.exec_journal.proofs.Begins.{attempts_in_order}
use Rattle.core_laws.proofs.AllOf.{all_of}
use Rattle.core_laws.proofs.Several.{several_counts, several_states}
use Rattle.core_laws.proofs.laws.ends_come_together.Goals as goal

pub returns-clause-counts : goal.returns-clause-counts
returns-clause-counts c = λ p seats s j e ts st begun together.
    several_counts p st.sound.least s.race j e ts (record {
      order = attempts_in_order p j st.lawful;
      unbegun = (all_of p seats s j st).facts.unbegun_goes;
      won = st.race;
    }) begun together s.attempts st.attempts s.ready
    st.ready

pub returns-clause-states : goal.returns-clause-states
returns-clause-states c = λ p seats s j e ts st begun together.
    several_states p st.sound.least s.race j e ts (record {
      order = attempts_in_order p j st.lawful;
      unbegun = (all_of p seats s j st).facts.unbegun_goes;
      won = st.race;
    }) begun together s.attempts st.attempts s.ready
    st.ready
