use Rattle.core_laws.proofs.Scripted.{script_is}
use Rattle.core_laws.proofs.laws.scripts_are_kept.Goals as goal

pub returns : goal.returns
returns c = λ p seats k s j lane x st. script_is p seats k j s.lanes lane x (st.lanes lane)
