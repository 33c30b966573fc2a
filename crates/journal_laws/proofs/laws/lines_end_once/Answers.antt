use Rattle.journal_laws.proofs.Lanes.{kills_once, sends_unordered, asked_killed}
use Rattle.journal_laws.proofs.Given.{ended_once, answered_running, killed_ordered, taken_started, given_up_done}
use Rattle.journal_laws.proofs.Taps.{ended_taken}
use Rattle.journal_laws.proofs.Claims.{started_unfailed}
use Rattle.journal_laws.proofs.laws.lines_end_once.Goals as goal

pub returns : goal.returns
returns c = record {
  kills = λ p e j l legal h. kills_once p e j l legal h;
  sends = λ p e j x legal h. sends_unordered p e j x legal h;
  asks = λ p e j l legal is own h. asked_killed p e j l legal is own h;
  killed = λ p j l legal h. killed_ordered p j l legal h;
  taken = λ p j l legal h. ended_taken p j l legal h;
  once = λ p e j l how legal is. ended_once p e j l how legal is;
  answers = λ p e j l x legal is. answered_running p e j l x legal is;
  started = λ p j l legal h. taken_started p j l legal h;
  whole = λ p j l legal h. started_unfailed p j l legal h;
  done = λ p j l legal none h. given_up_done p j l legal none h;
}
