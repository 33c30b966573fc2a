use Rattle.journal_laws.proofs.Faulty.{pendings_going, launched_going, written_going, written_over}
use Rattle.journal_laws.proofs.Granted.{going_is, never_twice}
use Rattle.journal_laws.proofs.Known.{match_going, going_limited, past_unended, gathers_going, claims_unsettled, again_same}
use Rattle.journal_laws.proofs.Firm.{going_ready_at, going_wanted}
use Rattle.journal_laws.proofs.laws.attempts_stand.Goals as goal

pub returns : goal.returns
returns c = record {
  going = λ p j t legal start going. going_is p j t legal start going;
  limited = λ p j t legal least is. going_limited p j t legal least is;
  later = λ p j t legal lt. past_unended p j t legal lt;
  inputs = λ p j t legal start. going_ready_at p j t legal start;
  wanted = λ p j t legal is. going_wanted p j t legal is;
  gathers = λ p e j t legal h. gathers_going p e j t legal h;
  claims = λ p e j t legal h free. claims_unsettled p e j t legal h free;
  twice = λ p e j t legal h x at. never_twice p e j t legal h x at;
  launched = λ p e j l m how s legal is at. launched_going p e j l m how s legal is at;
  written = λ p e j l n how x legal is order h. written_going p e j l n how x legal is order h;
  left = λ p e j l n how x legal is order over un free. written_over p e j l n how x legal is order over un free;
  matched = λ p j t legal done whole fed unclaimed. match_going p j t legal done whole fed unclaimed;
  pending = λ p j l legal. pendings_going p j l legal;
  again = λ p e j s legal h old a b. again_same p e j s legal h old a b;
}
