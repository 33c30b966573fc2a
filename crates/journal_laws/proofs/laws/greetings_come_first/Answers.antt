use Rattle.journal_laws.proofs.Greeted.{greeting_is, greeting_so, greeting_keeps, greeted_stays, greeted_spoken, greeted_remote, may_be_asked_is, cancel_greeted}
use Rattle.std.proofs.Common.{refl}
use Rattle.journal_laws.proofs.laws.greetings_come_first.Goals as goal

pub returns : goal.returns
returns c = record {
  is = λ p e j l x legal ic ir. greeting_is p e j l x legal ic ir;
  so = λ p e j l x legal ic g. greeting_so p e j l x legal ic g;
  keeps = λ p e j legal ir. greeting_keeps p e j legal ir;
  clean = λ j l x. refl;
  stays = λ e j l h. greeted_stays e j l h;
  spoken = λ j l h. greeted_spoken j l h;
  remote = λ p j l legal h. greeted_remote p j l legal h;
  may = λ p j l legal. may_be_asked_is p j l legal;
  cancels = λ p e j l n sound legal ir remote. cancel_greeted p e j l n sound legal ir remote;
}
